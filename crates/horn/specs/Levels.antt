-- The conditions in force, computed: by levels, with the shortest pebblings' lengths and the clauses that explain a condition.
-- Assumes nothing.
use Rattle.std.specs.Prelude.{◌≡◌, ℕ, zero, suc, ◌<◌, Bool, false, cond, ◌&&◌, ◌||◌, ◌⊎◌, List, [], ◌∷◌, ◌++◌, map, ◌==◌, nat_lt}
use Rattle.std.specs.List.{AllByRecursion}
use Rattle.horn.specs.Sheets.{Sheet, Clause, all_of, any_of, gives, clause_at, body_of}

-- The level k holds the conditions with a pebbling of length at most k.
abbrev pub level : Sheet → ℕ → ℕ → Bool
level s zero q = false
level s (suc k) q = any_of (λ c. gives c q && all_of (level s k) c.body) s.clauses

-- the condition is in force
abbrev pub in_force : Sheet → ℕ → Bool
in_force s q = level s s.top q

-- how many of the numbers from 1 to n pass the test
abbrev pub how_many : (ℕ → Bool) → ℕ → ℕ
how_many f zero = zero
how_many f (suc n) = cond (f (suc n)) (suc (how_many f n)) (how_many f n)

-- the least number below n that passes the test; n if none does
abbrev pub least : (ℕ → Bool) → ℕ → ℕ
least f zero = zero
least f (suc n) = cond (f zero) zero (suc (least (λ k. f (suc k)) n))

-- the length of the condition's shortest pebblings; more than `top` if it has none
abbrev pub rank : Sheet → ℕ → ℕ
rank s q = least (λ k. level s k q) (suc s.top)

-- the rank of a condition in force, 0 for any other number
abbrev pub rank_or_zero : Sheet → ℕ → ℕ
rank_or_zero s q = cond (in_force s q) (rank s q) 0

-- the number, counted from 1, of the first element that passes the test; past the last if none does
abbrev pub first : {X : Type 0} → (X → Bool) → List X → ℕ
first f [] = suc zero
first f (x ∷ xs) = cond (f x) (suc zero) (suc (first f xs))

-- the lowest clause that gives p and whose conditions all have a smaller rank
abbrev pub explains : Sheet → ℕ → Clause → Bool
explains s p c = gives c p && all_of (λ b. nat_lt (rank s b) (rank s p)) c.body

abbrev pub chosen : Sheet → ℕ → ℕ
chosen s p = first (explains s p) s.clauses

abbrev pub chosen_body : Sheet → ℕ → List ℕ
chosen_body s p = body_of (clause_at s (chosen s p))

-- p is q, or a condition of q's chosen clause, or one of theirs, and so on, k times down
abbrev pub reaches : Sheet → ℕ → ℕ → ℕ → Bool
reaches s zero q p = q == p
reaches s (suc k) q p = q == p || any_of (λ b. reaches s k b p) (chosen_body s q)

abbrev pub needed : Sheet → ℕ → ℕ → Bool
needed s q p = reaches s s.top q p

-- the numbers from 1 to n that pass the test, in order
abbrev pub listed : (ℕ → Bool) → ℕ → List ℕ
listed f zero = []
listed f (suc n) = listed f n ++ cond (f (suc n)) (suc n ∷ []) []

-- what q needs of rank at most d, by rank, then by number
abbrev pub ordered : Sheet → ℕ → ℕ → List ℕ
ordered s q zero = []
ordered s q (suc d) = ordered s q d ++ listed (λ p. needed s q p && rank s p == suc d) s.top

-- the chosen clauses of what q needs
abbrev pub explanation : Sheet → ℕ → List ℕ
explanation s q = map (chosen s) (ordered s q (rank s q))

-- p stands before r: it has a smaller rank, or the same rank and a smaller number
abbrev pub Before : Sheet → ℕ → ℕ → Type 0
Before s p r = (rank s p < rank s r) ⊎ ((rank s p ≡ rank s r) × (p < r))

-- each stands before all that follow it
abbrev pub Sorted : Sheet → List ℕ → Type 0
Sorted s [] = Unit {0}
Sorted s (p ∷ ps) = AllByRecursion (Before s p) ps × Sorted s ps
