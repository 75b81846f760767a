-- Pebblings: derivations of a condition, one clause a step, and their lengths.
-- Assumes nothing.
use Rattle.std.specs.Prelude.{◌≡◌, ℕ, suc, ◌-◌, ◌<◌, ◌≤◌, max, Bool, true, false, cond, List, [], ◌∷◌, length, take, Some, None, slice_index}
use Rattle.std.specs.List.{AllByRecursion}
use Rattle.horn.specs.Sheets.{any_of, Clause, Sheet, is, clause_at, outcome_of, body_of}

-- the step n, a clause number, has the outcome p
abbrev pub step_gives : Sheet → ℕ → ℕ → Bool
step_gives s n p = is (outcome_of (clause_at s n)) p

-- p is the outcome of one of the steps
abbrev pub given : Sheet → List ℕ → ℕ → Bool
given s ns p = any_of (λ n. step_gives s n p) ns

-- What is asked of the step n after the steps `before`: it numbers a clause that is no ban, no earlier step has its outcome,
-- and each condition of its body is an earlier step's outcome.
pub record Allowed (s : Sheet) (before : List ℕ) (n : ℕ) : Type 0 where
  pub clause : Clause
  pub outcome : ℕ
  pub numbers : clause_at s n ≡ Some clause
  pub no_ban : clause.outcome ≡ Some outcome
  pub fresh : given s before outcome ≡ false
  pub ready : AllByRecursion (λ p. given s before p ≡ true) clause.body

-- each step is allowed after those before it
abbrev pub Steps : Sheet → List ℕ → Type 0
Steps s ns = (i : ℕ) → i < length ns → Allowed s (take i ns) (slice_index ns i)

-- A pebbling of the condition q: there is a last step, and its outcome is q.
pub record Pebbling (s : Sheet) (q : ℕ) (ns : List ℕ) : Type 0 where
  pub steps : Steps s ns
  pub some_step : 0 < length ns
  pub ends : step_gives s (slice_index ns (length ns - 1)) q ≡ true

-- the greatest number that t has at the conditions, 0 if there are none
abbrev pub longest : (ℕ → ℕ) → List ℕ → ℕ
longest t [] = 0
longest t (p ∷ ps) = max (t p) (longest t ps)

-- The lengths of the steps, by their outcomes; 0 at a condition that no step gives.
-- A fact's step has length 1, any other is one longer than the longest among its body's conditions.
abbrev pub lengths_after : Sheet → (ℕ → ℕ) → ℕ → ℕ → ℕ
lengths_after s t n p = cond (step_gives s n p) (suc (longest t (body_of (clause_at s n)))) (t p)

abbrev pub lengths_from : Sheet → (ℕ → ℕ) → List ℕ → ℕ → ℕ
lengths_from s t [] = t
lengths_from s t (n ∷ ns) = lengths_from s (lengths_after s t n) ns

abbrev pub lengths : Sheet → List ℕ → ℕ → ℕ
lengths s ns = lengths_from s (λ _. 0) ns

-- The condition is in force: it has a pebbling.
abbrev pub InForce : Sheet → ℕ → Type 0
InForce s q = (ns : List ℕ) × Pebbling s q ns

-- A ban, by its number, that is broken: all its conditions are in force.
pub record Broken (s : Sheet) (n : ℕ) : Type 0 where
  pub clause : Clause
  pub numbers : clause_at s n ≡ Some clause
  pub ban : clause.outcome ≡ None
  pub in_force : AllByRecursion (InForce s) clause.body

-- d is the length of the shortest pebblings of q
pub record Shortest (s : Sheet) (q d : ℕ) : Type 0 where
  pub pebbling : (ns : List ℕ) × Pebbling s q ns × (lengths s ns q ≡ d)
  pub least : (ns : List ℕ) → Pebbling s q ns → d ≤ lengths s ns q
