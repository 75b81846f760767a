-- The tables from which an explanation is written.
use Rattle.std.specs.Prelude.{◌≡◌, ℕ, zero, suc, ◌+◌, ◌<◌, ◌≤◌, Bool, true, false, cond, ◌&&◌, ◌⊎◌, List, [], ◌++◌, length, nat_eq, nat_lt}
use Rattle.std.specs.List.{AllByRecursion}
use Rattle.horn.specs.Sheets.{Sheet, Clause, all_of, gives}
use Rattle.horn.specs.Levels.{in_force, rank, chosen, chosen_body, needed, listed}
use Rattle.round.specs.Rows.{at, Rows, clause_in}
use Rattle.round.specs.Ranks.{ranked}

-- the condition has a rank below r
abbrev pub lower : List ℕ → ℕ → ℕ → Bool
lower table r p = ranked table p && nat_lt (at table p) r

-- by the table of ranks, the clause gives p and its conditions have smaller ranks
abbrev pub explains_by : List ℕ → ℕ → Clause → Bool
explains_by table p c = gives c p && all_of (lower table (at table p)) c.body

-- Among the clauses from c on, counted from 0, the table has the number of the lowest that so explains a condition.
abbrev pub ChosenFrom : Rows → List ℕ → ℕ → List ℕ → Type 0
ChosenFrom t table c picked = (p d : ℕ) → 0 < p → c ≤ d → d < length t.outs → explains_by table p (clause_in t d) ≡ true
    → ((e : ℕ) → c ≤ e → e < d → explains_by table p (clause_in t e) ≡ false) → at picked p ≡ d + 1

-- The table has the number of each condition's chosen clause.
abbrev pub Choices : Sheet → List ℕ → Type 0
Choices s table = (p : ℕ) → in_force s p ≡ true → at table p ≡ chosen s p

-- Marks of what q needs, while they are being made: a mark is the condition's rank. The chosen bodies of the conditions of
-- rank above d, and of those of rank d up to n, are marked.
pub record Marking (s : Sheet) (q d n : ℕ) (marks : List ℕ) : Type 0 where
  pub begun : 0 < at marks q
  pub sound : (p : ℕ) → 0 < at marks p → (needed s q p ≡ true) × (at marks p ≡ rank s p)
  pub closed : (p : ℕ) → 0 < at marks p → (d < rank s p) ⊎ ((rank s p ≡ d) × (p ≤ n)) → AllByRecursion (λ b. 0 < at marks b) (chosen_body s p)

-- The marks of what q needs: the rank of each condition that it needs, 0 for any other number.
abbrev pub Marks : Sheet → ℕ → List ℕ → Type 0
Marks s q marks = (p : ℕ) → at marks p ≡ cond (needed s q p) (rank s p) 0

-- the conditions up to `top` with marks from 1 to d, by mark, then by number
abbrev pub by_mark : List ℕ → ℕ → ℕ → List ℕ
by_mark marks top zero = []
by_mark marks top (suc d) = by_mark marks top d ++ listed (λ p. nat_eq (at marks p) (suc d)) top
