-- Ranks in a table, and what they say of the bans.
use Rattle.std.specs.Prelude.{◌≡◌, ℕ, ◌<◌, Bool, true, false, List, Some, None, Option, nat_lt}
use Rattle.std.specs.Coded.{Π_prop}
use Rattle.std.proofs.Math.Nat.{ℕ_set}
use Rattle.horn.specs.Sheets.{Sheet}
use Rattle.horn.specs.Levels.{rank_or_zero}
use Rattle.horn.specs.Bans.{lowest_broken}
use Rattle.horn.specs.Lawfulness.{satisfiable}
use Rattle.round.specs.Rows.{at}

-- The table has each condition's rank, and 0 for a condition that is not in force.
abbrev pub Ranks : Sheet → List ℕ → Type 0
Ranks s rank = (p : ℕ) → 0 < p → at rank p ≡ rank_or_zero s p

pub ranks_prop : (s : Sheet) (rank : List ℕ) → IsProp (Ranks s rank)
ranks_prop s rank = Π_prop (λ p. Π_prop (λ _. ℕ_set _ _))

-- no number above top has a rank
abbrev pub OnlyUpTo : ℕ → List ℕ → Type 0
OnlyUpTo top rank = (p : ℕ) → top < p → at rank p ≡ 0

-- the table has a rank for the condition
abbrev pub ranked : List ℕ → ℕ → Bool
ranked rank p = nat_lt 0 (at rank p)

-- a scan of the bans: none is broken and some choice satisfies the sheet, or this is the lowest broken one
abbrev pub Scanned : Sheet → Option ℕ → Type 0
Scanned s None = satisfiable s ≡ true
Scanned s (Some n) = (satisfiable s ≡ false) × (n ≡ lowest_broken s)
