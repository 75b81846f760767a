-- What the clauses that are lent hold.
use Rattle.std.specs.Prelude.{◌≡◌, ℕ, ◌≤◌, true, length}
use Rattle.std.specs.Coded.{×_prop, Π_prop, le_prop}
use Rattle.std.proofs.Math.Bool.{Bool-set}
use Rattle.std.proofs.Math.Nat.{ℕ_set}
use Rattle.horn.specs.Lawfulness.{lawful}
use Rattle.round.specs.Rows.{Rows, Filled, LawfulRows, sheet_in}

-- The rows hold a lawful sheet within the limits.
pub record SheetRows (top : ℕ) (t : Rows) : Type 0 where
  pub rows : LawfulRows 1001 t
  pub few_conditions : top ≤ 1000
  pub few_clauses : length t.outs ≤ 2256
  pub few_places : length t.places ≤ 8256
  pub lawfully : lawful (sheet_in top t) ≡ true

-- Each of these facts has one proof at most.
pub filled_prop : (t : Rows) → IsProp (Filled t)
filled_prop t = λ p q i. record {
  counted = ℕ_set _ _ p.counted q.counted i;
  begins = ℕ_set _ _ p.begins q.begins i;
  rising = Π_prop (λ c. Π_prop (λ _. le_prop)) p.rising q.rising i;
  ends = ℕ_set _ _ p.ends q.ends i;
}

lawful_rows_prop : (n : ℕ) (t : Rows) → IsProp (LawfulRows n t)
lawful_rows_prop n t = λ p q i. record {
  rows = filled_prop t p.rows q.rows i;
  outcomes = Π_prop (λ c. Π_prop (λ _. le_prop)) p.outcomes q.outcomes i;
  conditions = Π_prop (λ j. Π_prop (λ _. ×_prop le_prop le_prop)) p.conditions q.conditions i;
}

pub sheet_rows_prop : (top : ℕ) (t : Rows) → IsProp (SheetRows top t)
sheet_rows_prop top t = λ p q i. record {
  rows = lawful_rows_prop 1001 t p.rows q.rows i;
  few_conditions = le_prop p.few_conditions q.few_conditions i;
  few_clauses = le_prop p.few_clauses q.few_clauses i;
  few_places = le_prop p.few_places q.few_places i;
  lawfully = Bool-set _ _ p.lawfully q.lawfully i;
}
