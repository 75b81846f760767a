-- Horn clauses in flat rows, and the sheet that they hold.
use Rattle.std.specs.Prelude.{◌≡◌, ℕ, zero, suc, ◌+◌, ◌<◌, ◌≤◌, List, map, length, Some, None, Option, slice_index}
use Rattle.std.specs.List.{between, range_with_len}
use Rattle.horn.specs.Sheets.{Clause, Sheet}

-- what stands at a place of a table, 0 past its end
abbrev pub at : List ℕ → ℕ → ℕ
at xs i = slice_index xs i

-- Clause c, counted from 0, has the outcome `at outs c`, 0 for a ban, and the places from `at starts c` up to
-- `at starts (c + 1)`; place j holds the condition `at places j`.
pub record Rows : Type 0 where
  pub outs : List ℕ
  pub starts : List ℕ
  pub places : List ℕ

abbrev pub rows : List ℕ → List ℕ → List ℕ → Rows
rows o s p = record { outs = o; starts = s; places = p }

-- j is a place of the body of clause c
abbrev pub Body : Rows → ℕ → ℕ → Type 0
Body t c j = (at t.starts c ≤ j) × (j < at t.starts (c + 1))

-- The bodies stand one after the other and fill the places.
pub record Filled (t : Rows) : Type 0 where
  pub counted : length t.starts ≡ length t.outs + 1
  pub begins : at t.starts 0 ≡ 0
  pub rising : (c : ℕ) → c < length t.outs → at t.starts c ≤ at t.starts (c + 1)
  pub ends : at t.starts (length t.outs) ≡ length t.places

-- The rows have conditions below n alone.
pub record LawfulRows (n : ℕ) (t : Rows) : Type 0 where
  pub rows : Filled t
  pub outcomes : (c : ℕ) → c < length t.outs → at t.outs c < n
  pub conditions : (j : ℕ) → j < length t.places → (0 < at t.places j) × (at t.places j < n)

-- an outcome as it is kept: 0 is none
abbrev pub kept_outcome : ℕ → Option ℕ
kept_outcome zero = None
kept_outcome (suc p) = Some (suc p)

-- clause c, counted from 0
abbrev pub clause_in : Rows → ℕ → Clause
clause_in t c = record { body = between (at t.starts c) (at t.starts (c + 1)) t.places; outcome = kept_outcome (at t.outs c) }

abbrev pub clauses_in : Rows → List Clause
clauses_in t = map (clause_in t) (range_with_len 0 (length t.outs))

-- the sheet that the rows hold, with `top` conditions
abbrev pub sheet_in : ℕ → Rows → Sheet
sheet_in top t = record { top = top; clauses = clauses_in t }
