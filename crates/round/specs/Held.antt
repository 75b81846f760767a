-- What the tables of a round hold.
use Rattle.std.specs.Prelude.{◌≡◌, ℕ, ◌+◌, ◌≤◌, List, [], ◌∷◌, ◌++◌, length, take, vec_items, vec_len, Option}
use Rattle.std.specs.Option.{option_map}
use Rattle.horn.specs.Sheets.{Sheet, clause_at, empty_sheet, literals}
use Rattle.round.specs.Rows.{at, Rows, rows, sheet_in, kept_outcome, Filled}
use Rattle.round.specs.Writing.{unfinished}
use Rattle.round.specs.declared.tables.Tables.{Tables}

abbrev pub held_rows : Tables → Rows
held_rows t = rows (vec_items t.outcomes) (vec_items t.starts) (vec_items t.places)

-- the sheet that the tables hold
abbrev pub held_sheet : Tables → Sheet
held_sheet t = sheet_in t.conditions (held_rows t)

-- one more place in the body that is being written
pub record Placed (t t' : Tables) (p : ℕ) : Type 0 where
  pub sheet : held_sheet t' ≡ held_sheet t
  pub body : unfinished (held_rows t') ≡ unfinished (held_rows t) ++ p ∷ []
  pub clauses_count : vec_len t'.outcomes ≡ vec_len t.outcomes
  pub places_count : vec_len t'.places ≡ vec_len t.places + 1
  pub starts : vec_items t'.starts ≡ vec_items t.starts

-- The clause that was being written is ended, with this outcome.
pub record Ended (t t' : Tables) (outcome : ℕ) : Type 0 where
  pub conditions : t'.conditions ≡ t.conditions
  pub clauses : (held_sheet t').clauses ≡ (held_sheet t).clauses ++ record { body = unfinished (held_rows t); outcome = kept_outcome outcome } ∷ []
  pub body : unfinished (held_rows t') ≡ []
  pub clauses_count : vec_len t'.outcomes ≡ vec_len t.outcomes + 1
  pub places_count : vec_len t'.places ≡ vec_len t.places
  pub starts : vec_items t'.starts ≡ vec_items t.starts ++ vec_len t.places ∷ []

-- The first n clauses are kept.
pub record Cut (t t' : Tables) (n : ℕ) : Type 0 where
  pub filled : Filled (held_rows t')
  pub conditions : t'.conditions ≡ t.conditions
  pub clauses : (held_sheet t').clauses ≡ take n (held_sheet t).clauses
  pub starts : vec_items t'.starts ≡ take (n + 1) (vec_items t.starts)
  pub clauses_count : vec_len t'.outcomes ≡ n
  pub places_count : vec_len t'.places ≡ at (vec_items t.starts) n

-- the body of clause i
abbrev pub body_at : Sheet → ℕ → Option (List ℕ)
body_at s i = option_map (λ c. c.body) (clause_at s i)

-- tables without clauses and conditions
pub record Emptied (t : Tables) : Type 0 where
  pub filled : Filled (held_rows t)
  pub sheet : held_sheet t ≡ empty_sheet
  pub no_clauses : vec_len t.outcomes ≡ 0
  pub no_places : vec_len t.places ≡ 0

-- The clauses of a sheet within the limits are copied.
pub record Copied (s : Sheet) (t : Tables) : Type 0 where
  pub filled : Filled (held_rows t)
  pub clauses : (held_sheet t).clauses ≡ s.clauses
  pub few_clauses : vec_len t.outcomes ≤ 2000
  pub few_places : vec_len t.places ≤ 8000
  pub sheet_clauses : length s.clauses ≤ 2000
  pub sheet_literals : literals s.clauses ≤ 8000

-- The tables hold a sheet within the limits.
pub record Holds (s : Sheet) (t : Tables) : Type 0 where
  pub copied : Copied s t
  pub sheet : held_sheet t ≡ s
