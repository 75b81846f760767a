-- What a source of clauses answers: five questions about a sheet.
-- Clauses and places count from 1; at 0 or beyond the last one the answer is absent.
use Rattle.std.specs.Prelude.{ℕ, zero, suc, ◌≤◌, List, length, Some, None, Option}
use Rattle.std.specs.Option.{option_map}
use Rattle.std.specs.List.{slice_get}
use Rattle.horn.specs.Sheets.{Sheet, Clause, Lawful, clause_at, outcome_number}

-- A sheet that a source may mean: at most 1,000 conditions, at most 65,535 clauses, and only clauses over these conditions.
pub record LawfulSource (s : Sheet) : Type 0 where
  pub few_conditions : s.top ≤ 1000
  pub few_clauses : length s.clauses ≤ 65535
  pub lawful : Lawful s

-- the outcome of clause i, 0 for a ban
abbrev pub outcome_at : Sheet → ℕ → Option ℕ
outcome_at s i = option_map (λ c. outcome_number c.outcome) (clause_at s i)

-- the size of the body of clause i
abbrev pub size_at : Sheet → ℕ → Option ℕ
size_at s i = option_map (λ c. length c.body) (clause_at s i)

-- the element at a place counted from 1
abbrev pub at_place : List ℕ → ℕ → Option ℕ
at_place ps zero = None
at_place ps (suc j) = slice_get ps j

abbrev pub place_of : Option Clause → ℕ → Option ℕ
place_of None j = None
place_of (Some c) j = at_place c.body j

-- the condition at place j of the body of clause i
abbrev pub condition_at : Sheet → ℕ → ℕ → Option ℕ
condition_at s i j = place_of (clause_at s i) j
