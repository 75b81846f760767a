-- The literals of a clause as they stand in the bytes of a text.
use Rattle.std.specs.Prelude.{◌≡◌, ℕ, ◌≤◌, length, map, min, not, Bool, false, cond, List, [], ◌∷◌, Some, None, Option, ◌||◌, ◌==◌}
use Rattle.text.specs.declared.in_place.literals.Literal.{Literal}
use Rattle.std.specs.List.{filter, slice_get}
use Rattle.std.specs.Option.{option_map}
use Rattle.horn.specs.Sheets.{Clause, clause_at}
use Rattle.text.specs.Limits.{lead_value}
use Rattle.text.specs.Reading.{sheet_in}

-- the P of a literal or the ) of a clause
abbrev pub is_sign : ℕ → Bool
is_sign b = (b == 80) || (b == 41)

-- a literal is seen by whether it is negated, and by its number, where 1,001 stands for every number above 1,000
abbrev pub seen : Literal → Bool × ℕ
seen l = (l.negated, min 1001 (lead_value l.digits.now))

abbrev pub is_negated : Bool × ℕ → Bool
is_negated l = l.0

abbrev pub is_outcome : Bool × ℕ → Bool
is_outcome l = not l.0

abbrev pub number_of : Bool × ℕ → ℕ
number_of l = l.1

-- from inside a clause to its ); neg says that a ~ was just read
abbrev pub literals_in : Bool → List ℕ → List (Bool × ℕ)
literals_in neg [] = []
literals_in neg (b ∷ bs) = cond (b == 41) [] (cond (b == 80) ((neg, min 1001 (lead_value bs)) ∷ literals_in false bs) (literals_in (b == 126) bs))

-- the clause of these literals
abbrev pub clause_of : List (Bool × ℕ) → Clause
clause_of ls = record { body = map number_of (filter is_negated ls); outcome = option_map number_of (slice_get (filter is_outcome ls) 0) }

-- the literals of clause i of the sheet in s, and that they are few
abbrev pub Listed : List ℕ → ℕ → Option (List (Bool × ℕ)) → Type 0
Listed s i None = (k : ℕ) → clause_at (sheet_in k s) i ≡ None
Listed s i (Some ls) = (length ls ≤ 60000) × ((k : ℕ) → clause_at (sheet_in k s) i ≡ Some (clause_of ls))
