-- The clauses of a text as they stand in its bytes. proofs/Meaning.antt: on a text of the grammar they are its clauses.
use Rattle.std.specs.Prelude.{◌≡◌, ℕ, ◌+◌, ◌<◌, ◌≤◌, Bool, false, cond, List, [], ◌∷◌, length, drop, Some, None, Option, ◌==◌}
use Rattle.horn.specs.Sheets.{Clause, Sheet, clause_at, empty_sheet}
use Rattle.text.specs.Grammar.{clauses}
use Rattle.text.specs.Judging.{Names, Good}
use Rattle.text.specs.Limits.{lead_value}

-- from inside a clause to its ): the conditions after ~P, and the one after a P alone; neg says that a ~ was just read
abbrev pub body_in : Bool → List ℕ → List ℕ
body_in neg [] = []
body_in neg (b ∷ bs) = cond (b == 41) [] (cond (b == 80) (cond neg (lead_value bs ∷ body_in false bs) (body_in false bs)) (body_in (b == 126) bs))

abbrev pub outcome_in : Bool → List ℕ → Option ℕ
outcome_in neg [] = None
outcome_in neg (b ∷ bs) = cond (b == 41) None (cond (b == 80) (cond neg (outcome_in false bs) (Some (lead_value bs))) (outcome_in (b == 126) bs))

abbrev pub clause_in : List ℕ → Clause
clause_in s = record { body = body_in false s; outcome = outcome_in false s }

-- a clause for each (
abbrev pub clauses_in : List ℕ → List Clause
clauses_in [] = []
clauses_in (b ∷ bs) = cond (b == 40) (clause_in bs ∷ clauses_in bs) (clauses_in bs)

-- the places of the signs (, where the first byte has place i
abbrev pub starts_in : ℕ → List ℕ → List ℕ
starts_in i [] = []
starts_in i (b ∷ bs) = cond (b == 40) (i ∷ starts_in (i + 1) bs) (starts_in (i + 1) bs)

-- the sheet in the bytes s, of which k is the greatest condition
abbrev pub sheet_in : ℕ → List ℕ → Sheet
sheet_in k s = record { top = k; clauses = clauses_in s }

-- all numbers after a P are small
abbrev pub Small : List ℕ → Type 0
Small s = (i n : ℕ) → Names s i n → n ≤ 1000

-- clause i of the sheet in s begins at place p, with its (
pub record OpensAt (s : List ℕ) (i p : ℕ) : Type 0 where
  pub within : p < length s
  pub clause : (k : ℕ) → clause_at (sheet_in k s) i ≡ Some (clause_in (drop (p + 1) s))

abbrev pub Opened : List ℕ → ℕ → Option ℕ → Type 0
Opened s i None = (k : ℕ) → clause_at (sheet_in k s) i ≡ None
Opened s i (Some p) = OpensAt s i p

-- What a text in place means: the clauses of a good text, and no clauses of a refused one.
pub record Meant (s : List ℕ) (x : Sheet) : Type 0 where
  pub good : (m k n : ℕ) → length s ≤ 60000 → (g : Good s m k n) → x ≡ record { top = k; clauses = clauses g.tree }
  pub refused : ((m k n : ℕ) → length s ≤ 60000 → Good s m k n → ⊥) → x ≡ empty_sheet
