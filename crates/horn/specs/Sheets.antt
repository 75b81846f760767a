-- Sheets of Horn clauses, and the choices that satisfy them.
-- A condition (a propositional letter) is a number from 1 to the sheet's `top`. Assumes nothing.
use Rattle.std.specs.Prelude.{◌≡◌, ℕ, zero, suc, ◌+◌, ◌<◌, ◌≤◌, max, Bool, true, false, not, ◌&&◌, ◌||◌, ◌⊎◌, List, [], ◌∷◌, length, Some, None, Option, ◌==◌, ◌≢◌, nat_eq}
use Rattle.std.specs.List.{slice_get, AllByRecursion}

-- the test passes at each element; at some element
abbrev pub all_of : {X : Type 0} → (X → Bool) → List X → Bool
all_of f [] = true
all_of f (x ∷ xs) = f x && all_of f xs

abbrev pub any_of : {X : Type 0} → (X → Bool) → List X → Bool
any_of f [] = false
any_of f (x ∷ xs) = f x || any_of f xs

-- A clause: a fact has no body, a ban has no outcome, a rule has both.
pub record Clause : Type 0 where
  pub body : List ℕ
  pub outcome : Option ℕ

-- A sheet: how many conditions it has, which are the numbers from 1 to `top`, and its clauses, which count from 1.
pub record Sheet : Type 0 where
  pub top : ℕ
  pub clauses : List Clause

-- the number is that of a condition
abbrev pub Condition : Sheet → ℕ → Type 0
Condition s p = (1 ≤ p) × (p ≤ s.top)

-- the optional number is p
abbrev pub is : Option ℕ → ℕ → Bool
is None p = false
is (Some q) p = q == p

abbrev pub gives : Clause → ℕ → Bool
gives c p = is c.outcome p

-- no number stands twice
abbrev pub Distinct : List ℕ → Type 0
Distinct [] = Unit {0}
Distinct (p ∷ ps) = (any_of (nat_eq p) ps ≡ false) × Distinct ps

-- A clause as it may stand on a sheet: its conditions are the sheet's, none stands twice in the body,
-- and it is not without both body and outcome.
pub record LawfulClause (s : Sheet) (c : Clause) : Type 0 where
  pub conditions : AllByRecursion (Condition s) c.body
  pub outcomes : (q : ℕ) → c.outcome ≡ Some q → Condition s q
  pub different : Distinct c.body
  pub something : c.body ≡ [] → c.outcome ≢ None

abbrev pub Lawful : Sheet → Type 0
Lawful s = AllByRecursion (LawfulClause s) s.clauses

-- A choice is a set of the sheet's conditions.
pub record Choice (s : Sheet) : Type 0 where
  pub holds : ℕ → Bool
  pub within : (p : ℕ) → holds p ≡ true → Condition s p

-- the outcome is one that the set holds
abbrev pub holds_outcome : (ℕ → Bool) → Option ℕ → Bool
holds_outcome v None = false
holds_outcome v (Some q) = v q

-- A set satisfies a clause if it lacks one of the body's conditions or holds the outcome.
abbrev pub satisfies : (ℕ → Bool) → Clause → Bool
satisfies v c = any_of (λ p. not (v p)) c.body || holds_outcome v c.outcome

-- A choice satisfies a sheet if it satisfies each clause.
abbrev pub Satisfies : (s : Sheet) → Choice s → Type 0
Satisfies s v = AllByRecursion (λ c. satisfies v.holds c ≡ true) s.clauses

-- the set satisfies all facts and rules
abbrev pub Keeps : Sheet → (ℕ → Bool) → Type 0
Keeps s v = AllByRecursion (λ c. (q : ℕ) → c.outcome ≡ Some q → satisfies v c ≡ true) s.clauses

-- the clause with this number, counted from 1
abbrev pub clause_at : Sheet → ℕ → Option Clause
clause_at s zero = None
clause_at s (suc n) = slice_get s.clauses n

abbrev pub outcome_of : Option Clause → Option ℕ
outcome_of None = None
outcome_of (Some c) = c.outcome

abbrev pub body_of : Option Clause → List ℕ
body_of None = []
body_of (Some c) = c.body

-- an outcome counts as one literal
abbrev pub outcome_size : Option ℕ → ℕ
outcome_size None = 0
outcome_size (Some q) = 1

-- The number of literals: body places plus outcomes.
abbrev pub literals : List Clause → ℕ
literals [] = 0
literals (c ∷ cs) = (length c.body + outcome_size c.outcome) + literals cs

-- the greatest of a list of conditions, 0 if there is none
abbrev pub greatest : List ℕ → ℕ
greatest [] = 0
greatest (p ∷ ps) = max p (greatest ps)

-- a number for the outcome, 0 if there is none
abbrev pub outcome_number : Option ℕ → ℕ
outcome_number None = 0
outcome_number (Some q) = q

-- the greatest condition number in a list of clauses
abbrev pub top_of : List Clause → ℕ
top_of [] = 0
top_of (c ∷ cs) = max (max (greatest c.body) (outcome_number c.outcome)) (top_of cs)

-- The limits of a sheet: 2,000 clauses and 8,000 literals. A sheet beyond one of them is too large.
abbrev pub IsTooLarge : Sheet → Type 0
IsTooLarge s = (2000 < length s.clauses) ⊎ (8000 < literals s.clauses)

-- the sheet without clauses and conditions
abbrev pub empty_sheet : Sheet
empty_sheet = record { top = 0; clauses = [] }
