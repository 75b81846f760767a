-- The texts of Horn sheets: each type below is a nonterminal of the grammar, each constructor a production.
--   Text    → Basic | Basic & Text            Basic → ( NegLits ) | ( NegLits | PosLit ) | ( PosLit )
--   NegLits → NegLit | NegLit '|' NegLits     NegLit → ~ P Number     PosLit → P Number
--   Number  → a digit from 1 to 9, then any digits
use Rattle.std.specs.Prelude.{◌≡◌, ℕ, ◌+◌, ◌-◌, ◌*◌, ◌≤◌, Bool, true, false, cond, List, [], ◌∷◌, ◌++◌, length, take, Some, None, nat_le}
use Rattle.horn.specs.Sheets.{Clause}

-- the byte is a digit, 0 to 9
abbrev pub digit : ℕ → Bool
digit b = cond (nat_le 48 b) (nat_le b 57) false

-- the byte is a digit that a number may begin with, 1 to 9
abbrev pub first_digit : ℕ → Bool
first_digit b = cond (nat_le 49 b) (nat_le b 57) false

-- any count of digits
pub data Digits : Type 0 where
  end : Digits
  then : (b : ℕ) → digit b ≡ true → Digits → Digits

-- a number without leading zero
pub data Number : Type 0 where
  number : (b : ℕ) → first_digit b ≡ true → Digits → Number

-- the negative literals of a clause, at least one
pub data NegLits : Type 0 where
  one : Number → NegLits
  more : Number → NegLits → NegLits

-- a clause
pub data Basic : Type 0 where
  fact : Number → Basic
  rule : NegLits → Number → Basic
  ban : NegLits → Basic

-- clauses, at least one
pub data Text : Type 0 where
  last : Basic → Text
  join : Basic → Text → Text

-- The bytes of each, written before the bytes that follow it.
abbrev pub digits : Digits → List ℕ → List ℕ
digits end s = s
digits (then b d ds) s = b ∷ digits ds s

abbrev pub numeral : Number → List ℕ → List ℕ
numeral (number b d ds) s = b ∷ digits ds s

-- 126 is ~, 80 is P, 124 is |, 40 is (, 41 is ), 38 is &
abbrev pub neg_lits : NegLits → List ℕ → List ℕ
neg_lits (one n) s = 126 ∷ 80 ∷ numeral n s
neg_lits (more n ns) s = 126 ∷ 80 ∷ numeral n (124 ∷ neg_lits ns s)

abbrev pub inside : Basic → List ℕ → List ℕ
inside (fact n) s = 80 ∷ numeral n s
inside (rule ns n) s = neg_lits ns (124 ∷ 80 ∷ numeral n s)
inside (ban ns) s = neg_lits ns s

abbrev pub basic : Basic → List ℕ → List ℕ
basic c s = 40 ∷ inside c (41 ∷ s)

abbrev pub text : Text → List ℕ → List ℕ
text (last c) s = basic c s
text (join c t) s = basic c (38 ∷ text t s)

-- What each means: the value of digits after others with the value v, the number, the body, the clause, the clauses.
abbrev pub value_from : ℕ → Digits → ℕ
value_from v end = v
value_from v (then b d ds) = value_from (10 * v + (b - 48)) ds

abbrev pub value : Number → ℕ
value (number b d ds) = value_from (b - 48) ds

abbrev pub conditions : NegLits → List ℕ
conditions (one n) = value n ∷ []
conditions (more n ns) = value n ∷ conditions ns

abbrev pub clause : Basic → Clause
clause (fact n) = record { body = []; outcome = Some (value n) }
clause (rule ns n) = record { body = conditions ns; outcome = Some (value n) }
clause (ban ns) = record { body = conditions ns; outcome = None }

abbrev pub clauses : Text → List Clause
clauses (last c) = clause c ∷ []
clauses (join c t) = clause c ∷ clauses t

-- the bytes s are a text of the grammar, namely t
abbrev pub Spells : Text → List ℕ → Type 0
Spells t s = text t [] ≡ s

-- the bytes are no text of the grammar
abbrev pub Outside : List ℕ → Type 0
Outside s = (t : Text) → Spells t s → ⊥

-- some text of the grammar begins so
abbrev pub Viable : List ℕ → Type 0
Viable p = (t : Text) × (rest : List ℕ) × Spells t (p ++ rest)

-- v is the length of the longest viable beginning of s
pub record Longest (s : List ℕ) (v : ℕ) : Type 0 where
  pub within : v ≤ length s
  pub viable : Viable (take v s)
  pub longest : (w : ℕ) → w ≤ length s → Viable (take w s) → w ≤ v
