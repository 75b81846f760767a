-- Explanations: which clauses show that a condition is in force, and in which order.
-- Assumes nothing.
use Rattle.std.specs.Prelude.{◌≡◌, ℕ, ◌<◌, true, ◌⊎◌, ◌↔◌, List, [], ◌∷◌, Some, nat_eq}
use Rattle.std.specs.List.{slice_get, AllZip, AllByRecursion}
use Rattle.horn.specs.Sheets.{Sheet, Clause, clause_at, any_of, Lawful}
use Rattle.horn.specs.Pebblings.{InForce, Shortest}
use Rattle.horn.specs.Levels.{explanation}

-- b has a shorter shortest pebbling than p
pub record Shorter (s : Sheet) (b p : ℕ) : Type 0 where
  pub b_length : ℕ
  pub p_length : ℕ
  pub b_shortest : Shortest s b b_length
  pub p_shortest : Shortest s p p_length
  pub less : b_length < p_length

-- a clause of p whose conditions all have shorter shortest pebblings than p
pub record Supports (s : Sheet) (p : ℕ) (c : Clause) : Type 0 where
  pub gives : c.outcome ≡ Some p
  pub shorter : AllByRecursion (λ b. Shorter s b p) c.body

-- The chosen clause of p, by its number: the lowest such clause.
pub record Chosen (s : Sheet) (p n : ℕ) : Type 0 where
  pub clause : Clause
  pub numbers : clause_at s n ≡ Some clause
  pub supports : Supports s p clause
  pub lowest : (m : ℕ) (c : Clause) → m < n → clause_at s m ≡ Some c → Supports s p c → ⊥

-- q needs itself, and the conditions of the chosen clause of each condition that it needs
pub data Needs (s : Sheet) (q : ℕ) : ℕ → Type 0 where
  itself : Needs s q q
  through : {b : ℕ} (p n i : ℕ) → Needs s q p → (c : Chosen s p n) → slice_get c.clause.body i ≡ Some b → Needs s q b

-- p has a shorter shortest pebbling than r, or one of the same length and a smaller number
pub record Precedes (s : Sheet) (p r : ℕ) : Type 0 where
  pub p_length : ℕ
  pub r_length : ℕ
  pub p_shortest : Shortest s p p_length
  pub r_shortest : Shortest s r r_length
  pub before : (p_length < r_length) ⊎ ((p_length ≡ r_length) × (p < r))

-- each condition precedes all that follow it
abbrev pub InOrder : Sheet → List ℕ → Type 0
InOrder s [] = Unit {0}
InOrder s (p ∷ ps) = AllByRecursion (Precedes s p) ps × InOrder s ps

-- The steps are the chosen clauses of the conditions that q needs, in order.
pub record Explanation (s : Sheet) (q : ℕ) (ns : List ℕ) : Type 0 where
  pub conditions : List ℕ
  pub needs : (p : ℕ) → (any_of (λ x. nat_eq x p) conditions ≡ true) ↔ Needs s q p
  pub order : InOrder s conditions
  pub steps : AllZip (Chosen s) conditions ns

-- Each condition in force has one explanation.
abbrev pub Explaining : Type 0
Explaining = (s : Sheet) → Lawful s → (q : ℕ) → InForce s q → Explanation s q (explanation s q) × ((ns : List ℕ) → Explanation s q ns → ns ≡ explanation s q)
