-- The labelled directed graph of a sheet, and pebblings of its nodes.
-- Assumes nothing.
use Rattle.std.specs.Prelude.{◌≡◌, ℕ, suc, ◌≤◌, max, ◌↔◌, List, [], ◌∷◌, Some, None}
use Rattle.std.specs.List.{slice_get}
use Rattle.horn.specs.Sheets.{Sheet, Clause, clause_at, Lawful, Choice, Satisfies}
use Rattle.horn.specs.Pebblings.{InForce, Broken}
use Rattle.horn.specs.Levels.{rank}

-- a node for true, one for false, and one for each condition (that of another number has no edges)
pub data Node : Type 0 where
  truth : Node
  falsity : Node
  condition : ℕ → Node

-- An edge from a source to a target, labelled with the number of a clause: a fact has an edge from true to its outcome;
-- a rule has one from each condition of its body to its outcome; and a ban has one from each condition of its body to false.
pub data Edge (s : Sheet) : Node → ℕ → Node → Type 0 where
  of_fact : {i q : ℕ} (c : Clause) → clause_at s i ≡ Some c → c.body ≡ [] → c.outcome ≡ Some q → Edge s truth i (condition q)
  of_rule : {i p q : ℕ} (c : Clause) (j : ℕ) → clause_at s i ≡ Some c → slice_get c.body j ≡ Some p → c.outcome ≡ Some q → Edge s (condition p) i (condition q)
  of_ban : {i p : ℕ} (c : Clause) (j : ℕ) → clause_at s i ≡ Some c → slice_get c.body j ≡ Some p → c.outcome ≡ None → Edge s (condition p) i falsity

-- the list holds the element
abbrev pub Member : {V : Type 0} → V → List V → Type 0
Member p ps = (j : ℕ) × (slice_get ps j ≡ Some p)

-- the list holds the sources of all edges into q that are labelled i, and nothing else
abbrev pub Sources : {V : Type 0} → (V → ℕ → V → Type 0) → ℕ → V → List V → Type 0
Sources {V} E i q ps = (p : V) → Member p ps ↔ E p i q

mutual
  -- A pebbling of the node q from the set X in the graph with the edges E, and its length: q is in X, and the length is 0; or it is not, some label i is
  -- that of an edge into q, there are pebblings of the sources of all edges into q labelled i, and the length is one more than the longest of these.
  pub data Pebbled {V : Type 0} (E : V → ℕ → V → Type 0) (X : V → Type 0) : V → ℕ → Type 0 where
    start : {q : V} → X q → Pebbled E X q 0
    move : {q : V} {d : ℕ} → (X q → ⊥) → (i : ℕ) (p : V) → E p i q → (ps : List V) → Sources E i q ps → AllPebbled E X ps d → Pebbled E X q (suc d)

  -- pebblings of each node of a list, and the longest length
  pub data AllPebbled {V : Type 0} (E : V → ℕ → V → Type 0) (X : V → Type 0) : List V → ℕ → Type 0 where
    none : AllPebbled E X [] 0
    more : {p : V} {ps : List V} {d e : ℕ} → Pebbled E X p d → AllPebbled E X ps e → AllPebbled E X (p ∷ ps) (max d e)

-- the node has a pebbling of length d from {true} in the sheet's graph
abbrev pub PebbledFromTrue : Sheet → Node → ℕ → Type 0
PebbledFromTrue s n d = Pebbled (Edge s) (λ m. m ≡ truth) n d

-- A condition is in force exactly when its node is pebbled from {true}.
abbrev pub GraphInForce : Type 0
GraphInForce = (s : Sheet) → Lawful s → (q : ℕ) → InForce s q ↔ ((d : ℕ) × PebbledFromTrue s (condition q) d)

-- Some ban is broken exactly when false is pebbled from {true}.
abbrev pub GraphBroken : Type 0
GraphBroken = (s : Sheet) → Lawful s → ((n : ℕ) × Broken s n) ↔ ((d : ℕ) × PebbledFromTrue s falsity d)

-- No choice satisfies the sheet exactly when false is pebbled from {true}.
abbrev pub GraphContradicted : Type 0
GraphContradicted = (s : Sheet) → Lawful s → ((v : Choice s) → Satisfies s v → ⊥) ↔ ((d : ℕ) × PebbledFromTrue s falsity d)

-- The rank of a condition in force is the length of its shortest pebblings in the graph.
abbrev pub GraphRanked : Type 0
GraphRanked = (s : Sheet) → Lawful s → (q : ℕ) → InForce s q
    → PebbledFromTrue s (condition q) (rank s q) × ((d : ℕ) → PebbledFromTrue s (condition q) d → rank s q ≤ d)
