-- The theorems about choices and pebblings.
use Rattle.std.specs.Prelude.{◌≡◌, ℕ, ◌≤◌, Bool, true, ◌↔◌, List, ◌++◌, None}
use Rattle.std.specs.List.{AllByRecursion}
use Rattle.horn.specs.Sheets.{Sheet, Clause, Choice, Lawful, Keeps, Satisfies}
use Rattle.horn.specs.Pebblings.{InForce, Broken, Pebbling, Shortest, lengths}
use Rattle.horn.specs.Levels.{level, in_force, rank, explanation}

-- A choice that satisfies the sheet holds each condition in force.
abbrev pub Forced : Type 0
Forced = (s : Sheet) (v : Choice s) → Satisfies s v → (q : ℕ) → InForce s q → v.holds q ≡ true

-- The conditions in force satisfy all facts and rules.
abbrev pub Closed : Type 0
Closed = (s : Sheet) → Lawful s → Keeps s (in_force s)

-- A set that satisfies all facts and rules holds each condition in force.
abbrev pub Least : Type 0
Least = (s : Sheet) (v : ℕ → Bool) → Keeps s v → (q : ℕ) → InForce s q → v q ≡ true

-- No choice satisfies the sheet exactly when some ban is broken.
abbrev pub Contradicted : Type 0
Contradicted = (s : Sheet) → Lawful s → ((v : Choice s) → Satisfies s v → ⊥) ↔ ((n : ℕ) × Broken s n)

-- Where some choice satisfies the sheet, a condition is in force exactly when every such choice holds it.
abbrev pub Entailed : Type 0
Entailed = (s : Sheet) → Lawful s → (v : Choice s) → Satisfies s v → (q : ℕ) → InForce s q ↔ ((u : Choice s) → Satisfies s u → u.holds q ≡ true)

-- The level k holds exactly the conditions with a pebbling of length at most k.
abbrev pub Levelled : Type 0
Levelled = (s : Sheet) → Lawful s → (k q : ℕ) → (level s k q ≡ true) ↔ ((ns : List ℕ) × Pebbling s q ns × (lengths s ns q ≤ k))

-- The levels stop growing at `top`.
abbrev pub LevelsStop : Type 0
LevelsStop = (s : Sheet) → Lawful s → (k q : ℕ) → level s k q ≡ true → level s s.top q ≡ true

-- A condition with a pebbling of some length is in the level of that length.
abbrev pub LevelsHold : Type 0
LevelsHold = (s : Sheet) (q : ℕ) (ns : List ℕ) → Pebbling s q ns → level s (lengths s ns q) q ≡ true

-- What is computed to be in force is in force.
abbrev pub Decided : Type 0
Decided = (s : Sheet) → Lawful s → (q : ℕ) → (in_force s q ≡ true) ↔ InForce s q

-- The rank of a condition in force is the length of its shortest pebblings.
abbrev pub Ranked : Type 0
Ranked = (s : Sheet) → Lawful s → (q : ℕ) → InForce s q → Shortest s q (rank s q)

-- The explanation of a condition in force is a pebbling of it, and none is shorter.
abbrev pub Explained : Type 0
Explained = (s : Sheet) → Lawful s → (q : ℕ) → InForce s q → Pebbling s q (explanation s q) × (lengths s (explanation s q) q ≡ rank s q) × ((ns : List ℕ) → Pebbling s q ns → lengths s (explanation s q) q ≤ lengths s ns q)

-- the sheet with clauses after its own
abbrev pub added : Sheet → List Clause → Sheet
added s cs = record { top = s.top; clauses = s.clauses ++ cs }

-- Clauses added after the others keep every pebbling, with its length.
abbrev pub Growing : Type 0
Growing = (s : Sheet) (cs : List Clause) (q : ℕ) (ns : List ℕ) → Pebbling s q ns → Pebbling (added s cs) q ns × (lengths (added s cs) ns q ≡ lengths s ns q)

-- Bans that are added put nothing in force.
abbrev pub BansAddNothing : Type 0
BansAddNothing = (s : Sheet) (cs : List Clause) → AllByRecursion (λ c. c.outcome ≡ None) cs → (k q : ℕ) → level (added s cs) k q ≡ level s k q
