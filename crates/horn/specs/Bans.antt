-- Broken bans, and body places whose condition is in force.
-- Assumes nothing.
use Rattle.std.specs.Prelude.{ℕ, zero, suc, ◌+◌, ◌<◌, Bool, true, false, cond, ◌&&◌, List, [], ◌∷◌, Some, None, Option}
use Rattle.horn.specs.Sheets.{Sheet, Clause, Choice, Lawful, Satisfies, all_of}
use Rattle.horn.specs.Pebblings.{Broken}
use Rattle.horn.specs.Levels.{in_force, first}

-- the clause is a ban
abbrev pub no_outcome : Option ℕ → Bool
no_outcome None = true
no_outcome (Some q) = false

-- by the test, the clause is a ban whose conditions all pass
abbrev pub breaks : (ℕ → Bool) → Clause → Bool
breaks f c = no_outcome c.outcome && all_of f c.body

-- the number of the lowest ban that is broken, past the last clause if there is none
abbrev pub lowest_broken : Sheet → ℕ
lowest_broken s = first (breaks (in_force s)) s.clauses

pub record LowestBroken (s : Sheet) (n : ℕ) : Type 0 where
  pub broken : Broken s n
  pub lowest : (m : ℕ) → m < n → Broken s m → ⊥

-- Where no choice satisfies the sheet, there is a lowest broken ban, and it is the computed one.
abbrev pub LowestFound : Type 0
LowestFound = (s : Sheet) → Lawful s → ((v : Choice s) → Satisfies s v → ⊥) → LowestBroken s (lowest_broken s)

-- the number of elements that pass the test
abbrev pub tally : (ℕ → Bool) → List ℕ → ℕ
tally f [] = zero
tally f (p ∷ ps) = cond (f p) (suc (tally f ps)) (tally f ps)

-- the number of body places, in all clauses, whose condition is in force
abbrev pub places : (ℕ → Bool) → List Clause → ℕ
places f [] = zero
places f (c ∷ cs) = tally f c.body + places f cs

-- A body place is discharged when its condition is in force: how many are, in all clauses.
abbrev pub discharged : Sheet → ℕ
discharged s = places (in_force s) s.clauses
