-- What the functions of the reader answer, place by place.
use Rattle.std.specs.Prelude.{◌≡◌, ℕ, ◌<◌, ◌≤◌, min, max, cond, List, [], ◌∷◌, drop, Some, None, Ok, Err, Option, Result, ◌==◌}
use Rattle.text.specs.declared.verdict.Counts.{Counts}
use Rattle.text.specs.declared.verdict.Fault.{Fault}
use Rattle.text.specs.Grammar.{first_digit}
use Rattle.text.specs.Judging.{run_value, Names, many, IsTooGreat, Repeats, Limit}
use Rattle.text.specs.Verdicts.{fault_number, fault_place}

-- the condition at place i, where 1,001 stands for every number above 1,000
pub record Reads (s : List ℕ) (i r : ℕ) : Type 0 where
  pub value : ℕ
  pub condition : Names s i value
  pub capped : r ≡ min 1001 value

abbrev pub Read : List ℕ → ℕ → Option ℕ → Type 0
Read s i None = (n : ℕ) → Names s i n → ⊥
Read s i (Some r) = Reads s i r

-- f is the lowest fault of the limits at place i
pub record Least (s : List ℕ) (i : ℕ) (f : Fault) : Type 0 where
  pub place : fault_place f ≡ Some i
  pub limit : Limit s (fault_number f) i
  pub least : (g : ℕ) → Limit s g i → fault_number f ≤ g

-- faults 3 and 4 at place i
abbrev pub Wrong : List ℕ → ℕ → Result (Unit {0}) Fault → Type 0
Wrong s i (Ok _) = (IsTooGreat s i → ⊥) × (Repeats s i → ⊥)
Wrong s i (Err f) = Least s i f

-- all faults of the limits at place i
abbrev pub Lowest : List ℕ → ℕ → Result (Unit {0}) Fault → Type 0
Lowest s i (Ok _) = (g : ℕ) → Limit s g i → ⊥
Lowest s i (Err f) = Least s i f

-- the number that stands here, 0 where none does
abbrev pub lead_value : List ℕ → ℕ
lead_value [] = 0
lead_value (b ∷ bs) = cond (first_digit b) (run_value 0 (b ∷ bs)) 0

-- the greatest number after a P
abbrev pub top_in : List ℕ → ℕ
top_in [] = 0
top_in (b ∷ bs) = cond (b == 80) (max (lead_value bs) (top_in bs)) (top_in bs)

-- the counts before place i
pub record Counted (s : List ℕ) (i : ℕ) (c : Counts) : Type 0 where
  pub clauses_is : c.clauses ≡ many 40 s i
  pub literals_is : c.literals ≡ many 80 s i
  pub top_is : max c.conditions (top_in (drop i s)) ≡ top_in s
  pub few_clauses : c.clauses ≤ i
  pub few_literals : c.literals ≤ i
  pub low_top : c.conditions ≤ 1000

-- no fault of the limits stands before place i
abbrev pub Clear : List ℕ → ℕ → Type 0
Clear s i = (j : ℕ) → j < i → (g : ℕ) → Limit s g j → ⊥

-- the first fault of the limits, before place v
pub record First (s : List ℕ) (v : ℕ) (f : Fault) : Type 0 where
  pub at : ℕ
  pub within : at < v
  pub is : Least s at f
  pub clear : Clear s at

-- what is found in the limits before place v
abbrev pub Limits : List ℕ → ℕ → Result Counts Fault → Type 0
Limits s v (Err f) = First s v f
Limits s v (Ok c) = Clear s v × Counted s v c
