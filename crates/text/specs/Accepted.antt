-- The good texts, by their clauses and without a word of faults.
use Rattle.std.specs.Prelude.{◌≡◌, ℕ, ◌≤◌, List, length, Ok}
use Rattle.std.specs.List.{AllByRecursion}
use Rattle.horn.specs.Sheets.{Clause, Distinct, top_of, literals}
use Rattle.text.specs.declared.verdict.Counts.{Counts}
use Rattle.text.specs.Grammar.{Text, Spells, clauses}
use Rattle.text.specs.Verdicts.{Judged}

-- Clauses within the limits: no condition above 1,000, none twice in a body, at most 2,000 clauses and 8,000 literals.
pub record KeepsLimits (cs : List Clause) : Type 0 where
  pub low : top_of cs ≤ 1000
  pub different : AllByRecursion (λ c. Distinct c.body) cs
  pub few_clauses : length cs ≤ 2000
  pub few_literals : literals cs ≤ 8000

-- the counts of a text of the grammar
abbrev pub counts_of : Text → Counts
counts_of t = record { clauses = length (clauses t); conditions = top_of (clauses t); literals = literals (clauses t) }

-- A text of at most 60,000 bytes is judged good exactly when it is one of the grammar and its clauses keep the limits.
abbrev pub AcceptedExactly : Type 0
AcceptedExactly = (s : List ℕ) → length s ≤ 60000 → ((c : Counts) → Judged s (Ok c) → (t : Text) × Spells t s × KeepsLimits (clauses t)) × ((t : Text) → Spells t s → KeepsLimits (clauses t) → Judged s (Ok (counts_of t)))

-- The bytes of a text fix its clauses.
abbrev pub OneMeaning : Type 0
OneMeaning = (s : List ℕ) (t u : Text) → Spells t s → Spells u s → clauses t ≡ clauses u
