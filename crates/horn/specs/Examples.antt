-- Worked examples, by computation.
use Rattle.std.specs.Prelude.{◌≡◌, ℕ, List, [], ◌∷◌, ◌++◌, Some, None}
use Rattle.horn.specs.Sheets.{Sheet, Clause}
use Rattle.horn.specs.Bans.{lowest_broken, discharged}
use Rattle.horn.specs.Levels.{in_force, rank, explanation, listed}

abbrev pub fact : ℕ → Clause
fact q = record { body = []; outcome = Some q }

abbrev pub rule : List ℕ → ℕ → Clause
rule ps q = record { body = ps; outcome = Some q }

abbrev pub ban : List ℕ → Clause
ban ps = record { body = ps; outcome = None }

abbrev pub derivation : Sheet
derivation = record { top = 5; clauses = rule (3 ∷ 4 ∷ []) 5 ∷ rule (1 ∷ []) 2 ∷ rule (2 ∷ []) 1 ∷ rule (3 ∷ []) 4 ∷ fact 3 ∷ ban (1 ∷ 2 ∷ []) ∷ [] }

abbrev pub loop : Sheet
loop = record { top = 1; clauses = rule (1 ∷ []) 1 ∷ [] }

abbrev pub twice : Sheet
twice = record { top = 1; clauses = fact 1 ∷ fact 1 ∷ [] }

abbrev pub banned : Sheet
banned = record { top = 8; clauses = rule (2 ∷ []) 3 ∷ rule (3 ∷ []) 4 ∷ rule (4 ∷ []) 5 ∷ fact 3 ∷ fact 1 ∷ fact 2 ∷ ban (1 ∷ []) ∷ rule (3 ∷ []) 6 ∷ rule (3 ∷ []) 7 ∷ rule (3 ∷ []) 8 ∷ [] }

abbrev pub pair : Sheet
pair = record { top = 3; clauses = fact 1 ∷ fact 2 ∷ rule (1 ∷ []) 2 ∷ ban (2 ∷ 3 ∷ []) ∷ [] }

-- the same with the fact 3 after it
abbrev pub pair_and_fact : Sheet
pair_and_fact = record { top = 3; clauses = pair.clauses ++ fact 3 ∷ [] }

pub record Worked : Type 0 where
  pub in_force_1 : listed (in_force derivation) 5 ≡ 3 ∷ 4 ∷ 5 ∷ []
  pub discharged_1 : discharged derivation ≡ 3
  pub rank_5 : rank derivation 5 ≡ 3
  pub explained_5 : explanation derivation 5 ≡ 5 ∷ 4 ∷ 1 ∷ []
  pub ban_7 : lowest_broken banned ≡ 7
  pub nothing : listed (in_force loop) 1 ≡ []
  pub clause_1 : explanation twice 1 ≡ 1 ∷ []
  pub in_force_pair : listed (in_force pair) 3 ≡ 1 ∷ 2 ∷ []
  pub discharged_pair : discharged pair ≡ 2
  pub no_ban_pair : lowest_broken pair ≡ 5
  pub ban_4 : lowest_broken pair_and_fact ≡ 4
