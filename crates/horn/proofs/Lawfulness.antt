-- The tests for lawful and satisfiable sheets.
-- Assumes nothing.
use Rattle.std.proofs.Common.{◌≡◌, ℕ, Bool, true, false, not, ◌&&◌, eqb, leb, List, [], ◌∷◌, Some, None, Option, sym, refl, ap, subst, ⊎_elim}
use Rattle.std.proofs.ByRecursion.{All-weaker}
use Rattle.std.proofs.lemmas.Bool.{and_parts, and_from, both_ways, leb-true, le-leb, not-true, not_from_false}
use Rattle.horn.specs.Sheets.{Clause, Sheet, LawfulClause, Condition, Distinct, satisfies, all_of, any_of}
use Rattle.horn.specs.Pebblings.{Broken}
use Rattle.horn.specs.Levels.{in_force}
use Rattle.horn.specs.Lawfulness.{is_condition, is_outcome, distinct, is_something, lawful_clause, lawful, satisfiable}
use Rattle.horn.specs.Lawfulness
use Rattle.horn.proofs.Tests.{all_true, all_from, some_inj, none_some}
use Rattle.horn.proofs.Entailment.{standing, standing_or_broken, broken_never}

condition_true : (s : Sheet) (p : ℕ) → is_condition s.top p ≡ true → Condition s p
condition_true s p h = let k = and_parts (leb 1 p) (leb p s.top) h in (leb-true 1 p k.0, leb-true p s.top k.1)

condition_from : (s : Sheet) (p : ℕ) → Condition s p → is_condition s.top p ≡ true
condition_from s p h = and_from _ _ (le-leb 1 p h.0) (le-leb p s.top h.1)

outcome_true : (s : Sheet) (o : Option ℕ) → is_outcome s.top o ≡ true → (q : ℕ) → o ≡ Some q → Condition s q
outcome_true s None h q e = absurd (none_some e)
outcome_true s (Some p) h q e = subst (Condition s) (some_inj e) (condition_true s p h)

outcome_from : (s : Sheet) (o : Option ℕ) → ((q : ℕ) → o ≡ Some q → Condition s q) → is_outcome s.top o ≡ true
outcome_from s None h = refl
outcome_from s (Some p) h = condition_from s p (h p refl)

distinct_true : (ps : List ℕ) → distinct ps ≡ true → Distinct ps
distinct_true [] h = tt
distinct_true (p ∷ ps) h = let k = and_parts (not (any_of (eqb p) ps)) (distinct ps) h in (not-true _ k.0, distinct_true ps k.1)

distinct_from : (ps : List ℕ) → Distinct ps → distinct ps ≡ true
distinct_from [] h = refl
distinct_from (p ∷ ps) h = and_from _ _ (not_from_false _ h.0) (distinct_from ps h.1)

something_true : (ps : List ℕ) (o : Option ℕ) → is_something ps o ≡ true → ps ≡ [] → o ≡ None → ⊥
something_true [] None h a b = both_ways false refl h
something_true [] (Some q) h a b = none_some (sym b)
something_true (p ∷ ps) o h a b = both_ways true (ap full (sym a)) refl
  where
    full : List ℕ → Bool
    full [] = true
    full (x ∷ xs) = false

something_from : (ps : List ℕ) (o : Option ℕ) → (ps ≡ [] → o ≡ None → ⊥) → is_something ps o ≡ true
something_from [] None h = absurd (h refl refl)
something_from [] (Some q) h = refl
something_from (p ∷ ps) o h = refl

clause_true : (s : Sheet) (c : Clause) → lawful_clause s.top c ≡ true → LawfulClause s c
clause_true s c h =
    let k = and_parts (all_of (is_condition s.top) c.body && is_outcome s.top c.outcome) (distinct c.body && is_something c.body c.outcome) h in
    let a = and_parts (all_of (is_condition s.top) c.body) (is_outcome s.top c.outcome) k.0 in
    let b = and_parts (distinct c.body) (is_something c.body c.outcome) k.1 in
    record { conditions = All-weaker (λ p. is_condition s.top p ≡ true) (Condition s) (condition_true s) c.body (all_true (is_condition s.top) c.body a.0); outcomes = outcome_true s c.outcome a.1; different = distinct_true c.body b.0; something = something_true c.body c.outcome b.1 }

clause_from : (s : Sheet) (c : Clause) → LawfulClause s c → lawful_clause s.top c ≡ true
clause_from s c h = and_from _ _ (and_from _ _ (all_from (is_condition s.top) c.body (All-weaker (Condition s) (λ p. is_condition s.top p ≡ true) (condition_from s) c.body h.conditions)) (outcome_from s c.outcome h.outcomes)) (and_from _ _ (distinct_from c.body h.different) (something_from c.body c.outcome h.something))

pub lawful_tested : Lawfulness.LawfulTested
lawful_tested s = (λ h. All-weaker (λ c. lawful_clause s.top c ≡ true) (LawfulClause s) (clause_true s) s.clauses (all_true (lawful_clause s.top) s.clauses h), λ h. all_from (lawful_clause s.top) s.clauses (All-weaker (LawfulClause s) (λ c. lawful_clause s.top c ≡ true) (clause_from s) s.clauses h))

pub satisfiable_tested : Lawfulness.SatisfiableTested
satisfiable_tested s w = (λ h. (standing s w, all_true (satisfies (in_force s)) s.clauses h), λ x. all_from (satisfies (in_force s)) s.clauses (⊎_elim (λ h. h) (λ (b : (n : ℕ) × Broken s n). absurd (broken_never s b.0 b.1 x.0 x.1)) (standing_or_broken s w)))
