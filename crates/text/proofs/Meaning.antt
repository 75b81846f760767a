-- What stands in the bytes of a text of the grammar is what the text means.
use Rattle.std.proofs.Common.{◌≡◌, ℕ, true, false, eqb, List, [], ◌∷◌, ◌++◌, Some, Option, sym, refl, ap, ◌∙◌}
use Rattle.std.proofs.lemmas.List.{append-nil}
use Rattle.horn.specs.Sheets.{Clause}
use Rattle.text.specs.Grammar.{digit, Digits, end, then, Number, number, NegLits, one, more, Basic, fact, rule, ban, Text, last, join, digits, numeral, neg_lits, inside, basic, text, value, conditions, clause, clauses, Spells}
use Rattle.text.specs.Reading.{body_in, outcome_in, clause_in, clauses_in}
use Rattle.text.proofs.Trees.{apart, first_is_digit, lead_number}

-- a digit is none of the signs
pub signs : (b : ℕ) → digit b ≡ true → (eqb b 40 ≡ false) × (eqb b 41 ≡ false) × (eqb b 80 ≡ false) × (eqb b 126 ≡ false)
signs b d = (apart 40 b refl d, apart 41 b refl d, apart 80 b refl d, apart 126 b refl d)

-- F, a reading that passes over digits
module _ {Y : Type 0} (F : List ℕ → Y) (passes : (b : ℕ) (s : List ℕ) → digit b ≡ true → F (b ∷ s) ≡ F s) where
  past_digits : (ds : Digits) (s : List ℕ) → F (digits ds s) ≡ F s
  past_digits end s = refl
  past_digits (then b d ds) s = passes b (digits ds s) d ∙ past_digits ds s

  pub past_number : (n : Number) (s : List ℕ) → F (numeral n s) ≡ F s
  past_number (number b d ds) s = passes b (digits ds s) (first_is_digit b d) ∙ past_digits ds s

body_passes : (b : ℕ) (s : List ℕ) → digit b ≡ true → body_in false (b ∷ s) ≡ body_in false s
body_passes b s d = let g = signs b d in rw (g.1, g.2, g.3)

outcome_passes : (b : ℕ) (s : List ℕ) → digit b ≡ true → outcome_in false (b ∷ s) ≡ outcome_in false s
outcome_passes b s d = let g = signs b d in rw (g.1, g.2, g.3)

clauses_pass : (b : ℕ) (s : List ℕ) → digit b ≡ true → clauses_in (b ∷ s) ≡ clauses_in s
clauses_pass b s d = let g = signs b d in rw g.0

-- bodies
body_negs : (ns : NegLits) (x : ℕ) (s : List ℕ) → digit x ≡ false → body_in false (neg_lits ns (x ∷ s)) ≡ conditions ns ++ body_in false (x ∷ s)
body_negs (one n) x s other = rw (lead_number n x s other) (ap (λ y. value n ∷ y) (past_number (body_in false) body_passes n (x ∷ s)))
body_negs (more n ns) x s other =
    rw (lead_number n 124 (neg_lits ns (x ∷ s)) refl) (ap (λ y. value n ∷ y) (past_number (body_in false) body_passes n (124 ∷ neg_lits ns (x ∷ s)) ∙ body_negs ns x s other))

outcome_negs : (ns : NegLits) (s : List ℕ) → outcome_in false (neg_lits ns s) ≡ outcome_in false s
outcome_negs (one n) s = past_number (outcome_in false) outcome_passes n s
outcome_negs (more n ns) s = past_number (outcome_in false) outcome_passes n (124 ∷ neg_lits ns s) ∙ outcome_negs ns s

clause_inside : (c : Basic) (s : List ℕ) → clause_in (inside c (41 ∷ s)) ≡ clause c
clause_inside (fact n) s = same (past_number (body_in false) body_passes n (41 ∷ s)) (ap Some (lead_number n 41 s refl))
  where
    same : {b d : List ℕ} {o p : Option ℕ} → b ≡ d → o ≡ p → ◌≡◌ {A = Clause} (record { body = b; outcome = o }) (record { body = d; outcome = p })
    same e f = cc
clause_inside (rule ns n) s = cc (body_negs ns 124 (80 ∷ numeral n (41 ∷ s)) refl, past_number (body_in false) body_passes n (41 ∷ s), append-nil (conditions ns), outcome_negs ns (124 ∷ 80 ∷ numeral n (41 ∷ s)), lead_number n 41 s refl)
clause_inside (ban ns) s = cc (body_negs ns 41 s refl, append-nil (conditions ns), outcome_negs ns (41 ∷ s))

-- clauses
pass_negs : (ns : NegLits) (s : List ℕ) → clauses_in (neg_lits ns s) ≡ clauses_in s
pass_negs (one n) s = past_number clauses_in clauses_pass n s
pass_negs (more n ns) s = past_number clauses_in clauses_pass n (124 ∷ neg_lits ns s) ∙ pass_negs ns s

pass_inside : (c : Basic) (s : List ℕ) → clauses_in (inside c s) ≡ clauses_in s
pass_inside (fact n) s = past_number clauses_in clauses_pass n s
pass_inside (rule ns n) s = pass_negs ns (124 ∷ 80 ∷ numeral n s) ∙ past_number clauses_in clauses_pass n s
pass_inside (ban ns) s = pass_negs ns s

basics : (c : Basic) (s : List ℕ) → clauses_in (basic c s) ≡ clause c ∷ clauses_in s
basics c s = ap (λ x. x ∷ clauses_in (inside c (41 ∷ s))) (clause_inside c s) ∙ ap (λ x. clause c ∷ x) (pass_inside c (41 ∷ s))

pub reads : (t : Text) (s : List ℕ) → clauses_in (text t s) ≡ clauses t ++ clauses_in s
reads (last c) s = basics c s
reads (join c t) s = basics c (38 ∷ text t s) ∙ ap (λ x. clause c ∷ x) (reads t s)

-- so a text has one meaning
pub one_meaning : (t u : Text) (s : List ℕ) → Spells t s → Spells u s → clauses t ≡ clauses u
one_meaning t u s e f = sym (append-nil (clauses t)) ∙ (sym (reads t []) ∙ (ap clauses_in (e ∙ sym f) ∙ (reads u [] ∙ append-nil (clauses u))))
