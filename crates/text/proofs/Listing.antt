-- The clause in the bytes of a text is that of the literals read there.
use Rattle.std.proofs.Common.{◌≡◌, ℕ, ◌+◌, ◌≤◌, min, Bool, true, false, cond, eqb, List, [], ◌∷◌, length, map, drop, Some, Option, refl, ap, ◌∙◌, ⊎_elim, arith, length-drop, eqb-true}
use Rattle.std.specs.List.{filter, slice_get}
use Rattle.std.specs.Option.{option_map}
use Rattle.std.proofs.lemmas.Bool.{cases_Bool}
use Rattle.text.specs.Limits.{lead_value}
use Rattle.text.specs.Literals.{literals_in, is_negated, is_outcome, number_of, clause_of, Listed}
use Rattle.text.specs.Reading.{body_in, outcome_in, clause_in, Small, OpensAt}
use Rattle.text.proofs.Numbers.{small_drop, small_tail, lead_low}

-- the number after a P, which is small
read_whole : (b : ℕ) (bs : List ℕ) → eqb b 80 ≡ true → Small (b ∷ bs) → min 1001 (lead_value bs) ≡ lead_value bs
read_whole b bs e small = let h = lead_low (b ∷ bs) (eqb-true b 80 e) small in omega arith

body_more : (neg : Bool) (n : ℕ) (body : List ℕ) (ls : List (Bool × ℕ)) → body ≡ map number_of (filter is_negated ls) → cond neg (n ∷ body) body ≡ map number_of (filter is_negated ((neg, n) ∷ ls))
body_more true n body ls e = ap (λ ns. n ∷ ns) e
body_more false n body ls e = e

outcome_more : (neg : Bool) (n : ℕ) (outcome : Option ℕ) (ls : List (Bool × ℕ)) → outcome ≡ option_map number_of (slice_get (filter is_outcome ls) 0) → cond neg outcome (Some n) ≡ option_map number_of (slice_get (filter is_outcome ((neg, n) ∷ ls)) 0)
outcome_more true n outcome ls e = e
outcome_more false n outcome ls e = refl

body_listed : (neg : Bool) (s : List ℕ) → Small s → body_in neg s ≡ map number_of (filter is_negated (literals_in neg s))
body_listed neg [] small = refl
body_listed neg (b ∷ bs) small = ⊎_elim
    (λ (t : eqb b 41 ≡ true). rw t refl)
    (λ (t : eqb b 41 ≡ false). ⊎_elim
    (λ (u : eqb b 80 ≡ true).
    let w = read_whole b bs u small in
    rw (t, u, w) (body_more neg (lead_value bs) (body_in false bs) (literals_in false bs) (body_listed false bs (small_tail b bs small))))
    (λ (u : eqb b 80 ≡ false). rw (t, u) (body_listed (eqb b 126) bs (small_tail b bs small)))
    (cases_Bool (eqb b 80)))
    (cases_Bool (eqb b 41))

outcome_listed : (neg : Bool) (s : List ℕ) → Small s → outcome_in neg s ≡ option_map number_of (slice_get (filter is_outcome (literals_in neg s)) 0)
outcome_listed neg [] small = refl
outcome_listed neg (b ∷ bs) small = ⊎_elim
    (λ (t : eqb b 41 ≡ true). rw t refl)
    (λ (t : eqb b 41 ≡ false). ⊎_elim
    (λ (u : eqb b 80 ≡ true).
    let w = read_whole b bs u small in
    rw (t, u, w) (outcome_more neg (lead_value bs) (outcome_in false bs) (literals_in false bs) (outcome_listed false bs (small_tail b bs small))))
    (λ (u : eqb b 80 ≡ false). rw (t, u) (outcome_listed (eqb b 126) bs (small_tail b bs small)))
    (cases_Bool (eqb b 80)))
    (cases_Bool (eqb b 41))

few_literals : (neg : Bool) (s : List ℕ) → length (literals_in neg s) ≤ length s
few_literals neg [] = omega arith
few_literals neg (b ∷ bs) = ⊎_elim
    (λ (t : eqb b 41 ≡ true). rw t (omega arith))
    (λ (t : eqb b 41 ≡ false). ⊎_elim
    (λ (u : eqb b 80 ≡ true). rw (t, u) (omega (arith, few_literals false bs)))
    (λ (u : eqb b 80 ≡ false). rw (t, u) (omega (arith, few_literals (eqb b 126) bs)))
    (cases_Bool (eqb b 80)))
    (cases_Bool (eqb b 41))

pub listed : (s : List ℕ) (i p : ℕ) → length s ≤ 60000 → Small s → OpensAt s i p → Listed s i (Some (literals_in false (drop (p + 1) s)))
listed s i p short small o =
    let u = drop (p + 1) s in
    let low : Small u = small_drop s (p + 1) small in
    let same : clause_in u ≡ clause_of (literals_in false u) = let b = body_listed false u low in let e = outcome_listed false u low in cc in
    (omega (arith, few_literals false u, length-drop (p + 1) s), λ k. o.clause k ∙ ap Some same)
