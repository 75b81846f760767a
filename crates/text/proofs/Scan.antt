-- The next literal of a clause that is read in place.
use Rattle.std.proofs.Common.{◌≡◌, ℕ, zero, suc, ◌+◌, ◌-◌, ◌<◌, ◌≤◌, Bool, true, false, eqb, List, [], ◌∷◌, length, get_or, take, drop, not, Some, None, Option, min, refl, ap, ◌∙◌, ⊎_elim, arith, ltb, ltb-false, ne_eqb}
use Rattle.std.specs.List.{position, prefix_len}
use Rattle.std.proofs.lemmas.Bool.{or_parts, or_from, cases_eq, cases_Bool, not-true}
use Rattle.std.proofs.lemmas.List.Sums.{prefix_len-le-length, prefix_len_passes}
use Rattle.std.proofs.lemmas.List.Quantifiers.{position-Some}
use Rattle.std.proofs.lemmas.List.{drop_more, drop_all, drop-drop, take_rest, get_or-take, length-take}
use Rattle.text.specs.Limits.{lead_value}
use Rattle.text.specs.Literals.{is_sign, literals_in}

-- no P and no ) stands before place k
abbrev NoSigns : List ℕ → ℕ → Type 0
NoSigns s k = (j : ℕ) → j < k → is_sign (get_or s j 0) ≡ false

-- whether a ~ stands just before place k
abbrev pub tilde_at : Bool → List ℕ → ℕ → Bool
tilde_at neg s zero = neg
tilde_at neg s (suc k) = eqb (get_or s k 0) 126

passed : (s : List ℕ) (neg : Bool) (k : ℕ) → k ≤ length s → NoSigns s k → literals_in neg s ≡ literals_in (tilde_at neg s k) (drop k s)
passed s neg zero l none = refl
passed [] neg (suc k) l none = absurd (omega arith)
passed (b ∷ bs) neg (suc zero) l none = let h = or_parts (eqb b 80) (eqb b 41) (none 0 (omega arith)) in rw (h.0, h.1) refl
passed (b ∷ bs) neg (suc (suc k)) l none =
    let h = or_parts (eqb b 80) (eqb b 41) (none 0 (omega arith)) in
    rw (h.0, h.1) (passed bs (eqb b 126) (suc k) (omega arith) (λ j below. none (suc j) (omega arith)))

pub tilde_before : (s : List ℕ) (k : ℕ) → k ≤ length s → eqb (get_or (take k s) (length (take k s) - 1) 0) 126 ≡ tilde_at false s k
tilde_before s zero l = refl
tilde_before s (suc k) l =
    let n : length (take (suc k) s) - 1 ≡ k = omega (arith, length-take (suc k) s) in
    let below : k < suc k = omega arith in
    rw (n, get_or-take) refl

pub literals_none : (s : List ℕ) → position is_sign s ≡ None → literals_in false s ≡ []
literals_none s e =
    let k = prefix_len (λ b. not (is_sign b)) s in
    ⊎_elim
    (λ (t : ltb k (length s) ≡ true). absurd (let z : ◌≡◌ {A = Option ℕ} (Some k) None = rw t at e in cc))
    (λ (t : ltb k (length s) ≡ false).
    let far = ltb-false k (length s) t in
    passed s false k (prefix_len-le-length (λ b. not (is_sign b)) s) (λ j below. not-true (is_sign (get_or s j 0)) (prefix_len_passes (λ b. not (is_sign b)) s j 0 below)) ∙ rw (drop_all k s far) refl)
    (cases_Bool (ltb k (length s)))

module _ (s : List ℕ) (k : ℕ) (at : position is_sign s ≡ Some k) where
  pub sign_within : k < length s
  sign_within = (position-Some is_sign s k 0 at).0

  up_to_sign : literals_in false s ≡ literals_in (tilde_at false s k) (drop k s)
  up_to_sign = let h = position-Some is_sign s k 0 at in passed s false k (omega arith) h.2

  pub literals_close : get_or s k 0 ≡ 41 → literals_in false s ≡ []
  literals_close e = let l = sign_within in up_to_sign ∙ rw (drop_more s k 0 l, e) refl

  pub letter_found : (get_or s k 0 ≡ 41 → ⊥) → get_or s k 0 ≡ 80
  letter_found other = ⊎_elim
      (λ e. e)
      (λ not_letter. absurd (let n = or_from (eqb (get_or s k 0) 80) (eqb (get_or s k 0) 41) (ne_eqb (get_or s k 0) 80 not_letter) (ne_eqb (get_or s k 0) 41 other) in let t = (position-Some is_sign s k 0 at).1 in cc))
      (cases_eq (get_or s k 0) 80)

  pub literals_found : get_or s k 0 ≡ 80 → literals_in false s ≡ (tilde_at false s k, min 1001 (lead_value (drop (k + 1) s))) ∷ literals_in false (drop (k + 1) s)
  literals_found e = let l = sign_within in up_to_sign ∙ rw (drop_more s k 0 l, e) refl

-- one literal, from the parts that are read
pub one_literal : (s : List ℕ) (k : ℕ) → position is_sign s ≡ Some k → (get_or s k 0 ≡ 41 → ⊥) → (before from : List ℕ) → before ≡ take k s → from ≡ drop k s → (neg : Bool) → neg ≡ eqb (get_or before (length before - 1) 0) 126 → literals_in false s ≡ (neg, min 1001 (lead_value (take (length from - 1) (drop 1 from)))) ∷ literals_in false (take (length from - 1) (drop 1 from))
one_literal s k at other before from b f neg t =
    let e = letter_found s k at other in
    let l = sign_within s k at in
    let digits : take (length from - 1) (drop 1 from) ≡ drop (k + 1) s = take_rest from 1 ∙ (ap (drop 1) f ∙ drop-drop 1 k s) in
    let tilde : neg ≡ tilde_at false s k = t ∙ (ap (λ y. eqb (get_or y (length y - 1) 0) 126) b ∙ tilde_before s k (omega arith)) in
    rw (digits, tilde) (literals_found s k at e)
