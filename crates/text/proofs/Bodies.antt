-- What the body around a place holds, one byte further on.
use Rattle.std.proofs.Common.{◌≡◌, ℕ, ◌+◌, ◌-◌, ◌<◌, List, get_or, sym, ap, ◌∙◌, ⊎_elim, arith}
use Rattle.std.proofs.lemmas.Bool.{cases_eq}
use Rattle.text.specs.Judging.{Names, Negated, Held}

module _ (s : List ℕ) (p : ℕ) where
  pub held_less : (n j : ℕ) → j < p → Held s (p + 1) n j → Held s p n j
  held_less n j l h = record { before = l; condition = h.condition; negated = h.negated; same = λ k a b. h.same k a (omega arith) }

  pub held_more : (n j : ℕ) → (get_or s p 0 ≡ 40 → ⊥) → Held s p n j → Held s (p + 1) n j
  held_more n j o h = record {
    before = omega (arith, h.before);
    condition = h.condition;
    negated = h.negated;
    same = λ k a b e. ⊎_elim (λ (q : k ≡ p). o (sym (ap (λ i. get_or s i 0) q) ∙ e)) (λ (q : k ≡ p → ⊥). h.same k a (omega arith) e) (cases_eq k p);
  }

  pub held_here : (n : ℕ) → Names s p n → Negated s p → Held s (p + 1) n p
  held_here n c m = record { before = omega arith; condition = c; negated = m; same = λ k a b. absurd (omega arith) }

  pub held_none : (n j : ℕ) → get_or s p 0 ≡ 40 → Held s (p + 1) n j → ⊥
  held_none n j o h = ⊎_elim
      (λ (q : j ≡ p). omega (arith, sym (ap (λ i. get_or s i 0) q) ∙ h.condition.letter))
      (λ (q : j ≡ p → ⊥). h.same p (omega (arith, h.before, q)) (omega arith) o)
      (cases_eq j p)

  pub signed_next : Negated s (p + 1) → get_or s p 0 ≡ 126
  signed_next h = let e : p + 1 - 1 ≡ p = omega arith in sym (ap (λ i. get_or s i 0) e) ∙ h.1
