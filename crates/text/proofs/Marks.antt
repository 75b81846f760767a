-- The marks of the conditions that the body around a place holds, one byte further on.
use Rattle.std.proofs.Common.{◌≡◌, ℕ, zero, suc, ◌+◌, ◌-◌, ◌<◌, ◌≤◌, ◌≢◌, ◌⊎◌, Bool, true, false, List, length, get_or, drop, set, replicate, sym, refl, ap, ◌∙◌, subst, inl, inr, ⊎_elim, arith, length-set, get_or-set_other, get_or-set_same}
use Rattle.std.proofs.lemmas.Bool.{cases_eq, cases_lt}
use Rattle.std.proofs.lemmas.Grind.{merely, not_there}
use Rattle.text.specs.Grammar.{first_digit}
use Rattle.text.specs.Judging.{run_value, Names, Negated, Held, IsTooGreat}
use Rattle.text.specs.Limits.{Reads}
use Rattle.text.proofs.Bodies.{held_less, held_more, held_here, held_none}

-- whether a body condition stands at a place can be decided, and so whether the body around the place holds it
abbrev Decided : Type 0 → Type 0
Decided A = A ⊎ (A → ⊥)

both : {A B : Type 0} → Decided A → Decided B → Decided (A × B)
both a b = ⊎_elim (λ x. ⊎_elim (λ y. inl (x, y)) (λ n. inr (λ p. n p.1)) b) (λ n. inr (λ p. n p.0)) a

is_true : (b : Bool) → Decided (b ≡ true)
is_true b = elim b as (λ x. Decided (x ≡ true)) [ true ↦ inl refl | false ↦ inr (λ e. cc) ]

below : (m n : ℕ) → Decided (m < n)
below m n = ⊎_elim (λ l. inl l) (λ g. inr (λ l. omega arith)) (cases_lt m n)

named : (s : List ℕ) (i n : ℕ) → Decided (Names s i n × Negated s i)
named s i n = ⊎_elim
    (λ p. inl (record { letter = p.0.0; leads = p.0.1.0; is = p.0.1.1 }, p.1))
    (λ no. inr (λ p. no ((p.0.letter, (p.0.leads, p.0.is)), p.1)))
    (both
    (both (cases_eq (get_or s i 0) 80) (both (is_true (first_digit (get_or s (i + 1) 0))) (cases_eq n (run_value 0 (drop (i + 1) s)))))
    (both (below 0 i) (cases_eq (get_or s (i - 1) 0) 126)))

holding : (s : List ℕ) (i n : ℕ) → Decided ((j : ℕ) × Held s i n j)
holding s zero n = inr (λ h. omega (arith, h.1.before))
holding s (suc i) n =
    let z : suc i ≡ i + 1 = omega arith in
    rw z (⊎_elim
    (λ o. inr (λ h. held_none s i n h.0 o h.1))
    (λ o. ⊎_elim
    (λ h. inl (h.0, held_more s i n h.0 o h.1))
    (λ before. ⊎_elim
    (λ here. inl (i, held_here s i n here.0 here.1))
    (λ none. inr (λ h. ⊎_elim
    (λ (q : h.0 ≡ i). none (subst (λ k. Names s k n) q h.1.condition, subst (Negated s) q h.1.negated))
    (λ (q : h.0 ≡ i → ⊥). before (h.0, held_less s i n h.0 (omega (arith, h.1.before, q)) h.1))
    (cases_eq h.0 i)))
    (named s i n))
    (holding s i n))
    (cases_eq (get_or s i 0) 40))

-- a place in the body that is known to be there
pub held_at : (s : List ℕ) (i n : ℕ) → ∥ ((j : ℕ) × Held s i n j) ∥₁ → (j : ℕ) × Held s i n j
held_at s i n there = ⊎_elim (λ h. h) (λ no. absurd (not_there there no)) (holding s i n)

-- a condition is marked exactly where the body holds it
pub record Marked (s : List ℕ) (i : ℕ) (marks : List Bool) : Type 0 where
  pub size : length marks ≡ 1001
  pub held : (n j : ℕ) → n ≤ 1000 → Held s i n j → get_or marks n false ≡ true
  pub only : (n : ℕ) → get_or marks n false ≡ true → ∥ ((j : ℕ) × Held s i n j) ∥₁

unmarked : (k n : ℕ) → get_or (replicate k false) n false ≡ false
unmarked zero n = refl
unmarked (suc k) zero = refl
unmarked (suc k) (suc n) = unmarked k n

pub marked_none : (s : List ℕ) (i : ℕ) → ((n j : ℕ) → Held s i n j → ⊥) → Marked s i (replicate 1001 false)
marked_none s i none = record {
  size = refl;
  held = λ n j l h. absurd (none n j h);
  only = λ n e. absurd (let u = unmarked 1001 n in cc);
}

pub marked_start : (s : List ℕ) → Marked s 0 (replicate 1001 false)
marked_start s = marked_none s 0 (λ n j h. omega (arith, h.before))

module _ (s : List ℕ) (i : ℕ) (marks : List Bool) (m : Marked s i marks) where
  pub marked_open : get_or s i 0 ≡ 40 → Marked s (i + 1) (replicate 1001 false)
  marked_open o = marked_none s (i + 1) (λ n j h. held_none s i n j o h)

  module _ (o : get_or s i 0 ≡ 40 → ⊥) where
    pub marked_same : ((n : ℕ) → Names s i n → Negated s i → ⊥) → Marked s (i + 1) marks
    marked_same none = record {
      size = m.size;
      held = λ n j l x. ⊎_elim
          (λ (q : j ≡ i). absurd (none n (subst (λ k. Names s k n) q x.condition) (subst (Negated s) q x.negated)))
          (λ (q : j ≡ i → ⊥). m.held n j l (held_less s i n j (omega (arith, x.before, q)) x))
          (cases_eq j i);
      only = λ n e. let x = held_at s i n (m.only n e) in merely (x.0, held_more s i n x.0 o x.1);
    }

    pub marked_more : (n : ℕ) → Names s i n → n ≤ 1000 → Negated s i → Marked s (i + 1) (set marks n true)
    marked_more n c low neg = record {
      size = length-set marks n true ∙ m.size;
      held = λ k j l x. ⊎_elim
          (λ (q : k ≡ n). let l : n < length marks = omega (arith, m.size) in rw (q, get_or-set_same) refl)
          (λ (q : k ≡ n → ⊥). ⊎_elim
          (λ (p : j ≡ i). absurd (q (x.condition.is ∙ (ap (λ y. run_value 0 (drop (y + 1) s)) p ∙ sym c.is))))
          (λ (p : j ≡ i → ⊥). let ne : k ≢ n = q in rw get_or-set_other (m.held k j l (held_less s i k j (omega (arith, x.before, p)) x)))
          (cases_eq j i))
          (cases_eq k n);
      only = λ k e. ⊎_elim
          (λ (q : k ≡ n). merely (i, held_here s i k (subst (Names s i) (sym q) c) neg))
          (λ (q : k ≡ n → ⊥). let ne : k ≢ n = q in let x = held_at s i k (m.only k (rw get_or-set_other at e)) in merely (x.0, held_more s i k x.0 o x.1))
          (cases_eq k n);
    }

-- the same for a condition that was read
pub low_read : (s : List ℕ) (i r : ℕ) → Reads s i r → (IsTooGreat s i → ⊥) → Names s i r × (r ≤ 1000)
low_read s i r x small =
    let low : x.value ≤ 1000 = ⊎_elim (λ (q : 1000 < x.value). absurd (small (x.value, x.condition, q))) (λ (q : x.value ≤ 1000). q) (cases_lt 1000 x.value) in
    let same : x.value ≡ r = omega (arith, x.capped) in
    (subst (Names s i) same x.condition, omega arith)
