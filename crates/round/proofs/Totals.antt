-- Sums over a range.
use Rattle.std.proofs.Common.{◌≡◌, ℕ, zero, suc, ◌+◌, ◌<◌, ◌≤◌, sym, refl, ap, arith}
use Rattle.std.proofs.lemmas.Bool.{cases_eq}
use Rattle.round.specs.Steps.{total}
use Rattle.round.proofs.Sets.{split}

pub total_same : (f g : ℕ → ℕ) (a n : ℕ) → ((j : ℕ) → a ≤ j → j < a + n → g j ≡ f j) → total g a n ≡ total f a n
total_same f g a zero h = refl
total_same f g a (suc n) h =
    omega (arith, total_same f g a n (λ j l k. h j l (omega arith)), h (a + n) (omega arith) (omega arith))

pub total_less : (f g : ℕ → ℕ) (a n x : ℕ) → a ≤ x → x < a + n → f x ≡ 1 → g x ≡ 0 → ((j : ℕ) → (j ≡ x → ⊥) → g j ≡ f j)
    → total g a n + 1 ≡ total f a n
total_less f g a zero x l k e d h = absurd (omega arith)
total_less f g a (suc n) x l k e d h = split (cases_eq x (a + n))
    (λ z. let u : f (a + n) ≡ f x = ap f (sym z) in let v : g (a + n) ≡ g x = ap g (sym z) in
    omega (arith, total_same f g a n (λ j p q. h j (omega arith))))
    (λ z. omega (arith, total_less f g a n x l (omega arith) e d h, h (a + n) (omega arith)))

pub total_zero : (f : ℕ → ℕ) (a n : ℕ) → total f a n ≡ 0 → (j : ℕ) → a ≤ j → j < a + n → f j ≡ 0
total_zero f a zero e j l k = absurd (omega arith)
total_zero f a (suc n) e j l k = split (cases_eq j (a + n))
    (λ z. let u : f j ≡ f (a + n) = ap f z in omega arith)
    (λ z. total_zero f a n (omega arith) j l (omega arith))

pub total_none : (f : ℕ → ℕ) (a n : ℕ) → ((j : ℕ) → a ≤ j → j < a + n → f j ≡ 0) → total f a n ≡ 0
total_none f a zero h = refl
total_none f a (suc n) h =
    omega (arith, total_none f a n (λ j l k. h j l (omega arith)), h (a + n) (omega arith) (omega arith))

pub total_ones : (a n : ℕ) → total (λ _. 1) a n ≡ n
total_ones a zero = refl
total_ones a (suc n) = omega (arith, total_ones a n)
