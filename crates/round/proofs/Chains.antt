-- The chains of places, one place more.
use Rattle.std.proofs.Common.{◌≡◌, ℕ, ◌+◌, ◌-◌, ◌<◌, List, length, set, sym, ap, ◌∙◌, arith}
use Rattle.std.proofs.lemmas.Bool.{cases_lt, cases_eq}
use Rattle.round.specs.Rows.{at}
use Rattle.round.specs.Occurrences.{Chained}
use Rattle.round.proofs.Sets.{at_same, at_other, split}

pub chained_more : (places first next : List ℕ) (j : ℕ) → Chained j places first next → at places j < length first → j < length next
    → Chained (j + 1) places (set first (at places j) (j + 1)) (set next j (at first (at places j)))
chained_more places first next j c low room = record {
  last = λ q i h l. split (cases_eq q p)
      (λ e. absurd (omega (arith, own_first q e)))
      (λ ne. split (cases_lt i j)
      (λ k. c.last q i (omega (arith, other_first q ne)) k)
      (λ k z. ne (sym z ∙ ap (at places) (omega arith))));
  starts_at = λ q h. split (cases_eq q p)
      (λ e. let f = own_first q e in (omega arith, ap (λ (x : ℕ). at places (x - 1)) f ∙ ap (at places) (omega arith) ∙ sym e))
      (λ ne. let f = other_first q ne in let old = c.starts_at q (omega arith) in (omega arith, ap (λ (x : ℕ). at places (x - 1)) f ∙ old.1));
  before = λ i l. split (cases_eq i j)
      (λ e. split (cases_lt 0 (at first p)) (λ k. omega (arith, own_next i e, (c.starts_at p k).0)) (λ k. omega (arith, own_next i e)))
      (λ ne. omega (arith, other_next i ne, c.before i (omega arith)));
  between = λ i k l h n z. split (cases_eq i j)
      (λ e. c.last p k (omega (arith, own_next i e)) (omega arith) (z ∙ ap (at places) e))
      (λ ne. c.between i k (omega arith) (omega (arith, other_next i ne)) n z);
  goes_on = λ i l h. split (cases_eq i j)
      (λ e. ap (λ (x : ℕ). at places (x - 1)) (own_next i e) ∙ (c.starts_at p (omega (arith, own_next i e))).1 ∙ ap (at places) (sym e))
      (λ ne. ap (λ (x : ℕ). at places (x - 1)) (other_next i ne) ∙ c.goes_on i (omega arith) (omega (arith, other_next i ne)));
}
  where
    p : ℕ
    p = at places j

    own_first : (q : ℕ) → q ≡ p → at (set first p (j + 1)) q ≡ j + 1
    own_first q e = at_same first p (j + 1) q low e

    other_first : (q : ℕ) → (q ≡ p → ⊥) → at (set first p (j + 1)) q ≡ at first q
    other_first q ne = at_other first p (j + 1) q ne

    own_next : (i : ℕ) → i ≡ j → at (set next j (at first p)) i ≡ at first p
    own_next i e = at_same next j (at first p) i room e

    other_next : (i : ℕ) → (i ≡ j → ⊥) → at (set next j (at first p)) i ≡ at next i
    other_next i ne = at_other next j (at first p) i ne
