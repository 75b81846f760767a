use Rattle.std.proofs.Common.{refl, inr, ⊎_elim, arith}
use Rattle.text.proofs.limits.Pass.check.Goals as goal

pub returns-then-is_too_many : goal.returns-then-is_too_many
returns-then-is_too_many c =
    let w = c.in_ok-check_condition.ensures in
    record {
      place = refl;
      limit = inr (inr (refl, c.if-is_too_many.ensures));
      least = λ g l. ⊎_elim (λ p. absurd (w.0 p.1)) (⊎_elim (λ p. absurd (w.1 p.1)) (λ p. omega (arith, p.0))) l;
    }

pub returns : goal.returns
returns c = let w = c.in_ok-check_condition.ensures in λ g. ⊎_elim (λ p. w.0 p.1) (⊎_elim (λ p. w.1 p.1) (λ p. c.if-is_too_many.ensures p.1))
