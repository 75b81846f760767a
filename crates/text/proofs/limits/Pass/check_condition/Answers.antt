use Rattle.std.proofs.Common.{◌≡◌, refl, sym, subst, inl, inr, ⊎_elim, arith}
use Rattle.text.specs.Judging.{Names}
use Rattle.text.proofs.Marks.{held_at}
use Rattle.text.proofs.limits.Pass.check_condition.Goals as goal

pub returns-in_default : goal.returns-in_default
returns-in_default c = let none = c.in_default.ensures in (λ t. none t.0 t.1, λ t. none t.0 t.1)

pub returns-then-contains : goal.returns-then-contains
returns-then-contains c =
    let pass = c.args.self.now in
    let s = pass.text.now in
    let i = pass.place in
    let n = c.in-Some.condition in
    let r = c.in-Some.ensures in
    let low = c.if-condition-gt-MAX_CONDITION.false in
    let e : r.value ≡ n = omega (arith, r.capped) in
    let named = subst (Names s i) e r.condition in
    record {
      place = refl;
      limit = inr (inl (refl, (n, named, c.if-is_negated.ensures, held_at s i n (pass.only n (sym c.if-contains.ensures)))));
      least = λ g l. ⊎_elim (λ h. absurd (omega (arith, h.1.1.is, h.1.2, named.is))) (⊎_elim (λ h. omega (arith, h.0)) (λ h. omega (arith, h.0))) l;
    }
