use Rattle.std.proofs.Common.{length, ap, arith, sym}
use Rattle.text.proofs.Scan.{literals_none, literals_close, one_literal}
use Rattle.text.proofs.in_place.literals.LiteralsIterator.next.Goals as goal

pub returns-in_err-place-clause-steps : goal.returns-in_err-place-clause-steps
returns-in_err-place-clause-steps c =
    let e = literals_none c.args.self.now.rest.now (sym c.in_err-place.ensures) in
    rw c.from_residual.ensures (e, e)

pub returns-then-self-place-eq41-clause-steps : goal.returns-then-self-place-eq41-clause-steps
returns-then-self-place-eq41-clause-steps c =
    let e = literals_close c.args.self.now.rest.now c.in_ok-place.place (sym c.in_ok-place.ensures) c.if-self-place-eq41.true in
    (e, e)

pub returns : goal.returns
returns c =
    let e = one_literal c.args.self.now.rest.now c.in_ok-place.place (sym c.in_ok-place.ensures) c.if-self-place-eq41.false c.split_at.result.0.now c.split_at.result.1.now c.split_at.ensures.front c.split_at.ensures.back c.ends_negated.result c.ends_negated.ensures in
    record { steps = cc; goes = record { on = λ _. (tt, tt, omega (arith, ap length e)); keeps = tt; rests = λ _. tt } }
