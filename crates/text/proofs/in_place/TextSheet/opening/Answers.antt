use Rattle.std.proofs.Common.{◌∙◌, arith}
use Rattle.text.proofs.Starts.{kept_none, kept_some}
use Rattle.text.proofs.in_place.TextSheet.opening.Goals as goal

pub returns-in_err-place : goal.returns-in_err-place
returns-in_err-place c =
    let t = c.args.self.now in
    rw c.from_residual-in_err-place.ensures
    (kept_none t.bytes.now c.deref.result.now (c.deref.ensures.value ∙ t.placed) c.args.i c.in_ok-checked_sub.field-0 (omega (arith, c.in_ok-checked_sub.ensures)) c.in_err-place.ensures.lookup.0)

pub returns : goal.returns
returns c =
    let t = c.args.self.now in
    rw c.from-2.ensures
    (kept_some t.bytes.now c.deref.result.now (c.deref.ensures.value ∙ t.placed) c.args.i c.in_ok-checked_sub.field-0 (omega (arith, c.in_ok-checked_sub.ensures)) c.in_ok-place.place.now c.in_ok-place.ensures.lookup.0 c.in_ok-place.ensures.lookup.1)
