use Rattle.std.proofs.Common.{ap, ◌∙◌}
use Rattle.std.specs.Option.{option_copied}
use Rattle.round.specs.Held.{held_rows}
use Rattle.round.proofs.Lookups.{not_found, found}
use Rattle.round.proofs.tables.Tables.body.Goals as goal

pub returns-in_err-end-clause-body : goal.returns-in_err-end-clause-body
returns-in_err-end-clause-body c =
    let t = c.args.self.now in
    let none = not_found t.conditions (held_rows t) t.rows c.deref.result.now c.deref.ensures.value c.args.i c.in_ok-k.field-0 c.in_ok-k.ensures c.in_err-end.ensures.lookup.3 in
    ap option_copied c.from_residual-in_err-end.ensures ∙ rw none

pub returns-clause-body : goal.returns-clause-body
returns-clause-body c =
    let t = c.args.self.now in
    let f = found t.conditions (held_rows t) t.rows c.deref.result.now c.deref.ensures.value c.args.i c.in_ok-k.field-0 c.in_ok-k.ensures _ _ c.index.ensures c.in_ok-end.ensures.lookup.3 in
    rw c.deref-2.ensures.value f.is
