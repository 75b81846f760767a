use Rattle.std.proofs.Common.{ap, ◌∙◌}
use Rattle.std.specs.List.{slice_get}
use Rattle.round.specs.Held.{held_rows}
use Rattle.round.proofs.Lookups.{copied_is, outcome_found}
use Rattle.round.proofs.tables.Tables.outcome.Goals as goal

pub returns : goal.returns
returns c =
    let t = c.args.self.now in
    c.copied.ensures
    ∙ copied_is c.deref.result.now c.in_ok-k.field-0 c.get.result c.get.ensures.lookup.0 c.get.ensures.lookup.1
    ∙ ap (λ xs. slice_get xs c.in_ok-k.field-0) c.deref.ensures.value
    ∙ outcome_found t.conditions (held_rows t) c.args.i c.in_ok-k.field-0 c.in_ok-k.ensures
