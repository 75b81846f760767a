use Rattle.std.proofs.Common.{◌∙◌}
use Rattle.horn.specs.Sheets.{clause_at}
use Rattle.round.specs.Held.{held_sheet}
use Rattle.round.proofs.Lookups.{copied_is, place_found}
use Rattle.round.proofs.tables.Tables.body_at.Goals as goal

pub returns : goal.returns
returns c =
    c.copied.ensures
    ∙ copied_is c.in_ok-body.body.now c.in_ok-k.field-0 c.get.result c.get.ensures.lookup.0 c.get.ensures.lookup.1
    ∙ place_found (clause_at (held_sheet c.args.self.now) c.args.i) c.in_ok-body.body.now c.args.j c.in_ok-k.field-0 c.in_ok-body.ensures.body c.in_ok-k.ensures
