use Rattle.round.specs.Rows.{Rows}
use Rattle.round.specs.Lending.{rows_of}
use Rattle.round.proofs.Turns.{none_queued, none_counted}
use Rattle.round.proofs.propagation.levels.Levels.seed.Goals as goal

pub loop-c-init : goal.loop-c-init
loop-c-init c =
    let t : Rows = rows_of c.args.clauses in
    let e = c.clear.ensures in
    record { size = e.size; queued = none_queued t _ _ e.unranked e.queue; counted = none_counted t _ _ _ e.queue }
