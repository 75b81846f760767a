use Rattle.round.proofs.Examples.{worked_run}
use Rattle.round.proofs.theorems.worked_run_stands.Goals as goal

pub returns : goal.returns
returns c = worked_run
