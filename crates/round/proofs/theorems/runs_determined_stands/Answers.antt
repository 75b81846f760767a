use Rattle.round.proofs.Choosing.{runs_determined}
use Rattle.round.proofs.theorems.runs_determined_stands.Goals as goal

pub returns : goal.returns
returns c = runs_determined
