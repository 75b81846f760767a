use Rattle.horn.proofs.Entailment.{closed}
use Rattle.horn.proofs.theorems.closed_stands.Goals as goal

pub returns : goal.returns
returns c = closed
