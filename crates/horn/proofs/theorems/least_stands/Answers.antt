use Rattle.horn.proofs.Forced.{least_set}
use Rattle.horn.proofs.theorems.least_stands.Goals as goal

pub returns : goal.returns
returns c = least_set
