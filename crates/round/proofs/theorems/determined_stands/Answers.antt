use Rattle.round.proofs.Choosing.{determined}
use Rattle.round.proofs.theorems.determined_stands.Goals as goal

pub returns : goal.returns
returns c = determined
