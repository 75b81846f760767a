use Rattle.horn.proofs.Growing.{growing}
use Rattle.horn.proofs.theorems.growing_stands.Goals as goal

pub returns : goal.returns
returns c = growing
