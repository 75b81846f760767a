use Rattle.horn.proofs.Forced.{forced}
use Rattle.horn.proofs.theorems.forced_stands.Goals as goal

pub returns : goal.returns
returns c = forced
