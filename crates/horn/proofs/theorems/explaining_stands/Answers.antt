use Rattle.horn.proofs.Explaining.{explaining}
use Rattle.horn.proofs.theorems.explaining_stands.Goals as goal

pub returns : goal.returns
returns c = explaining
