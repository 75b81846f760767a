use Rattle.horn.proofs.Entailment.{entailed}
use Rattle.horn.proofs.theorems.entailed_stands.Goals as goal

pub returns : goal.returns
returns c = entailed
