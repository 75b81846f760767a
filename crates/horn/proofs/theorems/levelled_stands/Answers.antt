use Rattle.horn.proofs.Entailment.{levelled}
use Rattle.horn.proofs.theorems.levelled_stands.Goals as goal

pub returns : goal.returns
returns c = levelled
