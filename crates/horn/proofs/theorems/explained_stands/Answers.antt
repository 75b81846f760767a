use Rattle.horn.proofs.Entailment.{explained}
use Rattle.horn.proofs.theorems.explained_stands.Goals as goal

pub returns : goal.returns
returns c = explained
