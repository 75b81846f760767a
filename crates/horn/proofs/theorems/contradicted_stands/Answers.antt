use Rattle.horn.proofs.Entailment.{contradicted}
use Rattle.horn.proofs.theorems.contradicted_stands.Goals as goal

pub returns : goal.returns
returns c = contradicted
