use Rattle.horn.proofs.Entailment.{decided}
use Rattle.horn.proofs.theorems.decided_stands.Goals as goal

pub returns : goal.returns
returns c = decided
