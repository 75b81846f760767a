use Rattle.horn.proofs.Entailment.{ranked}
use Rattle.horn.proofs.theorems.ranked_stands.Goals as goal

pub returns : goal.returns
returns c = ranked
