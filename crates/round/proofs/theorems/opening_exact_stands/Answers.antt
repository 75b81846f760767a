use Rattle.round.proofs.Exact.{opening_exact}
use Rattle.round.proofs.theorems.opening_exact_stands.Goals as goal

pub returns : goal.returns
returns c = opening_exact
