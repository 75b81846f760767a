use Rattle.round.proofs.Exact.{reports_exact}
use Rattle.round.proofs.theorems.reports_exact_stands.Goals as goal

pub returns : goal.returns
returns c = reports_exact
