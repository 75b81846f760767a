use Rattle.console.proofs.Once.{served_once}
use Rattle.console.proofs.theorems.served_once_stands.Goals as goal

pub returns : goal.returns
returns c = served_once
