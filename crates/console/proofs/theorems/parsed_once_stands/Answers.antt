use Rattle.console.proofs.Once.{parsed_once}
use Rattle.console.proofs.theorems.parsed_once_stands.Goals as goal

pub returns : goal.returns
returns c = parsed_once
