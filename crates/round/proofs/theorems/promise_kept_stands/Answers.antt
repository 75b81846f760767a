use Rattle.round.proofs.Promise.{promise_kept}
use Rattle.round.proofs.theorems.promise_kept_stands.Goals as goal

pub returns : goal.returns
returns c = promise_kept
