use Rattle.text.proofs.Accepted.{accepted_exactly}
use Rattle.text.proofs.theorems.accepted_stands.Goals as goal

pub returns : goal.returns
returns c = accepted_exactly
