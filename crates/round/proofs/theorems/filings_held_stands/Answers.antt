use Rattle.std.proofs.Common.{sym}
use Rattle.round.specs.Sound.{round_is}
use Rattle.round.proofs.theorems.filings_held_stands.Goals as goal

pub returns : goal.returns
returns c = λ r. sym (round_is r)
