use Rattle.horn.proofs.Growing.{bans_add_nothing}
use Rattle.horn.proofs.theorems.bans_add_nothing_stands.Goals as goal

pub returns : goal.returns
returns c = bans_add_nothing
