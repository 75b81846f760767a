use Rattle.horn.proofs.Bans.{lowest_found}
use Rattle.horn.proofs.theorems.lowest_found_stands.Goals as goal

pub returns : goal.returns
returns c = lowest_found
