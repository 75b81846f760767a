use Rattle.horn.proofs.Lawfulness.{lawful_tested}
use Rattle.horn.proofs.theorems.lawful_tested_stands.Goals as goal

pub returns : goal.returns
returns c = lawful_tested
