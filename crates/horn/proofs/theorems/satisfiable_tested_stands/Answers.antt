use Rattle.horn.proofs.Lawfulness.{satisfiable_tested}
use Rattle.horn.proofs.theorems.satisfiable_tested_stands.Goals as goal

pub returns : goal.returns
returns c = satisfiable_tested
