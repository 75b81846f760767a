use Rattle.horn.proofs.Lawfulness.{satisfiable_tested}
use Rattle.round.specs.Sound.{round_sheet, round_lawful}
use Rattle.round.proofs.theorems.satisfied_stands.Goals as goal

pub returns : goal.returns
returns c = λ r. (satisfiable_tested (round_sheet r) (round_lawful r).lawful).0 r.ok.unbroken
