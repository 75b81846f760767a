use Rattle.text.proofs.Meaning.{one_meaning}
use Rattle.text.proofs.theorems.one_meaning_stands.Goals as goal

pub returns : goal.returns
returns c = λ s t u. one_meaning t u s
