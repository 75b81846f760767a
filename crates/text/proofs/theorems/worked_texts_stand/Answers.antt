use Rattle.text.proofs.Worked.{worked_texts}
use Rattle.text.proofs.theorems.worked_texts_stand.Goals as goal

pub returns : goal.returns
returns c = worked_texts
