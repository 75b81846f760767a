use Rattle.text.proofs.Pinned.{one_answer}
use Rattle.text.proofs.theorems.one_answer_stands.Goals as goal

pub returns : goal.returns
returns c = one_answer
