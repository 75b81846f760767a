use Rattle.std.proofs.Common.{length, ap, arith}
use Rattle.text.proofs.Starts.{same_length}
use Rattle.text.proofs.in_place.questions.TextSheetSource.clauses.Goals as goal

pub overflow_cast-result : goal.overflow_cast-result
overflow_cast-result c = let t = c.args.self.now in omega (arith, t.starts.ok.0, ap length t.placed, same_length 0 t.bytes.now, t.few)

pub returns : goal.returns
returns c = let t = c.args.self.now in omega (arith, t.starts.ok.0, ap length t.placed, same_length 0 t.bytes.now)
