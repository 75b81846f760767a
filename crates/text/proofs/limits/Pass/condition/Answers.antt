use Rattle.std.proofs.Common.{subst}
use Rattle.text.specs.Limits.{Read}
use Rattle.text.proofs.Numbers.{read_at}
use Rattle.text.proofs.limits.Pass.condition.Goals as goal

pub returns : goal.returns
returns c = read_at c.args.self.now.text.now c.args.self.now.place c.condition.result (subst (λ rest. Read rest 0 c.condition.result) c.rest.ensures c.condition.ensures)
