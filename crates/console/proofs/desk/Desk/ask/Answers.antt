use Rattle.std.proofs.Common.{rules}
use Rattle.console.proofs.desk.Desk.ask.Goals as goal

pub returns-in_err-ask : goal.returns-in_err-ask
returns-in_err-ask c = rw (← c.self.view_is) (search rules)

pub returns : goal.returns
returns c = rw (← c.self.view_is) (search rules)
