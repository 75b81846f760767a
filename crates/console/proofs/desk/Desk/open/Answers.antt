use Rattle.std.proofs.Common.{refl, rules}
use Rattle.console.proofs.desk.Desk.open.Goals as goal

pub returns-in_err-open : goal.returns-in_err-open
returns-in_err-open c =
    let o = c.in_err-open.ensures in
    rw (← c.self.view_is) (record { answer = _; opens = o.answer; reply = search rules; holds = o.left }, refl, refl)

pub returns : goal.returns
returns c =
    let o = c.in_ok-open.ensures in
    rw (← c.self.view_is) (record { answer = _; opens = o.answer; reply = refl; holds = o.left }, refl, refl)
