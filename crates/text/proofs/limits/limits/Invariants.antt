use Rattle.std.proofs.Common.{◌≡◌}
use Rattle.text.proofs.limits.limits.Given as goal

abbrev pub invariant-loop : goal.invariant-loop
invariant-loop l = (l.pass.text.now ≡ l.text) × (l.pass.place ≡ l.counter)
