use Rattle.std.proofs.Common.{◌≡◌, ◌+◌, drop}
use Rattle.text.specs.declared.states.State.TheVariants.{Start}
use Rattle.text.specs.States.{reach, accepts}
use Rattle.text.proofs.states.outside_at.Given as goal

abbrev pub invariant-loop-place : goal.invariant-loop-place
invariant-loop-place l = (l.place + reach l.state (drop l.place l.text) ≡ reach Start l.text) × (accepts l.state (drop l.place l.text) ≡ accepts Start l.text)
