use Rattle.std.proofs.Common.{◌≡◌, ◌≤◌, length, take, vec_items, vec_len, vec_capacity}
use Rattle.round.specs.Events.{Replied}
use Rattle.round.specs.Sound.{position}
use Rattle.round.proofs.sound.Round.run.Given as goal

abbrev pub invariant-loop-call : goal.invariant-loop-call
invariant-loop-call l = record {
  replied : Replied (position l.initial.self) (take l.call-index l.calls) (vec_items l.events) (position l.self);
  count : vec_len l.events ≡ l.call-index;
  room : length l.calls ≤ vec_capacity l.events;
}
