use Rattle.std.proofs.Common.{◌≡◌, ◌+◌, ◌-◌, ◌<◌, ◌≤◌, length, vec_items}
use Rattle.round.specs.Rows.{at}
use Rattle.round.specs.Occurrences.{cursor}
use Rattle.round.specs.Lending.{rows_of}
use Rattle.round.specs.Levels.{Between}
use Rattle.round.proofs.propagation.levels.Levels.discharge.Given as goal

-- The places of the condition at the head past the next one are visited.
pub record Inv (l : goal.Live-loop-next) : Type 0 where
  pub here : at (vec_items l.self.reached.queue) l.front.head ≡ at (vec_items l.initial.self.reached.queue) l.front.head
  pub there : l.front.head < length (vec_items l.self.reached.queue)
  pub room : (cursor l.next) ≤ length l.clauses.places.now
  pub place : 0 < (cursor l.next) → at l.clauses.places.now ((cursor l.next) - 1) ≡ at (vec_items l.initial.self.reached.queue) l.front.head
  pub between : Between (rows_of l.clauses) (length l.clauses.outcomes.now) l.self l.front.head l.front.end l.front.level (l.front.head + 1)
      (at (vec_items l.initial.self.reached.queue) l.front.head) (cursor l.next)

abbrev pub invariant-loop-next : goal.invariant-loop-next
invariant-loop-next l = Inv l

abbrev pub decreases-loop-next : goal.decreases-loop-next
decreases-loop-next l = cursor l.next
