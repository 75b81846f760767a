use Rattle.std.proofs.Common.{◌-◌, ◌≤◌, length}
use Rattle.round.specs.Lending.{rows_of}
use Rattle.round.specs.Levels.{Between}
use Rattle.round.proofs.propagation.levels.Levels.spread.Given as goal

pub record Inv (l : goal.Live-loop-front) : Type 0 where
  pub few : l.front.level ≤ l.front.head
  pub between : Between (rows_of l.clauses) (length l.clauses.outcomes.now) l.self l.front.head l.front.end l.front.level l.front.head 0 0

abbrev pub invariant-loop-front : goal.invariant-loop-front
invariant-loop-front l = Inv l

abbrev pub decreases-loop-front : goal.decreases-loop-front
decreases-loop-front l = 1001 - l.front.head
