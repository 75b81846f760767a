use Rattle.round.specs.Lending.{rows_of}
use Rattle.round.specs.Levels.{Between}
use Rattle.round.proofs.propagation.levels.Levels.seed.Given as goal

abbrev pub invariant-loop-c : goal.invariant-loop-c
invariant-loop-c l = Between (rows_of l.clauses) l.c l.self 0 0 0 0 0 0
