use Rattle.round.specs.Rows.{at}
use Rattle.round.specs.Lending.{rows_of}
use Rattle.round.specs.Occurrences.{Owned}
use Rattle.round.proofs.propagation.occurrences.own.Given as goal

abbrev pub invariant-loop-c : goal.invariant-loop-c
invariant-loop-c l = Owned (rows_of l.clauses) l.c (at l.clauses.starts.now l.c) l.owner
