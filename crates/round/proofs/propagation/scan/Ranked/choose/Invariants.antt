use Rattle.round.specs.Lending.{rows_of}
use Rattle.round.specs.Needed.{ChosenFrom}
use Rattle.round.proofs.propagation.scan.Ranked.choose.Given as goal

abbrev pub invariant-loop-c : goal.invariant-loop-c
invariant-loop-c l = ChosenFrom (rows_of l.self.clauses) l.self.rank.now l.c l.chosen
