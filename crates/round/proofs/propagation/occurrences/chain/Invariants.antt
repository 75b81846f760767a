use Rattle.round.specs.Occurrences.{Chained}
use Rattle.round.proofs.propagation.occurrences.chain.Given as goal

abbrev pub invariant-loop-j : goal.invariant-loop-j
invariant-loop-j l = Chained l.j l.places l.first l.next
