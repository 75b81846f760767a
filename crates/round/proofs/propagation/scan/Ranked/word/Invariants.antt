use Rattle.std.proofs.Common.{◌≡◌, ◌+◌, ◌-◌}
use Rattle.round.specs.Answers.{bits, up_to}
use Rattle.round.specs.Ranks.{ranked}
use Rattle.round.proofs.propagation.scan.Ranked.word.Given as goal

abbrev pub invariant-loop-b : goal.invariant-loop-b
invariant-loop-b l = l.word ≡ bits (up_to l.self.clauses.conditions (ranked l.self.rank.now)) (l.first + l.b) (32 - l.b)
