use Rattle.std.proofs.Common.{◌≡◌, ◌*◌, ◌++◌, drop}
use Rattle.horn.specs.Levels.{how_many}
use Rattle.round.specs.Answers.{words_of, up_to}
use Rattle.round.specs.Ranks.{ranked}
use Rattle.round.proofs.propagation.scan.Ranked.write_roll.Given as goal

abbrev pub invariant-loop-w : goal.invariant-loop-w
invariant-loop-w l =
    (l.count ≡ how_many (up_to l.self.clauses.conditions (ranked l.self.rank.now)) (32 * l.w))
    × (l.roll ≡ words_of (up_to l.self.clauses.conditions (ranked l.self.rank.now)) l.w ++ drop l.w l.initial.roll)
