use Rattle.horn.proofs.Places.{in_first, in_second}
use Rattle.horn.proofs.joined.Joined.past_first.Goals as goal

pub returns-then-i-n : goal.returns-then-i-n
returns-then-i-n g c =
    in_first (g.A.Source.sheet c.args.self.now.first) (g.B.Source.sheet c.args.self.now.second) c.clauses-n.result c.args.i c.clauses-n.ensures c.ranges.i.fits c.if-i-n.true

pub returns-else-i-n : goal.returns-else-i-n
returns-else-i-n g c =
    in_second (g.A.Source.sheet c.args.self.now.first) (g.B.Source.sheet c.args.self.now.second) c.clauses-n.result c.args.i c.clauses-n.ensures c.ranges.i.fits c.if-i-n.false
