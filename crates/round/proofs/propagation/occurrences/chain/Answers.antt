use Rattle.std.proofs.Common.{arith}
use Rattle.round.proofs.Chains.{chained_more}
use Rattle.round.proofs.propagation.occurrences.chain.Goals as goal

pub loop-j-preserved : goal.loop-j-preserved
loop-j-preserved c =
    chained_more c.args.places.now c.loop-j.first c.loop-j.next c.loop-j.j c.loop-j.invariant
    (omega (arith, c.requires.conditions c.loop-j.j c.loop-j-test.true)) (omega (arith, c.requires.few))
