use Rattle.std.proofs.Common.{length, string_bytes}
use Rattle.console.specs.Serving.{SoFar}
use Rattle.console.proofs.serving.serve.Given as goal

abbrev pub invariant-loop-taken : goal.invariant-loop-taken
invariant-loop-taken l = SoFar l.bytes l.rest (string_bytes l.out) l.desk

abbrev pub decreases-loop-taken : goal.decreases-loop-taken
decreases-loop-taken l = length l.rest
