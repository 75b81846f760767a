use Rattle.std.proofs.Common.{◌≡◌, ◌≤◌, min, drop}
use Rattle.text.specs.Judging.{run_value}
use Rattle.text.proofs.conditions.number.Given as goal

abbrev pub invariant-loop-byte : goal.invariant-loop-byte
invariant-loop-byte l = (l.value ≤ 1001) × (min 1001 (run_value l.value (drop l.byte-index l.bytes)) ≡ min 1001 (run_value 0 l.bytes))
