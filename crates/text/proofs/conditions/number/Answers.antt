use Rattle.std.proofs.Common.{◌∙◌, sym, arith}
use Rattle.text.proofs.Numbers.{digit_more}
use Rattle.text.proofs.conditions.number.Goals as goal

pub loop-byte-preserved : goal.loop-byte-preserved
loop-byte-preserved c =
    let e = digit_more c.loop-byte.value c.args.bytes.now c.loop-byte.byte-index c.loop-byte-test.true (sym c.if-not-is_ascii_digit.ensures.value) c.min-value.result (omega (arith, c.min-value.ensures, c.from.ensures)) in
    (omega arith, e ∙ c.loop-byte.invariant.1)
