use Rattle.std.proofs.Common.{◌≡◌, ℕ, ◌+◌, ◌-◌, ◌*◌, ◌^◌, ◌<◌, ◌≤◌, ap, ◌∙◌, ap₂, arith}
use mir.Val.{bool_byte}
use Rattle.round.specs.Answers.{bits, up_to}
use Rattle.round.specs.Ranks.{ranked}
use Rattle.round.proofs.Rolls.{word_more, word_fits}
use Rattle.round.proofs.propagation.scan.Ranked.word.Goals as goal

-- what one turn makes
turn : (c : goal.After-from-bit) → c.loop-b.word * 2 + c.from-bit.result ≡ bits (up_to c.args.self.now.clauses.conditions (ranked c.args.self.now.rank.now)) (c.args.first + (c.loop-b.b - 1)) (32 - (c.loop-b.b - 1))
turn c = word_more (up_to c.args.self.now.clauses.conditions (ranked c.args.self.now.rank.now)) c.args.first c.loop-b.b c.loop-b.word c.from-bit.result (omega arith) (omega arith) c.loop-b.invariant (c.from-bit.ensures ∙ ap bool_byte c.holds.ensures)

fits : (c : goal.After-from-bit) → c.loop-b.word * 2 + c.from-bit.result < 2 ^ 32
fits c =
    let b : ℕ = c.loop-b.b - 1 in
    let few : 32 - b ≤ 32 = omega arith in
    omega (arith, turn c, word_fits (up_to c.args.self.now.clauses.conditions (ranked c.args.self.now.rank.now)) (c.args.first + b) (32 - b) few)

pub overflow_mul-word : goal.overflow_mul-word
overflow_mul-word c = omega (arith, fits c)

pub overflow_add-word : goal.overflow_add-word
overflow_add-word c = omega (arith, fits c)

pub loop-b-preserved : goal.loop-b-preserved
loop-b-preserved c = turn c

pub returns : goal.returns
returns c =
    let b : c.loop-b.b ≡ 0 = omega arith in
    let e : c.args.first + c.loop-b.b ≡ c.args.first = omega arith in
    let n : 32 - c.loop-b.b ≡ 32 = omega arith in
    c.loop-b.invariant ∙ ap₂ (bits (up_to c.args.self.now.clauses.conditions (ranked c.args.self.now.rank.now))) e n
