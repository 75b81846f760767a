use Rattle.std.proofs.Common.{ℕ, ◌<◌, cond, eqb, List, length, ap, ◌∙◌, arith}
use Rattle.std.proofs.lemmas.List.{take_all}
use Rattle.horn.specs.Sheets.{any_of}
use Rattle.round.specs.Rows.{at}
use Rattle.round.proofs.Needed.{body_more}
use Rattle.round.proofs.propagation.scan.Ranked.mark_body.Goals as goal

pub loop-p-preserved : goal.loop-p-preserved
loop-p-preserved c =
    let body : List ℕ = c.body-p-items.result.now in
    let in_table : at body c.loop-p.p-index < length c.loop-p.marks = omega (arith, c.body-p-items.ensures.conditions c.loop-p.p-index 0 (omega arith)) in
    body_more c.args.self.now.rank.now c.args.marks.now c.loop-p.marks body c.loop-p.p-index c.loop-p-test.true in_table c.loop-p.invariant

pub returns : goal.returns
returns c = λ p.
    let body : List ℕ = c.body-p-items.result.now in
    c.loop-p.invariant p
    ∙ ap (λ (ps : List ℕ). cond (any_of (λ b. eqb b p) ps) (at c.args.self.now.rank.now p) (at c.args.marks.now p))
    (take_all c.loop-p.p-index body c.loop-p-test.false ∙ c.body-p-items.ensures.body)
