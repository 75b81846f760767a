use Rattle.std.proofs.Common.{◌≡◌, sym, subst, rules, arith}
use Rattle.std.proofs.lemmas.Result.{err_from_is_err_and}
use Rattle.text.specs.Limits.{Clear, Counted, First}
use Rattle.text.proofs.Counting.{counted}
use Rattle.text.proofs.Marks.{Marked, marked_start}
use Rattle.text.proofs.limits.limits.Goals as goal

pub invariant_of-pass : goal.invariant_of-pass
invariant_of-pass c =
    let s = c.args.text.now in
    let m = subst (Marked s 0) (sym c.new.ensures) (marked_start s) in
    record {
      short = c.requires.short;
      within = omega arith;
      clear = λ j l. absurd (omega arith);
      clauses = search rules;
      literals = search rules;
      greatest = omega arith;
      low = omega arith;
      size = m.size;
      held = m.held;
      only = m.only;
    }

pub returns-in_err-step : goal.returns-in_err-step
returns-in_err-step c =
    let pass = c.loop.pass in
    let r = err_from_is_err_and c.from_residual.result c.from_residual.ensures.1 in
    rw (r.1, r.2)
    (subst (λ s. First s c.args.end c.in_err-step.field-0.0) c.loop.invariant.0 (record { at = pass.place; within = omega arith; is = c.in_err-step.ensures.lowest; clear = pass.clear }))

pub returns : goal.returns
returns c =
    let pass = c.loop.pass in
    let e : pass.place ≡ c.args.end = omega arith in
    subst (λ i. Clear c.args.text.now i × Counted c.args.text.now i pass.counts) e
    (subst (λ s. Clear s pass.place × Counted s pass.place pass.counts) c.loop.invariant.0
    (pass.clear, counted pass.text.now pass.place pass.counts pass.clauses pass.literals pass.greatest pass.low))
