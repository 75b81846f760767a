use Rattle.std.proofs.Common.{◌∙◌, arith}
use Rattle.std.proofs.lemmas.Result.{err_from_is_err_and}
use Rattle.text.proofs.Sound.{longest}
use Rattle.text.proofs.Passes.{end_is, refused_at, outside_at, good_at}
use Rattle.text.proofs.judging.judge.Goals as goal

pub limits-requires : goal.limits-requires
limits-requires c =
    let s = c.args.text.now in
    let e = end_is s c.outside_at-outside.result c.outside_at-outside.ensures in
    let w = (longest s).within in
    record { within = omega (arith, c.unwrap_or-end.ensures, e); short = c.if-text-gt-MAX_TEXT.false }

pub returns-in_err-counts : goal.returns-in_err-counts
returns-in_err-counts c =
    let s = c.args.text.now in
    let e = end_is s c.outside_at-outside.result c.outside_at-outside.ensures in
    let r = err_from_is_err_and c.from_residual.result c.from_residual.ensures.1 in
    rw (r.1, r.2) (refused_at s c.unwrap_or-end.result (c.unwrap_or-end.ensures ∙ e) c.if-text-gt-MAX_TEXT.false _ c.in_err-counts.ensures)

pub returns-in-None : goal.returns-in-None
returns-in-None c =
    let s = c.args.text.now in
    let e = end_is s c.outside_at-outside.result c.outside_at-outside.ensures in
    let l = c.in_ok-counts.ensures in
    (c.if-text-gt-MAX_TEXT.false, good_at s c.unwrap_or-end.result (c.unwrap_or-end.ensures ∙ e) c.in-None.ensures c.in_ok-counts.counts l.0 l.1)

pub returns-in-Some : goal.returns-in-Some
returns-in-Some c =
    let s = c.args.text.now in
    let e = end_is s c.outside_at-outside.result c.outside_at-outside.ensures in
    (c.if-text-gt-MAX_TEXT.false, outside_at s c.in-Some.place c.in-Some.ensures.0 c.in-Some.ensures.1 (λ j l. c.in_ok-counts.ensures.0 j (omega (arith, c.unwrap_or-end.ensures, e, c.in-Some.ensures.0))))
