use Rattle.std.proofs.Common.{◌≡◌, ◌+◌, ◌-◌, ltb, drop, take, rules, ap, ◌∙◌, arith}
use Rattle.std.specs.List.{count_by}
use Rattle.round.proofs.Listing.{marks_counted}
use Rattle.round.proofs.explaining.count_marked.Goals as goal

pub returns : goal.returns
returns c =
    let marks = c.args.marks.now in
    let counted : c.count.result ≡ count_by (λ x. ltb 0 x) (take (c.args.top + 1 - 1) (drop 1 marks)) = search rules in
    counted ∙ ap (λ k. count_by (λ x. ltb 0 x) (take k (drop 1 marks))) (omega arith) ∙ marks_counted marks c.args.top (omega arith)
