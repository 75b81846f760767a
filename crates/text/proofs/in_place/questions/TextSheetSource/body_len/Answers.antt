use Rattle.std.proofs.Common.{false, Some, length, rules, tests, sym, refl, ap, ◌∙◌}
use Rattle.std.specs.List.{filter}
use Rattle.std.specs.Option.{option_map}
use Rattle.std.proofs.lemmas.List.{length-map}
use Rattle.std.proofs.lemmas.Iterator.Consumers.{YieldsList-at, YieldsList-from_first, YieldsList-from_filter, count_from_yields_List}
use Rattle.text.specs.Literals.{literals_in, seen, is_negated, number_of}
use Rattle.text.specs.Verdicts.{conditions_in}
use Rattle.text.proofs.in_place.questions.TextSheetSource.body_len.Goals as goal

pub returns : goal.returns
returns c =
    let ls = literals_in false c.in_ok-literals.field-0.rest.now in
    let counted = count_from_yields_List c.filter-body.result c.count.result c.count.ensures.ran (YieldsList-from_filter _ is_negated (YieldsList-at c.filter-body.ensures.source (YieldsList-from_first seen (λ s. literals_in false s.rest.now) ls refl)) c.filter-body.ensures.closure (λ x b q k. search (rules, tests))) in
    ap Some (counted ∙ sym (length-map (filter is_negated ls) number_of))
    ∙ sym (ap (option_map (λ x. length x.body)) (c.in_ok-literals.ensures.1 (conditions_in c.args.self.now.verdict)))
