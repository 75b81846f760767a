use Rattle.std.proofs.Common.{◌≡◌, ℕ, ◌≤◌, min, false, [], Some, None, Option, MatchOption, rules, tests, sym, refl, ap, ◌∙◌, arith}
use Rattle.std.specs.Option.{option_map}
use Rattle.std.proofs.lemmas.Iterator.Consumers.{YieldsList-at, YieldsList-from_first, YieldsList-from_filter, nth_from_yields_List}
use Rattle.horn.specs.Sheets.{outcome_number}
use Rattle.text.specs.declared.in_place.literals.Literal.{Literal}
use Rattle.text.specs.Limits.{lead_value}
use Rattle.text.specs.Literals.{literals_in, seen, is_outcome, number_of}
use Rattle.text.specs.Verdicts.{conditions_in}
use Rattle.text.proofs.in_place.questions.TextSheetSource.outcome.Goals as goal

-- `next` is `nth` at 0
at_once : (r : Option Literal) → MatchOption r (0 ≤ 0) (λ _. ◌≡◌ {A = ℕ} 0 0)
at_once None = omega arith
at_once (Some x) = refl

number : (r : Option Literal) (n : ℕ) → MatchOption r (n ≡ 0) (λ x. n ≡ min 1001 (lead_value x.digits.now)) → n ≡ outcome_number (option_map number_of (option_map seen r))
number None n e = e
number (Some x) n e = e

pub returns : goal.returns
returns c =
    let ls = literals_in false c.in_ok-literals.field-0.rest.now in
    let found = nth_from_yields_List c.next.result c.next.new.self 0 ([], (c.filter-outcomes.result, refl, c.next.ensures.steps), at_once c.next.result) (YieldsList-from_filter _ is_outcome (YieldsList-at c.filter-outcomes.ensures.source (YieldsList-from_first seen (λ s. literals_in false s.rest.now) ls refl)) c.filter-outcomes.ensures.closure (λ x b q k. search (rules, tests))) in
    let e = number c.next.result c.map_or.result (search rules) in
    ap Some (e ∙ ap (λ o. outcome_number (option_map number_of o)) found)
    ∙ sym (ap (option_map (λ x. outcome_number x.outcome)) (c.in_ok-literals.ensures.1 (conditions_in c.args.self.now.verdict)))
