use Rattle.std.proofs.Common.{◌≡◌, ℕ, suc, Bool, false, List, map, Some, Option, rules, tests, sym, refl, ap, ◌∙◌, arith}
use Rattle.std.specs.List.{filter, slice_get}
use Rattle.std.specs.Option.{option_map}
use Rattle.std.proofs.lemmas.Option.{slice_get-map}
use Rattle.std.proofs.lemmas.Iterator.Consumers.{YieldsList-at, YieldsList-from_first, YieldsList-from_filter, nth_from_yields_List}
use Rattle.horn.specs.Sheets.{Clause}
use Rattle.horn.specs.Sources.{at_place, place_of}
use Rattle.text.specs.Literals.{literals_in, seen, is_negated, number_of, clause_of}
use Rattle.text.specs.Verdicts.{conditions_in}
use Rattle.text.proofs.in_place.questions.TextSheetSource.body_at.Goals as goal

-- the condition of the literal that is found
of_found : (ls : List (Bool × ℕ)) (clause : Option Clause) (n j : ℕ) (found : Option (Bool × ℕ)) → clause ≡ Some (clause_of ls) → j ≡ suc n → found ≡ slice_get (filter is_negated ls) n → option_map number_of found ≡ place_of clause j
of_found ls clause n j found is next e =
    let body = filter is_negated ls in
    ap (option_map number_of) e
    ∙ (sym (slice_get-map number_of body n)
    ∙ sym (ap (λ x. place_of x j) is ∙ ap (at_place (map number_of body)) next))

pub returns : goal.returns
returns c =
    let ls = literals_in false c.in_ok-literals.field-0.rest.now in
    let n = c.in_ok-checked_sub.field-0 in
    let next : c.args.j ≡ suc n = omega (arith, c.in_ok-checked_sub.ensures) in
    let found = nth_from_yields_List c.nth.result c.nth.new.self n c.nth.ensures.ran (YieldsList-from_filter _ is_negated (YieldsList-at c.filter-body.ensures.source (YieldsList-from_first seen (λ s. literals_in false s.rest.now) ls refl)) c.filter-body.ensures.closure (λ x b q k. search (rules, tests))) in
    ap Some c.condition.ensures
    ∙ (ap (λ r. option_map number_of (option_map seen r)) (sym c.in_ok-literal.was)
    ∙ of_found ls _ n c.args.j _ (c.in_ok-literals.ensures.1 (conditions_in c.args.self.now.verdict)) next found)

pub returns-in_err-literal : goal.returns-in_err-literal
returns-in_err-literal c =
    let ls = literals_in false c.in_ok-literals.field-0.rest.now in
    let n = c.in_ok-checked_sub.field-0 in
    let next : c.args.j ≡ suc n = omega (arith, c.in_ok-checked_sub.ensures) in
    let found = nth_from_yields_List c.nth.result c.nth.new.self n c.nth.ensures.ran (YieldsList-from_filter _ is_negated (YieldsList-at c.filter-body.ensures.source (YieldsList-from_first seen (λ s. literals_in false s.rest.now) ls refl)) c.filter-body.ensures.closure (λ x b q k. search (rules, tests))) in
    c.from_residual-in_err-literal.ensures
    ∙ (ap (λ r. option_map number_of (option_map seen r)) (sym c.in_err-literal.was)
    ∙ of_found ls _ n c.args.j _ (c.in_ok-literals.ensures.1 (conditions_in c.args.self.now.verdict)) next found)
