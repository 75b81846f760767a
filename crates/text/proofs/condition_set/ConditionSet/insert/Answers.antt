use Rattle.std.proofs.Common.{eqb, refl, ◌∙◌, eq-eqb}
use Rattle.std.proofs.lemmas.List.{map-set}
use Rattle.text.proofs.condition_set.ConditionSet.insert.Goals as goal

pub returns : goal.returns
returns c =
    let now = c.self.inside.current in
    let marked = eq-eqb now now refl in
    map-set (λ stamp. eqb stamp now) c.self.inside.stamps c.from.result now ∙ cc
