use Rattle.std.proofs.Common.{◌≡◌, ℕ, ◌<◌, ◌≤◌, false, eqb, List, [], ◌∷◌, map, length, replicate, refl, ap, ◌∙◌, arith, ne_eqb}
use Rattle.std.specs.List.{All}
use Rattle.std.proofs.lemmas.List.Elements.{All-head, All-tail}
use Rattle.text.proofs.condition_set.ConditionSet.clear.Goals as goal

-- no stamp is a later one
none_marked : (now next : ℕ) → now < next → (stamps : List ℕ) → All (λ stamp. stamp ≤ now) stamps → map (λ stamp. eqb stamp next) stamps ≡ replicate (length stamps) false
none_marked now next later [] low = refl
none_marked now next later (s ∷ ss) low =
    let h = All-head (λ stamp. stamp ≤ now) s ss low in
    rw (ne_eqb s next (λ e. omega (arith, h))) (ap (λ bs. false ∷ bs) (none_marked now next later ss (All-tail (λ stamp. stamp ≤ now) s ss low)))

pub returns-in-Some : goal.returns-in-Some
returns-in-Some c =
    none_marked c.self.inside.current c.in-Some.next (omega (arith, c.in-Some.ensures)) c.self.inside.stamps c.self.invariant
    ∙ ap (λ n. replicate n false) c.self.told
