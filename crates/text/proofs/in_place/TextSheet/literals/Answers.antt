use Rattle.std.proofs.Common.{◌+◌, false, Some, sym, subst, ◌∙◌, ⊎_elim, arith}
use Rattle.std.proofs.lemmas.List.{take_rest}
use Rattle.text.specs.Literals.{literals_in, Listed}
use Rattle.text.proofs.Listing.{listed}
use Rattle.text.proofs.in_place.TextSheet.literals.Goals as goal

pub returns : goal.returns
returns c =
    let t = c.args.self.now in
    let s = t.bytes.now in
    let p = c.in_ok-place.place in
    subst (λ rest. Listed s c.args.i (Some (literals_in false rest))) (sym (c.in_ok-rest.ensures.lookup.0.2 ∙ take_rest s (p + 1))) (listed s c.args.i p t.short t.small c.in_ok-place.ensures)

pub returns-in_err-rest : goal.returns-in_err-rest
returns-in_err-rest c = let o = c.in_ok-place.ensures in absurd (⊎_elim (λ h. omega (arith, h, o.within)) (λ h. omega (arith, h)) c.in_err-rest.ensures.lookup.0)
