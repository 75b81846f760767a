use Rattle.std.proofs.Common.{ℕ, not, ◌&&◌, List, sym, refl, ap, ap₂, ◌∙◌, subst₂}
use Rattle.horn.specs.Sheets.{Sheet}
use Rattle.horn.specs.Levels.{in_force}
use Rattle.horn.specs.Bans.{places, lowest_broken}
use Rattle.horn.specs.Lawfulness.{satisfiable}
use Rattle.round.specs.Ranks.{Ranks, ranked}
use Rattle.round.proofs.Openings.{lendable, unmoved_from}
use Rattle.round.proofs.state.State.settle.Goals as goal

pub rows-clauses-requires : goal.rows-clauses-requires
rows-clauses-requires c = lendable c.args.self.now c.requires

pub returns-in-Some : goal.returns-in-Some
returns-in-Some c =
    let scan = c.in-Some.ensures in (
      c.in-Some.ban,
      refl,
      record {
        unmoved = unmoved_from c.args.self.now _ refl refl refl c.requires;
        ranks = refl;
        broken = sym (ap satisfiable c.rows-clauses.ensures) ∙ scan.0;
        lowest = scan.1 ∙ ap lowest_broken c.rows-clauses.ensures;
      },
    )

pub returns : goal.returns
returns c = record {
  unmoved = unmoved_from c.args.self.now _ refl refl refl c.requires;
  ranked = subst₂ Ranks c.rows-clauses.ensures (λ i. (sym c.swap.ensures.x_after i).value) c.ranks.ensures;
  unbroken = sym (ap satisfiable c.rows-clauses.ensures) ∙ c.in_default.ensures;
  discharged = c.count_newly-discharged.ensures
      ∙ ap₂ (λ (s : Sheet) (old : List ℕ). places (λ p. in_force s p && not (ranked old p)) s.clauses) c.rows-clauses.ensures c.deref-2.ensures;
}
