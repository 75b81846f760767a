use Rattle.std.proofs.Common.{◌≡◌, ℕ, List, [], ◌∷◌, ◌++◌, vec_items, refl, ap, ◌∙◌}
use Rattle.horn.specs.Sheets.{Clause}
use Rattle.round.specs.Rows.{rows, clauses_in}
use Rattle.round.specs.Writing.{unfinished}
use Rattle.round.proofs.Growing.{clauses_place, body_place}
use Rattle.round.proofs.tables.Tables.add_place.Goals as goal

pub returns : goal.returns
returns c =
    let t = c.args.self.now in
    let os : List ℕ = vec_items t.outcomes in
    let ss : List ℕ = vec_items t.starts in
    let ps : List ℕ = vec_items t.places in
    let is : vec_items c.push_reserved.new.self ≡ ps ++ c.args.p ∷ [] = c.push_reserved.ensures.items in
    record {
      sheet = ap (λ (cs : List Clause). record { top = t.conditions; clauses = cs }) (ap (λ (q : List ℕ). clauses_in (rows os ss q)) is ∙ clauses_place os ss ps t.rows c.args.p);
      body = ap (λ (q : List ℕ). unfinished (rows os ss q)) is ∙ body_place os ss ps t.rows c.args.p;
      clauses_count = refl;
      places_count = c.push_reserved.ensures.len;
      starts = refl;
    }
