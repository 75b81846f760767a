use Rattle.std.proofs.Common.{◌≡◌, ℕ, List, [], ◌∷◌, ◌++◌, length, vec_items, refl, ap, ◌∙◌, ap₂}
use Rattle.round.specs.Rows.{rows, clauses_in}
use Rattle.round.specs.Writing.{unfinished}
use Rattle.round.proofs.Growing.{clauses_end, body_end}
use Rattle.round.proofs.tables.Tables.end_clause.Goals as goal

pub returns : goal.returns
returns c =
    let t = c.args.self.now in
    let os : List ℕ = vec_items t.outcomes in
    let ss : List ℕ = vec_items t.starts in
    let ps : List ℕ = vec_items t.places in
    let o : ℕ = c.args.outcome in
    let io : vec_items c.push_reserved.new.self ≡ os ++ o ∷ [] = c.push_reserved.ensures.items in
    let ie : vec_items c.push_reserved-2.new.self ≡ ss ++ length ps ∷ [] = c.push_reserved-2.ensures.items ∙ ap (λ (e : ℕ). ss ++ e ∷ []) (c.len-end.ensures ∙ t.places.ok.0) in
    record {
      conditions = refl;
      clauses = ap₂ (λ (x y : List ℕ). clauses_in (rows x y ps)) io ie ∙ clauses_end os ss ps t.rows o;
      body = ap₂ (λ (x y : List ℕ). unfinished (rows x y ps)) io ie ∙ body_end os ss ps t.rows o;
      clauses_count = c.push_reserved.ensures.len;
      places_count = refl;
      starts = c.push_reserved-2.ensures.items ∙ ap (λ (e : ℕ). ss ++ e ∷ []) c.len-end.ensures;
    }
