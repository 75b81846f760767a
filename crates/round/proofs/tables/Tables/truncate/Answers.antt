use Rattle.std.proofs.Common.{◌≡◌, ◌≤◌, length, take, vec_items, refl, ap, ◌∙◌, arith}
use Rattle.std.proofs.lemmas.List.{get_or_read_under}
use Rattle.round.specs.Rows.{at}
use Rattle.round.proofs.Growing.{filled_writing}
use Rattle.round.proofs.Cutting.{left_filled, left_clauses, left_places}
use Rattle.round.proofs.tables.Tables.truncate.Goals as goal

pub invariant_of-self : goal.invariant_of-self
invariant_of-self c =
    let t = c.args.self.now in
    let few : c.args.n ≤ length (vec_items t.outcomes) = omega (arith, c.requires.few, t.outcomes.ok.0) in
    let is = get_or_read_under (vec_items t.starts) c.args.n t.starts.len c.index.result.now 0 c.index.ensures (omega (arith, t.rows.counted, t.starts.ok.0)) t.starts.ok.0 in
    let ip : vec_items c.truncate-3.new.self ≡ take (at (vec_items t.starts) c.args.n) (vec_items t.places) = c.truncate-3.ensures.items ∙ ap (λ e. take e (vec_items t.places)) is in
    record {
      rows = filled_writing _ (left_filled (vec_items t.outcomes) (vec_items t.starts) (vec_items t.places) c.requires.filled c.args.n few (vec_items c.truncate.new.self) (vec_items c.truncate-2.new.self) (vec_items c.truncate-3.new.self) c.truncate.ensures.items c.truncate-2.ensures.items ip);
      room = (omega (arith, c.truncate.ensures.capacity, t.room.0), omega (arith, c.truncate-2.ensures.capacity, t.room.1), omega (arith, c.truncate-3.ensures.capacity, t.room.2));
      few = (omega (arith, c.truncate.ensures.len, t.few.0), omega (arith, c.truncate-3.ensures.len, t.few.1));
    }

pub returns : goal.returns
returns c =
    let t = c.args.self.now in
    let few : c.args.n ≤ length (vec_items t.outcomes) = omega (arith, c.requires.few, t.outcomes.ok.0) in
    let is = get_or_read_under (vec_items t.starts) c.args.n t.starts.len c.index.result.now 0 c.index.ensures (omega (arith, t.rows.counted, t.starts.ok.0)) t.starts.ok.0 in
    let ip : vec_items c.truncate-3.new.self ≡ take (at (vec_items t.starts) c.args.n) (vec_items t.places) = c.truncate-3.ensures.items ∙ ap (λ e. take e (vec_items t.places)) is in
    record {
      filled = left_filled (vec_items t.outcomes) (vec_items t.starts) (vec_items t.places) c.requires.filled c.args.n few (vec_items c.truncate.new.self) (vec_items c.truncate-2.new.self) (vec_items c.truncate-3.new.self) c.truncate.ensures.items c.truncate-2.ensures.items ip;
      conditions = refl;
      clauses = left_clauses (vec_items t.outcomes) (vec_items t.starts) (vec_items t.places) c.requires.filled c.args.n few (vec_items c.truncate.new.self) (vec_items c.truncate-2.new.self) (vec_items c.truncate-3.new.self) c.truncate.ensures.items c.truncate-2.ensures.items ip;
      starts = c.truncate-2.ensures.items;
      clauses_count = omega (arith, c.truncate.ensures.len, c.requires.few);
      places_count = c.truncate-3.new.self.ok.0 ∙ left_places (vec_items t.outcomes) (vec_items t.starts) (vec_items t.places) c.requires.filled c.args.n few (vec_items c.truncate.new.self) (vec_items c.truncate-2.new.self) (vec_items c.truncate-3.new.self) c.truncate.ensures.items c.truncate-2.ensures.items ip;
    }
