use Rattle.std.proofs.Common.{◌+◌, ◌∙◌, arith}
use Rattle.horn.specs.Sheets.{clause_at}
use Rattle.round.specs.Writing.{unfinished}
use Rattle.round.specs.Held.{held_rows}
use Rattle.round.proofs.Copying.{body_more, body_all}
use Rattle.round.proofs.tables.Tables.copy_body.Goals as goal

pub loop-j-preserved : goal.loop-j-preserved
loop-j-preserved g c =
    let v = c.loop-j.invariant in
    let a = c.add_place.ensures in
    record {
      sheet = a.sheet ∙ v.sheet;
      body = body_more (clause_at (g.S.Source.sheet c.args.source.now) c.args.i) c.args.n c.loop-j.j c.unwrap_or.result c.body_at.result (unfinished (held_rows c.loop-j.self)) (unfinished (held_rows c.add_place.new.self)) c.requires.size (omega arith) (omega arith) v.body c.body_at.ensures c.unwrap_or.ensures a.body;
      clauses = a.clauses_count ∙ v.clauses;
      places = omega (arith, a.places_count, v.places);
      near = omega arith;
    }

pub returns-clause-body : goal.returns-clause-body
returns-clause-body g c = body_all (clause_at (g.S.Source.sheet c.args.source.now) c.args.i) c.args.n c.loop-j.j (unfinished (held_rows c.loop-j.self)) c.requires.size (omega arith) c.loop-j.invariant.body

pub returns-2-clause-body : goal.returns-2-clause-body
returns-2-clause-body g c =
    let o = clause_at (g.S.Source.sheet c.args.source.now) c.args.i in
    let more = body_more o c.args.n c.loop-j.j c.unwrap_or.result c.body_at.result (unfinished (held_rows c.loop-j.self)) (unfinished (held_rows c.add_place.new.self)) c.requires.size (omega arith) (omega arith) c.loop-j.invariant.body c.body_at.ensures c.unwrap_or.ensures c.add_place.ensures.body in
    body_all o c.args.n (c.loop-j.j + 1) (unfinished (held_rows c.add_place.new.self)) c.requires.size (omega arith) more
