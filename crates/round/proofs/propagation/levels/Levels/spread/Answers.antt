use Rattle.std.proofs.Common.{◌≡◌, ℕ, ◌<◌, List, length, inl, inr, vec_items, refl, ◌∙◌, arith}
use Rattle.round.specs.Rows.{at}
use Rattle.round.specs.Lending.{rows_of}
use Rattle.round.proofs.Turns.{finished, at_head}
use Rattle.round.proofs.Meaning.{is_rank}
use Rattle.round.proofs.Lending.{lent_lawful}
use Rattle.round.proofs.propagation.levels.Levels.spread.Goals.{then-front, else-front}
use Rattle.round.proofs.propagation.levels.Levels.spread.Goals as goal

pub discharge-requires : goal.discharge-requires
discharge-requires c =
    let queue : List ℕ = vec_items c.loop-front.self.reached.queue in
    let v = c.loop-front.invariant in
    let there : c.loop-front.front.head < length queue = omega (arith, c.len.ensures, c.loop-front.self.reached.queue.ok.0, c.loop-front-test.true) in
    elim c.if-front.branch [
      | then-front w ↦ (
          let size : w.len-then-front.result ≡ length queue = w.len-then-front.ensures ∙ c.loop-front.self.reached.queue.ok.0 in
          let x = at_head there v.few (inl (w.if-front.true, size, refl)) v.between.queued v.between.counted in
          rw w.front-is (record {
            linked = c.requires.linked;
            small = omega (arith, x.1, there, v.between.size, v.between.queued.room);
            here = x.0;
            before = record { size = v.between.size; queued = x.2; counted = x.3 };
          }))
      | else-front w ↦ (
          let x = at_head there v.few (inr (w.if-front.false, refl, refl)) v.between.queued v.between.counted in
          rw w.front-is (record {
            linked = c.requires.linked;
            small = omega (arith, x.1, there, v.between.size, v.between.queued.room);
            here = x.0;
            before = record { size = v.between.size; queued = x.2; counted = x.3 };
          }))
    ]

pub returns : goal.returns
returns c = λ p h.
    let v = c.loop-front.invariant in
    let rows = c.args.clauses in
    is_rank 1001 (rows_of rows) rows.sheet.rows rows.conditions (lent_lawful rows) p (at c.loop-front.self.reached.rank.value p) h
    (finished rows.sheet.rows (omega (arith, c.loop-front-test.false)) v.between.queued v.between.counted p h)
