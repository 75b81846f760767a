use Rattle.std.proofs.Common.{ℕ, ◌+◌, ◌<◌, ◌≤◌, List, length, vec_items, sym, ◌∙◌, subst, inl, arith}
use Rattle.round.specs.Rows.{at, Rows}
use Rattle.round.specs.Lending.{rows_of}
use Rattle.round.specs.Steps.{Queued, Counted, Close}
use Rattle.round.proofs.Queues.{entered_size, entered_ranked, queued_entered, highest}
use Rattle.round.proofs.Counts.{counted_entered}
use Rattle.round.proofs.Turns.{counted_more}
use Rattle.round.proofs.propagation.levels.Levels.start.Goals as goal

pub overflow_sub-size : goal.overflow_sub-size
overflow_sub-size c = c.args.clauses.sheet.rows.rows.rising c.args.c c.requires.clause

pub enter-requires : goal.enter-requires
enter-requires c = record {
  outcome = c.args.clauses.sheet.rows.outcomes c.args.c c.requires.clause;
  room = omega (arith, c.requires.before.size, c.requires.before.queued.room, c.args.self.now.reached.queue.ok.0);
}

pub returns-then-size-eq0 : goal.returns-then-size-eq0
returns-then-size-eq0 c =
    let t : Rows = rows_of c.args.clauses in
    let o : ℕ = at t.outs c.args.c in
    let b = c.requires.before in
    let known : o < 1001 = c.args.clauses.sheet.rows.outcomes c.args.c c.requires.clause in
    let queue : List ℕ = vec_items c.enter.new.self.queue in
    let queued : Queued t c.enter.new.self.rank.value queue 0 0 (length queue) 0 =
    queued_entered b.queued c.args.c c.requires.clause (omega (arith, b.size)) (λ j h. absurd (omega (arith, h, c.if-size-eq0.true))) c.enter.ensures in
    let rank : List ℕ = c.enter.new.self.rank.value in
    let close : 0 < o → Close t rank c.args.c = λ pos.
    let r : 0 < at rank o = entered_ranked c.enter.ensures (omega (arith, b.size)) (omega arith) pos in
    let few : at rank o ≤ 0 + 1 = highest queued o r in
    (r, inl (omega (arith, few))) in
    record {
      size = entered_size c.enter.ensures ∙ b.size;
      queued = queued;
      counted = counted_more c.args.clauses.sheet.rows c.args.c c.requires.clause (omega (arith, c.args.clauses.sheet.few_clauses))
          (λ e pos. close pos)
          queued
          (subst (λ (x : List ℕ). Counted t c.args.c c.enter.new.self.rank.value queue x 0 0 (length queue) 0 0 0) (sym c.deref_mut.ensures.value)
          (counted_entered b.queued (omega arith) c.enter.ensures b.counted));
    }

pub returns-else-size-eq0 : goal.returns-else-size-eq0
returns-else-size-eq0 c =
    let b = c.requires.before in
    record {
      size = b.size;
      queued = b.queued;
      counted = counted_more c.args.clauses.sheet.rows c.args.c c.requires.clause (omega (arith, c.args.clauses.sheet.few_clauses)) (λ e pos. absurd (c.if-size-eq0.false e)) b.queued
          (rw (sym c.deref_mut.ensures.value) at b.counted);
    }
