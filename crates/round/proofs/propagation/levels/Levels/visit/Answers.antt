use Rattle.std.proofs.Common.{◌≡◌, ℕ, ◌+◌, ◌-◌, ◌<◌, List, length, set, vec_items, refl, ap, ◌∙◌, subst, arith}
use Rattle.round.specs.Rows.{at, Rows}
use Rattle.round.specs.Lending.{rows_of}
use Rattle.round.specs.Steps.{Entered, Counted}
use Rattle.round.proofs.Queues.{entered_size}
use Rattle.round.proofs.Counts.{count_pos, counted_discharged, last_queued, last_same, last_counted}
use Rattle.round.proofs.propagation.levels.Levels.visit.Goals as goal

-- the counter of the place's clause, as it is read and written
read : (count lent : List ℕ) (c o : ℕ) → lent ≡ count → c ≡ o → at lent c ≡ at count o
read count lent c o e f = rw (e, f) refl

written : (count lent borrowed : List ℕ) (c o : ℕ) → borrowed ≡ count → lent ≡ count → c ≡ o → set count o (at count o - 1) ≡ set borrowed c (at lent c - 1)
written count lent borrowed c o e f g = rw (e, f, g) refl

pub overflow_sub-left : goal.overflow_sub-left
overflow_sub-left c =
    let b = c.requires.before in
    omega (
      arith,
      read c.args.self.now.open.value c.deref.result.now c.clause-c.result _ c.deref.ensures c.clause-c.ensures,
      count_pos c.args.place c.args.clauses.sheet.rows.rows c.requires.owned b.queued c.requires.here c.requires.place b.counted,
    )

pub enter-requires : goal.enter-requires
enter-requires c =
    let owner = c.requires.owned.within c.args.place c.requires.place in
    record {
      outcome = omega (arith, ap (at c.args.clauses.outcomes.now) c.clause-c.ensures, c.args.clauses.sheet.rows.outcomes _ owner.0);
      room = omega (arith, c.requires.before.size, c.requires.before.queued.room, c.args.self.now.reached.queue.ok.0);
    }

pub returns-then-left-eq0 : goal.returns-then-left-eq0
returns-then-left-eq0 c =
    let t : Rows = rows_of c.args.clauses in
    let b = c.requires.before in
    let count : List ℕ = c.args.self.now.open.value in
    let o : ℕ = at c.args.occurrences.now.owner.value c.args.place in
    let queue : List ℕ = vec_items c.enter.new.self.queue in
    let is : at c.deref.result.now c.clause-c.result ≡ at count o = read count c.deref.result.now c.clause-c.result o c.deref.ensures c.clause-c.ensures in
    let pos : 0 < at count o = count_pos c.args.place c.args.clauses.sheet.rows.rows c.requires.owned b.queued c.requires.here c.requires.place b.counted in
    let one : at count o ≡ 1 = omega (arith, is, c.if-left-eq0.true) in
    let known : at t.outs o < length c.args.self.now.reached.rank.value = omega (arith, b.size, c.args.clauses.sheet.rows.outcomes o (c.requires.owned.within c.args.place c.requires.place).0) in
    let e : Entered (at t.outs o) (c.args.front.level + 1) c.args.self.now.reached.rank.value (vec_items c.args.self.now.reached.queue) c.enter.new.self.rank.value queue = rw c.clause-c.ensures at c.enter.ensures in
    record {
      kept = last_same c.args.place c.args.clauses.sheet.rows c.requires.owned b.queued c.requires.here c.requires.place b.counted one known e;
      after = record {
        size = entered_size e ∙ b.size;
        queued = last_queued c.args.place c.args.clauses.sheet.rows c.requires.owned b.queued c.requires.here c.requires.place b.counted one known e;
        counted = subst (λ (x : List ℕ). Counted t (length t.outs) c.enter.new.self.rank.value queue x c.args.front.head (c.args.front.head + 1) (length queue) c.args.front.level (at t.places c.args.place) c.args.place)
            (written count c.deref.result.now c.deref_mut.result.now c.clause-c.result o c.deref_mut.ensures.value c.deref.ensures c.clause-c.ensures)
            (last_counted c.args.place c.args.clauses.sheet.rows c.requires.owned b.queued c.requires.here c.requires.place b.counted one known e (omega (arith, c.args.clauses.sheet.few_clauses, ap (λ (x : List ℕ). length x) c.deref_mut.ensures.value)));
      };
    }

pub returns-else-left-eq0 : goal.returns-else-left-eq0
returns-else-left-eq0 c =
    let t : Rows = rows_of c.args.clauses in
    let b = c.requires.before in
    let count : List ℕ = c.args.self.now.open.value in
    let o : ℕ = at c.args.occurrences.now.owner.value c.args.place in
    let queue : List ℕ = vec_items c.args.self.now.reached.queue in
    let is : at c.deref.result.now c.clause-c.result ≡ at count o = read count c.deref.result.now c.clause-c.result o c.deref.ensures c.clause-c.ensures in
    record {
      kept = (omega arith, λ i h. refl);
      after = record {
        size = b.size;
        queued = b.queued;
        counted = subst (λ (x : List ℕ). Counted t (length t.outs) c.args.self.now.reached.rank.value queue x c.args.front.head (c.args.front.head + 1) (length queue) c.args.front.level (at t.places c.args.place) c.args.place)
            (written count c.deref.result.now c.deref_mut.result.now c.clause-c.result o c.deref_mut.ensures.value c.deref.ensures c.clause-c.ensures)
            (counted_discharged c.args.place c.args.clauses.sheet.rows.rows c.requires.owned b.queued c.requires.here c.requires.place b.counted
            (omega (arith, c.args.clauses.sheet.few_clauses, ap (λ (x : List ℕ). length x) c.deref_mut.ensures.value)) (λ e. absurd (c.if-left-eq0.false (omega (arith, is, e)))));
      };
    }
