-- The steps from place to place, from condition to condition and from level to level.
use Rattle.std.proofs.Common.{◌≡◌, ℕ, ◌+◌, ◌-◌, ◌<◌, ◌≤◌, ◌⊎◌, List, [], length, set, sym, refl, ap, ◌∙◌, subst, arith}
use Rattle.std.proofs.lemmas.Bool.{cases_lt, cases_eq}
use Rattle.round.specs.Rows.{at, Rows, LawfulRows}
use Rattle.round.specs.Occurrences.{Chained}
use Rattle.round.specs.Steps.{Queued, Counted, Close}
use Rattle.round.proofs.Sets.{split, at_same, at_other}
use Rattle.round.proofs.Zeros.{zeros_le}
use Rattle.round.proofs.Totals.{total_same, total_ones, total_none}
use Rattle.round.proofs.Levels.{Rank, within, are_ranks}

-- the same cursor, written otherwise
pub counted_at : {t : Rows} {m : ℕ} {rank queue count : List ℕ} {done next tail level p cursor p' cursor' : ℕ}
    → p ≡ p' → cursor ≡ cursor' → Counted t m rank queue count done next tail level p cursor → Counted t m rank queue count done next tail level p' cursor'
counted_at e d w = rw (e, d) at w

-- before the last place of the condition at the head
pub counted_first : {t : Rows} {rank queue count first next : List ℕ} {head tail level : ℕ}
    → Chained (length t.places) t.places first next → head < tail
    → Counted t (length t.outs) rank queue count head head tail level 0 0
    → Counted t (length t.outs) rank queue count head (head + 1) tail level (at queue head) (at first (at queue head))
counted_first {t} {rank} {queue} {count} {first} {next} {head} ch l w = record {
  pending = w.pending;
  counts = w.counts;
  discharged = w.discharged;
  unranked = w.unranked;
  gone = w.gone;
  distinct = w.distinct;
  closed = w.closed;
  waiting = λ i j h a b z. w.waiting i j h (omega arith) b z;
  here = λ j a z. w.waiting head j (omega (arith, ch.starts_at (at queue head) (omega arith))) (omega arith) l (sym z);
  gone_here = λ j p a b z. absurd (ch.last (at queue head) j a b z);
}

-- on to the place before
pub counted_next : {t : Rows} {rank queue count first next : List ℕ} {done after tail level : ℕ} (place : ℕ)
    → Chained (length t.places) t.places first next → place < length t.places
    → Counted t (length t.outs) rank queue count done after tail level (at t.places place) place
    → Counted t (length t.outs) rank queue count done after tail level (at t.places place) (at next place)
counted_next place ch l w = record {
  pending = w.pending;
  counts = w.counts;
  discharged = w.discharged;
  unranked = w.unranked;
  gone = w.gone;
  distinct = w.distinct;
  closed = w.closed;
  waiting = w.waiting;
  here = λ j a z. w.here j (omega (arith, ch.before place l)) z;
  gone_here = λ j p a b z. split (cases_lt j place)
      (λ k. absurd (ch.between place j l a k z))
      (λ k. w.gone_here j p k b z);
}

-- after the last place of the condition at the head
pub counted_last : {n : ℕ} {t : Rows} {rank queue count : List ℕ} {head tail level p : ℕ} → LawfulRows n t → at queue head ≡ p
    → Counted t (length t.outs) rank queue count head (head + 1) tail level p 0
    → Counted t (length t.outs) rank queue count (head + 1) (head + 1) tail level 0 0
counted_last {n} {t} {rank} {queue} {count} {head} {tail} {level} {p} lw at_head w = record {
  pending = w.pending;
  counts = w.counts;
  discharged = w.discharged;
  unranked = w.unranked;
  distinct = w.distinct;
  closed = w.closed;
  waiting = w.waiting;
  here = λ j a z. absurd (omega arith);
  gone = λ i j h a z. split (cases_lt i head)
      (λ k. w.gone i j h k z)
      (λ k. let y : at queue i ≡ at queue head = ap (at queue) (omega arith) in
      let x : at t.places j ≡ p = sym z ∙ y ∙ at_head in
      w.gone_here j (omega (arith, lw.conditions j h)) (omega arith) h x);
  gone_here = λ j q a b z. absurd (omega arith);
}

-- the next level
pub queued_level : {t : Rows} {rank queue : List ℕ} {head end tail level : ℕ} → head ≡ end
    → Queued t rank queue head end tail level → Queued t rank queue head tail tail (level + 1)
queued_level {t} {rank} {queue} {head} {end} {tail} {level} e q = record {
  room = q.room;
  order = (omega (arith, q.order), omega arith);
  ranked = q.ranked;
  low = λ i h. split (cases_lt i end) (λ k. omega (arith, q.low i k)) (λ k. omega (arith, q.back i k h));
  front = λ i h k. q.back i (omega arith) k;
  back = λ i h k. absurd (omega arith);
  listed = q.listed;
  founded = q.founded;
}

counted_level : {t : Rows} {m : ℕ} {rank queue count : List ℕ} {head tail level : ℕ}
    → Counted t m rank queue count head head tail level 0 0 → Counted t m rank queue count head head tail (level + 1) 0 0
counted_level w = record {
  pending = w.pending;
  counts = w.counts;
  unranked = w.unranked;
  gone = w.gone;
  distinct = w.distinct;
  closed = w.closed;
  waiting = w.waiting;
  here = w.here;
  gone_here = w.gone_here;
  discharged = λ j h z. let v = w.discharged j h z in (omega arith, omega arith);
}

-- at the head of the queue, after the step to the next level if the last one is done
pub at_head : {t : Rows} {m : ℕ} {rank queue count : List ℕ} {head end tail level end' level' : ℕ} → head < tail → level ≤ head
    → ((head ≡ end) × (end' ≡ tail) × (level' ≡ level + 1)) ⊎ ((head ≡ end → ⊥) × (end' ≡ end) × (level' ≡ level))
    → Queued t rank queue head end tail level → Counted t m rank queue count head head tail level 0 0
    → (head < end') × (level' ≤ head + 1) × Queued t rank queue head end' tail level' × Counted t m rank queue count head head tail level' 0 0
at_head l few came q w = split came
    (λ x. rw (x.1, x.2) (l, omega arith, queued_level x.0 q, counted_level w))
    (λ x. rw (x.1, x.2) (omega (arith, x.0, q.order), omega arith, q, w))

-- one condition is done
pub queued_step : {t : Rows} {rank queue : List ℕ} {head end tail level : ℕ} → head < end
    → Queued t rank queue head end tail level → Queued t rank queue (head + 1) end tail level
queued_step l q = record {
  room = q.room;
  order = (omega arith, q.order.1);
  ranked = q.ranked;
  low = q.low;
  front = λ i h k. q.front i (omega arith) k;
  back = q.back;
  listed = q.listed;
  founded = q.founded;
}

-- the start
queued_none : (t : Rows) (rank : List ℕ) → ((p : ℕ) → at rank p ≡ 0) → Queued t rank [] 0 0 0 0
queued_none t rank h = record {
  room = omega (arith, zeros_le rank);
  order = (omega arith, omega arith);
  ranked = λ i l. absurd (omega arith);
  low = λ i l. absurd (omega arith);
  front = λ i l k. absurd (omega arith);
  back = λ i l k. absurd (omega arith);
  listed = λ p l. absurd (omega (arith, h p));
  founded = λ p l. absurd (omega (arith, h p));
}

counted_none : (t : Rows) (rank count : List ℕ) → Counted t 0 rank [] count 0 0 0 0 0 0
counted_none t rank count = record {
  pending = λ _. 1;
  counts = λ c h. absurd (omega arith);
  discharged = λ j h z. absurd (omega arith);
  unranked = λ j h z. refl;
  waiting = λ i j h a b z. refl;
  here = λ j a z. refl;
  gone = λ i j h a z. absurd (omega arith);
  gone_here = λ j p a b z. absurd (omega arith);
  distinct = λ i k a b z. omega arith;
  closed = λ c h. absurd (omega arith);
}

pub none_queued : (t : Rows) (rank queue : List ℕ) → ((p : ℕ) → at rank p ≡ 0) → queue ≡ [] → Queued t rank queue 0 0 (length queue) 0
none_queued t rank queue h e = subst (λ (q : List ℕ). Queued t rank q 0 0 (length q) 0) (sym e) (queued_none t rank h)

pub none_counted : (t : Rows) (rank queue count : List ℕ) → queue ≡ [] → Counted t 0 rank queue count 0 0 (length queue) 0 0 0
none_counted t rank queue count e = subst (λ (q : List ℕ). Counted t 0 rank q count 0 0 (length q) 0 0 0) (sym e) (counted_none t rank count)

-- one clause more has its counter
pub counted_more : {n : ℕ} {t : Rows} {rank queue count : List ℕ} {tail : ℕ} → LawfulRows n t → (c : ℕ) → c < length t.outs → length t.outs ≤ length count
    → (at t.starts (c + 1) - at t.starts c ≡ 0 → 0 < at t.outs c → Close t rank c)
    → Queued t rank queue 0 0 tail 0
    → Counted t c rank queue count 0 0 tail 0 0 0
    → Counted t (c + 1) rank queue (set count c (at t.starts (c + 1) - at t.starts c)) 0 0 tail 0 0 0
counted_more {n} {t} {rank} {queue} {count} lw c l sp close q w =
    let k : ℕ = at t.starts (c + 1) - at t.starts c in
    let count' : List ℕ = set count c k in
    let new : at count' c ≡ k = at_same count c k c (omega arith) refl in
    let old : (d : ℕ) → (d ≡ c → ⊥) → at count' d ≡ at count d = λ d ne. at_other count c k d ne in
    let ones : (j : ℕ) → j < length t.places → w.pending j ≡ 1 = λ j h. split (cases_lt 0 (at rank (at t.places j)))
    (λ z. let g = q.listed (at t.places j) z in w.waiting g.0 j h (omega arith) g.1 g.2)
    (λ z. w.unranked j h (omega arith)) in
    record {
      pending = w.pending;
      discharged = w.discharged;
      unranked = w.unranked;
      gone = w.gone;
      distinct = w.distinct;
      waiting = w.waiting;
      here = w.here;
      gone_here = w.gone_here;
      counts = λ d h. split (cases_eq d c)
          (λ e. rw (e, new) (sym (total_same (λ _. 1) w.pending (at t.starts c) k
          (λ j a b. ones j (omega (arith, a, b, lw.rows.rising c l, within t lw.rows (c + 1) (omega arith)))) ∙ total_ones (at t.starts c) k)))
          (λ ne. old d ne ∙ w.counts d (omega arith));
      closed = λ d h a b. split (cases_eq d c)
          (λ x. rw x (close (sym new ∙ (rw x at a)) (rw x at b)))
          (λ ne. w.closed d (omega arith) (sym (old d ne) ∙ a) b);
    }

-- the end: all that is in the queue is done
pub finished : {n : ℕ} {t : Rows} {rank queue count : List ℕ} {head end tail level : ℕ} → LawfulRows n t → tail ≤ head
    → Queued t rank queue head end tail level → Counted t (length t.outs) rank queue count head head tail level 0 0
    → (p : ℕ) → 0 < p → Rank t p (at rank p)
finished {n} {t} {rank} {queue} {count} lw done q w = are_ranks n t lw rank q.founded
    (λ c k l pos body.
    let none : at count c ≡ 0 = w.counts c l ∙ total_none w.pending (at t.starts c) (at t.starts (c + 1) - at t.starts c)
    (λ j a b. let v = body j (a, omega (arith, a, b)) in
    let g = q.listed (at t.places j) v.0 in
    w.gone g.0 j (omega (arith, a, b, lw.rows.rising c l, within t lw.rows (c + 1) (omega arith))) (omega (arith, g.1)) g.2) in
    let z = w.closed c l none pos in
    (z.0, split z.1 (λ x. omega arith) (λ x. omega (arith, body x.0 x.1))))
