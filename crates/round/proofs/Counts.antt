-- The counters, step by step.
use Rattle.std.proofs.Common.{◌≡◌, ℕ, ◌+◌, ◌-◌, ◌<◌, ◌≤◌, true, false, cond, eqb, List, length, set, sym, refl, ap, ◌∙◌, inl, inr, arith}
use Rattle.std.proofs.lemmas.Bool.{cases_lt, cases_eq, eq-eqb, ne_eqb}
use Rattle.round.specs.Rows.{at, Rows, Body, Filled, LawfulRows}
use Rattle.round.specs.Occurrences.{Owned}
use Rattle.round.specs.Steps.{Entered, Extended, Queued, Counted, Close, total}
use Rattle.round.proofs.Sets.{at_same, at_other, split}
use Rattle.round.proofs.Levels.{within}
use Rattle.round.proofs.Queues.{Extends, longer, last_is, entered_extends, entered_same, entered_ranked, queued_entered, highest}
use Rattle.round.proofs.Totals.{total_same, total_less, total_zero}

-- f with 0 at x
without : (ℕ → ℕ) → ℕ → ℕ → ℕ
without f x j = cond (eqb j x) 0 (f j)

without_same : (f : ℕ → ℕ) (x : ℕ) → without f x x ≡ 0
unfolding without
without_same f x = let e : eqb x x ≡ true = eq-eqb x x refl in rw e

without_at : (f : ℕ → ℕ) (x j : ℕ) → j ≡ x → without f x j ≡ 0
without_at f x j e = ap (without f x) e ∙ without_same f x

without_other : (f : ℕ → ℕ) (x j : ℕ) → (j ≡ x → ⊥) → without f x j ≡ f j
unfolding without
without_other f x j ne = let e : eqb j x ≡ false = ne_eqb j x ne in rw e

-- clauses are closed still when there are more ranks
close_extends : (t : Rows) (rank rank' : List ℕ) → Extends rank rank' → (c : ℕ) → Close t rank c → Close t rank' c
close_extends t rank rank' ext c v =
    let e = ext (at t.outs c) v.0 in (
      omega arith,
      split v.1 (λ x. inl (omega arith)) (λ x. inr (
        x.0,
        x.1,
        split (cases_lt 0 (at rank (at t.places x.0)))
            (λ k. omega (arith, ext (at t.places x.0) k)) (λ k. omega arith),
      )),
    )

-- `enter`
pub counted_entered : {t : Rows} {m : ℕ} {rank queue count : List ℕ} {head end level done next p cursor o r : ℕ} {rank' queue' : List ℕ}
    → Queued t rank queue head end (length queue) level → done ≤ length queue
    → Entered o r rank queue rank' queue'
    → Counted t m rank queue count done next (length queue) level p cursor → Counted t m rank' queue' count done next (length queue') level p cursor
counted_entered {t} {m} {rank} {queue} {count} {head} {end} {level} {done} {next} {p} {cursor} {o} {r} {rank'} {queue'} q dl e w =
    let tail : ℕ = length queue in
    let tail' : ℕ = length queue' in
    let ext : Extends rank rank' = entered_extends e in
    let same : Extended queue queue' = entered_same e in
    let new : tail < tail' → (tail' ≡ tail + 1) × (at queue' tail ≡ o) × (at rank o ≡ 0) = λ l. split e.cases
    (λ a. absurd (omega (arith, ap (λ (x : List ℕ). length x) a.1)))
    (λ a. (ap (λ (x : List ℕ). length x) a.1 ∙ longer queue o, ap (λ (x : List ℕ). at x tail) a.1 ∙ last_is queue o, a.3)) in
    record {
      pending = w.pending;
      counts = w.counts;
      discharged = λ j l z. let v = w.discharged j l z in let x = ext (at t.places j) v.0 in (omega arith, omega arith);
      unranked = λ j l z. split (cases_lt 0 (at rank (at t.places j)))
          (λ k. absurd (omega (arith, ext (at t.places j) k)))
          (λ k. w.unranked j l (omega arith));
      waiting = λ i j l a b z. split (cases_lt i tail)
          (λ k. w.waiting i j l a k (sym (same.1 i k) ∙ z))
          (λ k. let v = new (omega arith) in
          let y : at queue' i ≡ at queue' tail = ap (at queue') (omega (arith, v.0)) in
          let x : at rank o ≡ at rank (at t.places j) = ap (at rank) (sym v.1 ∙ sym y ∙ z) in
          w.unranked j l (omega (arith, v.2)));
      here = w.here;
      gone = λ i j l a z. w.gone i j l a (sym (same.1 i (omega arith)) ∙ z);
      gone_here = w.gone_here;
      distinct = λ i k a b z. split (cases_lt k tail)
          (λ h. w.distinct i k a h (sym (same.1 i (omega arith)) ∙ z ∙ same.1 k h))
          (λ h. let v = new (omega arith) in
          let y : at queue' k ≡ at queue' tail = ap (at queue') (omega (arith, v.0)) in
          let f = q.ranked i (omega (arith, v.0)) in
          let x : at rank (at queue i) ≡ at rank o = ap (at rank) (sym (same.1 i (omega (arith, v.0))) ∙ z ∙ y ∙ v.1) in
          omega (arith, v.2));
      closed = λ c l a b. close_extends t rank rank' ext c (w.closed c l a b);
    }

-- a body's length
size : (t : Rows) → Filled t → (c : ℕ) → c < length t.outs
    → at t.starts c + (at t.starts (c + 1) - at t.starts c) ≡ at t.starts (c + 1)
size t w c l = omega (arith, w.rising c l)

-- Place is a place of the condition at the queue's head, not yet discharged; the places of that condition after it are.
module _ {t : Rows} {owner rank queue count : List ℕ} {head end tail level : ℕ} (place : ℕ) (rows : Filled t)
    (o : Owned t (length t.outs) (length t.places) owner)
    (q : Queued t rank queue head end tail level)
    (at_head : (head < end) × (at queue head ≡ at t.places place))
    (l : place < length t.places)
    (w : Counted t (length t.outs) rank queue count head (head + 1) tail level (at t.places place) (place + 1))
  where
    after : ℕ → ℕ
    after = without w.pending place

    mine : (0 < at rank (at t.places place)) × (at rank (at t.places place) ≡ level)
    mine =
        let e : at rank (at queue head) ≡ at rank (at t.places place) = ap (at rank) at_head.1 in
        (omega (arith, q.ranked head (omega (arith, q.order))), sym e ∙ q.front head (omega arith) at_head.0)

    clause : at owner place < length t.outs
    clause = (o.within place l).0

    inside : Body t (at owner place) place
    inside = (o.within place l).1

    less : total after (at t.starts (at owner place)) (at t.starts (at owner place + 1) - at t.starts (at owner place)) + 1 ≡ at count (at owner place)
    unfolding after
    less = total_less w.pending after (at t.starts (at owner place)) (at t.starts (at owner place + 1) - at t.starts (at owner place)) place
        inside.0 (omega (arith, inside.1, size t rows (at owner place) clause)) (w.here place (omega arith) refl) (without_same w.pending place)
        (λ j ne. without_other w.pending place j ne) ∙ sym (w.counts (at owner place) clause)

    -- the counter can fall
    pub count_pos : 0 < at count (at owner place)
    count_pos = omega (arith, less)

    -- at its last place the clause's conditions all have ranks
    pub count_last : at count (at owner place) ≡ 1 → (j : ℕ) → Body t (at owner place) j
        → (0 < at rank (at t.places j)) × (at rank (at t.places j) ≤ level)
    unfolding after
    count_last e j b = split (cases_eq j place)
        (λ z. let y : at rank (at t.places j) ≡ at rank (at t.places place) = ap (λ x. at rank (at t.places x)) z in (omega (arith, mine), omega (arith, mine)))
        (λ ne. w.discharged j (omega (arith, b.1, within t rows (at owner place + 1) (omega (arith, clause))))
        (sym (without_other w.pending place j ne) ∙ total_zero after (at t.starts (at owner place))
        (at t.starts (at owner place + 1) - at t.starts (at owner place)) (omega (arith, less)) j b.0 (omega (arith, b.1, size t rows (at owner place) clause))))

    -- the place is discharged
    pub counted_discharged : length t.outs ≤ length count → (at count (at owner place) - 1 ≡ 0 → 0 < at t.outs (at owner place) → Close t rank (at owner place))
        → Counted t (length t.outs) rank queue (set count (at owner place) (at count (at owner place) - 1)) head (head + 1) tail level (at t.places place) place
    unfolding after
    counted_discharged sp close =
        let c : ℕ = at owner place in
        let count' : List ℕ = set count c (at count c - 1) in
        let new : at count' c ≡ at count c - 1 = at_same count c (at count c - 1) c (omega (arith, clause)) refl in
        let old : (d : ℕ) → (d ≡ c → ⊥) → at count' d ≡ at count d = λ d ne. at_other count c (at count c - 1) d ne in
        record {
          pending = after;
          counts = λ d h. split (cases_eq d c)
              (λ e. rw (e, new) (omega (arith, less)))
              (λ ne. old d ne ∙ w.counts d h ∙ sym (total_same w.pending after (at t.starts d) (at t.starts (d + 1) - at t.starts d)
              (λ j a b. without_other w.pending place j (λ z.
              ne (sym (o.is d place h (omega (arith, a), omega (arith, b, size t rows d h))))))));
          discharged = λ j h z. split (cases_eq j place)
              (λ e. let y : at rank (at t.places j) ≡ at rank (at t.places place) = ap (λ x. at rank (at t.places x)) e in (omega (arith, mine), omega (arith, mine)))
              (λ ne. w.discharged j h (sym (without_other w.pending place j ne) ∙ z));
          unranked = λ j h z. split (cases_eq j place)
              (λ e. let y : at rank (at t.places j) ≡ at rank (at t.places place) = ap (λ x. at rank (at t.places x)) e in absurd (omega (arith, mine)))
              (λ ne. without_other w.pending place j ne ∙ w.unranked j h z);
          waiting = λ i j h a b z. split (cases_eq j place)
              (λ e. absurd (w.distinct head i (omega arith) b (at_head.1 ∙ ap (at t.places) (sym e) ∙ sym z)))
              (λ ne. without_other w.pending place j ne ∙ w.waiting i j h a b z);
          here = λ j h z. without_other w.pending place j (omega arith) ∙ w.here j (omega arith) z;
          gone = λ i j h a z. split (cases_eq j place)
              (λ e. without_at w.pending place j e)
              (λ ne. without_other w.pending place j ne ∙ w.gone i j h a z);
          gone_here = λ j p a b z. split (cases_eq j place)
              (λ e. without_at w.pending place j e)
              (λ ne. without_other w.pending place j ne ∙ w.gone_here j p (omega arith) b z);
          distinct = w.distinct;
          closed = λ d h a b. split (cases_eq d c)
              (λ e. rw e (close (sym new ∙ (rw e at a)) (rw e at b)))
              (λ ne. w.closed d h (sym (old d ne) ∙ a) b);
        }

-- the clause's last place is discharged and its outcome entered
module _ {n : ℕ} {t : Rows} {owner rank queue count : List ℕ} {head end level : ℕ} (place : ℕ) (lawful : LawfulRows n t)
    (o : Owned t (length t.outs) (length t.places) owner)
    (q : Queued t rank queue head end (length queue) level)
    (at_head : (head < end) × (at queue head ≡ at t.places place))
    (l : place < length t.places)
    (w : Counted t (length t.outs) rank queue count head (head + 1) (length queue) level (at t.places place) (place + 1))
    (last : at count (at owner place) ≡ 1)
    (known : at t.outs (at owner place) < length rank)
    {rank' queue' : List ℕ}
    (e : Entered (at t.outs (at owner place)) (level + 1) rank queue rank' queue')
  where
    pub last_queued : Queued t rank' queue' head end (length queue') level
    last_queued = queued_entered q (at owner place) (o.within place l).0 known
        (count_last place lawful.rows o q at_head l w last) e

    pub last_same : Extended queue queue'
    last_same = entered_same e

    pub last_counted : length t.outs ≤ length count
        → Counted t (length t.outs) rank' queue' (set count (at owner place) (at count (at owner place) - 1)) head (head + 1) (length queue') level (at t.places place) place
    last_counted sp =
        let here : (head < end) × (at queue' head ≡ at t.places place) = (at_head.0, last_same.1 head (omega (arith, at_head.0, q.order)) ∙ at_head.1) in
        counted_discharged place lawful.rows o last_queued here l
        (counted_entered q (omega (arith, q.order)) e w)
        sp
        (λ z pos.
        let r : 0 < at rank' (at t.outs (at owner place)) =
        entered_ranked e known (omega arith) pos in
        let y : at rank' (at queue' head) ≡ at rank' (at t.places place) = ap (at rank') here.1 in (
          r,
          inr (
            place,
            (o.within place l).1,
            omega (arith, highest last_queued (at t.outs (at owner place)) r, last_queued.front head (omega arith) at_head.0),
          ),
        ))
