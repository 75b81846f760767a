-- The queue and the ranks after `enter`.
use Rattle.std.proofs.Common.{◌≡◌, ℕ, ◌+◌, ◌<◌, ◌≤◌, List, [], ◌∷◌, ◌++◌, length, set, sym, refl, ap, ◌∙◌, subst, ⊎_elim, arith}
use Rattle.std.proofs.Math.Seq.{get_or-append_seam}
use Rattle.std.proofs.lemmas.List.{length-set, length_push, get_or_append_left}
use Rattle.std.proofs.lemmas.Bool.{cases_lt, cases_eq}
use Rattle.round.specs.Rows.{at, Rows, Body}
use Rattle.round.specs.Steps.{Entered, Extended, Queued}
use Rattle.round.proofs.Sets.{at_same, at_other, split}
use Rattle.round.proofs.Zeros.{zeros_set}

-- ranks once given stay
abbrev pub Extends : List ℕ → List ℕ → Type 0
Extends rank rank' = (q : ℕ) → 0 < at rank q → at rank' q ≡ at rank q

-- the queue with one condition more
module _ (queue : List ℕ) (o : ℕ) where
  pub longer : length (queue ++ o ∷ []) ≡ length queue + 1
  longer = length_push queue o

  pub last_is : at (queue ++ o ∷ []) (length queue) ≡ o
  last_is = get_or-append_seam queue o [] 0

  pub queue_extended : Extended queue (queue ++ o ∷ [])
  queue_extended = (omega (arith, longer), λ i h. get_or_append_left queue (o ∷ []) 0 i h)

module _ {o r : ℕ} {rank queue rank' queue' : List ℕ} (e : Entered o r rank queue rank' queue') where
  pub entered_extends : Extends rank rank'
  entered_extends q h = ⊎_elim
      (λ a. ap (λ (x : List ℕ). at x q) a.0)
      (λ a. ap (λ (x : List ℕ). at x q) a.0 ∙ at_other rank o r q (λ k. let z : at rank q ≡ at rank o = ap (at rank) k in omega (arith, a.3)))
      e.cases

  pub entered_same : Extended queue queue'
  entered_same = ⊎_elim
      (λ a. subst (Extended queue) (sym a.1) (omega arith, λ i h. refl))
      (λ a. subst (Extended queue) (sym a.1) (queue_extended queue o))
      e.cases

  pub entered_size : length rank' ≡ length rank
  entered_size = ⊎_elim
      (λ a. ap (λ (x : List ℕ). length x) a.0)
      (λ a. ap (λ (x : List ℕ). length x) a.0 ∙ length-set rank o r)
      e.cases

  -- the outcome is ranked then
  pub entered_ranked : o < length rank → 0 < r → 0 < o → 0 < at rank' o
  entered_ranked l p h = ⊎_elim
      (λ a. let z : at rank' o ≡ at rank o = ap (λ (x : List ℕ). at x o) a.0 in
      ⊎_elim (λ b. omega arith) (λ b. omega arith) a.2)
      (λ a. let z : at rank' o ≡ r = ap (λ (x : List ℕ). at x o) a.0 ∙ at_same rank o r o l refl in omega arith)
      e.cases

-- every ranked condition has a rank up to level + 1
pub highest : {t : Rows} {rank queue : List ℕ} {head end tail level : ℕ} → Queued t rank queue head end tail level
    → (p : ℕ) → 0 < at rank p → at rank p ≤ level + 1
highest {t} {rank} {queue} {head} {end} {tail} {level} q p h =
    let g = q.listed p h in
    let z : at rank (at queue g.0) ≡ at rank p = ap (at rank) g.2 in
    ⊎_elim (λ k. omega (arith, q.low g.0 k)) (λ k. omega (arith, q.back g.0 k g.1)) (cases_lt g.0 end)

-- an outcome more
pub queued_more : {t : Rows} {rank queue : List ℕ} {head end level : ℕ} → Queued t rank queue head end (length queue) level
    → (c : ℕ) → c < length t.outs → at t.outs c < length rank → 0 < at t.outs c → at rank (at t.outs c) ≡ 0
    → ((j : ℕ) → Body t c j → (0 < at rank (at t.places j)) × (at rank (at t.places j) ≤ level))
    → Queued t (set rank (at t.outs c) (level + 1)) (queue ++ at t.outs c ∷ []) head end (length (queue ++ at t.outs c ∷ [])) level
queued_more {t} {rank} {queue} {head} {end} {level} q c l m pos zero' body =
    let o : ℕ = at t.outs c in
    let tail : ℕ = length queue in
    let rank' : List ℕ = set rank o (level + 1) in
    let queue' : List ℕ = queue ++ o ∷ [] in
    let one : length queue' ≡ tail + 1 = longer queue o in
    let same : (i : ℕ) → i < tail → at queue' i ≡ at queue i = (queue_extended queue o).1 in
    let new : at queue' tail ≡ o = last_is queue o in
    let ext : Extends rank rank' = λ x h. at_other rank o (level + 1) x (λ k. let z : at rank x ≡ at rank o = ap (at rank) k in omega arith) in
    let mine : at rank' o ≡ level + 1 = at_same rank o (level + 1) o m refl in
    let keeps : (i : ℕ) → i < tail → at rank' (at queue' i) ≡ at rank (at queue i) =
    λ i h. ap (at rank') (same i h) ∙ ext (at queue i) (q.ranked i h).0 in
    let last : at rank' (at queue' tail) ≡ level + 1 = ap (at rank') new ∙ mine in
    let old : (x : ℕ) → (x ≡ o → ⊥) → at rank' x ≡ at rank x = λ x h. at_other rank o (level + 1) x h in
    let len : length rank' ≡ length rank = length-set rank o (level + 1) in
    record {
      room = omega (arith, zeros_set rank o (level + 1) m zero' (omega arith), q.room);
      order = (q.order.0, omega (arith, q.order.1));
      ranked = λ i h. split (cases_lt i tail)
          (λ k. (omega (arith, keeps i k, q.ranked i k), omega (arith, same i k, q.ranked i k)))
          (λ k. let e : i ≡ tail = omega arith in rw e (omega arith, omega arith));
      low = λ i h. omega (arith, keeps i (omega (arith, q.order)), q.low i h);
      front = λ i h k. keeps i (omega (arith, q.order)) ∙ q.front i h k;
      back = λ i h k. ⊎_elim
          (λ b. keeps i b ∙ q.back i h b)
          (λ b. let e : i ≡ tail = omega arith in rw e last)
          (cases_lt i tail);
      listed = λ p h. ⊎_elim
          (λ e. (tail, omega arith, new ∙ sym e))
          (λ ne. let g = q.listed p (omega (arith, old p ne)) in (g.0, omega (arith, g.1), same g.0 g.1 ∙ g.2))
          (cases_eq p o);
      founded = λ p h. ⊎_elim
          (λ e. (c, l, sym e, λ j b. let v = body j b in let x = ext (at t.places j) v.0 in let y : at rank' p ≡ at rank' o = ap (at rank') e in (omega arith, omega arith)))
          (λ ne. let g = q.founded p (omega (arith, old p ne)) in (
            g.0,
            g.1,
            g.2,
            λ j b.
                let v = g.3 j b in let x = ext (at t.places j) v.0 in let y = old p ne in (omega arith, omega arith),
          ))
          (cases_eq p o);
    }

pub queued_entered : {t : Rows} {rank queue : List ℕ} {head end level : ℕ} → Queued t rank queue head end (length queue) level
    → (c : ℕ) → c < length t.outs → at t.outs c < length rank
    → ((j : ℕ) → Body t c j → (0 < at rank (at t.places j)) × (at rank (at t.places j) ≤ level))
    → {rank' queue' : List ℕ} → Entered (at t.outs c) (level + 1) rank queue rank' queue'
    → Queued t rank' queue' head end (length queue') level
queued_entered q c l m body e = ⊎_elim
    (λ a. rw (a.0, a.1) q)
    (λ a. rw (a.0, a.1) (queued_more q c l m a.2 a.3 body))
    e.cases
