use Rattle.std.proofs.Common.{◌≡◌, ℕ, suc, ◌-◌, ◌<◌, length, vec_items, Some, None, Option, sym, refl, ap, ◌∙◌, arith}
use Rattle.std.proofs.lemmas.Bool.{cases_lt}
use Rattle.std.proofs.lemmas.List.{get_or_default}
use Rattle.round.specs.Rows.{at}
use Rattle.round.specs.Occurrences.{cursor}
use Rattle.round.proofs.Sets.{split}
use Rattle.round.proofs.Turns.{counted_at, counted_first, counted_next, counted_last, queued_step}
use Rattle.round.proofs.propagation.levels.Levels.discharge.Goals as goal

-- no place is the end of a chain
ended : (o : Option ℕ) → ((j : ℕ) → o ≡ Some j → ⊥) → cursor o ≡ 0
ended None h = refl
ended (Some j) h = absurd (h j refl)

pub loop-next-init : goal.loop-next-init
loop-next-init c =
    let b = c.requires.before in
    let queue = vec_items c.args.self.now.reached.queue in
    let p : ℕ = at queue c.args.front.head in
    let there : c.args.front.head < length queue = omega (arith, c.requires.here, b.queued.order) in
    let first : cursor c.last-next.result ≡ at c.args.occurrences.now.first.value p =
    c.last-next.ensures ∙ ap (at c.args.occurrences.now.first.value) (c.index.ensures ∙ get_or_default queue c.args.front.head c.index.result.now 0 there) in
    record {
      here = refl;
      there = there;
      room = split (cases_lt 0 (cursor c.last-next.result)) (λ h. omega (arith, first, (c.requires.linked.chained.starts_at p (omega arith)).0)) (λ h. omega arith);
      place = λ h. ap (λ (x : ℕ). at c.args.clauses.places.now (x - 1)) first ∙ (c.requires.linked.chained.starts_at p (omega arith)).1;
      between = record {
        size = b.size;
        queued = b.queued;
        counted = counted_at refl (sym first) (counted_first c.requires.linked.chained there b.counted);
      };
    }

pub loop-next-preserved : goal.loop-next-preserved
loop-next-preserved c =
    let i : ℕ = c.in-Some.place in
    let v = c.loop-next.invariant in
    let here : cursor c.loop-next.next ≡ suc i = ap cursor c.in-Some.is in
    let last : i ≡ cursor c.loop-next.next - 1 = omega arith in
    let l : i < length c.args.clauses.places.now = omega (arith, v.room) in
    let e : at c.args.clauses.places.now i ≡ at (vec_items c.args.self.now.reached.queue) c.args.front.head = ap (at c.args.clauses.places.now) last ∙ v.place (omega arith) in
    record {
      here = c.visit.ensures.kept.1 c.args.front.head v.there ∙ v.here;
      there = omega (arith, c.visit.ensures.kept.0, v.there);
      room = omega (arith, c.before-next.ensures, c.requires.linked.chained.before i l);
      place = λ h. ap (λ (x : ℕ). at c.args.clauses.places.now (x - 1)) c.before-next.ensures ∙ c.requires.linked.chained.goes_on i l (omega (arith, c.before-next.ensures)) ∙ e;
      between = record {
        size = c.visit.ensures.after.size;
        queued = c.visit.ensures.after.queued;
        counted = counted_at e (sym c.before-next.ensures) (counted_next i c.requires.linked.chained l c.visit.ensures.after.counted);
      };
    }

pub returns : goal.returns
returns c =
    let v = c.loop-next.invariant in
    let z : cursor c.loop-next.next ≡ 0 = ended c.loop-next.next c.in_default.not-Some in
    record {
      size = v.between.size;
      queued = queued_step c.requires.here v.between.queued;
      counted = counted_last c.args.clauses.sheet.rows v.here (counted_at refl z v.between.counted);
    }
