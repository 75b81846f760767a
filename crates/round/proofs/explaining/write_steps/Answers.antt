use Rattle.std.proofs.Common.{◌≡◌, ℕ, ◌+◌, ◌-◌, List, [], ◌∷◌, ◌++◌, length, sym, ap, ◌∙◌, subst, subst₂, add-one, arith}
use Rattle.std.proofs.lemmas.List.{length_push}
use Rattle.round.specs.Needed.{by_mark}
use Rattle.round.proofs.Listing.{so_far, so_far_hit, so_far_miss, hit_room, Written, written_more}
use Rattle.round.proofs.explaining.write_steps.Goals.{then-marks-p, else-marks-p}
use Rattle.round.proofs.explaining.write_steps.Goals as goal

pub offset_bounds-steps-n : goal.offset_bounds-steps-n
offset_bounds-steps-n c = omega (arith, c.loop-p.invariant.count, hit_room c.args.marks.now c.args.top c.loop-d.d c.loop-p.p c.args.last c.loop-p.invariant.from_one (omega arith) c.loop-d-test.true c.if-marks-p.true)

pub bounds-steps-n : goal.bounds-steps-n
bounds-steps-n c = omega (arith, c.loop-p.invariant.count, hit_room c.args.marks.now c.args.top c.loop-d.d c.loop-p.p c.args.last c.loop-p.invariant.from_one (omega arith) c.loop-d-test.true c.if-marks-p.true)

pub overflow_add-n : goal.overflow_add-n
overflow_add-n c = omega (arith, c.loop-p.invariant.count, hit_room c.args.marks.now c.args.top c.loop-d.d c.loop-p.p c.args.last c.loop-p.invariant.from_one (omega arith) c.loop-d-test.true c.if-marks-p.true)

pub loop-p-preserved : goal.loop-p-preserved
loop-p-preserved c =
    let marks : List ℕ = c.args.marks.now in
    let picked : List ℕ = c.args.chosen.now in
    let d : ℕ = c.loop-d.d in
    let p : ℕ = c.loop-p.p in
    let v = c.loop-p.invariant in
    let done : List ℕ = so_far marks c.args.top d (p - 1) in
    let next : List ℕ = so_far marks c.args.top d (p + 1 - 1) in
    let back : p + 1 - 1 ≡ p = omega arith in
    elim c.if-marks-p.branch [
      | then-marks-p w ↦ (
          let e : next ≡ done ++ p ∷ [] = ap (so_far marks c.args.top d) back ∙ so_far_hit marks c.args.top d p v.from_one w.if-marks-p.true in
          let room = hit_room marks c.args.top d p c.args.last v.from_one (omega arith) c.loop-d-test.true w.if-marks-p.true in
          record {
            from_one = omega arith;
            count = omega (arith, w.n-is, v.count, ap length e, length_push done p);
            written = λ before h. subst₂ (λ (l x : List ℕ). Written picked l before x) (sym e) (sym w.steps-is)
                (written_more picked done before c.loop-p.steps p c.loop-p.n v.count (omega (arith, v.count, room)) (v.written before h));
          })
      | else-marks-p w ↦ (
          let e : next ≡ done = ap (so_far marks c.args.top d) back ∙ so_far_miss marks c.args.top d p v.from_one w.if-marks-p.false in
          record {
            from_one = omega arith;
            count = omega (arith, w.n-is, v.count, ap length e);
            written = λ before h. subst₂ (λ (l x : List ℕ). Written picked l before x) (sym e) (sym w.steps-is) (v.written before h);
          })
    ]

pub loop-d-preserved : goal.loop-d-preserved
loop-d-preserved c =
    let marks : List ℕ = c.args.marks.now in
    let d : ℕ = c.loop-d.d in
    let v = c.loop-p.invariant in
    let last : c.loop-p.p - 1 ≡ c.args.top = omega (arith, v.from_one) in
    let e : so_far marks c.args.top d (c.loop-p.p - 1) ≡ by_mark marks c.args.top (d + 1) =
    ap (so_far marks c.args.top d) last ∙ ap (by_mark marks c.args.top) (sym (add-one d)) in (
      v.count ∙ ap length e,
      subst (λ (l : List ℕ). Written c.args.chosen.now l c.args.steps.now c.loop-p.steps) e (v.written c.args.steps.now c.loop-d.invariant.1),
    )
