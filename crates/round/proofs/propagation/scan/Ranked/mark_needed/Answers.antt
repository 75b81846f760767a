use Rattle.std.proofs.Common.{◌≡◌, ℕ, ◌+◌, ◌-◌, ◌<◌, cond, eqb, List, length, sym, ap, ◌∙◌, subst, subst₂, arith, refl}
use Rattle.horn.specs.Sheets.{Sheet, any_of}
use Rattle.round.specs.Rows.{at, Rows, clause_in}
use Rattle.round.specs.Lending.{rows_of, lent_sheet}
use Rattle.horn.specs.Levels.{chosen_body}
use Rattle.round.specs.Needed.{Marking}
use Rattle.round.proofs.Needed.{marks_begun, marks_skip, marks_more, marks_down, marks_all, marked_row}
use Rattle.round.proofs.Zeros.{cleared}
use Rattle.round.proofs.Lending.{lent_lawful}
use Rattle.round.proofs.propagation.scan.Ranked.mark_needed.Goals.{then-marks-p, else-marks-p}
use Rattle.round.proofs.propagation.scan.Ranked.mark_needed.Goals as goal

pub loop-d-init : goal.loop-d-init
loop-d-init c =
    let s : Sheet = lent_sheet c.args.self.now.clauses in
    let in_table : c.args.q < length c.fill.new.self = omega arith in
    marks_begun s (lent_lawful c.args.self.now.clauses) c.args.q c.requires.force c.args.self.now.rank.now c.fill.new.self c.args.self.now.ranks (cleared c.fill.new.self (length c.args.marks.now) c.fill.ensures.len (λ k h. c.fill.ensures.clones k 0 h refl)) in_table

pub loop-d-preserved : goal.loop-d-preserved
loop-d-preserved c =
    let s : Sheet = lent_sheet c.args.self.now.clauses in
    let e : c.loop-p.p - 1 ≡ c.args.self.now.clauses.conditions = omega (arith, c.loop-p.invariant.0) in
    marks_down s (lent_lawful c.args.self.now.clauses) c.args.q c.requires.force (c.loop-d.d - 1) c.loop-p.marks
    (subst (λ (x : ℕ). Marking s c.args.q (c.loop-d.d - 1 + 1) x c.loop-p.marks) e c.loop-p.invariant.1)

pub overflow_sub-chosen : goal.overflow_sub-chosen
overflow_sub-chosen c =
    let e : c.loop-p.p - 1 + 1 ≡ c.loop-p.p = omega (arith, c.loop-p.invariant.0) in
    omega (
      arith,
      ap (at c.args.chosen.now) e,
      (marked_row (rows_of c.args.self.now.clauses) c.args.self.now.clauses.conditions (lent_lawful c.args.self.now.clauses) c.args.q c.requires.force c.args.chosen.now c.requires.choices
          (c.loop-d.d - 1 + 1) (c.loop-p.p - 1) c.loop-p.marks c.loop-p.invariant.1 (omega arith) (ap (at c.loop-p.marks) e ∙ c.if-marks-p.true)).0,
    )

pub mark_body-requires : goal.mark_body-requires
mark_body-requires c =
    let e : c.loop-p.p - 1 + 1 ≡ c.loop-p.p = omega (arith, c.loop-p.invariant.0) in
    omega (
      arith,
      ap (at c.args.chosen.now) e,
      (marked_row (rows_of c.args.self.now.clauses) c.args.self.now.clauses.conditions (lent_lawful c.args.self.now.clauses) c.args.q c.requires.force c.args.chosen.now c.requires.choices
          (c.loop-d.d - 1 + 1) (c.loop-p.p - 1) c.loop-p.marks c.loop-p.invariant.1 (omega arith) (ap (at c.loop-p.marks) e ∙ c.if-marks-p.true)).1,
    )

pub loop-p-preserved : goal.loop-p-preserved
loop-p-preserved c =
    let rows = c.args.self.now.clauses in
    let t : Rows = rows_of rows in
    let s : Sheet = lent_sheet rows in
    let table : List ℕ = c.args.self.now.rank.now in
    let d : ℕ = c.loop-d.d - 1 + 1 in
    let k : ℕ = c.loop-p.p - 1 in
    let marks : List ℕ = c.loop-p.marks in
    let v = c.loop-p.invariant in
    let e : k + 1 ≡ c.loop-p.p = omega (arith, v.0) in
    let on : k + 1 ≡ c.loop-p.p + 1 - 1 = omega (arith, v.0) in
    elim c.if-marks-p.branch [
      | then-marks-p w ↦ (
          let hit : at marks (k + 1) ≡ d = ap (at marks) e ∙ w.if-marks-p.true in
          let row = marked_row t rows.conditions (lent_lawful rows) c.args.q c.requires.force c.args.chosen.now c.requires.choices d k marks v.1 (omega arith) hit in
          let body : (clause_in t (at c.args.chosen.now c.loop-p.p - 1)).body ≡ chosen_body s (k + 1) = ap (λ (x : ℕ). (clause_in t (at c.args.chosen.now x - 1)).body) (sym e) ∙ row.2 in (
            omega arith,
            subst₂ (λ (n : ℕ) (x : List ℕ). Marking s c.args.q d n x) on (sym w.marks-is)
                (marks_more s (lent_lawful rows) c.args.q c.requires.force d k marks v.1 table w.mark_body.new.marks c.args.self.now.ranks (omega arith) hit
                (λ p. w.mark_body.ensures p ∙ ap (λ (ps : List ℕ). cond (any_of (λ b. eqb b p) ps) (at table p) (at marks p)) body)),
          ))
      | else-marks-p w ↦ (
        omega arith,
        subst₂ (λ (n : ℕ) (x : List ℕ). Marking s c.args.q d n x) on (sym w.marks-is)
            (marks_skip s (lent_lawful rows) c.args.q c.requires.force d k marks v.1 (λ h. w.if-marks-p.false (sym (ap (at marks) e) ∙ h))),
      )
    ]

pub returns : goal.returns
returns c =
    let s : Sheet = lent_sheet c.args.self.now.clauses in
    let e : c.loop-d.d ≡ 0 = omega arith in
    marks_all s (lent_lawful c.args.self.now.clauses) c.args.q c.requires.force c.loop-d.marks
    (subst (λ (x : ℕ). Marking s c.args.q x 0 c.loop-d.marks) e c.loop-d.invariant)
