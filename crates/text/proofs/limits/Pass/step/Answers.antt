use Rattle.std.proofs.Common.{ℕ, ◌+◌, inl, refl, sym, subst, arith, below_more}
use Rattle.text.specs.Judging.{IsTooGreat, Limit}
use Rattle.text.specs.Limits.{Counted}
use Rattle.text.proofs.Counting.{counted, step_open, step_letter, step_other}
use Rattle.text.proofs.Marks.{Marked, marked_open, marked_same, marked_more, low_read}
use Rattle.text.proofs.Numbers.{lead_is, lead_absent}
use Rattle.text.proofs.limits.Pass.step.Goals as goal
use Rattle.text.proofs.limits.Pass.step.Goals.{in-40, in-80+in-Some+then-negated, in-80+in-Some+else-negated, in-80+in_default-condition, in_default}

pub insert-requires : goal.insert-requires
insert-requires c =
    let pass = c.args.self.now in
    (low_read pass.text.now pass.place c.in-Some.n c.in-Some.ensures (λ t. c.in_ok-check.ensures 3 (inl (refl, t)))).1

pub invariant_of-self : goal.invariant_of-self
invariant_of-self c =
    let pass = c.args.self.now in
    let s = pass.text.now in
    let i = pass.place in
    let small : IsTooGreat s i → ⊥ = λ t. c.in_ok-check.ensures 3 (inl (refl, t)) in
    let n = counted s i pass.counts pass.clauses pass.literals pass.greatest pass.low in
    let m : Marked s i pass.body = record { size = pass.size; held = pass.held; only = pass.only } in
    let next : Counted s (i + 1) c.match-self.self.1.1.1.0 × Marked s (i + 1) c.match-self.self.1.1.1.1.0 =
    elim c.match-self.branch [
      | in-40 w ↦
          subst (λ p. Counted s (i + 1) p.1.1.1.0 × Marked s (i + 1) p.1.1.1.1.0) (sym w.self-is)
          (step_open s i pass.counts c.requires n w.in-40.is, subst (Marked s (i + 1)) (sym w.clear.ensures) (marked_open s i pass.body m w.in-40.is))
      | in-80+in-Some+then-negated w ↦
          let r = low_read s i w.in-Some.n w.in-Some.ensures small in
          let e = lead_is s i w.in-Some.n r.0 in
          subst (λ p. Counted s (i + 1) p.1.1.1.0 × Marked s (i + 1) p.1.1.1.1.0) (sym w.self-is)
          (step_letter s i pass.counts c.requires n w.max-self.result (omega arith) (omega arith) w.in-80.is, subst (Marked s (i + 1)) (sym w.insert.ensures) (marked_more s i pass.body m (λ o. omega arith) w.in-Some.n r.0 r.1 w.if-negated.ensures))
      | in-80+in-Some+else-negated w ↦
          let r = low_read s i w.in-Some.n w.in-Some.ensures small in
          let e = lead_is s i w.in-Some.n r.0 in
          subst (λ p. Counted s (i + 1) p.1.1.1.0 × Marked s (i + 1) p.1.1.1.1.0) (sym w.self-is)
          (step_letter s i pass.counts c.requires n w.max-self.result (omega arith) (omega arith) w.in-80.is, marked_same s i pass.body m (λ o. omega arith) (λ _ _ neg. w.if-negated.ensures neg))
      | in-80+in_default-condition w ↦
          let e = lead_absent s i w.in-80.is w.in_default-condition.ensures in
          subst (λ p. Counted s (i + 1) p.1.1.1.0 × Marked s (i + 1) p.1.1.1.1.0) (sym w.self-is)
          (step_letter s i pass.counts c.requires n pass.counts.conditions (omega arith) pass.low w.in-80.is, marked_same s i pass.body m (λ o. omega arith) (λ k x _. w.in_default-condition.ensures k x))
      | in_default w ↦
          subst (λ p. Counted s (i + 1) p.1.1.1.0 × Marked s (i + 1) p.1.1.1.1.0) (sym w.self-is)
          (step_other s i pass.counts c.requires n (λ e. omega arith) (λ e. omega arith), marked_same s i pass.body m (λ e. omega arith) (λ k x _. omega (arith, x.letter)))
    ] in
    record {
      short = pass.short;
      within = omega arith;
      clear = below_more (λ j. (g : ℕ) → Limit s g j → ⊥) _ pass.clear c.in_ok-check.ensures;
      clauses = next.0.clauses_is;
      literals = next.0.literals_is;
      greatest = next.0.top_is;
      low = next.0.low_top;
      size = next.1.size;
      held = next.1.held;
      only = next.1.only;
    }
