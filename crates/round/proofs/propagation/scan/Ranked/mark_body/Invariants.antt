use Rattle.std.proofs.Common.{◌≡◌, ℕ, cond, eqb, take}
use Rattle.horn.specs.Sheets.{any_of}
use Rattle.round.specs.Rows.{at}
use Rattle.round.proofs.propagation.scan.Ranked.mark_body.Given as goal

abbrev pub invariant-loop-p : goal.invariant-loop-p
invariant-loop-p l = (p : ℕ) → at l.marks p ≡ cond (any_of (λ b. eqb b p) (take l.p-index l.p-items)) (at l.self.rank.now p) (at l.initial.marks p)
