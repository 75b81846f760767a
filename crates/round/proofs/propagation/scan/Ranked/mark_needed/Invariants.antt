use Rattle.std.proofs.Common.{◌+◌, ◌-◌, ◌≤◌}
use Rattle.round.specs.Lending.{lent_sheet}
use Rattle.round.specs.Needed.{Marking}
use Rattle.round.proofs.propagation.scan.Ranked.mark_needed.Given as goal

abbrev pub invariant-loop-d : goal.invariant-loop-d
invariant-loop-d l = Marking (lent_sheet l.self.clauses) l.q l.d 0 l.marks

abbrev pub invariant-loop-p : goal.invariant-loop-p
invariant-loop-p l = (1 ≤ l.p) × Marking (lent_sheet l.self.clauses) l.q (l.d + 1) (l.p - 1) l.marks
