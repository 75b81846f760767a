use Rattle.std.proofs.Common.{◌≡◌, ℕ, ◌-◌, ◌≤◌, List, length}
use Rattle.round.specs.Needed.{by_mark}
use Rattle.round.proofs.Listing.{so_far, Written}
use Rattle.round.proofs.explaining.write_steps.Given as goal

abbrev pub invariant-loop-d : goal.invariant-loop-d
invariant-loop-d l =
    (l.n ≡ length (by_mark l.marks l.top l.d))
    × Written l.chosen (by_mark l.marks l.top l.d) l.initial.steps l.steps

pub record Inv (l : goal.Live-loop-p) : Type 0 where
  pub from_one : 1 ≤ l.p
  pub count : l.n ≡ length (so_far l.marks l.top l.d (l.p - 1))
  pub written : (before : List ℕ) → Written l.chosen (by_mark l.marks l.top l.d) before l.initial.steps
      → Written l.chosen (so_far l.marks l.top l.d (l.p - 1)) before l.steps

abbrev pub invariant-loop-p : goal.invariant-loop-p
invariant-loop-p l = Inv l
