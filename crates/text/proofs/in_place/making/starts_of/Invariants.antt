use Rattle.std.proofs.Common.{◌≡◌, ◌≤◌, ◌++◌, drop, vec_items, vec_capacity}
use Rattle.text.specs.Reading.{starts_in}
use Rattle.text.proofs.in_place.making.starts_of.Given as goal

abbrev pub invariant-loop-place : goal.invariant-loop-place
invariant-loop-place l = (vec_items l.starts ++ starts_in l.place (drop l.place l.text) ≡ starts_in 0 l.text) × (l.count ≤ vec_capacity l.starts)
