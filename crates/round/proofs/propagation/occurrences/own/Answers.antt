use Rattle.std.proofs.Common.{◌≡◌, ℕ, ◌+◌, ◌-◌, ◌<◌, ◌≤◌, List, length, refl, arith}
use Rattle.round.specs.Rows.{at, Rows}
use Rattle.round.specs.Lending.{rows_of}
use Rattle.round.proofs.Levels.{within}
use Rattle.round.proofs.Owners.{owned_more, owned_all, filled_inside, filled_before}
use Rattle.round.proofs.propagation.occurrences.own.Goals as goal

pub slice_bounds-fill-end : goal.slice_bounds-fill-end
slice_bounds-fill-end c = omega (arith, within (rows_of c.args.clauses) c.args.clauses.sheet.rows.rows (c.loop-c.c + 1) (omega arith), c.args.clauses.sheet.few_places)

pub loop-c-preserved : goal.loop-c-preserved
loop-c-preserved c =
    let t : Rows = rows_of c.args.clauses in
    let f = c.args.clauses.sheet.rows.rows in
    let a : ℕ = at t.starts c.loop-c.c in
    let e : ℕ = at t.starts (c.loop-c.c + 1) in
    let owner : List ℕ = c.loop-c.owner in
    let inside : a ≤ length owner = omega (arith, within t f c.loop-c.c (omega arith), c.args.clauses.sheet.few_places) in
    let filled : (k : ℕ) → k < e - a → at c.fill.new.self k ≡ c.loop-c.c = λ k h. c.fill.ensures.clones k 0 (omega arith) refl in
    owned_more t f c.loop-c.c owner _ (omega arith) c.loop-c.invariant
    (filled_inside owner c.fill.new.self a e c.loop-c.c inside (omega (arith, c.fill.ensures.len)) filled)
    (filled_before owner c.fill.new.self a e c.loop-c.c inside (omega (arith, c.fill.ensures.len)) filled)

pub returns : goal.returns
returns c =
    owned_all (rows_of c.args.clauses) c.args.clauses.sheet.rows.rows
    c.loop-c.c c.loop-c.owner (omega arith) c.loop-c.invariant
