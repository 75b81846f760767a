use Rattle.std.proofs.Common.{ℕ, ◌+◌, ◌-◌, ◌≤◌, length, refl, inr, arith}
use Rattle.horn.specs.Sheets.{Sheet, Lawful}
use Rattle.round.proofs.Copying.{literals_take, size_here, size_is, outcome_here, literals_more, copied_more, copied_all}
use Rattle.round.proofs.tables.Tables.copy_clauses.Goals as goal

pub returns-then-literals-from-clause-refused : goal.returns-then-literals-from-clause-refused
returns-then-literals-from-clause-refused g c =
    let s : Sheet = g.S.Source.sheet c.args.source.now in
    let w : Lawful s = (g.S.Source.lawful c.args.source.now).lawful in
    let i : ℕ = c.loop-i.i in
    let h : i ≤ length s.clauses = omega (arith, c.clauses-clauses.ensures) in
    let n = size_here s i w (omega arith) h c.unwrap_or-size.result c.body_len.result c.body_len.ensures c.unwrap_or-size.ensures in
    let o = outcome_here s i w (omega arith) h c.unwrap_or-outcome.result c.outcome.result c.outcome.ensures c.unwrap_or-outcome.ensures in
    let u = literals_more s i w (omega arith) h c.loop-i.literals c.unwrap_or-size.result c.min.result c.unwrap_or-outcome.result c.loop-i.invariant.literals_used n o c.min.ensures in
    (refl, inr (omega (arith, u, literals_take (i + 1 - 1) s.clauses, c.from.ensures, c.from-in-loop-i.ensures, c.if-literals-from.true)))

pub copy_body-requires-clause-size : goal.copy_body-requires-clause-size
copy_body-requires-clause-size g c =
    let s : Sheet = g.S.Source.sheet c.args.source.now in
    let w : Lawful s = (g.S.Source.lawful c.args.source.now).lawful in
    let h : c.loop-i.i ≤ length s.clauses = omega (arith, c.clauses-clauses.ensures) in
    size_is s c.loop-i.i w (omega arith) h c.unwrap_or-size.result (size_here s c.loop-i.i w (omega arith) h c.unwrap_or-size.result c.body_len.result c.body_len.ensures c.unwrap_or-size.ensures)

pub loop-i-preserved : goal.loop-i-preserved
loop-i-preserved g c =
    let s : Sheet = g.S.Source.sheet c.args.source.now in
    let w : Lawful s = (g.S.Source.lawful c.args.source.now).lawful in
    let i : ℕ = c.loop-i.i in
    let h : i ≤ length s.clauses = omega (arith, c.clauses-clauses.ensures) in
    let n = size_here s i w (omega arith) h c.unwrap_or-size.result c.body_len.result c.body_len.ensures c.unwrap_or-size.ensures in
    let o = outcome_here s i w (omega arith) h c.unwrap_or-outcome.result c.outcome.result c.outcome.ensures c.unwrap_or-outcome.ensures in
    let b = c.copy_body.ensures in
    rw (c.from.ensures, c.from-in-loop-i.ensures)
    (copied_more s c.loop-i.self c.copy_body.new.self c.end_clause.new.self i c.loop-i.literals c.unwrap_or-size.result c.unwrap_or-outcome.result c.min.result w (omega arith) h c.loop-i.invariant n o c.min.ensures
    (omega (arith, c.if-literals-from.false, c.from.ensures, c.from-in-loop-i.ensures)) b.sheet b.body b.clauses b.places c.end_clause.ensures)

pub returns-else-literals-from-clause-kept : goal.returns-else-literals-from-clause-kept
returns-else-literals-from-clause-kept g c =
    let s : Sheet = g.S.Source.sheet c.args.source.now in
    let w : Lawful s = (g.S.Source.lawful c.args.source.now).lawful in
    let i : ℕ = c.loop-i.i in
    let h : i ≤ length s.clauses = omega (arith, c.clauses-clauses.ensures) in
    let n = size_here s i w (omega arith) h c.unwrap_or-size.result c.body_len.result c.body_len.ensures c.unwrap_or-size.ensures in
    let o = outcome_here s i w (omega arith) h c.unwrap_or-outcome.result c.outcome.result c.outcome.ensures c.unwrap_or-outcome.ensures in
    let b = c.copy_body.ensures in
    let more =
    copied_more s c.loop-i.self c.copy_body.new.self c.end_clause.new.self i c.loop-i.literals c.unwrap_or-size.result c.unwrap_or-outcome.result c.min.result w (omega arith) h c.loop-i.invariant n o c.min.ensures
    (omega (arith, c.if-literals-from.false, c.from.ensures, c.from-in-loop-i.ensures)) b.sheet b.body b.clauses b.places c.end_clause.ensures in
    copied_all s c.end_clause.new.self (i + 1) _ (omega (arith, c.clauses-clauses.ensures)) (omega (arith, c.clauses-clauses.ensures)) (omega (arith, c.clauses-clauses.ensures)) more
