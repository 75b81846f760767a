use Rattle.std.proofs.Common.{refl}
use Rattle.std.proofs.lemmas.Result.{err_from_is_err_and}
use Rattle.round.specs.Calls.{of_fact}
use Rattle.round.proofs.Additions.{fact_stocked, fact_good, fact_step, fact_taken_back, fact_refused}
use Rattle.round.proofs.sound.Round.fact.Goals as goal

pub returns-in_err-number : goal.returns-in_err-number
returns-in_err-number c =
    let e = err_from_is_err_and c.from_residual.result c.from_residual.ensures.1 in
    rw (e.1, e.2) (c.in_err-number.ensures.refused (of_fact c.args.p) refl)

pub settle-requires : goal.settle-requires
settle-requires c =
    let r = c.args.self.now in
    fact_stocked r.state c.args.p c.in_ok-number.number r.ok c.in_ok-number.ensures.may c.end_clause.new.self c.end_clause.ensures

pub invariant_of-self : goal.invariant_of-self
invariant_of-self c =
    let r = c.args.self.now in
    record { ok = fact_taken_back r.state c.args.p c.in_ok-number.number r.ok c.in_ok-number.ensures.may c.end_clause.new.self c.end_clause.ensures c.settle.new.self c.in-Err.ensures.0 c.in-Err.ensures.2 c.truncate.new.self c.truncate.ensures }

pub returns-in-Err : goal.returns-in-Err
returns-in-Err c =
    let r = c.args.self.now in
    rw c.in-Err.ensures.1
    (fact_refused r.state c.args.p c.in_ok-number.number r.ok c.in_ok-number.ensures.may c.end_clause.new.self c.end_clause.ensures c.settle.new.self c.in-Err.ensures.0 c.in-Err.ensures.2 c.truncate.new.self c.truncate.ensures)

pub invariant_of-self-in-Ok-1 : goal.invariant_of-self-in-Ok-1
invariant_of-self-in-Ok-1 c =
    let r = c.args.self.now in
    record { ok = fact_good r.state c.args.p c.in_ok-number.number r.ok c.in_ok-number.ensures.may c.end_clause.new.self c.end_clause.ensures c.settle.new.self c.in-Ok.discharged c.in-Ok.ensures }

pub returns-in-Ok : goal.returns-in-Ok
returns-in-Ok c =
    let r = c.args.self.now in
    fact_step r.state c.args.p c.in_ok-number.number r.ok c.in_ok-number.ensures.may c.end_clause.new.self c.end_clause.ensures c.settle.new.self c.in-Ok.discharged c.in-Ok.ensures
