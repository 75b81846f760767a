use Rattle.std.proofs.Common.{ap, inl}
use Rattle.std.proofs.lemmas.Result.{err_from_is_err_and}
use Rattle.round.specs.Answers.{refusal}
use Rattle.round.proofs.Openings.{only_ranked, stocked_from, opened_from, opened_broken}
use Rattle.round.proofs.Promise.{opening_promised}
use Rattle.round.proofs.sound.Round.open.Goals as goal

pub empty-requires-clause-ranked : goal.empty-requires-clause-ranked
empty-requires-clause-ranked g c = let r = c.args.self.now in only_ranked r.state r.ok

pub returns-in_err-fill_from-clause-promise : goal.returns-in_err-fill_from-clause-promise
returns-in_err-fill_from-clause-promise g c =
    let s = g.S.Source.sheet c.args.source.now in
    let e = err_from_is_err_and c.from_residual.result c.from_residual.ensures.1 in
    let r = c.in_err-fill_from.ensures.refused in
    rw (e.1, e.2) (opening_promised s (g.S.Source.lawful c.args.source.now).lawful (refusal c.in_err-fill_from.field-0.0) (inl (r.1, ap refusal r.0)))

pub settle-requires : goal.settle-requires
settle-requires g c =
    stocked_from _ (g.S.Source.sheet c.args.source.now) (g.S.Source.lawful c.args.source.now) c.in_ok-fill_from.ensures.kept (record { mark_room = c.empty.ensures.bare.usable.mark_room })

pub invariant_of-self-in-Ok-1 : goal.invariant_of-self-in-Ok-1
invariant_of-self-in-Ok-1 g c =
    let b = c.empty.ensures.bare in
    let o = opened_from _ c.settle.new.self c.in-Ok.discharged c.in-Ok.ensures b.unranked b.marks (g.S.Source.sheet c.args.source.now) c.in_ok-fill_from.ensures.kept c.clauses-clauses.ensures in
    record { ok = o.0 }

pub returns-in-Ok : goal.returns-in-Ok
returns-in-Ok g c =
    let s = g.S.Source.sheet c.args.source.now in
    let b = c.empty.ensures.bare in
    let o = opened_from _ c.settle.new.self c.in-Ok.discharged c.in-Ok.ensures b.unranked b.marks s c.in_ok-fill_from.ensures.kept c.clauses-clauses.ensures in
    record { answer = o.1; left = o.2; sheet = o.3; standing = o.4; promise = opening_promised s (g.S.Source.lawful c.args.source.now).lawful _ o.1 }

pub returns-in-Err-clause-promise : goal.returns-in-Err-clause-promise
returns-in-Err-clause-promise g c =
    let s = g.S.Source.sheet c.args.source.now in
    opening_promised s (g.S.Source.lawful c.args.source.now).lawful _ (opened_broken _ c.settle.new.self c.in-Err.refusal c.in-Err.ensures s c.in_ok-fill_from.ensures.kept)
