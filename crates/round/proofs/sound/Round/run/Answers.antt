use Rattle.std.proofs.Common.{◌+◌, ◌≤◌, [], length, vec_items, vec_capacity, refl, ap, ◌∙◌, arith}
use Rattle.std.proofs.lemmas.Result.{err_from_is_err_and}
use Rattle.round.specs.Sound.{position}
use Rattle.round.proofs.Events.{replied_none, replied_more, ran_part}
use Rattle.round.proofs.sound.Round.run.Goals as goal

pub returns-in_err-events : goal.returns-in_err-events
returns-in_err-events c =
    let x = err_from_is_err_and c.from_residual.result c.from_residual.ensures.1 in
    let p = position c.args.self.now in
    rw x.1 (ran_part p p p c.args.calls.now 0 [] x.0 (replied_none p) refl)

pub returns-in_err-reply : goal.returns-in_err-reply
returns-in_err-reply c =
    let x = err_from_is_err_and c.from_residual-in_err-reply.result c.from_residual-in_err-reply.ensures.1 in
    let l = c.loop-call in
    rw x.1 (ran_part (position c.args.self.now) (position l.self) (position c.make.new.self) c.args.calls.now l.call-index (vec_items l.events) x.0 l.invariant.replied c.in_err-reply.ensures)

pub loop-call-preserved : goal.loop-call-preserved
loop-call-preserved c =
    let l = c.loop-call in
    let done = replied_more (position c.args.self.now) (position l.self) (position c.make.new.self) c.args.calls.now (vec_items l.events) (vec_items c.push_reserved.new.self) l.call-index _ c.in_ok-reply.reply c.loop-call-test.true l.invariant.replied c.in_ok-reply.ensures c.push_reserved.ensures.items in
    let room : length c.args.calls.now ≤ vec_capacity c.push_reserved.new.self = omega (arith, c.push_reserved.ensures.capacity, l.invariant.room) in
    record { replied = done; count = c.push_reserved.ensures.len ∙ ap (λ n. n + 1) l.invariant.count; room = room }
