use Rattle.std.proofs.Common.{ℕ, List, refl, ap, arith}
use Rattle.round.specs.Rows.{at}
use Rattle.std.proofs.lemmas.Result.{err_from_is_err_and}
use Rattle.round.specs.Calls.{of_ban}
use Rattle.round.proofs.Positions.{room_places}
use Rattle.round.proofs.Additions.{ban_refused, ban_good, ban_step}
use Rattle.round.proofs.sound.Round.ban.Goals as goal

pub returns-in_err-number : goal.returns-in_err-number
returns-in_err-number c =
    let e = err_from_is_err_and c.from_residual.result c.from_residual.ensures.1 in
    rw (e.1, e.2) (c.in_err-number.ensures.refused (of_ban c.args.p) refl)

pub returns-then-deref-p-gt0 : goal.returns-then-deref-p-gt0
returns-then-deref-p-gt0 c =
    let r = c.args.self.now in
    ban_refused r.state c.args.p c.in_ok-number.number r.ok c.in_ok-number.ensures.may _ (ap (λ (xs : List ℕ). at xs c.args.p) c.deref.ensures) c.if-deref-p-gt0.true

pub add_place-requires : goal.add_place-requires
add_place-requires c =
    let r = c.args.self.now in
    omega (arith, room_places r.state r.ok.stocked.filled r.ok.kept, c.in_ok-number.ensures.may.room)

pub invariant_of-self : goal.invariant_of-self
invariant_of-self c =
    let r = c.args.self.now in
    record { ok = ban_good r.state c.args.p c.in_ok-number.number r.ok c.in_ok-number.ensures.may _ (ap (λ (xs : List ℕ). at xs c.args.p) c.deref.ensures) c.if-deref-p-gt0.false c.add_place.new.self c.end_clause.new.self c.add_place.ensures c.end_clause.ensures }

pub returns : goal.returns
returns c =
    let r = c.args.self.now in
    ban_step r.state c.args.p c.in_ok-number.number r.ok c.in_ok-number.ensures.may _ (ap (λ (xs : List ℕ). at xs c.args.p) c.deref.ensures) c.if-deref-p-gt0.false c.add_place.new.self c.end_clause.new.self c.add_place.ensures c.end_clause.ensures
