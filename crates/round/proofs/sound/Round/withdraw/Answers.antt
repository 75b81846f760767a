use Rattle.std.proofs.Common.{ℕ, ◌+◌, ◌-◌, refl, ap, subst, arith}
use Rattle.horn.specs.Sheets.{Sheet}
use Rattle.round.specs.Ranks.{Ranks}
use Rattle.round.specs.declared.state.State.{State}
use Rattle.round.proofs.Openings.{lendable}
use Rattle.round.proofs.Withdrawals.{stood, withdrawn_kept, withdrawn_satisfiable, withdrawn_stocked, withdraw_step}
use Rattle.round.proofs.sound.Round.withdraw.Goals as goal

pub rows-requires : goal.rows-requires
rows-requires c =
    let r = c.args.self.now in
    let s = stood r.state c.args.m c.index.result.now c.if-m-eq0.false (omega (arith, c.len.ensures, c.if-m-len.false)) c.index.ensures in
    let st' : State = record r.state { tables = c.truncate-2.new.self; marks = c.truncate.new.self } in
    lendable st' (withdrawn_stocked r.state st' c.args.m c.index.result.now r.ok s refl c.truncate-2.ensures c.truncate.ensures.items (record { mark_room = omega (arith, c.truncate.ensures.capacity, r.ok.stocked.usable.mark_room) }))

pub invariant_of-self-2 : goal.invariant_of-self-2
invariant_of-self-2 c =
    let r = c.args.self.now in
    let n : ℕ = c.index.result.now in
    let s = stood r.state c.args.m n c.if-m-eq0.false (omega (arith, c.len.ensures, c.if-m-len.false)) c.index.ensures in
    let st' : State = record r.state { tables = c.truncate-2.new.self; marks = c.truncate.new.self; rank = c.ranks.new.rank; scratch = c.ranks.new.scratch } in
    record {
      ok = record {
        stocked = withdrawn_stocked r.state st' c.args.m n r.ok s refl c.truncate-2.ensures c.truncate.ensures.items (record { mark_room = omega (arith, c.truncate.ensures.capacity, r.ok.stocked.usable.mark_room) });
        kept = withdrawn_kept r.state st' c.args.m n r.ok s refl c.truncate-2.ensures c.truncate.ensures.items;
        ranked = subst (λ (x : Sheet). Ranks x c.ranks.new.rank.value) c.rows.ensures c.ranks.ensures;
        unbroken = withdrawn_satisfiable r.state st' c.args.m n r.ok s refl c.truncate-2.ensures c.truncate.ensures.items;
      };
    }

pub returns : goal.returns
returns c =
    let r = c.args.self.now in
    let n : ℕ = c.index.result.now in
    let s = stood r.state c.args.m n c.if-m-eq0.false (omega (arith, c.len.ensures, c.if-m-len.false)) c.index.ensures in
    let st' : State = record r.state { tables = c.truncate-2.new.self; marks = c.truncate.new.self; rank = c.ranks.new.rank; scratch = c.ranks.new.scratch } in
    withdraw_step r.state st' c.args.m n r.ok s refl c.truncate-2.ensures c.truncate.ensures.items (c.clauses.result - (r.state.opened + n)) (ap (λ (x : ℕ). x - (r.state.opened + n)) c.clauses.ensures)
