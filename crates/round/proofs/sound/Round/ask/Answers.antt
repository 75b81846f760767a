use Rattle.std.proofs.Common.{◌≡◌, ℕ, Bool, ltb, List, Ok, sym, refl, ap, ◌∙◌, subst}
use Rattle.horn.specs.Sheets.{Sheet}
use Rattle.round.specs.Answers.{Asks}
use Rattle.round.specs.Replies.{ask_answer}
use Rattle.round.specs.Rows.{at}
use Rattle.round.specs.Good.{state_sheet}
use Rattle.round.specs.Sound.{round_is}
use Rattle.round.proofs.Meaning.{in_force_ranked}
use Rattle.round.proofs.Replying.{asks_ok}
use Rattle.round.proofs.sound.Round.ask.Goals as goal

pub returns : goal.returns
returns c =
    let r = c.args.self.now in
    let p : ℕ = c.args.p in
    let w = c.in_ok-p.ensures.within in
    let is : at c.deref.result.now c.in_ok-p.p ≡ at r.state.rank.value p = ap (λ (xs : List ℕ). at xs c.in_ok-p.p) c.deref.ensures ∙ ap (at r.state.rank.value) w.0 in
    let b : Bool = ltb 0 (at c.deref.result.now c.in_ok-p.p) in
    let a = asks_ok (state_sheet r.state) p b w.1.0 w.1.1 (ap (ltb 0) is ∙ in_force_ranked (state_sheet r.state) r.state.rank.value r.ok.ranked p w.1.0) in
    record {
      answer = a;
      step = record {
        answers = subst (λ (s : Sheet). Asks s p (ask_answer (Ok b))) (sym (round_is r)) a;
        sheet = refl;
        stands = refl;
      };
    }
