use Rattle.std.proofs.Common.{◌≡◌, ℕ, List, [], ◌∷◌, take, vec_items, vec_len, sym, ap, ◌∙◌, subst₂}
use Rattle.std.proofs.lemmas.List.{with_items_is}
use Rattle.std.proofs.lemmas.Result.{err_from_is_err_and}
use Rattle.round.specs.Answers.{ok}
use Rattle.round.specs.Calls.{explain}
use Rattle.round.specs.Runs.{Step}
use Rattle.round.specs.Sound.{position}
use Rattle.round.specs.Events.{to_explain, to_any}
use Rattle.round.specs.declared.runs.Call.TheVariants.{Explain}
use Rattle.round.proofs.sound.Round.explain_into.Goals as goal

pub returns-in_err-explained : goal.returns-in_err-explained
returns-in_err-explained c =
    let e = err_from_is_err_and c.from_residual.result c.from_residual.ensures.1 in
    rw (e.1, e.2) (record { step = rw (← c.deref_mut.ensures.len) c.in_err-explained.ensures.step; suits = to_any (Explain c.args.p (vec_len c.args.steps)) c.in_err-explained.field-0.0 })

pub returns : goal.returns
returns c =
    let x = c.in_ok-explained.explained in
    let buffer : List ℕ = c.explain.new.steps in
    let whole = with_items_is c.args.steps buffer (c.explain.auto.steps ∙ c.deref_mut.ensures.len) in
    let written : take x.steps buffer ≡ vec_items c.truncate.new.self = sym (c.truncate.ensures.items ∙ ap (take x.steps) whole) in
    record {
      step = subst₂ (λ (k : ℕ) (ws : List ℕ). Step (position c.args.self.now) (explain c.args.p k) (ok (x.length ∷ (x.steps ∷ [])) ws) (position c.explain.new.self)) c.deref_mut.ensures.len written c.in_ok-explained.ensures.step;
      suits = to_explain c.args.p (vec_len c.args.steps) x c.truncate.new.self;
    }
