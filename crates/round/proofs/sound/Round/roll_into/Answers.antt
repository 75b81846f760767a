use Rattle.std.proofs.Common.{◌≡◌, ℕ, List, [], ◌∷◌, take, vec_items, vec_len, sym, ap, ◌∙◌, subst₂}
use Rattle.std.proofs.lemmas.List.{with_items_is}
use Rattle.std.proofs.lemmas.Result.{err_from_is_err_and}
use Rattle.round.specs.Answers.{ok, words_for}
use Rattle.round.specs.Calls.{roll}
use Rattle.round.specs.Runs.{Step}
use Rattle.round.specs.Sound.{position}
use Rattle.round.specs.Events.{to_roll, to_any}
use Rattle.round.specs.declared.runs.Call.TheVariants.{Roll}
use Rattle.round.proofs.sound.Round.roll_into.Goals as goal

pub returns-in_err-size : goal.returns-in_err-size
returns-in_err-size c =
    let e = err_from_is_err_and c.from_residual.result c.from_residual.ensures.1 in
    rw (e.1, e.2) (record { step = rw (← c.deref_mut.ensures.len) c.in_err-size.ensures.step; suits = to_any (Roll (vec_len c.args.words)) c.in_err-size.field-0.0 })

pub returns : goal.returns
returns c =
    let p = position c.args.self.now in
    let buffer : List ℕ = c.roll.new.words in
    let whole = with_items_is c.args.words buffer (c.roll.auto.words ∙ c.deref_mut.ensures.len) in
    let written : take (words_for c.args.self.now.state.tables.conditions) buffer ≡ vec_items c.truncate.new.self =
    sym (c.truncate.ensures.items ∙ ap (take c.words_for.result) whole ∙ ap (λ (k : ℕ). take k buffer) c.words_for.ensures) in
    record {
      step = subst₂ (λ (k : ℕ) (ws : List ℕ). Step p (roll k) (ok (c.in_ok-size.size ∷ []) ws) p) c.deref_mut.ensures.len written c.in_ok-size.ensures.step;
      suits = to_roll (vec_len c.args.words) c.in_ok-size.size c.truncate.new.self;
    }
