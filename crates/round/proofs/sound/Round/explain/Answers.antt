use Rattle.std.proofs.Common.{◌≡◌, ℕ, length, sym, refl, ap, ◌∙◌, subst, inl}
use Rattle.std.proofs.lemmas.Result.{err_from_is_err_and}
use Rattle.horn.specs.Sheets.{Sheet, Condition}
use Rattle.horn.specs.Levels.{explanation}
use Rattle.round.specs.Answers.{Explains, refusal}
use Rattle.round.specs.Replies.{explain_answer, steps_left}
use Rattle.round.specs.Sound.{round_is}
use Rattle.round.proofs.Openings.{lendable}
use Rattle.round.proofs.Replying.{explain_leaves}
use Rattle.round.proofs.sound.Round.explain.Goals as goal

pub returns-in_err-condition : goal.returns-in_err-condition
returns-in_err-condition c =
    let r = c.args.self.now in
    let e = err_from_is_err_and c.from_residual.result c.from_residual.ensures.1 in
    let o = c.in_err-condition.ensures.outside in
    rw (e.1, e.2)
    (record {
      step = record {
        answers = subst (λ (s : Sheet). Explains s c.args.p (length c.args.steps.now) (refusal c.in_err-condition.field-0.0)) (sym (round_is r)) (inl (o.1, ap refusal o.0));
        sheet = refl;
        stands = refl;
      };
      buffer = refl;
    })

pub rows-requires : goal.rows-requires
rows-requires c = lendable c.args.self.now.state c.args.self.now.ok.stocked

pub explain-requires : goal.explain-requires
explain-requires c = subst (λ (s : Sheet). Condition s c.args.p) (sym c.rows.ensures) c.in_ok-condition.ensures.within.1

pub returns : goal.returns
returns c =
    let r = c.args.self.now in
    let n : ℕ = length c.args.steps.now in
    let a = explain_answer c.explain.result c.explain.new.steps in
    record {
      step = record {
        answers = subst (λ (s : Sheet). Explains s c.args.p n a) (c.rows.ensures ∙ sym (round_is r)) c.explain.ensures.answer;
        sheet = refl;
        stands = sym (explain_leaves _ c.args.p n a);
      };
      buffer = subst (λ (s : Sheet). c.explain.new.steps ≡ steps_left c.explain.result (explanation s c.args.p) c.args.steps.now) c.rows.ensures c.explain.ensures.buffer;
    }
