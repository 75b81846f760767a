use Rattle.std.proofs.Common.{◌≡◌, ℕ, List, take, string_bytes, refl, ap, ◌∙◌, subst, true-eqb, false-eqb}
use Rattle.std.proofs.lemmas.List.{take_min}
use Rattle.console.specs.Session.{Served}
use Rattle.console.specs.Replies.{reply_of}
use Rattle.console.specs.Taking.{meaning}
use Rattle.console.proofs.Turns.{none_yet, one_more, ended_here, broken_off}
use Rattle.console.proofs.serving.serve.Goals.{then-not-is_empty+in_ok-push_line-2, else-not-is_empty}
use Rattle.console.proofs.serving.serve.Goals as goal

pub loop-taken-init : goal.loop-taken-init
loop-taken-init c =
    rw c.new-out.ensures.bytes (none_yet _ c.in_ok-desk.desk c.in_ok-desk.ensures)

pub loop-taken-preserved : goal.loop-taken-preserved
loop-taken-preserved c =
    one_more _ _ c.in-Some.tail.now _ _
    c.loop-taken.desk c.answer.new.self (meaning c.in-Some.taken) (reply_of c.in_ok-reply.reply)
    c.loop-taken.invariant c.in-Some.ensures.0 c.in-Some.ensures.1 c.in_ok-reply.ensures (rw (← c.mark.ensures) c.in_ok-push_line.ensures)

pub returns : goal.returns
returns c =
    let front : take c.min.result c.args.input.now ≡ take 48000 c.args.input.now = rw c.min.ensures (take_min 48000 c.args.input.now) in
    subst (λ (l : List ℕ). Served l (string_bytes c.if-not-is_empty.out)) front
    (elim c.if-not-is_empty.branch [
      | then-not-is_empty+in_ok-push_line-2 w ↦ broken_off _ _ _ _ _ _ c.loop-taken.invariant c.in_default.ensures (false-eqb _ 0 w.if-not-is_empty.ensures) refl (ap string_bytes w.out-is ∙ w.in_ok-push_line-2.ensures)
      | else-not-is_empty w ↦ ended_here _ _ _ _ _ c.loop-taken.invariant c.in_default.ensures (true-eqb _ 0 w.if-not-is_empty.ensures) (ap string_bytes w.out-is)
    ])
