use Rattle.std.proofs.Common.{refl, rules}
use Rattle.round.specs.Replies.{fact_answer, number_answer, ask_answer}
use Rattle.round.specs.Events.{to_fact, to_ban, to_mark, to_withdraw, to_ask}
use Rattle.round.specs.declared.runs.Call.TheVariants.{Fact, Ban, Mark, Withdraw, Ask}
use Rattle.round.specs.declared.runs.Answered.TheVariants.{Filed, Banned, Marked, Withdrawn, Asked}
use Rattle.round.proofs.Events.{mapped}
use Rattle.round.proofs.sound.Round.make.Goals as goal

pub returns-in-Fact : goal.returns-in-Fact
returns-in-Fact c = mapped _ _ (Fact c.in-Fact.p) _ Filed fact_answer c.fact.result _ c.in-Fact.is (to_fact c.in-Fact.p) (λ _. refl) (λ _. refl) c.map.ensures.cases (λ x w. search rules) c.fact.ensures

pub returns-in-Ban : goal.returns-in-Ban
returns-in-Ban c = mapped _ _ (Ban c.in-Ban.p) _ Banned number_answer c.ban.result _ c.in-Ban.is (to_ban c.in-Ban.p) (λ _. refl) (λ _. refl) c.map-in-Ban.ensures.cases (λ x w. search rules) c.ban.ensures

pub returns-in-Mark : goal.returns-in-Mark
returns-in-Mark c = mapped _ _ Mark _ Marked number_answer c.mark.result _ c.in-Mark.is to_mark (λ _. refl) (λ _. refl) c.map-in-Mark.ensures.cases (λ x w. search rules) c.mark.ensures

pub returns-in-Withdraw : goal.returns-in-Withdraw
returns-in-Withdraw c = mapped _ _ (Withdraw c.in-Withdraw.m) _ Withdrawn number_answer c.withdraw.result _ c.in-Withdraw.is (to_withdraw c.in-Withdraw.m) (λ _. refl) (λ _. refl) c.map-in-Withdraw.ensures.cases (λ x w. search rules) c.withdraw.ensures

pub returns-in-Ask : goal.returns-in-Ask
returns-in-Ask c = mapped _ _ (Ask c.in-Ask.p) _ Asked ask_answer c.ask.result _ c.in-Ask.is (to_ask c.in-Ask.p) (λ _. refl) (λ _. refl) c.map-in-Ask.ensures.cases (λ x w. search rules) c.ask.ensures.step
