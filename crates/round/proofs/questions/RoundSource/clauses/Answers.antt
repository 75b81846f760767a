use Rattle.std.proofs.Common.{sym, ◌∙◌}
use Rattle.round.specs.Held.{held_rows}
use Rattle.round.proofs.Lookups.{length_clauses}
use Rattle.round.proofs.questions.RoundSource.clauses.Goals as goal

pub returns : goal.returns
returns c =
    let t = c.args.self.now.state.tables in
    c.clauses.ensures ∙ t.outcomes.ok.0 ∙ sym (length_clauses (held_rows t))
