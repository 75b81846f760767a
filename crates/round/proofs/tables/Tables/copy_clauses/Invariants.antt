use Rattle.round.proofs.Copying.{CopiedTo}
use Rattle.round.proofs.tables.Tables.copy_clauses.Given as goal

abbrev pub invariant-loop-i : goal.invariant-loop-i
invariant-loop-i g l = CopiedTo (g.S.Source.sheet l.source) l.self l.i l.literals
