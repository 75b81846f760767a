use Rattle.std.proofs.Common.{arith}
use Rattle.round.proofs.Additions.{turned_back}
use Rattle.round.proofs.sound.Round.next_number.Goals as goal

pub returns-then-clauses-self-ge-MAX_FILINGS-clause-refused : goal.returns-then-clauses-self-ge-MAX_FILINGS-clause-refused
returns-then-clauses-self-ge-MAX_FILINGS-clause-refused c =
    turned_back c.args.self.now.state c.args.p c.in_ok-condition.ensures.within.1 (omega (arith, c.clauses-clauses.ensures, c.if-clauses-self-ge-MAX_FILINGS.true))
