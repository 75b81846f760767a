use Rattle.std.proofs.Common.{◌≡◌, false, leb, sym, ap, ◌∙◌, arith}
use Rattle.std.proofs.lemmas.Bool.{le-leb, lt-leb, and_right}
use Rattle.round.specs.Ranks.{ranked}
use Rattle.round.proofs.Rolls.{and_true}
use Rattle.round.proofs.propagation.scan.Ranked.holds.Goals as goal

pub returns-then-p-from : goal.returns-then-p-from
returns-then-p-from c = sym (and_true (ranked c.args.self.now.rank.now c.args.p) (leb c.args.p c.args.self.now.clauses.conditions) (le-leb c.args.p c.args.self.now.clauses.conditions (omega arith)))

pub returns-else-p-from : goal.returns-else-p-from
returns-else-p-from c =
    let above : leb c.args.p c.args.self.now.clauses.conditions ≡ false = lt-leb c.args.p c.args.self.now.clauses.conditions (omega arith) in
    ap (leb c.args.p) c.from.ensures ∙ above ∙ sym (and_right (ranked c.args.self.now.rank.now c.args.p) (leb c.args.p c.args.self.now.clauses.conditions) above)
