use Rattle.std.proofs.Common.{◌≡◌, ℕ, ◌<◌, false}
use Rattle.horn.specs.Bans.{breaks}
use Rattle.round.specs.Rows.{clause_in}
use Rattle.round.specs.Lending.{rows_of}
use Rattle.round.specs.Ranks.{ranked}
use Rattle.round.proofs.propagation.scan.Ranked.lowest_broken.Given as goal

abbrev pub invariant-loop-c : goal.invariant-loop-c
invariant-loop-c l = (d : ℕ) → d < l.c → breaks (ranked l.self.rank.now) (clause_in (rows_of l.self.clauses) d) ≡ false
