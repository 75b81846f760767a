use Rattle.std.proofs.Common.{◌≡◌, ℕ, ◌-◌, ◌<◌, List, length, refl, ◌∙◌, subst, arith}
use Rattle.round.specs.Rows.{at, Rows, clause_in}
use Rattle.round.specs.Lending.{rows_of}
use Rattle.round.specs.Needed.{lower, ChosenFrom}
use Rattle.round.proofs.Lending.{lent_lawful}
use Rattle.round.proofs.Meaning.{body_tested}
use Rattle.round.proofs.Reasons.{chosen_hit, chosen_miss, chosen_found}
use Rattle.round.proofs.propagation.scan.Ranked.choose.Goals as goal

pub loop-c-preserved-then-all_lower : goal.loop-c-preserved-then-all_lower
loop-c-preserved-then-all_lower c =
    let t : Rows = rows_of c.args.self.now.clauses in
    let in_table : at t.outs (c.loop-c.c - 1) < length c.loop-c.chosen = omega (arith, c.args.self.now.clauses.sheet.rows.outcomes (c.loop-c.c - 1) (omega arith)) in
    let table : List ℕ = c.args.self.now.rank.now in
    chosen_hit t table c.loop-c.chosen c.loop-c.c (omega arith) c.loop-c.invariant in_table (body_tested (lower table (at table (at t.outs (c.loop-c.c - 1)))) t (c.loop-c.c - 1) (clause_in t (c.loop-c.c - 1)).body _ refl c.all_lower.ensures ∙ c.if-all_lower.true)

pub loop-c-preserved : goal.loop-c-preserved
loop-c-preserved c =
    let t : Rows = rows_of c.args.self.now.clauses in
    let table : List ℕ = c.args.self.now.rank.now in
    chosen_miss t table c.loop-c.chosen c.loop-c.c (omega arith) c.loop-c.invariant (body_tested (lower table (at table (at t.outs (c.loop-c.c - 1)))) t (c.loop-c.c - 1) (clause_in t (c.loop-c.c - 1)).body _ refl c.all_lower.ensures ∙ c.if-all_lower.false)

pub returns : goal.returns
returns c =
    let rows = c.args.self.now.clauses in
    let t : Rows = rows_of rows in
    let e : c.loop-c.c ≡ 0 = omega arith in
    chosen_found t rows.conditions c.args.self.now.rank.now (lent_lawful rows) c.args.self.now.ranks c.loop-c.chosen
    (subst (λ (x : ℕ). ChosenFrom t c.args.self.now.rank.now x c.loop-c.chosen) e c.loop-c.invariant)
