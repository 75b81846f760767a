use Rattle.std.proofs.Common.{ℕ, Bool, List, refl, ap, ◌∙◌, arith}
use Rattle.std.proofs.lemmas.Bool.{and_from}
use Rattle.horn.specs.Bans.{no_outcome}
use Rattle.horn.specs.Sheets.{all_of}
use Rattle.round.specs.Rows.{Rows, kept_outcome, clause_in}
use Rattle.round.specs.Lending.{rows_of}
use Rattle.round.specs.Ranks.{ranked}
use Rattle.round.proofs.Meaning.{body_tested}
use Rattle.round.proofs.Lending.{lent_lawful}
use Rattle.round.proofs.Bans.{scanned_some, scanned_none}
use Rattle.round.proofs.propagation.scan.Ranked.lowest_broken.Goals as goal

pub returns-then-all_ranked : goal.returns-then-all_ranked
returns-then-all_ranked c =
    let rows = c.args.self.now.clauses in
    let t : Rows = rows_of rows in
    let f : ℕ → Bool = ranked c.args.self.now.rank.now in
    let body : List ℕ = (clause_in t c.loop-c.c).body in
    scanned_some t rows.conditions c.args.self.now.rank.now (lent_lawful rows) c.args.self.now.ranks c.loop-c.c (omega arith) c.loop-c.invariant
    (and_from (no_outcome (clause_in t c.loop-c.c).outcome) (all_of f body)
    (ap (λ (o : ℕ). no_outcome (kept_outcome o)) c.if-self-c-eq0.true)
    (body_tested f t c.loop-c.c body _ refl c.all_ranked.ensures ∙ c.if-all_ranked.true))

pub returns : goal.returns
returns c =
    let rows = c.args.self.now.clauses in
    scanned_none (rows_of rows) rows.conditions c.args.self.now.rank.now (lent_lawful rows) c.args.self.now.ranks (λ d h. c.loop-c.invariant d (omega arith))
