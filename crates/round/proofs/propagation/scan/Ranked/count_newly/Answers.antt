use Rattle.std.proofs.Common.{◌∙◌, ap, ℕ, not, ◌&&◌, Bool, eqb, arith}
use Rattle.std.specs.List.{count_by}
use Rattle.std.proofs.lemmas.List.Sums.{count_by-le-length}
use mathlib.Core.Path.{fun_ext}
use Rattle.round.specs.Rows.{at}
use Rattle.round.specs.Lending.{rows_of}
use Rattle.round.specs.Ranks.{ranked}
use Rattle.round.proofs.Meaning.{place_conditions}
use Rattle.round.proofs.Bans.{tally_count, places_ranked, no_rank}
use Rattle.round.proofs.Lending.{lent_lawful}
use Rattle.round.proofs.propagation.scan.Ranked.count_newly.Goals as goal

pub newly-requires : goal.newly-requires
newly-requires c = place_conditions (rows_of c.args.self.now.clauses) c.args.self.now.clauses.sheet.rows

pub overflow_cast-result : goal.overflow_cast-result
overflow_cast-result c =
    let rows = c.args.self.now.clauses in
    omega (arith, c.newly.ensures, count_by-le-length (λ p. ranked c.args.self.now.rank.now p && eqb (at c.args.before.now p) 0) rows.places.now, rows.sheet.few_places)

pub returns : goal.returns
returns c =
    let rows = c.args.self.now.clauses in
    let table = c.args.self.now.rank.now in
    let before = c.args.before.now in
    c.newly.ensures
    ∙ ap (λ (f : ℕ → Bool). count_by f rows.places.now) (fun_ext (λ p. ap (λ (b : Bool). ranked table p && b) (no_rank (at before p))))
    ∙ tally_count (λ p. ranked table p && not (ranked before p)) rows.places.now
    ∙ places_ranked (rows_of rows) rows.sheet.rows.rows rows.conditions table (lent_lawful rows) c.args.self.now.ranks (λ p. not (ranked before p))
