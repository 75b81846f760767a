use Rattle.std.proofs.Common.{◌+◌, refl, arith}
use Rattle.round.specs.Lending.{rows_of}
use Rattle.round.proofs.Levels.{within}
use Rattle.round.proofs.Meaning.{body_conditions}
use Rattle.round.proofs.propagation.rows.ClauseRows.body.Goals as goal

pub slice_bounds-result-end : goal.slice_bounds-result-end
slice_bounds-result-end c = within (rows_of c.args.self.now) c.args.self.now.sheet.rows.rows (c.args.c + 1) (omega arith)

pub returns : goal.returns
returns c = record { body = refl; conditions = body_conditions (rows_of c.args.self.now) c.args.self.now.sheet.rows c.args.c }
