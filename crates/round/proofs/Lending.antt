-- The clauses that are lent hold a lawful sheet.
use Rattle.horn.specs.Sheets.{Lawful}
use Rattle.horn.proofs.Lawfulness.{lawful_tested}
use Rattle.round.specs.Lending.{lent_sheet}
use Rattle.round.specs.declared.propagation.rows.ClauseRows.{ClauseRows}

pub lent_lawful : (r : ClauseRows) → Lawful (lent_sheet r)
lent_lawful r = (lawful_tested (lent_sheet r)).0 r.sheet.lawfully
