-- The sheet of the clauses that are lent.
use Rattle.horn.specs.Sheets.{Sheet}
use Rattle.round.specs.Rows.{Rows, rows, sheet_in}
use Rattle.round.specs.declared.propagation.rows.ClauseRows.{ClauseRows}

-- the rows that are lent
abbrev pub rows_of : ClauseRows → Rows
rows_of r = rows r.outcomes.now r.starts.now r.places.now

-- the sheet that they hold
abbrev pub lent_sheet : ClauseRows → Sheet
lent_sheet r = sheet_in r.conditions (rows_of r)
