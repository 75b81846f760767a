-- The sheet of a text in place, and that a source may mean it.
use Rattle.horn.specs.Sheets.{Sheet}
use Rattle.horn.specs.Sources.{LawfulSource}
use Rattle.horn.proofs.Lawfulness.{lawful_tested}
use Rattle.text.specs.declared.in_place.TextSheet.{TextSheet}
use Rattle.text.specs.Verdicts.{conditions_in}
use Rattle.text.specs.Reading.{sheet_in}

-- the sheet that a text in place holds
abbrev pub text_sheet : TextSheet → Sheet
text_sheet t = sheet_in (conditions_in t.verdict) t.bytes.now

-- it has at most 1,000 conditions, at most 65,535 clauses, and only lawful ones
pub text_lawful : (t : TextSheet) → LawfulSource (text_sheet t)
text_lawful t = record { few_conditions = t.low; few_clauses = t.few; lawful = (lawful_tested (text_sheet t)).0 t.proper }
