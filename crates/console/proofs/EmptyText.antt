-- The empty text.
use Rattle.std.proofs.Common.{◌≡◌, [], length, ap, arith}
use Rattle.horn.specs.Sheets.{Sheet, empty_sheet}
use Rattle.text.specs.Grammar.{Text, last, join, text}
use Rattle.text.specs.Reading.{Meant}

-- the empty text has no clauses
something : (t : Text) → text t [] ≡ [] → ⊥
something (last c) e = let n = ap length e in omega arith
something (join c t) e = let n = ap length e in omega arith

pub nothing_meant : (s : Sheet) → Meant [] s → s ≡ empty_sheet
nothing_meant s m = m.refused (λ a b d short g. something g.tree g.spells)
