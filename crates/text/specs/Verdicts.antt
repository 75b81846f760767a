-- What judging answers.
use Rattle.std.specs.Prelude.{◌≡◌, ℕ, ◌<◌, ◌≤◌, List, length, Some, None, Ok, Err, Option, Result}
use Rattle.text.specs.declared.verdict.Counts.{Counts}
use Rattle.text.specs.declared.verdict.Fault.{Fault}
use Rattle.text.specs.declared.verdict.Fault.TheVariants.{TooLong, Outside, TooGreat, Repeated, TooMany}
use Rattle.text.specs.Judging.{Reported, Good}

-- the number of a fault
abbrev pub fault_number : Fault → ℕ
fault_number TooLong = 1
fault_number (Outside i) = 2
fault_number (TooGreat i) = 3
fault_number (Repeated i) = 4
fault_number (TooMany i) = 5

-- its place in the text, in bytes from 0; a text that is too long has none
abbrev pub fault_place : Fault → Option ℕ
fault_place TooLong = None
fault_place (Outside i) = Some i
fault_place (TooGreat i) = Some i
fault_place (Repeated i) = Some i
fault_place (TooMany i) = Some i

-- the text s is refused with fault f at a place
abbrev pub Refused : List ℕ → ℕ → Option ℕ → Type 0
Refused s f None = (f ≡ 1) × (60000 < length s)
Refused s f (Some i) = (length s ≤ 60000) × Reported s f i

-- The answer: the counts of a good text, or the reported fault; with 1, if the text has more than 60,000 bytes.
abbrev pub Judged : List ℕ → Result Counts Fault → Type 0
Judged s (Ok c) = (length s ≤ 60000) × Good s c.clauses c.conditions c.literals
Judged s (Err f) = Refused s (fault_number f) (fault_place f)

-- Judging has at most one answer; that there is one, the contract of judge shows.
abbrev pub OneAnswer : Type 0
OneAnswer = (s : List ℕ) (r q : Result Counts Fault) → Judged s r → Judged s q → r ≡ q

-- the greatest condition that is counted, 0 for a refused text
abbrev pub conditions_in : Result Counts Fault → ℕ
conditions_in (Ok c) = c.conditions
conditions_in (Err f) = 0
