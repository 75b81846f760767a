-- What a fault is called.
use Rattle.std.specs.Prelude.{ℕ, List, codes}
use Rattle.text.specs.declared.verdict.Fault.{Fault}
use Rattle.text.specs.declared.verdict.Fault.TheVariants.{TooLong, Outside, TooGreat, Repeated, TooMany}

-- why a text is refused, in words
abbrev pub fault_words : Fault → List ℕ
fault_words TooLong = codes "the text has more than 60,000 bytes"
fault_words (Outside i) = codes "no sheet goes on like this"
fault_words (TooGreat i) = codes "the condition is above 1,000"
fault_words (Repeated i) = codes "the condition stands twice in its body"
fault_words (TooMany i) = codes "the sheet has more than 2,000 clauses or 8,000 literals"
