-- Refusals in words.
use Rattle.std.specs.Prelude.{ℕ, List, ◌++◌, codes, decimal}
use Rattle.round.specs.declared.refusals.Refusal.{Refusal}
use Rattle.round.specs.declared.refusals.Refusal.TheVariants.{TooLarge, NoCondition, FilingsFull, Contradiction, MarksFull, ShortBuffer, NoMark, NotInForce}

-- what a refusal is printed as
abbrev pub refusal_words : Refusal → List ℕ
refusal_words TooLarge = codes "more than 2,000 clauses or 8,000 literals"
refusal_words NoCondition = codes "no condition has this number"
refusal_words FilingsFull = codes "256 filings stand"
refusal_words (Contradiction n) = codes "the clauses contradict each other; clause " ++ (decimal n ++ codes " is the lowest ban that is broken")
refusal_words MarksFull = codes "32 marks stand"
refusal_words ShortBuffer = codes "the buffer has too few places"
refusal_words NoMark = codes "no mark of this number stands"
refusal_words NotInForce = codes "the condition is not in force"
