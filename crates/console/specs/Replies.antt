-- What the program answers, in the terms of Lines.
use Rattle.std.specs.Prelude.{ℕ, cond, List, [], ◌∷◌, ◌++◌, drop, Ok, Err, Result}
use Rattle.text.specs.Verdicts.{fault_number, fault_place}
use Rattle.round.specs.Replies.{refusal_number, refusal_names}
use Rattle.console.specs.declared.lines.Answer.{Answer}
use Rattle.console.specs.declared.lines.Answer.TheVariants.{Sheet, Opening, Asking}
use Rattle.console.specs.declared.lines.Refused.{Refused}
use Rattle.console.specs.declared.lines.Refused.TheVariants.{Record, Text, Round}
use Rattle.console.specs.Lines.{Layer, in_record, in_text, in_round, layer_name, Reply, accepted, refused, numbers, optional}

-- the numbers of an answer
abbrev pub answer_numbers : Answer → List ℕ
answer_numbers (Sheet c) = c.clauses ∷ c.conditions ∷ c.literals ∷ []
answer_numbers (Opening o) = o.clauses ∷ o.conditions ∷ o.discharged ∷ []
answer_numbers (Asking b) = cond b 1 0 ∷ []

-- where a refusal comes from
abbrev pub refused_by : Refused → Layer
refused_by (Record offset) = in_record
refused_by (Text f) = in_text
refused_by (Round e) = in_round

-- its number
abbrev pub refused_number : Refused → ℕ
refused_number (Record offset) = 15
refused_number (Text f) = fault_number f
refused_number (Round e) = refusal_number e

-- the place or ban that it names, if any
abbrev pub refused_place : Refused → List ℕ
refused_place (Record offset) = offset ∷ []
refused_place (Text f) = optional (fault_place f)
refused_place (Round e) = refusal_names e

abbrev pub refused_reply : Refused → Reply
refused_reply r = refused (refused_by r) (refused_number r) (refused_place r)

abbrev pub reply_of : Result Answer Refused → Reply
reply_of (Ok a) = accepted (answer_numbers a)
reply_of (Err r) = refused_reply r

-- what follows ` ok ` or ` no ` in the line of a reply
abbrev pub reply_text : Reply → List ℕ
reply_text (accepted ns) = drop 1 (numbers ns)
reply_text (refused layer n places) = layer_name layer ++ numbers (n ∷ places)
