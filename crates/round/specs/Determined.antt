-- Each call has exactly one answer, and each answer is that of one result: the contracts pin the results.
use Rattle.std.specs.Prelude.{◌≡◌, ℕ, List}
use Rattle.horn.specs.Sheets.{Sheet}
use Rattle.round.specs.Answers.{Answer, Opens, Asks, Rolls}
use Rattle.round.specs.Calls.{Call, Event, calls, Standing}
use Rattle.round.specs.Runs.{Answers, Run}
use Rattle.round.specs.Replies.{opening_answer, fact_answer, number_answer, ask_answer, roll_answer, explain_answer}

-- exactly one answer fits
pub record One (fits : Answer → Type 0) : Type 0 where
  pub answer : Answer
  pub this : fits answer
  pub alone : (a : Answer) → fits a → a ≡ answer

-- results that answer alike are the same
abbrev pub Faithful : {R : Type 0} → (R → Answer) → Type 0
Faithful {R} answer = (a b : R) → answer a ≡ answer b → a ≡ b

pub record Determined : Type 0 where
  pub opens : (s : Sheet) → One (Opens s)
  pub asks : (s : Sheet) (p : ℕ) → One (Asks s p)
  pub rolls : (s : Sheet) (n : ℕ) → One (Rolls s n)
  pub opening_results : Faithful opening_answer
  pub ask_results : Faithful ask_answer
  pub roll_results : (words : List ℕ) → Faithful (λ r. roll_answer r words)

-- exactly one list of events fits
pub record OneRun (fits : List Event → Type 0) : Type 0 where
  pub events : List Event
  pub this : fits events
  pub alone : (es : List Event) → fits es → es ≡ events

-- The same of every call by what stands, and of every list of calls.
pub record RunsDetermined : Type 0 where
  pub each_call : (s : Sheet) (st : Standing) (c : Call) → One (Answers s st c)
  pub each_run : (s : Sheet) (st : Standing) (cs : List Call) → OneRun (λ (es : List Event). Run s st es × (calls es ≡ cs))
  pub fact_results : Faithful fact_answer
  pub number_results : Faithful number_answer
  pub explain_results : (buffer : List ℕ) → Faithful (λ r. explain_answer r buffer)
