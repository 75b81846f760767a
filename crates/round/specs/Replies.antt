-- The answers of the code, in the terms of Answers.
use Rattle.std.specs.Prelude.{ℕ, Bool, cond, List, [], ◌∷◌, ◌++◌, take, drop, Ok, Err, Result}
use Rattle.horn.specs.Sheets.{Sheet, empty_sheet}
use Rattle.round.specs.Answers.{Answer, ok, words_for, roll_words}
pub use Rattle.round.specs.Answers.{refusal, refusal_number, refusal_names}
use Rattle.round.specs.declared.refusals.Refusal.{Refusal}
use Rattle.round.specs.declared.refusals.Opened.{Opened}
use Rattle.round.specs.declared.refusals.Filed.{Filed}
use Rattle.round.specs.declared.refusals.Explained.{Explained}

-- what an opening answered
abbrev pub opening_answer : Result Opened Refusal → Answer
opening_answer (Ok o) = ok (o.clauses ∷ (o.conditions ∷ (o.discharged ∷ []))) []
opening_answer (Err e) = refusal e

-- what an ask answered
abbrev pub ask_answer : Result Bool Refusal → Answer
ask_answer (Ok b) = ok (cond b 1 0 ∷ []) []
ask_answer (Err e) = refusal e

-- what a roll answered, with the words that it wrote
abbrev pub roll_answer : Result ℕ Refusal → List ℕ → Answer
roll_answer (Ok n) words = ok (n ∷ []) words
roll_answer (Err e) words = refusal e

-- what a fact answered
abbrev pub fact_answer : Result Filed Refusal → Answer
fact_answer (Ok f) = ok (f.number ∷ (f.discharged ∷ [])) []
fact_answer (Err e) = refusal e

-- what a ban, a mark or a withdrawal answered
abbrev pub number_answer : Result ℕ Refusal → Answer
number_answer (Ok n) = ok (n ∷ []) []
number_answer (Err e) = refusal e

-- what an explain answered, with the steps that it left in the buffer
abbrev pub explain_answer : Result Explained Refusal → List ℕ → Answer
explain_answer (Ok x) buffer = ok (x.length ∷ (x.steps ∷ [])) (take x.steps buffer)
explain_answer (Err e) buffer = refusal e

-- The sheet of a round after an opening: the source's; a refused opening leaves the empty one.
abbrev pub sheet_left : Result Opened Refusal → Sheet → Sheet
sheet_left (Ok o) s = s
sheet_left (Err e) s = empty_sheet

-- A buffer after a roll: the set, then what stood there; a refused roll changes nothing.
abbrev pub buffer_left : Result ℕ Refusal → (ℕ → Bool) → ℕ → List ℕ → List ℕ
buffer_left (Ok n) f top before = roll_words f top ++ drop (words_for top) before
buffer_left (Err e) f top before = before

-- A buffer after an explain: the steps, then what stood there; a refused explain changes nothing.
abbrev pub steps_left : Result Explained Refusal → List ℕ → List ℕ → List ℕ
steps_left (Ok x) steps before = steps ++ drop x.steps before
steps_left (Err e) steps before = before
