-- What the console answers to records in turn, and what it prints for a whole input. Assumes nothing.
use Rattle.std.specs.Prelude.{◌≡◌, ℕ, List, [], ◌∷◌, ◌++◌, length, Ok, Err, codes, Result}
use Rattle.horn.specs.Sheets.{Sheet, empty_sheet}
use Rattle.horn.specs.Joining.{joined}
use Rattle.text.specs.declared.verdict.Counts.{Counts}
use Rattle.text.specs.declared.verdict.Fault.{Fault}
use Rattle.text.specs.Verdicts.{Judged, fault_number, fault_place}
use Rattle.text.specs.Reading.{Meant}
use Rattle.round.specs.Answers.{Answer, ok as answers, refused as refuses, Opens, Asks}
use Rattle.console.specs.Records.{Record, network, show, opening, asking, mark, all_bytes, Parsed}
use Rattle.console.specs.Lines.{Reply, accepted, refused, in_record, in_text, in_round, line, optional}

-- What the console holds: the sheets of the last accepted network and show text, and that of the round.
pub record State : Type 0 where
  pub of_network : Sheet
  pub of_show : Sheet
  pub of_round : Sheet

abbrev pub at_first : State
at_first = record { of_network = empty_sheet; of_show = empty_sheet; of_round = empty_sheet }

-- what judging a text answers, as a reply
abbrev pub verdict_reply : Result Counts Fault → Reply
verdict_reply (Ok c) = accepted (c.clauses ∷ c.conditions ∷ c.literals ∷ [])
verdict_reply (Err f) = refused in_text (fault_number f) (optional (fault_place f))

-- the sheet held after a text was judged
abbrev pub kept : Result Counts Fault → Sheet → Sheet → Sheet
kept (Ok c) new old = new
kept (Err f) new old = old

-- A sheet record is answered as judging its text is; an accepted text's sheet takes the place of the one held, and a refused text leaves that.
pub record Judging (text : List ℕ) (before : Sheet) (y : Reply) (after : Sheet) : Type 0 where
  pub verdict : Result Counts Fault
  pub sheet : Sheet
  pub judged : Judged text verdict
  pub meant : Meant text sheet
  pub reply : y ≡ verdict_reply verdict
  pub holds : after ≡ kept verdict sheet before

-- what the round answers, as a reply
abbrev pub answer_reply : Answer → Reply
answer_reply (answers ns written) = accepted ns
answer_reply (refuses n ban) = refused in_round n ban

-- the sheet of a round after an opening on s; a refused opening leaves the round empty
abbrev pub opened : Answer → Sheet → Sheet
opened (answers ns written) s = s
opened (refuses n ban) s = empty_sheet

-- An opening on the sheet s is answered as the rules for openings say.
pub record Opening (s : Sheet) (y : Reply) (after : Sheet) : Type 0 where
  pub answer : Answer
  pub opens : Opens s answer
  pub reply : y ≡ answer_reply answer
  pub holds : after ≡ opened answer s

-- A question for condition p is answered from the round's sheet s.
pub record Asking (s : Sheet) (p : ℕ) (y : Reply) : Type 0 where
  pub answer : Answer
  pub asks : Asks s p answer
  pub reply : y ≡ answer_reply answer

-- The reply to a record, and what the console then holds: a sheet record touches its own sheet only, an opening goes by the two sheets joined, the
-- network's first, and touches the round only, and a question touches nothing.
abbrev pub Step : State → Record → Reply → State → Type 0
Step st (network t) y next = Judging t st.of_network y next.of_network × (next.of_show ≡ st.of_show) × (next.of_round ≡ st.of_round)
Step st (show t) y next = Judging t st.of_show y next.of_show × (next.of_network ≡ st.of_network) × (next.of_round ≡ st.of_round)
Step st opening y next = Opening (joined st.of_network st.of_show) y next.of_round × (next.of_network ≡ st.of_network) × (next.of_show ≡ st.of_show)
Step st (asking p) y next = Asking st.of_round p y × (next ≡ st)

-- Records in turn: what they print, one line each, and what the console holds before and after.
pub data Session : State → List Record → List ℕ → State → Type 0 where
  done : {st : State} → Session st [] [] st
  step : {st next last : State} {r : Record} {rs : List Record} {out : List ℕ} (y : Reply) → Step st r y next → Session next rs out last
      → Session st (r ∷ rs) (line (mark r) y ++ out) last

-- what is printed for a rest at this offset: nothing at the end of the input, else that no record begins there
abbrev pub ending : ℕ → List ℕ → List ℕ
ending offset [] = []
ending offset (b ∷ bs) = line (codes "--") (refused in_record 15 (offset ∷ []))

-- The output for an input: the lines of its records, and of the rest.
pub record Served (input output : List ℕ) : Type 0 where
  pub records : List Record
  pub rest : List ℕ
  pub lines : List ℕ
  pub last : State
  pub parsed : Parsed input records rest
  pub session : Session at_first records lines last
  pub whole : output ≡ lines ++ ending (length (all_bytes records)) rest

-- An input has at most one output; that it has one, `serve` shows, wherever there is memory.
abbrev pub ServedOnce : Type 0
ServedOnce = (input a b : List ℕ) → Served input a → Served input b → a ≡ b
