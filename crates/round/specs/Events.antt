-- The calls and replies of the code, in the terms of Runs.
use Rattle.std.specs.Prelude.{◌≡◌, ℕ, Bool, cond, List, [], ◌∷◌, map, take, Ok, Err, vec_items, Result, Vec}
use Rattle.std.specs.List.{AllByRecursion}
use Rattle.std.specs.declared.alloc.AllocError.{AllocError}
use Rattle.std.specs.declared.alloc.Global.{Global}
use Rattle.round.specs.Answers.{Answer, ok, refusal}
use Rattle.round.specs.Calls.{fact, ban, mark, withdraw, ask, roll, explain, event, calls, stands, Call as SpecCall, Event as SpecEvent}
use Rattle.round.specs.Runs.{Run, Position, Step}
use Rattle.round.specs.declared.refusals.Refusal.{Refusal}
use Rattle.round.specs.declared.refusals.Filed.{Filed as FiledNumbers}
use Rattle.round.specs.declared.refusals.Explained.{Explained as ExplainedNumbers}
use Rattle.round.specs.declared.runs.Call.{Call}
use Rattle.round.specs.declared.runs.Call.TheVariants.{Fact, Ban, Mark, Withdraw, Ask, Roll, Explain}
use Rattle.round.specs.declared.runs.Answered.{Answered}
use Rattle.round.specs.declared.runs.Answered.TheVariants.{Filed, Banned, Marked, Withdrawn, Asked, Rolled, Explained}
use Rattle.round.specs.declared.runs.Event.{Event}

abbrev pub call_of : Call → SpecCall
call_of (Fact p) = fact p
call_of (Ban p) = ban p
call_of Mark = mark
call_of (Withdraw m) = withdraw m
call_of (Ask p) = ask p
call_of (Roll n) = roll n
call_of (Explain p n) = explain p n

abbrev pub answered : Answered → Answer
answered (Filed f) = ok (f.number ∷ (f.discharged ∷ [])) []
answered (Banned n) = ok (n ∷ []) []
answered (Marked n) = ok (n ∷ []) []
answered (Withdrawn n) = ok (n ∷ []) []
answered (Asked b) = ok (cond b 1 0 ∷ []) []
answered (Rolled n words) = ok (n ∷ []) (vec_items words)
answered (Explained x steps) = ok (x.length ∷ (x.steps ∷ [])) (vec_items steps)

abbrev pub reply_answer : Result Answered Refusal → Answer
reply_answer (Ok a) = answered a
reply_answer (Err e) = refusal e

abbrev pub event_of : Event → SpecEvent
event_of e = event (call_of e.call) (reply_answer e.reply)

-- The reply is the one for an accepted call of its kind, or a refusal.
pub data Suits : Call → Result Answered Refusal → Type 0 where
  to_fact : (p : ℕ) (f : FiledNumbers) → Suits (Fact p) (Ok (Filed f))
  to_ban : (p n : ℕ) → Suits (Ban p) (Ok (Banned n))
  to_mark : (n : ℕ) → Suits Mark (Ok (Marked n))
  to_withdraw : (m n : ℕ) → Suits (Withdraw m) (Ok (Withdrawn n))
  to_ask : (p : ℕ) (b : Bool) → Suits (Ask p) (Ok (Asked b))
  to_roll : (k n : ℕ) (words : Vec ℕ Global) → Suits (Roll k) (Ok (Rolled n words))
  to_explain : (p k : ℕ) (x : ExplainedNumbers) (steps : Vec ℕ Global) → Suits (Explain p k) (Ok (Explained x steps))
  to_any : (c : Call) (e : Refusal) → Suits c (Err e)

-- One call on a round: its reply, and the position that it leaves.
pub record Replies (before : Position) (c : Call) (r : Result Answered Refusal) (next : Position) : Type 0 where
  pub step : Step before (call_of c) (reply_answer r) next
  pub suits : Suits c r

-- One call, which may find no memory for what it writes: then it is not made.
abbrev pub Makes : Position → Call → Result (Result Answered Refusal) AllocError → Position → Type 0
Makes before c (Ok r) next = Replies before c r next
Makes before c (Err e) next = next ≡ before

-- A run that leads from one position to another.
pub record Leads (before : Position) (es : List SpecEvent) (next : Position) : Type 0 where
  pub run : Run before.sheet before.standing es
  pub sheet : next.sheet ≡ before.sheet
  pub standing : next.standing ≡ stands before.standing es

-- These events answer these calls, in order.
pub record Replied (before : Position) (cs : List Call) (es : List Event) (next : Position) : Type 0 where
  pub leads : Leads before (map event_of es) next
  pub each : calls (map event_of es) ≡ map call_of cs
  pub suits : AllByRecursion (λ e. Suits e.call e.reply) es

-- A list of calls. Where memory is wanting, the first k of them were made, and answered by some events.
abbrev pub Ran : Position → List Call → Result (Vec Event Global) AllocError → Position → Type 0
Ran before cs (Ok events) next = Replied before cs (vec_items events) next
Ran before cs (Err e) next = (k : ℕ) × ((es : List SpecEvent) × (Leads before es next × (calls es ≡ take k (map call_of cs))))
