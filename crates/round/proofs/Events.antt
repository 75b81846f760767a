-- A run, one call at a time.
use Rattle.std.proofs.Common.{◌≡◌, ℕ, ◌+◌, ◌<◌, ◌≤◌, List, [], ◌∷◌, ◌++◌, map, length, get_or, take, Ok, Err, Result, MatchResult, sym, refl, ap, ◌∙◌, subst}
use Rattle.std.proofs.lemmas.List.{map_push, take-map, take_more, take_all}
use Rattle.std.proofs.ByRecursion.{All-push}
use Rattle.std.specs.declared.alloc.AllocError.{AllocError}
use Rattle.horn.specs.Sheets.{Sheet}
use Rattle.round.specs.Answers.{Answer, refusal}
use Rattle.round.specs.Calls.{event, calls, after, stands, Standing, Call as SpecCall, Event as SpecEvent}
use Rattle.round.specs.Runs.{Answers, Position, Step}
use Rattle.round.specs.Events.{call_of, answered, reply_answer, event_of, Suits, to_any, Replies, Leads, Replied, Ran}
use Rattle.round.specs.declared.runs.Call.{Call}
use Rattle.round.specs.declared.refusals.Refusal.{Refusal}
use Rattle.round.specs.declared.runs.Answered.{Answered}
use Rattle.round.specs.declared.runs.Event.{Event}
use Rattle.round.proofs.Parts.{run_push, stands_push, calls_push}

leads_none : (p : Position) → Leads p [] p
leads_none p = record { run = tt; sheet = refl; standing = refl }

leads_push : (before middle next : Position) (es : List SpecEvent) (c : SpecCall) (a : Answer) → Leads before es middle → Step middle c a next → Leads before (es ++ (event c a ∷ [])) next
leads_push before middle next es c a l s =
    let st : Standing = stands before.standing es in
    let from : Answers middle.sheet st c a = subst (λ (x : Standing). Answers middle.sheet x c a) l.standing s.answers in
    record {
      run = run_push before.sheet before.standing es c a l.run (subst (λ (x : Sheet). Answers x st c a) l.sheet from);
      sheet = s.sheet ∙ l.sheet;
      standing = s.stands ∙ ap {B = Standing} (λ (x : Standing). after x c a) l.standing ∙ sym (stands_push before.standing es c a);
    }

pub replied_none : (p : Position) → Replied p [] [] p
replied_none p = record { leads = leads_none p; each = refl; suits = tt }

pub replied_push : (before middle next : Position) (cs : List Call) (es : List Event) (c : Call) (r : Result Answered Refusal) → Replied before cs es middle → Replies middle c r next → Replied before (cs ++ (c ∷ [])) (es ++ (record { call = c; reply = r } ∷ [])) next
replied_push before middle next cs es c r a s =
    let e : Event = record { call = c; reply = r } in
    let pushed = map_push event_of es e in
    record {
      leads = subst (λ (xs : List SpecEvent). Leads before xs next) (sym pushed) (leads_push before middle next (map event_of es) (call_of c) (reply_answer r) a.leads s.step);
      each = ap calls pushed ∙ calls_push (map event_of es) (event_of e) ∙ ap (λ (xs : List SpecCall). xs ++ (call_of c ∷ [])) a.each ∙ sym (map_push call_of cs c);
      suits = All-push (λ (x : Event). Suits x.call x.reply) es e a.suits s.suits;
    }

-- The first k calls were made, and the next one was not.
pub ran_part : (before middle next : Position) (cs : List Call) (k : ℕ) (es : List Event) (x : AllocError) → Replied before (take k cs) es middle → next ≡ middle → Ran before cs (Err x) next
ran_part before middle next cs k es x a same =
    (k, (map event_of es, (subst (λ (p : Position). Leads before (map event_of es) p) (sym same) a.leads, a.each ∙ sym (take-map call_of k cs))))

-- one turn of a loop over the calls
pub replied_more : (before middle next : Position) (cs : List Call) (es es' : List Event) (i : ℕ) (d : Call) (r : Result Answered Refusal) → i < length cs → Replied before (take i cs) es middle → Replies middle (get_or cs i d) r next → es' ≡ es ++ (record { call = get_or cs i d; reply = r } ∷ []) → Replied before (take (i + 1) cs) es' next
replied_more before middle next cs es es' i d r lt a s pushed =
    let whole = replied_push before middle next (take i cs) es (get_or cs i d) r a s in
    let more = subst (λ (xs : List Call). Replied before xs (es ++ (record { call = get_or cs i d; reply = r } ∷ [])) next) (sym (take_more cs i d lt)) whole in
    subst (λ (xs : List Event). Replied before (take (i + 1) cs) xs next) (sym pushed) more

pub replied_all : (before next : Position) (cs : List Call) (es : List Event) (i : ℕ) → length cs ≤ i → Replied before (take i cs) es next → Replied before cs es next
replied_all before next cs es i all a = subst (λ (xs : List Call). Replied before xs es next) (take_all i cs all) a

-- A call's result becomes a reply by the constructor of its kind.
pub mapped : {T : Type 0} {P : T → Type 0} (before next : Position) (c d : Call) (make : T → Answered) (answer : Result T Refusal → Answer) (r : Result T Refusal) (m : Result Answered Refusal) → d ≡ c
    → ((t : T) → Suits c (Ok (make t))) → ((t : T) → answer (Ok t) ≡ answered (make t)) → ((e : Refusal) → answer (Err e) ≡ refusal e)
    → MatchResult r P (λ e. m ≡ Err e) → ((t : T) → P t → m ≡ Ok (make t)) → Step before (call_of c) (answer r) next → Replies before d m next
mapped before next c d make answer (Ok t) m is suits accepted turned e made step =
    rw (is, made t e) (record { step = rw (← accepted t) step; suits = suits t })
mapped before next c d make answer (Err x) m is suits accepted turned e made step =
    rw (is, e) (record { step = rw (← turned x) step; suits = to_any c x })
