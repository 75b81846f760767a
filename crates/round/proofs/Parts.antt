-- The two parts of a run, and a run with one call more.
use Rattle.std.proofs.Common.{◌≡◌, List, [], ◌∷◌, ◌++◌, refl, ap}
use Rattle.horn.specs.Sheets.{Sheet}
use Rattle.round.specs.Answers.{Answer}
use Rattle.round.specs.Calls.{Call, Event, event, calls, Standing, after, stands}
use Rattle.round.specs.Runs.{Answers, Run}

-- the two parts of a run
pub run_split : (s : Sheet) (st : Standing) (xs ys : List Event) → Run s st (xs ++ ys) → Run s st xs × Run s (stands st xs) ys
run_split s st [] ys r = (tt, r)
run_split s st (x ∷ xs) ys r = let p = run_split s (after st x.call x.answer) xs ys r.1 in ((r.0, p.0), p.1)

pub run_push : (s : Sheet) (st : Standing) (es : List Event) (c : Call) (a : Answer) → Run s st es → Answers s (stands st es) c a → Run s st (es ++ (event c a ∷ []))
run_push s st [] c a r h = (h, tt)
run_push s st (e ∷ es) c a r h = (r.0, run_push s (after st e.call e.answer) es c a r.1 h)

pub stands_push : (st : Standing) (es : List Event) (c : Call) (a : Answer) → stands st (es ++ (event c a ∷ [])) ≡ after (stands st es) c a
stands_push st [] c a = refl
stands_push st (e ∷ es) c a = stands_push (after st e.call e.answer) es c a

pub calls_push : (es : List Event) (e : Event) → calls (es ++ (e ∷ [])) ≡ calls es ++ (e.call ∷ [])
calls_push [] e = refl
calls_push (x ∷ es) e = ap (λ (cs : List Call). x.call ∷ cs) (calls_push es e)
