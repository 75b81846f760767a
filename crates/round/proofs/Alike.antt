-- After a withdrawal a round answers like another, opened alike, that saw only the calls before the mark was set.
use Rattle.std.proofs.Common.{◌≡◌, ℕ, suc, ◌+◌, ◌-◌, ◌<◌, ◌≤◌, List, [], ◌∷◌, ◌++◌, length, get_or, take, sym, refl, ap, ◌∙◌, subst, inl, inr, arith, length-take}
use native.Mathlib.Decide.{dec_lt}
use Rattle.std.proofs.lemmas.List.{take-append-le, take-take, take_all, get_or_append_left, get_or_push, get_or-take, take_at, length_push, length-take-le}
use Rattle.horn.specs.Sheets.{Sheet}
use Rattle.round.specs.Answers.{Answer, ok, refused}
use Rattle.round.specs.Calls.{Call, fact, ban, mark, withdraw, ask, roll, explain, Event, event, calls, Filing, of_fact, of_ban, Standing, nothing, filed, marked, withdrawn, after, stands}
use Rattle.round.specs.Runs.{Answers, Run}
use Rattle.round.specs.Promise.{Spares, AllSpare, Alike}
use Rattle.round.proofs.Choosing.{ok_refused, same_run}
use Rattle.round.proofs.Parts.{run_split}
use Rattle.round.proofs.Marks.{withdraw_bounds}

-- On the filings F and the marks ms a mark was set, which stands in st.
record Over (F : List Filing) (ms : List ℕ) (st : Standing) : Type 0 where
  files : take (length F) st.filings ≡ F
  long : length F ≤ length st.filings
  kept : take (length ms + 1) st.marks ≡ ms ++ (length F ∷ [])
  many : length ms < length st.marks
  high : (i : ℕ) → length ms ≤ i → i < length st.marks → length F ≤ get_or st.marks i 0

over_file : (F : List Filing) (ms : List ℕ) (st : Standing) (f : Filing) → Over F ms st → Over F ms (filed st f)
over_file F ms st f o = record {
  files = take-append-le (length F) st.filings (f ∷ []) o.long ∙ o.files;
  long = simp length_push (omega (arith, o.long));
  kept = o.kept;
  many = o.many;
  high = o.high;
}

over_mark : (F : List Filing) (ms : List ℕ) (st : Standing) → Over F ms st → Over F ms (marked st)
over_mark F ms st o = record {
  files = o.files;
  long = o.long;
  kept = take-append-le (length ms + 1) st.marks (length st.filings ∷ []) (omega (arith, o.many)) ∙ o.kept;
  many = simp length_push (omega (arith, o.many));
  high = λ i l h. at_end i l (simp length_push at h) (dec_lt i (length st.marks));
}
  where
    at_end : (i : ℕ) → length ms ≤ i → i < length st.marks + 1 → Dec (i < length st.marks) → length F ≤ get_or (st.marks ++ (length st.filings ∷ [])) i 0
    at_end i l h (yes k) = rw (get_or_append_left st.marks (length st.filings ∷ []) 0 i k) (o.high i l k)
    at_end i l h (no k) = let e : length st.marks ≡ i = omega (arith, k) in rw (get_or_push st.marks (length st.filings) 0 i e) o.long

over_withdraw : (F : List Filing) (ms : List ℕ) (st : Standing) (k : ℕ) → length ms + 1 < k → k ≤ length st.marks → Over F ms st → Over F ms (withdrawn st k)
over_withdraw F ms st k l h o =
    let y : length F ≤ get_or st.marks (k - 1) 0 = o.high (k - 1) (omega arith) (omega arith) in
    let n : length (take (k - 1) st.marks) ≡ k - 1 = length-take-le (k - 1) st.marks (omega arith) in
    record {
      files = take-take (length F) (get_or st.marks (k - 1) 0) st.filings y ∙ o.files;
      long = simp length-take (omega (arith, o.long));
      kept = take-take (length ms + 1) (k - 1) st.marks (omega arith) ∙ o.kept;
      many = omega arith;
      high = λ i a b. let lt : i < k - 1 = omega arith in rw (get_or-take (k - 1) st.marks i 0 lt) (o.high i a (omega arith));
    }

over_step : (s : Sheet) (F : List Filing) (ms : List ℕ) (st : Standing) (c : Call) (a : Answer)
    → Answers s st c a → Spares (length ms + 1) c a → Over F ms st → Over F ms (after st c a)
over_step s F ms st c (refused n named) r k o = o
over_step s F ms st (fact p) (ok n w) r k o = over_file F ms st (of_fact p) o
over_step s F ms st (ban p) (ok n w) r k o = over_file F ms st (of_ban p) o
over_step s F ms st mark (ok n w) r k o = over_mark F ms st o
over_step s F ms st (withdraw m) (ok n w) r k o = over_withdraw F ms st m k (withdraw_bounds s st m n w r).1 o
over_step s F ms st (ask p) (ok n w) r k o = o
over_step s F ms st (roll j) (ok n w) r k o = o
over_step s F ms st (explain p j) (ok n w) r k o = o

over_run : (s : Sheet) (F : List Filing) (ms : List ℕ) (st : Standing) (es : List Event)
    → Run s st es → AllSpare (length ms + 1) es → Over F ms st → Over F ms (stands st es)
over_run s F ms st [] r k o = o
over_run s F ms st (e ∷ es) r k o =
    over_run s F ms (after st e.call e.answer) es r.1 k.1 (over_step s F ms st e.call e.answer r.0 k.0 o)

-- a mark is set
over_set : (st : Standing) → Over st.filings st.marks (marked st)
over_set st = record {
  files = take_all (length st.filings) st.filings (omega arith);
  long = omega arith;
  kept = take_all (length st.marks + 1) (st.marks ++ (length st.filings ∷ [])) (simp length_push (omega arith));
  many = simp length_push (omega arith);
  high = λ i a b. let e : length st.marks ≡ i = omega (arith, simp length_push at b) in rw (get_or_push st.marks (length st.filings) 0 i e) (omega arith);
}

-- a withdrawal to it
over_back : (F : List Filing) (ms : List ℕ) (st : Standing) → Over F ms st → withdrawn st (length ms + 1) ≡ record { filings = F; marks = ms }
over_back F ms st o =
    let one : length ms + 1 - 1 ≡ length ms = omega arith in
    let g : get_or st.marks (length ms) 0 ≡ length F =
    sym (get_or-take (length ms + 1) st.marks (length ms) 0 (omega arith)) ∙ ap (λ (x : List ℕ). get_or x (length ms) 0) o.kept ∙ get_or_push ms (length F) 0 (length ms) refl in
    let t : take (length ms) st.marks ≡ ms =
    sym (take-take (length ms) (length ms + 1) st.marks (omega arith)) ∙ ap (λ (x : List ℕ). take (length ms) x) o.kept ∙ take_at ms (length F ∷ []) (length ms) refl in
    let f : take (get_or st.marks (length ms) 0) st.filings ≡ F = ap (λ (x : ℕ). take x st.filings) g ∙ o.files in
    rw one (ap {B = Standing} (λ x. record { filings = x; marks = take (length ms) st.marks }) f ∙ ap {B = Standing} (λ x. record { filings = F; marks = x }) t)

mark_name : (s : Sheet) (st : Standing) (m : ℕ) (ns written : List ℕ) → Answers s st mark (ok (m ∷ ns) written) → m ≡ length st.marks + 1
mark_name s st m ns written (inl r) = absurd (ok_refused r.1)
mark_name s st m ns written (inr r) = let e = r.1 in let n : m ≡ suc (length st.marks) = cc in omega arith

withdraws_here : (s : Sheet) (before since further : List Event) (m : ℕ) (ns written ns' written' : List ℕ)
    → Run s nothing (before ++ (event mark (ok (m ∷ ns) written) ∷ (since ++ (event (withdraw m) (ok ns' written') ∷ further))))
    → AllSpare m since → (before' further' : List Event) → Run s nothing (before' ++ further')
    → calls before' ≡ calls before → calls further' ≡ calls further → further' ≡ further
withdraws_here s before since further m ns written ns' written' run spare before' further' run' cb cf =
    let p = run_split s nothing before (event mark (ok (m ∷ ns) written) ∷ (since ++ (event (withdraw m) (ok ns' written') ∷ further))) run in
    let p' = run_split s nothing before' further' run' in
    let st : Standing = stands nothing before in
    let q = run_split s (marked st) since (event (withdraw m) (ok ns' written') ∷ further) p.1.1 in
    let e : m ≡ length st.marks + 1 = mark_name s st m ns written p.1.0 in
    let top : Standing = stands (marked st) since in
    let k : AllSpare (length st.marks + 1) since = subst (λ x. AllSpare x since) e spare in
    let o : Over st.filings st.marks top = over_run s st.filings st.marks (marked st) since q.0 k (over_set st) in
    let r : Run s (withdrawn top (length st.marks + 1)) further = subst (λ x. Run s (withdrawn top x) further) e q.1.1 in
    let back : Run s st further = subst (λ (x : Standing). Run s x further) (over_back st.filings st.marks top o) r in
    let b : before' ≡ before = same_run s nothing before' before p'.0 p.0 cb in
    let other : Run s st further' = subst (λ (x : List Event). Run s (stands nothing x) further') b p'.1 in
    same_run s st further' further other back cf

-- the law of withdrawals
pub withdraws_alike : (s : Sheet) (before since further : List Event) (m : ℕ) (ns written ns' written' : List ℕ)
    → Run s nothing (before ++ (event mark (ok (m ∷ ns) written) ∷ (since ++ (event (withdraw m) (ok ns' written') ∷ further))))
    → AllSpare m since
    → (t : Sheet) → Alike s t → (before' further' : List Event) → Run t nothing (before' ++ further')
    → calls before' ≡ calls before → calls further' ≡ calls further → further' ≡ further
withdraws_alike s before since further m ns written ns' written' run spare t a before' further' run' =
    let e : t ≡ s = λ i. record { top = sym a.0 i; clauses = sym a.1 i } in
    withdraws_here s before since further m ns written ns' written' run spare before' further' (subst (λ (x : Sheet). Run x nothing (before' ++ further')) e run')
