-- Refusals tried in order leave exactly one answer; each call has one, and so has each list of calls.
use Rattle.std.proofs.Common.{◌≡◌, ℕ, ◌<◌, ◌≤◌, Bool, true, false, cond, eqb, ◌⊎◌, List, [], ◌∷◌, length, get_or, Ok, Err, Result, sym, refl, ap, ◌∙◌, subst, ap₂, inl, inr, ⊎_elim, arith}
use Rattle.std.proofs.lemmas.Bool.{cases_lt, cases_eq, both_ways}
use Rattle.horn.specs.Sheets.{Sheet}
use Rattle.round.specs.Answers.{Answer, ok, refused, refusal, refusal_number, refusal_names, Else, Outside, Asks, Rolls}
use Rattle.round.specs.Calls.{Call, fact, ban, mark, withdraw, ask, roll, explain, Event, event, calls, Standing, after}
use Rattle.round.specs.Runs.{Answers, Run, standing_sheet}
use Rattle.round.specs.Replies.{opening_answer, fact_answer, number_answer, ask_answer, roll_answer, explain_answer}
use Rattle.round.specs.declared.refusals.Refusal.{Refusal}
use Rattle.round.specs.declared.refusals.Refusal.TheVariants.{TooLarge, NoCondition, FilingsFull, Contradiction, MarksFull, ShortBuffer, NoMark, NotInForce}
use Rattle.round.specs.Determined.{One, OneRun, Faithful, Determined, RunsDetermined}

-- the last case
one_last : (x : Answer) → One (λ a. a ≡ x)
one_last x = record { answer = x; this = refl; alone = λ a e. e }

one_else : (P : Type 0) (x : Answer) (rest : Answer → Type 0) → P ⊎ (P → ⊥) → One rest → One (Else P x rest)
one_else P x rest (inl p) o = record { answer = x; this = inl (p, refl); alone = λ a. ⊎_elim (λ h. h.1) (λ h. absurd (h.0 p)) }
one_else P x rest (inr n) o = record { answer = o.answer; this = inr (n, o.this); alone = λ a. ⊎_elim (λ h. absurd (n h.0)) (λ h. o.alone a h.1) }

below : (m n : ℕ) → (m < n) ⊎ (m < n → ⊥)
below m n = ⊎_elim inl (λ (h : n ≤ m). inr (λ l. omega arith)) (cases_lt m n)

either : (P Q : Type 0) → P ⊎ (P → ⊥) → Q ⊎ (Q → ⊥) → (P ⊎ Q) ⊎ ((P ⊎ Q) → ⊥)
either P Q (inl p) q = inl (inl p)
either P Q (inr p) (inl q) = inl (inr q)
either P Q (inr p) (inr q) = inr (⊎_elim p q)

at_most : (m n : ℕ) → (m ≤ n) ⊎ (m ≤ n → ⊥)
at_most m n = ⊎_elim (λ (h : n < m). inr (λ l. omega arith)) inl (cases_lt n m)

same_bool : (a b : Bool) → (a ≡ b) ⊎ (a ≡ b → ⊥)
same_bool true true = inl refl
same_bool true false = inr (λ e. both_ways true e refl)
same_bool false true = inr (λ e. both_ways true (sym e) refl)
same_bool false false = inl refl

outside : (s : Sheet) (p : ℕ) → Outside s p ⊎ (Outside s p → ⊥)
outside s p = either _ _ (cases_eq p 0) (below s.top p)

one_ask : (s : Sheet) (p : ℕ) → One (Asks s p)
one_ask s p = one_else _ _ _ (outside s p) (one_last _)

one_roll : (s : Sheet) (n : ℕ) → One (Rolls s n)
one_roll s n = one_else _ _ _ (below _ _) (one_last _)

-- each call has one answer
pub one_answer : (s : Sheet) (st : Standing) (c : Call) → One (Answers s st c)
one_answer s st (fact p) = one_else _ _ _ (outside s p) (one_else _ _ _ (at_most _ _) (one_else _ _ _ (same_bool _ _) (one_last _)))
one_answer s st (ban p) = one_else _ _ _ (outside s p) (one_else _ _ _ (at_most _ _) (one_else _ _ _ (same_bool _ _) (one_last _)))
one_answer s st mark = one_else _ _ _ (at_most _ _) (one_last _)
one_answer s st (withdraw m) = one_else _ _ _ (either _ _ (cases_eq m 0) (below _ _)) (one_last _)
one_answer s st (ask p) = one_ask (standing_sheet s st) p
one_answer s st (roll n) = one_roll (standing_sheet s st) n
one_answer s st (explain p n) = one_else _ _ _ (outside s p) (one_else _ _ _ (same_bool _ _) (one_else _ _ _ (below _ _) (one_last _)))

no_calls : {c : Call} {cs : List Call} → [] ≡ c ∷ cs → ⊥
no_calls e = let z : ◌≡◌ {A = ℕ} 0 1 = cc (ap length e) in omega arith

first_call : {c d : Call} {cs ds : List Call} → c ∷ cs ≡ d ∷ ds → c ≡ d
first_call e = cc

other_calls : {c d : Call} {cs ds : List Call} → c ∷ cs ≡ d ∷ ds → cs ≡ ds
other_calls e = cc

-- a list of calls has at most one run
pub same_run : (s : Sheet) (st : Standing) (xs ys : List Event) → Run s st xs → Run s st ys → calls xs ≡ calls ys → xs ≡ ys
same_run s st [] [] r q e = refl
same_run s st [] (y ∷ ys) r q e = absurd (no_calls e)
same_run s st (x ∷ xs) [] r q e = absurd (no_calls (sym e))
same_run s st (x ∷ xs) (y ∷ ys) r q e =
    let c : x.call ≡ y.call = first_call e in
    let o = one_answer s st x.call in
    let a : x.answer ≡ y.answer = o.alone x.answer r.0 ∙ sym (o.alone y.answer (subst (λ k. Answers s st k y.answer) (sym c) q.0)) in
    let xy : x ≡ y = ap {B = Event} (λ k. event k x.answer) c ∙ ap {B = Event} (λ b. event y.call b) a in
    let q' : Run s (after st x.call x.answer) ys = subst (λ (v : Event). Run s (after st v.call v.answer) ys) (sym xy) q.1 in
    let t : xs ≡ ys = same_run s (after st x.call x.answer) xs ys r.1 q' (other_calls e) in
    cc

some_run : (s : Sheet) (st : Standing) (cs : List Call) → (es : List Event) × Run s st es × (calls es ≡ cs)
some_run s st [] = ([], tt, refl)
some_run s st (c ∷ cs) =
    let o = one_answer s st c in
    let r = some_run s (after st c o.answer) cs in
    (event c o.answer ∷ r.0, (o.this, r.1), ap (λ (x : List Call). c ∷ x) r.2)

one_run : (s : Sheet) (st : Standing) (cs : List Call) → OneRun (λ (es : List Event). Run s st es × (calls es ≡ cs))
one_run s st cs = let r = some_run s st cs in record { events = r.0; this = (r.1, r.2); alone = λ ds d. same_run s st ds r.0 d.0 r.1 (d.1 ∙ sym r.2) }

-- the refusal with this number and ban
refusal_from : ℕ → List ℕ → Refusal
refusal_from n ns =
    cond (eqb n 5) TooLarge
    (cond (eqb n 6) NoCondition
    (cond (eqb n 7) FilingsFull
    (cond (eqb n 8) (Contradiction (get_or ns 0 0))
    (cond (eqb n 9) MarksFull
    (cond (eqb n 10) ShortBuffer
    (cond (eqb n 11) NoMark NotInForce))))))

refusal_back : (e : Refusal) → refusal_from (refusal_number e) (refusal_names e) ≡ e
unfolding refusal_from
refusal_back TooLarge = refl
refusal_back NoCondition = refl
refusal_back FilingsFull = refl
refusal_back (Contradiction n) = refl
refusal_back MarksFull = refl
refusal_back ShortBuffer = refl
refusal_back NoMark = refl
refusal_back NotInForce = refl

refusals : Faithful refusal
refusals a b e =
    let n : refusal_number a ≡ refusal_number b = cc in
    let ns : refusal_names a ≡ refusal_names b = cc in
    sym (refusal_back a) ∙ ap₂ refusal_from n ns ∙ refusal_back b

pub ok_refused : {ns ws ms : List ℕ} {n : ℕ} → ok ns ws ≡ refused n ms → ⊥
ok_refused e = let z : ◌≡◌ {A = ℕ} 0 1 = cc in omega arith

-- results of a call are faithful where its accepted ones are
faithful : {R : Type 0} (answer : Result R Refusal → Answer)
    → ((e : Refusal) → answer (Err e) ≡ refusal e) → ((a : R) → (ns : List ℕ) × (written : List ℕ) × (answer (Ok a) ≡ ok ns written))
    → ((a b : R) → answer (Ok a) ≡ answer (Ok b) → a ≡ b) → Faithful answer
faithful answer errs oks same (Ok a) (Ok b) e = ap Ok (same a b e)
faithful answer errs oks same (Ok a) (Err b) e = absurd (ok_refused (sym (oks a).2 ∙ e ∙ errs b))
faithful answer errs oks same (Err a) (Ok b) e = absurd (ok_refused (sym (oks b).2 ∙ sym e ∙ errs a))
faithful answer errs oks same (Err a) (Err b) e = ap Err (refusals a b (sym (errs a) ∙ e ∙ errs b))

pub same_bit : (a b : Bool) → ◌≡◌ {A = ℕ} (cond a 1 0) (cond b 1 0) → a ≡ b
same_bit true true e = refl
same_bit false false e = refl
same_bit true false e = let z : ◌≡◌ {A = ℕ} 1 0 = e in absurd (omega arith)
same_bit false true e = let z : ◌≡◌ {A = ℕ} 0 1 = e in absurd (omega arith)

pub first_number : {a b : ℕ} {ns ms us vs : List ℕ} → ok (a ∷ ns) us ≡ ok (b ∷ ms) vs → a ≡ b
first_number e = cc

second_number : {a b c d : ℕ} {ns ms us vs : List ℕ} → ok (a ∷ (c ∷ ns)) us ≡ ok (b ∷ (d ∷ ms)) vs → c ≡ d
second_number e = cc

third_number : {a b c d f g : ℕ} {ns ms us vs : List ℕ} → ok (a ∷ (c ∷ (f ∷ ns))) us ≡ ok (b ∷ (d ∷ (g ∷ ms))) vs → f ≡ g
third_number e = cc

pub determined : Determined
determined = record {
  opens = λ s. one_else _ _ _ (either _ _ (below 2000 _) (below 8000 _)) (one_else _ _ _ (same_bool _ _) (one_last _));
  asks = one_ask;
  rolls = one_roll;
  opening_results = faithful opening_answer (λ e. refl) (λ a. (_, _, refl))
      (λ a b e i. record { clauses = first_number e i; conditions = second_number e i; discharged = third_number e i });
  ask_results = faithful ask_answer (λ e. refl) (λ a. (_, _, refl)) (λ a b e. same_bit a b (first_number e));
  roll_results = λ words. faithful (λ r. roll_answer r words) (λ e. refl) (λ a. (_, _, refl)) (λ a b e. first_number e);
}

pub runs_determined : RunsDetermined
runs_determined = record {
  each_call = one_answer;
  each_run = one_run;
  fact_results = faithful fact_answer (λ e. refl) (λ a. (_, _, refl)) (λ a b e i. record { number = first_number e i; discharged = second_number e i });
  number_results = faithful number_answer (λ e. refl) (λ a. (_, _, refl)) (λ a b e. first_number e);
  explain_results = λ buffer. faithful (λ r. explain_answer r buffer) (λ e. refl) (λ a. (_, _, refl)) (λ a b e i. record { length = first_number e i; steps = second_number e i });
}
