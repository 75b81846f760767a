-- An input has one reading, and one output.
use Rattle.std.proofs.Common.{◌≡◌, ℕ, ◌+◌, ◌*◌, ◌/◌, ◌%◌, ◌≤◌, cond, ◌&&◌, eqb, List, [], ◌∷◌, ◌++◌, length, take, drop, Some, None, Ok, Err, Option, Result, unwrap_or, sym, refl, ap, ◌∙◌, subst, append_assoc, arith}
use Rattle.std.specs.List.{AllByRecursion}
use Rattle.std.proofs.lemmas.List.{take_at, drop_at}
use Rattle.std.proofs.lemmas.Nat.{div-add-mod'}
use Rattle.horn.specs.Sheets.{Sheet}
use Rattle.horn.specs.Joining.{joined}
use Rattle.text.specs.declared.verdict.Counts.{Counts}
use Rattle.text.specs.declared.verdict.Fault.{Fault}
use Rattle.text.specs.Judging.{Good}
use Rattle.text.specs.Verdicts.{Judged}
use Rattle.text.specs.Reading.{Meant}
use Rattle.text.proofs.Pinned.{one_answer}
use Rattle.round.specs.Answers.{Answer, Opens, Asks}
use Rattle.round.proofs.Choosing.{determined}
use Rattle.console.specs.Records.{Record, network, show, opening, asking, mark, bytes_of, all_bytes, Fitting, NoRecord, ParsedOnce}
use Rattle.console.specs.Lines.{Reply, line}
use Rattle.console.specs.Session.{State, Judging, Step, Session, done, step, ServedOnce, verdict_reply, kept, answer_reply, opened, ending, at_first}

-- the record at the front of the bytes, by its mark
abbrev sheet_at : (List ℕ → Record) → List ℕ → Option (Record × List ℕ)
sheet_at f [] = None
sheet_at f (hi ∷ []) = None
sheet_at f (hi ∷ lo ∷ bs) = Some (f (take (hi * 256 + lo) bs), drop (hi * 256 + lo) bs)

abbrev number_at : (ℕ → Record) → List ℕ → Option (Record × List ℕ)
number_at f [] = None
number_at f (hi ∷ []) = None
number_at f (hi ∷ lo ∷ bs) = Some (f (hi * 256 + lo), bs)

abbrev first : List ℕ → Option (Record × List ℕ)
first [] = None
first (a ∷ []) = None
first (a ∷ b ∷ bs) =
    cond (eqb a 78 && eqb b 83) (sheet_at network bs)
    (cond (eqb a 83 && eqb b 83) (sheet_at show bs)
    (cond (eqb a 79 && eqb b 80) (Some (opening, bs))
    (cond (eqb a 65 && eqb b 83) (number_at asking bs) None)))

sheet_read : (f : List ℕ → Record) (t tail : List ℕ) → sheet_at f (length t / 256 ∷ length t % 256 ∷ (t ++ tail)) ≡ Some (f t, tail)
sheet_read f t tail = rw (div-add-mod' (length t) 256, take_at t tail (length t) refl, drop_at t tail (length t) refl)

first_read : (r : Record) (tail : List ℕ) → first (bytes_of r ++ tail) ≡ Some (r, tail)
first_read (network t) tail = sheet_read network t tail
first_read (show t) tail = sheet_read show t tail
first_read opening tail = refl
first_read (asking n) tail = rw (div-add-mod' n 256)

front_once : (r q : Record) (a b : List ℕ) → bytes_of r ++ a ≡ bytes_of q ++ b → (r ≡ q) × (a ≡ b)
front_once r q a b e =
    let h : Some (r, a) ≡ Some (q, b) = sym (first_read r a) ∙ ap first e ∙ first_read q b in
    (ap (λ (o : Option (Record × List ℕ)). (unwrap_or o (r, a)).0) h, ap (λ (o : Option (Record × List ℕ)). (unwrap_or o (r, a)).1) h)

reading_once : (rs qs : List Record) (a b : List ℕ) → AllByRecursion Fitting rs → AllByRecursion Fitting qs → NoRecord a → NoRecord b
    → all_bytes rs ++ a ≡ all_bytes qs ++ b → (rs ≡ qs) × (a ≡ b)
reading_once [] [] a b f g m n e = (refl, e)
reading_once [] (q ∷ qs) a b f g m n e = absurd (m q (all_bytes qs ++ b) g.0 (e ∙ append_assoc (bytes_of q) (all_bytes qs) b))
reading_once (r ∷ rs) [] a b f g m n e = absurd (n r (all_bytes rs ++ a) f.0 (sym e ∙ append_assoc (bytes_of r) (all_bytes rs) a))
reading_once (r ∷ rs) (q ∷ qs) a b f g m n e =
    let h = front_once r q (all_bytes rs ++ a) (all_bytes qs ++ b) (sym (append_assoc (bytes_of r) (all_bytes rs) a) ∙ e ∙ append_assoc (bytes_of q) (all_bytes qs) b) in
    let k = reading_once rs qs a b f.1 g.1 m n h.1 in
    (cc (h.0, k.0), k.1)

pub parsed_once : ParsedOnce
parsed_once input rs qs a b p q = reading_once rs qs a b p.fitting q.fitting p.ended q.ended (sym p.whole ∙ q.whole)

-- a text has one meaning
meant_once : (s : List ℕ) (v : Result Counts Fault) (x z : Sheet) → Judged s v → Meant s x → Meant s z → x ≡ z
meant_once s (Ok c) x z j m n =
    m.good c.clauses c.conditions c.literals j.0 j.1 ∙ sym (n.good c.clauses c.conditions c.literals j.0 j.1)
meant_once s (Err f) x z j m n =
    let none : (a b d : ℕ) → length s ≤ 60000 → Good s a b d → ⊥ =
    λ a b d short g. let o = one_answer s (Ok (record { clauses = a; conditions = b; literals = d })) (Err f) (short, g) j in let w : ◌≡◌ {A = ℕ} 0 1 = cc in omega arith in
    m.refused none ∙ sym (n.refused none)

judging_once : (t : List ℕ) (old a b : Sheet) (y z : Reply) → Judging t old y a → Judging t old z b → (y ≡ z) × (a ≡ b)
judging_once t old a b y z p q =
    let v = one_answer t p.verdict q.verdict p.judged q.judged in
    let s = meant_once t p.verdict p.sheet q.sheet p.judged p.meant q.meant in
    (p.reply ∙ ap verdict_reply v ∙ sym q.reply, p.holds ∙ (λ i. kept (v i) (s i) old) ∙ sym q.holds)

-- a call of the round has one answer
opens_once : (s : Sheet) (a b : Answer) → Opens s a → Opens s b → a ≡ b
opens_once s a b p q = (determined.opens s).alone a p ∙ sym ((determined.opens s).alone b q)

asks_once : (s : Sheet) (k : ℕ) (a b : Answer) → Asks s k a → Asks s k b → a ≡ b
asks_once s k a b p q = (determined.asks s k).alone a p ∙ sym ((determined.asks s k).alone b q)

same_state : (m n : State) → m.of_network ≡ n.of_network → m.of_show ≡ n.of_show → m.of_round ≡ n.of_round → m ≡ n
same_state m n e f g = λ i. record { of_network = e i; of_show = f i; of_round = g i }

step_once : (st : State) (r : Record) (y z : Reply) (m n : State) → Step st r y m → Step st r z n → (y ≡ z) × (m ≡ n)
step_once st (network t) y z m n p q =
    let j = judging_once t st.of_network m.of_network n.of_network y z p.0 q.0 in
    (j.0, same_state m n j.1 (p.1 ∙ sym q.1) (p.2 ∙ sym q.2))
step_once st (show t) y z m n p q =
    let j = judging_once t st.of_show m.of_show n.of_show y z p.0 q.0 in
    (j.0, same_state m n (p.1 ∙ sym q.1) j.1 (p.2 ∙ sym q.2))
step_once st opening y z m n p q =
    let s : Sheet = joined st.of_network st.of_show in
    let a = opens_once s p.0.answer q.0.answer p.0.opens q.0.opens in (
      p.0.reply ∙ ap answer_reply a ∙ sym q.0.reply,
      same_state m n (p.1 ∙ sym q.1) (p.2 ∙ sym q.2) (p.0.holds ∙ (λ i. opened (a i) s) ∙ sym q.0.holds),
    )
step_once st (asking k) y z m n p q =
    let a = asks_once st.of_round k p.0.answer q.0.answer p.0.asks q.0.asks in
    (p.0.reply ∙ ap answer_reply a ∙ sym q.0.reply, p.1 ∙ sym q.1)

session_once : {st last end : State} {rs : List Record} {out put : List ℕ} → Session st rs out last → Session st rs put end → out ≡ put
session_once done done = refl
session_once {st} {last} {end} (step {next = m} {r = r} {rs = rs} y p s) (step {next = n} {out = put} z q t) =
    let h = step_once st r y z m n p q in
    let k = session_once s (subst (λ (x : State). Session x rs put end) (sym h.1) t) in
    (λ i. line (mark r) (h.0 i) ++ k i)

pub served_once : ServedOnce
served_once input a b p q =
    let r = parsed_once input p.records q.records p.rest q.rest p.parsed q.parsed in
    let l = session_once (subst (λ (rs : List Record). Session at_first rs p.lines p.last) r.0 p.session) q.session in
    p.whole ∙ (λ i. l i ++ ending (length (all_bytes (r.0 i))) (r.1 i)) ∙ sym q.whole
