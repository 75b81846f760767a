-- Every accepted withdrawal is to a mark that was set and that no withdrawal has reached since.
use Rattle.std.proofs.Common.{◌≡◌, ℕ, suc, ◌-◌, ◌<◌, ◌≤◌, ◌⊎◌, List, [], ◌∷◌, length, take, ap, ◌∙◌, inl, inr, arith, length-take}
use native.Mathlib.Decide.{dec_le}
use Rattle.std.proofs.lemmas.List.{length_push}
use Rattle.horn.specs.Sheets.{Sheet}
use Rattle.round.specs.Answers.{Answer, ok, refused}
use Rattle.round.specs.Calls.{Call, fact, ban, mark, withdraw, ask, roll, explain, Event, event, Standing, nothing, after, stands}
use Rattle.round.specs.Runs.{Answers, Run}
use Rattle.round.specs.Promise.{AllSpare, MarkStands, Answered}
use Rattle.round.proofs.Choosing.{ok_refused}
use Rattle.round.proofs.Parts.{run_split}

-- an accepted withdrawal is to a standing mark
pub withdraw_bounds : (s : Sheet) (st : Standing) (m : ℕ) (ns written : List ℕ) → Answers s st (withdraw m) (ok ns written) → (1 ≤ m) × (m ≤ length st.marks)
withdraw_bounds s st m ns written (inl r) = absurd (ok_refused r.1)
withdraw_bounds s st m ns written (inr r) = (first m (λ e. r.0 (inl e)), last m (length st.marks) (λ h. r.0 (inr h)))
  where
    first : (a : ℕ) → (a ≡ 0 → ⊥) → 1 ≤ a
    first a h = omega arith

    last : (a b : ℕ) → (b < a → ⊥) → a ≤ b
    last a b h = omega arith

-- mark m stood in st and stands through these events, or was set in them and stands
abbrev Kept : ℕ → Standing → List Event → Type 0
Kept m st es = ((m ≤ length st.marks) × AllSpare m es) ⊎ MarkStands m es

-- an accepted mark before the events
kept_mark : (st : Standing) (m : ℕ) (ns written : List ℕ) (es : List Event) → ok ns written ≡ ok (suc (length st.marks) ∷ []) [] → m ≤ suc (length st.marks) → AllSpare m es
    → Dec (m ≤ length st.marks) → Kept m st (event mark (ok ns written) ∷ es)
kept_mark st m ns written es r h k (yes l) = inl (l, (tt, k))
kept_mark st m ns written es r h k (no l) =
    let e : suc (length st.marks) ≡ m = omega arith in
    inr record {
      earlier = [];
      since = es;
      numbers = [];
      written = [];
      whole = ap {B = List Event} (λ (x : Answer). event mark x ∷ es) (r ∙ ap (λ (x : ℕ). ok (x ∷ []) []) e);
      spared = k;
    }

-- any event before them
kept_step : (s : Sheet) (st : Standing) (m : ℕ) (c : Call) (a : Answer) (es : List Event) → Answers s st c a → 1 ≤ m → m ≤ length (after st c a).marks → AllSpare m es
    → Kept m st (event c a ∷ es)
kept_step s st m c (refused n named) es r l h k = inl (h, (tt, k))
kept_step s st m (fact p) (ok ns written) es r l h k = inl (h, (tt, k))
kept_step s st m (ban p) (ok ns written) es r l h k = inl (h, (tt, k))
kept_step s st m mark (ok ns written) es (inl r) l h k = absurd (ok_refused r.1)
kept_step s st m mark (ok ns written) es (inr r) l h k = kept_mark st m ns written es r.1 (omega (arith, simp length_push at h)) k (dec_le m (length st.marks))
kept_step s st m (withdraw j) (ok ns written) es r l h k =
    let n : length (take (j - 1) st.marks) ≡ _ = length-take (j - 1) st.marks in
    inl (omega arith, (omega arith, k))
kept_step s st m (ask p) (ok ns written) es r l h k = inl (h, (tt, k))
kept_step s st m (roll j) (ok ns written) es r l h k = inl (h, (tt, k))
kept_step s st m (explain p j) (ok ns written) es r l h k = inl (h, (tt, k))

-- so for each mark that stands after a run
kept_run : (s : Sheet) (st : Standing) (m : ℕ) (es : List Event) → Run s st es → 1 ≤ m → m ≤ length (stands st es).marks → Kept m st es
kept_run s st m [] r l h = inl (h, tt)
kept_run s st m (e ∷ es) r l h = further (kept_run s (after st e.call e.answer) m es r.1 l h)
  where
    further : Kept m (after st e.call e.answer) es → Kept m st (e ∷ es)
    further (inl p) = kept_step s st m e.call e.answer es r.0 l p.0 p.1
    further (inr d) = inr record {
      earlier = e ∷ d.earlier;
      since = d.since;
      numbers = d.numbers;
      written = d.written;
      whole = ap (λ (xs : List Event). e ∷ xs) d.whole;
      spared = d.spared;
    }

pub mark_stands : (s : Sheet) (before : List Event) (m : ℕ) (ns written : List ℕ) → Answered s before (withdraw m) (ok ns written) → MarkStands m before
mark_stands s before m ns written run =
    let p = run_split s nothing before (event (withdraw m) (ok ns written) ∷ []) run in
    let b = withdraw_bounds s (stands nothing before) m ns written p.1.0 in
    set b.0 (kept_run s nothing m before p.0 b.0 b.1)
  where
    set : 1 ≤ m → Kept m nothing before → MarkStands m before
    set l (inl k) = absurd (omega (arith, k.0))
    set l (inr d) = d
