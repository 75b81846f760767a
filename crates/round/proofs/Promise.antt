-- The promise of a round.
use Rattle.std.proofs.Common.{◌≡◌, ℕ, ◌<◌, ◌≤◌, Bool, true, false, ◌⊎◌, ◌↔◌, List, [], ◌∷◌, ◌++◌, length, sym, refl, ap, ◌∙◌, subst, inl, inr, arith}
use Rattle.horn.specs.Sheets.{Sheet, Condition, Lawful, IsTooLarge, empty_sheet}
use Rattle.horn.specs.Pebblings.{InForce}
use Rattle.horn.specs.Levels.{in_force, explanation}
use Rattle.horn.specs.Lawfulness.{satisfiable}
use Rattle.horn.proofs.Entailment.{broken_never, entailed, explained, in_force_is, in_force_has}
use Rattle.horn.proofs.Explaining.{explaining}
use Rattle.horn.proofs.Lawfulness.{satisfiable_tested}
use Rattle.round.specs.Answers.{Answer, ok, refused, Else, Outside, Opens, opened}
use Rattle.round.specs.Calls.{Call, fact, ban, mark, withdraw, ask, roll, explain, Event, event, Filing, of_fact, of_ban, files, condition_of, Standing, nothing, filed, after, stands, at_mark, with_filings}
use Rattle.round.specs.Runs.{Answers, Run, standing_sheet, next_sheet}
use Rattle.round.specs.Exact.{Unsatisfiable, Entails, Contradicts, bit_of}
use Rattle.round.specs.Promise.{Reports, ShortestExplanation, Promise, OpeningPromised}
use Rattle.round.specs.Sound.{position, round_is, round_lawful, PromiseKept}
use Rattle.round.proofs.Alike.{withdraws_alike}
use Rattle.round.proofs.Choosing.{ok_refused, same_bit, first_number}
use Rattle.round.proofs.Parts.{run_split}
use Rattle.round.proofs.Marks.{mark_stands}
use Rattle.round.proofs.Filings.{not_no, not_yes, inside, unsatisfiable, satisfiable_not, pushed, lawful_push, Sound, sound_none, sound_push, sound_take, sound_ban}
use Rattle.round.proofs.Naming.{same_number, ban_broken, filing_names, opening_names}
use Rattle.round.proofs.Words.{rolled}

-- What stands after a run is lawful, and some choice satisfies it.
sound_filed : (s : Sheet) (st : Standing) (f : Filing) (ns written : List ℕ) → Answers s st (files f) (ok ns written) → Sound s st.filings → Sound s (filed st f).filings
sound_filed s st (of_fact p) ns written (inl r) o = absurd (ok_refused r.1)
sound_filed s st (of_fact p) ns written (inr (x, inl r)) o = absurd (ok_refused r.1)
sound_filed s st (of_fact p) ns written (inr (x, inr (y, inl r))) o = absurd (ok_refused r.1)
sound_filed s st (of_fact p) ns written (inr (x, inr (y, inr r))) o = sound_push s st.filings (of_fact p) (inside s p x) o (not_no _ r.0)
sound_filed s st (of_ban p) ns written (inl r) o = absurd (ok_refused r.1)
sound_filed s st (of_ban p) ns written (inr (x, inl r)) o = absurd (ok_refused r.1)
sound_filed s st (of_ban p) ns written (inr (x, inr (y, inl r))) o = absurd (ok_refused r.1)
sound_filed s st (of_ban p) ns written (inr (x, inr (y, inr r))) o = sound_push s st.filings (of_ban p) (inside s p x) o (sound_ban s st.filings p (inside s p x) o (not_yes _ r.0))

sound_step : (s : Sheet) (st : Standing) (c : Call) (a : Answer) → Answers s st c a → Sound s st.filings → Sound s (after st c a).filings
sound_step s st c (refused n named) r o = o
sound_step s st (fact p) (ok ns written) r o = sound_filed s st (of_fact p) ns written r o
sound_step s st (ban p) (ok ns written) r o = sound_filed s st (of_ban p) ns written r o
sound_step s st mark (ok ns written) r o = o
sound_step s st (withdraw m) (ok ns written) r o = sound_take s st.filings (at_mark st m) o
sound_step s st (ask p) (ok ns written) r o = o
sound_step s st (roll k) (ok ns written) r o = o
sound_step s st (explain p k) (ok ns written) r o = o

sound_run : (s : Sheet) (st : Standing) (es : List Event) → Run s st es → Sound s st.filings → Sound s (stands st es).filings
sound_run s st [] r o = o
sound_run s st (e ∷ es) r o = sound_run s (after st e.call e.answer) es r.1 (sound_step s st e.call e.answer r.0 o)

-- where a test decides whether the answer is a refusal with 8
contradicts : (P U : Type 0) (named ns written : List ℕ) (a : Answer) → (P → U) → ((P → ⊥) → U → ⊥) → Else P (refused 8 named) (λ x. x ≡ ok ns written) a → Contradicts a ↔ U
contradicts P U named ns written a f g (inl r) = (λ _. f r.0, λ _. subst Contradicts (sym r.1) refl)
contradicts P U named ns written a f g (inr r) = (λ c. absurd (subst Contradicts r.1 c), λ u. absurd (g r.0 u))

not_outside : (s : Sheet) (p : ℕ) → Condition s p → Outside s p → ⊥
not_outside s p c (inl e) = omega (arith, c.0)
not_outside s p c (inr l) = omega (arith, c.1)

not_full : (a b : ℕ) → a < b → b ≤ a → ⊥
not_full a b h k = omega arith

filing_contradicts : (s : Sheet) (st : Standing) (f : Filing) (a : Answer) → Sound s st.filings → Condition s (condition_of f) → length st.filings < 256 → Answers s st (files f) a
    → Contradicts a ↔ Unsatisfiable (next_sheet s st f)
filing_contradicts s st (of_fact p) a o i l (inl r) = absurd (not_outside s p i r.0)
filing_contradicts s st (of_fact p) a o i l (inr (x, inl r)) = absurd (not_full _ _ l r.0)
filing_contradicts s st (of_fact p) a o i l (inr (x, inr (y, r))) =
    let next : Sheet = next_sheet s st (of_fact p) in
    let w : Lawful next = lawful_push s st.filings (of_fact p) i o.lawful in
    contradicts _ _ _ _ _ a (unsatisfiable next w) (λ k. satisfiable_not next w (not_no _ k)) r
filing_contradicts s st (of_ban p) a o i l (inl r) = absurd (not_outside s p i r.0)
filing_contradicts s st (of_ban p) a o i l (inr (x, inl r)) = absurd (not_full _ _ l r.0)
filing_contradicts s st (of_ban p) a o i l (inr (x, inr (y, r))) =
    let next : Sheet = next_sheet s st (of_ban p) in
    contradicts _ _ _ _ _ a
    (λ f. subst Unsatisfiable (sym (pushed s st.filings (of_ban p))) (broken_never _ _ (ban_broken (standing_sheet s st) o.lawful p f)))
    (λ k. satisfiable_not next (lawful_push s st.filings (of_ban p) i o.lawful) (sound_ban s st.filings p i o (not_yes _ k)))
    r

-- what is reported in force is what every choice holds
reported_entails : (s : Sheet) (fs : List Filing) → Sound s fs → (q : ℕ) (b : Bool) → b ≡ in_force (with_filings s fs) q → (b ≡ true) ↔ Entails (with_filings s fs) q
reported_entails s fs o q b e =
    let S : Sheet = with_filings s fs in
    let v = (satisfiable_tested S o.lawful).0 o.satisfied in
    let k = entailed S o.lawful v.0 v.1 q in
    (λ h. k.0 (in_force_is S o.lawful q (sym e ∙ h)), λ h. e ∙ in_force_has S o.lawful q (k.1 h))

same_numbers : {ns ms us vs : List ℕ} → ok ns us ≡ ok ms vs → ns ≡ ms
same_numbers e = cc

same_written : {ns ms us vs : List ℕ} → ok ns us ≡ ok ms vs → us ≡ vs
same_written e = cc

-- an explain that is refused
refused_reports : (s : Sheet) (st : Standing) (p k n : ℕ) (named : List ℕ) (b : Bool) → Answers s st (explain p k) (refused n named)
    → ((n ≡ 10) × (b ≡ true)) ⊎ ((n ≡ 12) × (b ≡ false)) → b ≡ in_force (standing_sheet s st) p
refused_reports s st p k n named b (inl r) (inl t) = let e = same_number r.1 in absurd (omega (arith, t.0))
refused_reports s st p k n named b (inl r) (inr t) = let e = same_number r.1 in absurd (omega (arith, t.0))
refused_reports s st p k n named b (inr (x, inl r)) (inl t) = let e = same_number r.1 in absurd (omega (arith, t.0))
refused_reports s st p k n named b (inr (x, inl r)) (inr t) = t.1 ∙ sym r.0
refused_reports s st p k n named b (inr (x, inr (y, inl r))) (inl t) = t.1 ∙ sym (not_no _ y)
refused_reports s st p k n named b (inr (x, inr (y, inl r))) (inr t) = let e = same_number r.1 in absurd (omega (arith, t.0))
refused_reports s st p k n named b (inr (x, inr (y, inr r))) t = absurd (ok_refused (sym r.1))

-- what an answer reports is what is computed
reported : (s : Sheet) (st : Standing) (c : Call) (a : Answer) (q : ℕ) (b : Bool) → Answers s st c a → Reports s.top c a q b → b ≡ in_force (standing_sheet s st) q
reported s st (fact p) a q b r h = absurd h
reported s st (ban p) a q b r h = absurd h
reported s st mark a q b r h = absurd h
reported s st (withdraw m) a q b r h = absurd h
reported s st (ask p) (ok ns written) q b (inl r) h = absurd (ok_refused r.1)
reported s st (ask p) (ok ns written) q b (inr r) h =
    same_bit b (in_force (standing_sheet s st) p) (first_number (ap (λ (x : List ℕ). ok x written) (sym h.1) ∙ r.1)) ∙ ap (in_force (standing_sheet s st)) h.0
reported s st (ask p) (refused n named) q b r h = absurd h
reported s st (roll k) (ok ns words) q b (inl r) h = absurd (ok_refused r.1)
reported s st (roll k) (ok ns words) q b (inr r) h =
    same_bit b (in_force (standing_sheet s st) q)
    (sym h.2 ∙ ap (λ (x : List ℕ). bit_of x q) (same_written r.1) ∙ rolled (in_force (standing_sheet s st)) s.top q h.0 h.1)
reported s st (roll k) (refused n named) q b r h = absurd h
reported s st (explain p k) (ok ns steps) q b (inl r) h = absurd (ok_refused r.1)
reported s st (explain p k) (ok ns steps) q b (inr (x, inl r)) h = absurd (ok_refused r.1)
reported s st (explain p k) (ok ns steps) q b (inr (x, inr (y, r))) h = h.1 ∙ sym (not_no _ y) ∙ ap (in_force (standing_sheet s st)) h.0
reported s st (explain p k) (refused n named) q b r h = refused_reports s st p k n named b r h.1 ∙ ap (in_force (standing_sheet s st)) h.0

shortest : (s : Sheet) (st : Standing) → Sound s st.filings → (p k : ℕ) (ns steps : List ℕ) → Answers s st (explain p k) (ok ns steps)
    → ShortestExplanation (standing_sheet s st) p ns steps
shortest s st o p k ns steps (inl r) = absurd (ok_refused r.1)
shortest s st o p k ns steps (inr (x, inl r)) = absurd (ok_refused r.1)
shortest s st o p k ns steps (inr (x, inr (y, inl r))) = absurd (ok_refused r.1)
shortest s st o p k ns steps (inr (x, inr (y, inr r))) =
    let S : Sheet = standing_sheet s st in
    let f : InForce S p = in_force_is S o.lawful p (not_no _ y) in
    let e = explained S o.lawful p f in
    let is : steps ≡ explanation S p = same_written r.1 in
    record {
      defined = rw is (explaining S o.lawful p f).0;
      pebbling = rw is e.0;
      shortest = rw is e.2;
      numbers = rw is (same_numbers r.1 ∙ ap (λ (d : ℕ). d ∷ (length (explanation S p) ∷ [])) (sym e.1));
    }

-- A round opened on a lawful sheet that some choice satisfies keeps its promise.
pub promised : (s : Sheet) → Sound s [] → Promise s
promised s o = record {
  filings = λ before f a r i l. let p = parts before (event (files f) a) r in filing_contradicts s (stands nothing before) f a p.0 i l p.1;
  names = λ before f named r. let p = parts before (event (files f) (refused 8 named)) r in filing_names s (stands nothing before) f named p.0 p.1;
  reports = λ before c a q b r h. let p = parts before (event c a) r in reported_entails s (stands nothing before).filings p.0 q b (reported s (stands nothing before) c a q b p.1 h);
  explains = λ before p k ns steps r. let x = parts before (event (explain p k) (ok ns steps)) r in shortest s (stands nothing before) x.0 p k ns steps x.1;
  sets = mark_stands s;
  withdraws = withdraws_alike s;
}
  where
    -- what stands before the last call of a run, and its answer
    parts : (before : List Event) (e : Event) → Run s nothing (before ++ (e ∷ [])) → Sound s (stands nothing before).filings × Answers s (stands nothing before) e.call e.answer
    parts before e r = let x = run_split s nothing before (e ∷ []) r in (sound_run s nothing before x.0 o, x.1.0)

opening_contradicts : (s : Sheet) → Lawful s → (a : Answer) → Opens s a → (IsTooLarge s → ⊥) → Contradicts a ↔ Unsatisfiable s
opening_contradicts s w a (inl r) i = absurd (i r.0)
opening_contradicts s w a (inr (x, r)) i = contradicts _ _ _ _ _ a (unsatisfiable s w) (λ k. satisfiable_not s w (not_no _ k)) r

opened_promised : (s : Sheet) → Lawful s → (a : Answer) → Opens s a → Promise (opened a s)
opened_promised s w (refused n named) r = promised empty_sheet (sound_none empty_sheet tt refl)
opened_promised s w (ok ns written) (inl r) = absurd (ok_refused r.1)
opened_promised s w (ok ns written) (inr (x, inl r)) = absurd (ok_refused r.1)
opened_promised s w (ok ns written) (inr (x, inr r)) = promised s (sound_none s w (not_no _ r.0))

pub opening_promised : OpeningPromised
opening_promised s w a r = record { contradicts = opening_contradicts s w a r; names = opening_names s w a r; promise = opened_promised s w a r }

-- so does every round: filings that stand can be taken away
pub promise_kept : PromiseKept
promise_kept r = promised (position r).sheet (sound_take (position r).sheet (position r).standing.filings 0 record {
  lawful = subst Lawful (sym (round_is r)) (round_lawful r).lawful;
  satisfied = ap satisfiable (round_is r) ∙ r.ok.unbroken;
})
