-- What the tables of a round hold after an opening.
use Rattle.std.proofs.Common.{◌≡◌, ℕ, zero, suc, ◌+◌, ◌-◌, ◌<◌, ◌≤◌, Bool, false, List, [], ◌∷◌, map, length, get_or, drop, Some, not, ◌&&◌, vec_items, vec_len, sym, refl, ap, ◌∙◌, subst, Err, inl, inr, ⊎_elim, add-one, arith}
use native.Mathlib.Decide.{dec_le}
use Rattle.std.proofs.lemmas.List.{take_all, drop_all}
use Rattle.horn.specs.Sheets.{Sheet, Clause, Condition, Lawful, LawfulClause, empty_sheet, all_of, literals}
use Rattle.std.proofs.lemmas.Bool.{le-ltb, not_from_false, cases_Bool}
use Rattle.horn.specs.Bans.{places, discharged, lowest_broken}
use Rattle.horn.specs.Levels.{in_force}
use Rattle.horn.specs.Lawfulness.{lawful, satisfiable}
use Rattle.horn.specs.Sources.{LawfulSource}
use Rattle.horn.proofs.Lawfulness.{lawful_tested}
use Rattle.horn.proofs.Levels.{level_condition}
use Rattle.horn.proofs.Tests.{all_nth}
use mathlib.Core.Path.{fun_ext}
use Rattle.round.specs.Rows.{at, Rows, Body, Filled, LawfulRows, kept_outcome, clause_in, clauses_in, sheet_in}
use Rattle.round.specs.Ranks.{Ranks, OnlyUpTo, ranked}
use Rattle.round.specs.Lent.{SheetRows}
use Rattle.round.specs.Held.{held_rows, held_sheet, Emptied, Holds}
use Rattle.round.specs.Answers.{Opens, ok, refusal}
use Rattle.round.specs.Calls.{nothing}
use Rattle.round.specs.Good.{Usable, Bare, Stocked, Kept, Good, Unmoved, RankedAnew, Settled, state_sheet, is_filing, filing_of, opened_sheet, state_standing}
use Rattle.round.specs.declared.refusals.Refusal.{Refusal}
use Rattle.round.specs.declared.refusals.Refusal.TheVariants.{Contradiction}
use Rattle.round.specs.declared.tables.Tables.{Tables}
use Rattle.round.specs.declared.state.State.{State}
use Rattle.round.proofs.Growing.{filled_writing}
use Rattle.round.proofs.Lookups.{nth_between, length_clauses}
use Rattle.round.proofs.Meaning.{clause_here}
use Rattle.round.proofs.Replying.{opens_ok}
use Rattle.round.proofs.Rolls.{and_true}

-- each place belongs to a clause
owned : (t : Rows) → Filled t → (j n : ℕ) → n ≤ length t.outs → j < at t.starts n → (c : ℕ) × (c < length t.outs) × Body t c j
owned t f j zero l h = absurd (omega (arith, f.begins))
owned t f j (suc n) l h = step (dec_le (at t.starts n) j) (owned t f j n (omega arith))
  where
    step : Dec (at t.starts n ≤ j) → (j < at t.starts n → (c : ℕ) × (c < length t.outs) × Body t c j) → (c : ℕ) × (c < length t.outs) × Body t c j
    step (yes a) r = (n, omega arith, (a, omega (arith, ap (at t.starts) (add-one n))))
    step (no a) r = r (omega arith)

small_outcome : (top o : ℕ) → top ≤ 1000 → ((q : ℕ) → kept_outcome o ≡ Some q → (1 ≤ q) × (q ≤ top)) → o < 1001
small_outcome top zero h w = omega arith
small_outcome top (suc o) h w = omega (arith, (w (suc o) refl).1)

-- The rows of a lawful sheet have its conditions alone.
pub lawful_rows : (top : ℕ) (t : Rows) → top ≤ 1000 → Filled t → Lawful (sheet_in top t) → LawfulRows 1001 t
lawful_rows top t h f l = record {
  rows = f;
  outcomes = λ c k. small_outcome top (at t.outs c) h (clause_lawful c k).outcomes;
  conditions = λ j k. let o = owned t f j (length t.outs) (omega arith) (omega (arith, f.ends)) in at_place o.0 o.1 j o.2;
}
  where
    clause_lawful : (c : ℕ) → c < length t.outs → LawfulClause (sheet_in top t) (clause_in t c)
    clause_lawful c k = all_nth (LawfulClause (sheet_in top t)) (clauses_in t) c (clause_in t c) (clause_here t c k) l

    at_place : (c : ℕ) → c < length t.outs → (j : ℕ) → Body t c j → (0 < at t.places j) × (at t.places j < 1001)
    at_place c k j b =
        let a : ℕ = at t.starts c in
        let e : a + (j - a) ≡ j = omega (arith, b.0) in
        let p = all_nth (Condition (sheet_in top t)) (clause_in t c).body (j - a) (get_or t.places (a + (j - a)) 0)
        (nth_between t.places a (at t.starts (c + 1)) (j - a) ((filled_writing t f).ends (c + 1) (omega arith)) (omega (arith, b.0, b.1)))
        (clause_lawful c k).conditions in
        let q : get_or t.places (a + (j - a)) 0 ≡ at t.places j = ap (at t.places) e in
        (omega (arith, q, p.0), omega (arith, q, p.1))

pub stocked_lawful : (st : State) → Stocked st → Lawful (state_sheet st)
stocked_lawful st s = (lawful_tested (state_sheet st)).0 s.lawfully

-- only a condition of the clauses has a rank
pub only_ranked : (st : State) → Good st → OnlyUpTo st.tables.conditions st.rank.value
only_ranked st g p above =
    let s : Sheet = state_sheet st in
    let none : in_force s p ≡ false = ⊎_elim (λ h. absurd (omega (arith, above, (level_condition s (stocked_lawful st g.stocked) s.top p h).1))) (λ h. h) (cases_Bool (in_force s p)) in
    g.ranked p (omega arith) ∙ rw none refl

-- the clauses that a state holds can be lent
pub lendable : (st : State) → Stocked st → SheetRows st.tables.conditions (held_rows st.tables)
lendable st s = record {
  rows = lawful_rows st.tables.conditions (held_rows st.tables) s.few_conditions s.filled (stocked_lawful st s);
  few_conditions = s.few_conditions;
  few_clauses = omega (arith, st.tables.outcomes.ok.0, st.tables.few.0);
  few_places = omega (arith, st.tables.places.ok.0, st.tables.few.1);
  lawfully = s.lawfully;
}

-- Where all clauses are those that were opened and no mark is set, nothing stands.
module _ (st : State) (whole : st.opened ≡ vec_len st.tables.outcomes) (bare : vec_items st.marks ≡ []) where
  past_clauses : length (state_sheet st).clauses ≤ st.opened
  past_clauses = omega (arith, whole, length_clauses (held_rows st.tables), st.tables.outcomes.ok.0)

  none_filed : drop st.opened (state_sheet st).clauses ≡ []
  none_filed = drop_all st.opened (state_sheet st).clauses past_clauses

  pub whole_sheet : opened_sheet st ≡ state_sheet st
  whole_sheet = ap {B = Sheet} (λ (cs : List Clause). record { top = st.tables.conditions; clauses = cs }) (take_all st.opened (state_sheet st).clauses past_clauses)

  pub nothing_stands : state_standing st ≡ nothing
  nothing_stands = λ i. record { filings = map filing_of (none_filed i); marks = bare i }

  pub whole_kept : Filled (held_rows st.tables) → vec_len st.tables.outcomes ≤ 2000 → vec_len st.tables.places ≤ 8000 → Kept st
  whole_kept f few short =
      let ss : List ℕ = vec_items st.tables.starts in
      let n : vec_len st.marks ≡ 0 = st.marks.ok.0 ∙ ap length bare in
      record {
        few_opened = omega arith;
        opened_clauses = omega arith;
        few_filings = omega arith;
        filings = ap (all_of is_filing) none_filed;
        starts = λ k h.
            let e : st.opened + k ≡ length (vec_items st.tables.outcomes) = omega (arith, st.tables.outcomes.ok.0) in
            omega (arith, ap (at ss) e, f.ends, st.tables.places.ok.0);
        few_marks = omega arith;
        marks_rise = λ i j h l. absurd (omega arith);
        marks_stand = λ i l. absurd (omega arith);
      }

-- an empty round is good
pub good_empty : (st : State) → Emptied st.tables → Bare st → Good st × (state_sheet st ≡ empty_sheet) × (opened_sheet st ≡ empty_sheet) × (state_standing st ≡ nothing)
good_empty st e b =
    let no-conditions : st.tables.conditions ≡ 0 = ap (λ (s : Sheet). s.top) e.sheet in
    let whole : st.opened ≡ vec_len st.tables.outcomes = b.opened ∙ sym e.no_clauses in (
      record {
        stocked = record {
          usable = b.usable;
          filled = e.filled;
          few_conditions = omega arith;
          lawfully = ap lawful e.sheet;
        };
        kept = whole_kept st whole b.marks e.filled (omega (arith, e.no_clauses)) (omega (arith, e.no_places));
        ranked = subst (λ (s : Sheet). Ranks s st.rank.value) (sym e.sheet) (λ p h. b.unranked p);
        unbroken = ap satisfiable e.sheet;
      },
      e.sheet,
      whole_sheet st whole b.marks ∙ e.sheet,
      nothing_stands st whole b.marks,
    )

-- the tables hold a source's sheet
pub stocked_from : (st : State) (s : Sheet) → LawfulSource s → Holds s st.tables → Usable st → Stocked st
stocked_from st s l h u =
    let top : st.tables.conditions ≡ s.top = ap (λ (x : Sheet). x.top) h.sheet in
    record {
      usable = u;
      filled = h.copied.filled;
      few_conditions = omega (arith, l.few_conditions);
      lawfully = ap lawful h.sheet ∙ (lawful_tested s).1 l.lawful;
    }

-- the clauses and marks of one state, with the tables to work in of another
abbrev mixed : State → State → State
mixed st st' = record { tables = st.tables; opened = st.opened; marks = st.marks; rank = st'.rank; spare = st'.spare; chosen = st'.chosen; scratch = st'.scratch }

module _ (st st' : State) (t : st'.tables ≡ st.tables) (o : st'.opened ≡ st.opened) (m : st'.marks ≡ st.marks) where
  mixed_is : mixed st st' ≡ st'
  mixed_is = λ i. record { tables = sym t i; opened = sym o i; marks = sym m i; rank = st'.rank; spare = st'.spare; chosen = st'.chosen; scratch = st'.scratch }

  pub unmoved_from : Stocked st → Unmoved st st'
  unmoved_from s =
      let w : Usable (mixed st st') = record { mark_room = s.usable.mark_room } in
      record {
        tables = t;
        opened = o;
        marks = m;
        stocked = subst Stocked mixed_is (record {
          usable = w;
          filled = s.filled;
          few_conditions = s.few_conditions;
          lawfully = s.lawfully;
        });
      }

-- where no condition had a rank, all discharged places are newly discharged
newly_all : (s : Sheet) (old : List ℕ) → ((p : ℕ) → at old p ≡ 0) → places (λ p. in_force s p && not (ranked old p)) s.clauses ≡ discharged s
newly_all s old none = ap (λ (f : ℕ → Bool). places f s.clauses) (fun_ext (λ p. and_true (in_force s p) (not (ranked old p)) (not_from_false (ranked old p) (le-ltb 0 (at old p) (omega (arith, none p))))))

-- A state that holds a source's sheet is opened on it once it is ranked and no ban is broken.
pub opened_from : (st₀ st : State) (n : ℕ) → RankedAnew st₀ st n → ((p : ℕ) → at st₀.rank.value p ≡ 0) → vec_items st₀.marks ≡ []
    → (s : Sheet) → Holds s st₀.tables → st₀.opened ≡ vec_len st₀.tables.outcomes
    → Good st × Opens s (ok (st₀.opened ∷ (st.tables.conditions ∷ (n ∷ []))) []) × (state_sheet st ≡ s) × (opened_sheet st ≡ s) × (state_standing st ≡ nothing)
opened_from st₀ st n a none unmarked s h count =
    let t : Tables = st₀.tables in
    let same : st.tables ≡ t = a.unmoved.tables in
    let all : st.opened ≡ st₀.opened = a.unmoved.opened in
    let bare : vec_items st.marks ≡ [] = ap vec_items a.unmoved.marks ∙ unmarked in
    let u : Stocked st = a.unmoved.stocked in
    let d : n ≡ discharged (state_sheet st) = a.discharged ∙ newly_all (state_sheet st) st₀.rank.value none in
    let e : state_sheet st ≡ s = ap held_sheet same ∙ h.sheet in
    let whole : st.opened ≡ vec_len st.tables.outcomes = all ∙ count ∙ sym (ap (λ (x : Tables). vec_len x.outcomes) same) in
    let few : vec_len st.tables.outcomes ≤ 2000 = omega (arith, ap (λ (x : Tables). vec_len x.outcomes) same, h.copied.few_clauses) in
    let short : vec_len st.tables.places ≤ 8000 = omega (arith, ap (λ (x : Tables). vec_len x.places) same, h.copied.few_places) in (
      record { stocked = u; kept = whole_kept st whole bare u.filled few short; ranked = a.ranked; unbroken = a.unbroken },
      opens_ok s st₀.opened st.tables.conditions n h.copied.sheet_clauses h.copied.sheet_literals
          (sym (ap satisfiable e) ∙ a.unbroken)
          (sym all ∙ whole ∙ st.tables.outcomes.ok.0 ∙ sym (length_clauses (held_rows st.tables)) ∙ ap (λ (x : Sheet). length x.clauses) e)
          (ap (λ (x : Sheet). x.top) e)
          (d ∙ ap discharged e),
      e,
      whole_sheet st whole bare ∙ e,
      nothing_stands st whole bare,
    )

-- it is refused with the lowest broken ban
pub opened_broken : (st₀ st : State) (e : Refusal) → Settled st₀ st (Err e) → (s : Sheet) → Holds s st₀.tables → Opens s (refusal e)
opened_broken st₀ st e broken s h =
    let by_ban = broken.2 in
    let same : state_sheet st ≡ s = ap held_sheet by_ban.unmoved.tables ∙ h.sheet in
    let few : length s.clauses ≤ 2000 = h.copied.sheet_clauses in
    let short : literals s.clauses ≤ 8000 = h.copied.sheet_literals in
    inr (
      ⊎_elim (λ l. omega arith) (λ l. omega arith),
      inl (
        sym (ap satisfiable same) ∙ by_ban.broken,
        ap refusal broken.1 ∙ ap (λ (b : ℕ). refusal (Contradiction b)) (by_ban.lowest ∙ ap lowest_broken same),
      ),
    )
