-- A fact or a ban that is filed.
use Rattle.std.proofs.Common.{◌≡◌, ℕ, zero, suc, ◌+◌, ◌-◌, ◌<◌, ◌≤◌, true, false, not, ◌&&◌, List, [], ◌∷◌, ◌++◌, length, take, Some, vec_items, vec_len, Option, sym, refl, ap, ◌∙◌, subst, ap₂, subst₂, inl, inr, ⊎_elim, arith}
use Rattle.std.proofs.lemmas.List.{length_push, take_at}
use Rattle.std.proofs.lemmas.Bool.{lt-ltb, le-ltb, both_ways}
use Rattle.horn.specs.Sheets.{Sheet, Clause, Condition, Lawful}
use Rattle.horn.specs.Levels.{in_force}
use Rattle.horn.specs.Bans.{lowest_broken, places}
use Rattle.horn.specs.Claims.{added}
use Rattle.horn.specs.Lawfulness.{satisfiable}
use Rattle.round.specs.Answers.{ok, refusal, Outside}
use Rattle.round.specs.Calls.{Filing, of_fact, of_ban, Standing, fact, ban, filed, condition_of, clause_of}
use Rattle.round.specs.Runs.{Position, Step, standing_sheet, next_sheet, newly_discharged}
use Rattle.round.specs.Rows.{at, Filled, kept_outcome}
use Rattle.round.specs.Ranks.{Ranks, ranked}
use Rattle.round.specs.Held.{held_rows, held_sheet, Placed, Ended, Cut}
use Rattle.round.specs.Good.{Usable, Stocked, Kept, Good, RankedAnew, BrokenBy, state_sheet, opened_sheet, state_standing, state_position, filing_of}
use Rattle.round.specs.Filing.{MayFile, TurnsBack}
use Rattle.round.specs.Sound.{position_sheet}
use Rattle.round.specs.declared.refusals.Refusal.TheVariants.{FilingsFull, Contradiction}
use Rattle.round.specs.declared.state.State.{State}
use Rattle.round.specs.declared.tables.Tables.{Tables}
use Rattle.round.proofs.Filings.{pushed, lawful_push, sound_ban}
use Rattle.round.proofs.Growing.{filled_unfinished, writing_filled}
use Rattle.round.proofs.Meaning.{in_force_ranked}
use Rattle.round.proofs.Openings.{stocked_lawful}
use Rattle.round.proofs.Positions.{clauses_count, filings_count, good_sound, sheet_of, stocked_at, kept_same, position_same, ranks_banned, newly_counted, Grown, grown_sheet, grown_standing, grown_kept, Shrunk, shrunk_sheet, shrunk_filings, shrunk_kept}

-- the sheet with the standing filings
now_is : (st : State) → Good st → standing_sheet (opened_sheet st) (state_standing st) ≡ state_sheet st
now_is st g = position_sheet st g.kept

-- the number that one more filing would have
next_number : (st : State) → Good st → (f : Filing) → length (next_sheet (opened_sheet st) (state_standing st) f).clauses ≡ vec_len st.tables.outcomes + 1
next_number st g f =
    ap (λ (s : Sheet). length s.clauses) (pushed (opened_sheet st) (state_standing st).filings f)
    ∙ length_push (standing_sheet (opened_sheet st) (state_standing st)).clauses (clause_of f)
    ∙ ap (λ (n : ℕ). n + 1) (ap (λ (s : Sheet). length s.clauses) (now_is st g) ∙ clauses_count st)

-- a condition's rank as it was read says whether the condition is in force
module _ (st : State) (g : Good st) (p x : ℕ) (low : 1 ≤ p) (high : p ≤ st.tables.conditions) (e : x ≡ at st.rank.value p) where
  ranked_is : ranked (st.rank.value) p ≡ in_force (standing_sheet (opened_sheet st) (state_standing st)) p
  ranked_is = in_force_ranked (state_sheet st) (st.rank.value) g.ranked p low ∙ sym (ap (λ (s : Sheet). in_force s p) (now_is st g))

  in_force_read : 0 < x → in_force (standing_sheet (opened_sheet st) (state_standing st)) p ≡ true
  in_force_read h = sym ranked_is ∙ lt-ltb 0 (at (st.rank.value) p) (omega (arith, e))

  no_rank_read : x ≤ 0 → in_force (standing_sheet (opened_sheet st) (state_standing st)) p ≡ false
  no_rank_read h = sym ranked_is ∙ le-ltb 0 (at (st.rank.value) p) (omega (arith, e))

not_outside : (st : State) (p : ℕ) → Condition (opened_sheet st) p → Outside (opened_sheet st) p → ⊥
not_outside st p h = ⊎_elim (λ x. omega arith) (λ x. omega arith)

-- a filing more than may stand
pub turned_back : (st : State) (p : ℕ) → Condition (opened_sheet st) p → 256 ≤ vec_len st.tables.outcomes - st.opened → TurnsBack st p (refusal FilingsFull)
turned_back st p h l (of_fact q) e = record { answers = inr (not_outside st q (omega (arith, h.0), omega (arith, h.1)), inl (omega (arith, filings_count st), refl)); sheet = refl; stands = refl }
turned_back st p h l (of_ban q) e = record { answers = inr (not_outside st q (omega (arith, h.0), omega (arith, h.1)), inl (omega (arith, filings_count st), refl)); sheet = refl; stands = refl }

-- a condition as an outcome
kept_some : (p : ℕ) → 1 ≤ p → kept_outcome p ≡ Some p
kept_some zero h = absurd (omega arith)
kept_some (suc p) h = refl

of_clause : (f : Filing) → filing_of (clause_of f) ≡ f
of_clause (of_fact p) = refl
of_clause (of_ban p) = refl

-- one filing more
module _ (st st' : State) (f : Filing) (g : Good st) (condition : Condition (opened_sheet st) (condition_of f)) (grown : Grown st st' (clause_of f)) where
  pub filed_kept : Kept st'
  filed_kept = grown_kept st st' (clause_of f) grown g.kept g.stocked.filled

  pub filed_sheet : opened_sheet st' ≡ opened_sheet st
  filed_sheet = grown_sheet st st' (clause_of f) grown g.kept

  pub filed_standing : state_standing st' ≡ filed (state_standing st) f
  filed_standing = grown_standing st st' (clause_of f) grown g.kept ∙ ap (filed (state_standing st)) (of_clause f)

  -- the tables hold the sheet with that filing
  pub next_is : state_sheet st' ≡ next_sheet (opened_sheet st) (state_standing st) f
  next_is = sheet_of st' (opened_sheet st) (filed (state_standing st) f) filed_kept filed_sheet filed_standing

  pub next_lawful : Lawful (next_sheet (opened_sheet st) (state_standing st) f)
  next_lawful = lawful_push (opened_sheet st) (state_standing st).filings f condition (good_sound st g).lawful

  pub filed_stocked : Usable st' → Filled (held_rows st'.tables) → Stocked st'
  filed_stocked u h = stocked_at st' u h (omega (arith, grown.conditions, g.stocked.few_conditions)) filed_kept (subst Lawful (sym next_is) next_lawful)

-- a state with other tables
abbrev pub with_tables : State → Tables → State
with_tables st t = record st { tables = t }

pub usable_with : (st : State) (t : Tables) → Usable st → Usable (with_tables st t)
usable_with st t u = record { mark_room = u.mark_room }

-- a ban of a condition whose rank was read
module _ (st : State) (p n : ℕ) (g : Good st) (m : MayFile st p n) (x : ℕ) (e : x ≡ at st.rank.value p) where
  -- where the condition is in force the ban names itself
  pub ban_refused : 0 < x → Step (state_position st) (ban p) (refusal (Contradiction n)) (state_position st)
  ban_refused r = record {
    answers = inr (not_outside st p m.condition, inr (λ l. omega (arith, filings_count st, m.room), inl (in_force_read st g p x m.condition.0 m.condition.1 e r, ap (λ (k : ℕ). refusal (Contradiction k)) (m.number ∙ sym (next_number st g (of_ban p))))));
    sheet = refl;
    stands = refl;
  }

  -- else it is written as one place and no outcome
  module _ (none : x ≤ 0) (t t' : Tables) (placed : Placed st.tables t p) (ended : Ended t t' 0) where
    ban_grown : Grown st (with_tables st t') (clause_of (of_ban p))
    ban_grown = record {
      opened = refl;
      marks = refl;
      conditions = ended.conditions ∙ ap (λ (s : Sheet). s.top) placed.sheet;
      clauses = ended.clauses ∙ ap₂ (λ (cs : List Clause) (b : List ℕ). cs ++ record { body = b; outcome = (clause_of (of_ban p)).outcome } ∷ []) (ap (λ (s : Sheet). s.clauses) placed.sheet)
          (placed.body ∙ ap (λ (b : List ℕ). b ++ p ∷ []) (filled_unfinished (held_rows st.tables) g.stocked.filled));
      starts = ended.starts ∙ ap₂ (λ (ss : List ℕ) (k : ℕ). ss ++ k ∷ []) placed.starts (sym ended.places_count);
      count = ended.clauses_count ∙ ap (λ (k : ℕ). k + 1) placed.clauses_count;
      places = omega (arith, ended.places_count, placed.places_count);
      filing = refl;
      room = omega (arith, m.room);
    }

    ban_sheet : state_sheet (with_tables st t') ≡ added (state_sheet st) (clause_of (of_ban p) ∷ [])
    ban_sheet = ap₂ {C = Sheet} (λ (k : ℕ) (cs : List Clause). record { top = k; clauses = cs }) ban_grown.conditions ban_grown.clauses

    not_in_force : in_force (standing_sheet (opened_sheet st) (state_standing st)) p ≡ false
    not_in_force = no_rank_read st g p x m.condition.0 m.condition.1 e none

    pub ban_good : Good (with_tables st t')
    ban_good = record {
      stocked = filed_stocked st (with_tables st t') (of_ban p) g m.condition ban_grown (usable_with st t' g.stocked.usable) (writing_filled (held_rows t') t'.rows ended.body);
      kept = filed_kept st (with_tables st t') (of_ban p) g m.condition ban_grown;
      ranked = subst (λ (s : Sheet). Ranks s (st.rank.value)) (sym ban_sheet) (ranks_banned (state_sheet st) (clause_of (of_ban p)) (st.rank.value) refl g.ranked);
      unbroken = ap satisfiable (next_is st (with_tables st t') (of_ban p) g m.condition ban_grown)
          ∙ sound_ban (opened_sheet st) (state_standing st).filings p m.condition (good_sound st g) not_in_force;
    }

    pub ban_step : Step (state_position st) (ban p) (ok (n ∷ []) []) (state_position (with_tables st t'))
    ban_step = record {
      answers = inr (not_outside st p m.condition, inr (λ l. omega (arith, filings_count st, m.room), inr (both_ways _ not_in_force, ap (λ (k : ℕ). ok (k ∷ []) []) (m.number ∙ sym (next_number st g (of_ban p))))));
      sheet = filed_sheet st (with_tables st t') (of_ban p) g m.condition ban_grown;
      stands = filed_standing st (with_tables st t') (of_ban p) g m.condition ban_grown;
    }

-- a fact, written as no place and this outcome
module _ (st : State) (p n : ℕ) (g : Good st) (m : MayFile st p n) (t : Tables) (ended : Ended st.tables t p) where
  fact_grown : Grown st (with_tables st t) (clause_of (of_fact p))
  fact_grown = record {
    opened = refl;
    marks = refl;
    conditions = ended.conditions;
    clauses = ended.clauses ∙ ap₂ (λ (b : List ℕ) (o : Option ℕ). (state_sheet st).clauses ++ record { body = b; outcome = o } ∷ []) (filled_unfinished (held_rows st.tables) g.stocked.filled) (kept_some p m.condition.0);
    starts = ended.starts ∙ ap (λ (k : ℕ). vec_items st.tables.starts ++ k ∷ []) (sym ended.places_count);
    count = ended.clauses_count;
    places = omega (arith, ended.places_count);
    filing = refl;
    room = omega (arith, m.room);
  }

  pub fact_stocked : Stocked (with_tables st t)
  fact_stocked = filed_stocked st (with_tables st t) (of_fact p) g m.condition fact_grown (usable_with st t g.stocked.usable) (writing_filled (held_rows t) t.rows ended.body)

  fact_next : state_sheet (with_tables st t) ≡ next_sheet (opened_sheet st) (state_standing st) (of_fact p)
  fact_next = next_is st (with_tables st t) (of_fact p) g m.condition fact_grown

  -- the conditions were ranked anew
  module _ (st' : State) (d : ℕ) (anew : RankedAnew (with_tables st t) st' d) where
    sheet_anew : state_sheet st' ≡ next_sheet (opened_sheet st) (state_standing st) (of_fact p)
    sheet_anew = ap held_sheet anew.unmoved.tables ∙ fact_next

    position_anew : state_position st' ≡ state_position (with_tables st t)
    position_anew = position_same (with_tables st t) st' anew.unmoved.tables anew.unmoved.opened anew.unmoved.marks

    pub fact_good : Good st'
    fact_good = record {
      stocked = anew.unmoved.stocked;
      kept = kept_same (with_tables st t) st' anew.unmoved.tables anew.unmoved.opened anew.unmoved.marks (filed_kept st (with_tables st t) (of_fact p) g m.condition fact_grown);
      ranked = anew.ranked;
      unbroken = anew.unbroken;
    }

    discharged : d ≡ newly_discharged (standing_sheet (opened_sheet st) (state_standing st)) (next_sheet (opened_sheet st) (state_standing st) (of_fact p))
    discharged = anew.discharged
        ∙ ap (λ (s : Sheet). places (λ q. in_force s q && not (ranked (st.rank.value) q)) s.clauses) sheet_anew
        ∙ newly_counted (standing_sheet (opened_sheet st) (state_standing st)) (next_sheet (opened_sheet st) (state_standing st) (of_fact p)) (st.rank.value)
        (next_lawful st (with_tables st t) (of_fact p) g m.condition fact_grown) (subst (λ (s : Sheet). Ranks s (st.rank.value)) (sym (now_is st g)) g.ranked)

    pub fact_step : Step (state_position st) (fact p) (ok (n ∷ (d ∷ [])) []) (state_position st')
    fact_step = record {
      answers = inr (
        not_outside st p m.condition,
        inr (
          λ l. omega (arith, filings_count st, m.room),
          inr (
            λ e. both_ways _ e (sym (ap satisfiable sheet_anew) ∙ anew.unbroken),
            ap₂ (λ (a b : ℕ). ok (a ∷ (b ∷ [])) []) (m.number ∙ sym (next_number st g (of_fact p))) discharged,
          ),
        ),
      );
      sheet = ap (λ (x : Position). x.sheet) position_anew ∙ filed_sheet st (with_tables st t) (of_fact p) g m.condition fact_grown;
      stands = ap (λ (x : Position). x.standing) position_anew ∙ filed_standing st (with_tables st t) (of_fact p) g m.condition fact_grown;
    }

  -- a ban was broken, and the fact is taken back
  module _ (st' : State) (b : ℕ) (broken : BrokenBy (with_tables st t) st' b) (t' : Tables) (cut : Cut st'.tables t' (n - 1)) where
    whole : st'.opened + length (state_standing st).filings ≡ n - 1
    whole = omega (arith, broken.unmoved.opened, m.number, filings_count st, g.kept.opened_clauses)

    cut_whole : Cut st'.tables t' (st'.opened + length (state_standing st).filings)
    cut_whole = subst (Cut st'.tables t') (sym whole) cut

    mark_len : vec_len st'.marks ≡ vec_len st.marks
    mark_len = λ i. vec_len (broken.unmoved.marks i)

    at_mark : (j : ℕ) → at (vec_items st'.marks) j ≡ at (vec_items st.marks) j
    at_mark j = λ i. at (vec_items (broken.unmoved.marks i)) j

    shrunk : Shrunk st' (with_tables st' t') (length (state_standing st).filings)
    shrunk = record {
      opened = refl;
      conditions = cut_whole.conditions;
      clauses = cut_whole.clauses;
      starts = cut_whole.starts;
      count = cut_whole.clauses_count;
      enough = omega (arith, whole, m.number, ap (λ (x : Tables). vec_len x.outcomes) broken.unmoved.tables, ended.clauses_count);
      few_marks = omega (arith, mark_len, g.kept.few_marks);
      marks_rise = λ i j l h. omega (arith, at_mark i, at_mark j, g.kept.marks_rise i j l (omega (arith, mark_len)));
      marks_stand = λ i h. omega (arith, at_mark i, filings_count st, g.kept.marks_stand i (omega (arith, mark_len)));
    }

    position_broken : state_position st' ≡ state_position (with_tables st t)
    position_broken = position_same (with_tables st t) st' broken.unmoved.tables broken.unmoved.opened broken.unmoved.marks

    back_kept : Kept (with_tables st' t')
    back_kept = shrunk_kept st' (with_tables st' t') (length (state_standing st).filings) shrunk
        (kept_same (with_tables st t) st' broken.unmoved.tables broken.unmoved.opened broken.unmoved.marks (filed_kept st (with_tables st t) (of_fact p) g m.condition fact_grown))

    back_sheet : opened_sheet (with_tables st' t') ≡ opened_sheet st
    back_sheet = shrunk_sheet st' (with_tables st' t') (length (state_standing st).filings) shrunk ∙ ap (λ (x : Position). x.sheet) position_broken ∙ filed_sheet st (with_tables st t) (of_fact p) g m.condition fact_grown

    back_standing : state_standing (with_tables st' t') ≡ state_standing st
    back_standing = ap₂ {C = Standing} (λ (fs : List Filing) (ms : List ℕ). record { filings = fs; marks = ms })
        (shrunk_filings st' (with_tables st' t') (length (state_standing st).filings) shrunk
        ∙ ap (λ (x : Standing). take (length (state_standing st).filings) x.filings) (ap (λ (x : Position). x.standing) position_broken ∙ filed_standing st (with_tables st t) (of_fact p) g m.condition fact_grown)
        ∙ take_at (state_standing st).filings (of_fact p ∷ []) (length (state_standing st).filings) refl)
        (λ i. vec_items (broken.unmoved.marks i))

    back_is : state_sheet (with_tables st' t') ≡ state_sheet st
    back_is = sheet_of (with_tables st' t') (opened_sheet st) (state_standing st) back_kept back_sheet back_standing ∙ now_is st g

    pub fact_taken_back : Good (with_tables st' t')
    fact_taken_back = record {
      stocked = stocked_at (with_tables st' t') (usable_with st' t' broken.unmoved.stocked.usable) cut.filled (omega (arith, ap (λ (s : Sheet). s.top) back_is, g.stocked.few_conditions)) back_kept (subst Lawful (sym back_is) (stocked_lawful st g.stocked));
      kept = back_kept;
      ranked = subst₂ Ranks (sym back_is) (λ i. (sym broken.ranks i).value) g.ranked;
      unbroken = ap satisfiable back_is ∙ g.unbroken;
    }

    pub fact_refused : Step (state_position st) (fact p) (refusal (Contradiction b)) (state_position (with_tables st' t'))
    fact_refused =
        let next : state_sheet st' ≡ next_sheet (opened_sheet st) (state_standing st) (of_fact p) = ap held_sheet broken.unmoved.tables ∙ fact_next in
        record {
          answers = inr (not_outside st p m.condition, inr (λ l. omega (arith, filings_count st, m.room), inl (sym (ap satisfiable next) ∙ broken.broken, ap (λ (k : ℕ). refusal (Contradiction k)) (broken.lowest ∙ ap lowest_broken next))));
          sheet = back_sheet;
          stands = back_standing;
        }
