-- A withdrawal: the filings made since a mark go, and so do that mark and all later ones.
use Rattle.std.proofs.Common.{◌≡◌, ℕ, ◌+◌, ◌-◌, ◌<◌, ◌≤◌, true, List, [], ◌∷◌, length, get_or, take, vec_items, vec_len, sym, ap, ◌∙◌, subst, ap₂, subst₂, inr, ⊎_elim, arith, length-take}
use Rattle.std.proofs.lemmas.List.{get_or-take, get_or_read_under}
use Rattle.horn.specs.Sheets.{Lawful}
use Rattle.horn.specs.Lawfulness.{satisfiable}
use Rattle.round.specs.Answers.{ok}
use Rattle.round.specs.Calls.{Filing, Standing, withdraw}
use Rattle.round.specs.Runs.{Step}
use Rattle.round.specs.Rows.{at}
use Rattle.round.specs.Held.{Cut}
use Rattle.round.specs.Good.{Usable, Stocked, Kept, Good, state_sheet, opened_sheet, state_standing, state_position}
use Rattle.round.specs.Sound.{position_sheet}
use Rattle.round.specs.declared.state.State.{State}
use Rattle.round.proofs.Filings.{Sound, sound_take}
use Rattle.round.proofs.Positions.{filings_count, good_sound, stocked_at, Shrunk, shrunk_sheet, shrunk_filings, shrunk_kept}

-- a mark that stands, as it was read
pub record Stood (st : State) (m n : ℕ) : Type 0 where
  pub low : 1 ≤ m
  pub high : m ≤ vec_len st.marks
  pub read : n ≡ at (vec_items st.marks) (m - 1)

pub stood : (st : State) (m n : ℕ) → (m ≡ 0 → ⊥) → m ≤ vec_len st.marks → n ≡ get_or (vec_items st.marks) (m - 1) n → Stood st m n
stood st m n some high e =
    let low : 1 ≤ m = omega arith in
    record { low = low; high = high; read = get_or_read_under (vec_items st.marks) (m - 1) (vec_len st.marks) n 0 e (omega arith) st.marks.ok.0 }

module _ (st st' : State) (m n : ℕ) (g : Good st) (s : Stood st m n)
    (opened : st'.opened ≡ st.opened) (cut : Cut st.tables st'.tables (st.opened + n)) (marks : vec_items st'.marks ≡ take (m - 1) (vec_items st.marks)) where
  len : vec_len st'.marks ≤ m - 1
  len = omega (arith, st'.marks.ok.0, ap length marks, length-take (m - 1) (vec_items st.marks))

  at_mark : (i : ℕ) → i < vec_len st'.marks → at (vec_items st'.marks) i ≡ at (vec_items st.marks) i
  at_mark i h = ap (λ (xs : List ℕ). at xs i) marks ∙ get_or-take (m - 1) (vec_items st.marks) i 0 (omega (arith, len))

  shrunk : Shrunk st st' n
  shrunk = record {
    opened = opened;
    conditions = cut.conditions;
    clauses = cut.clauses;
    starts = cut.starts;
    count = cut.clauses_count;
    enough = omega (arith, s.read, g.kept.marks_stand (m - 1) (omega (arith, s.low, s.high)));
    few_marks = omega (arith, len, g.kept.few_marks);
    marks_rise = λ i j l h. omega (arith, at_mark i (omega arith), at_mark j h, g.kept.marks_rise i j l (omega (arith, len)));
    marks_stand = λ i h. omega (arith, at_mark i h, s.read, g.kept.marks_rise i (m - 1) (omega (arith, len)) (omega (arith, s.low, s.high)));
  }

  pub withdrawn_kept : Kept st'
  withdrawn_kept = shrunk_kept st st' n shrunk g.kept

  sound : Sound (opened_sheet st') (state_standing st').filings
  sound = subst₂ Sound (sym (shrunk_sheet st st' n shrunk)) (sym (shrunk_filings st st' n shrunk)) (sound_take (opened_sheet st) (state_standing st).filings n (good_sound st g))

  -- some choice still satisfies the sheet
  pub withdrawn_satisfiable : satisfiable (state_sheet st') ≡ true
  withdrawn_satisfiable = sym (ap satisfiable (position_sheet st' withdrawn_kept)) ∙ sound.satisfied

  pub withdrawn_stocked : Usable st' → Stocked st'
  withdrawn_stocked u = stocked_at st' u cut.filled (omega (arith, cut.conditions, g.stocked.few_conditions)) withdrawn_kept
      (subst Lawful (position_sheet st' withdrawn_kept) sound.lawful)

  pub withdraw_step : (k : ℕ) → k ≡ vec_len st.tables.outcomes - (st.opened + n) → Step (state_position st) (withdraw m) (ok (k ∷ []) []) (state_position st')
  withdraw_step k e =
      let gone : k ≡ length (state_standing st).filings - at (vec_items st.marks) (m - 1) = omega (arith, e, s.read, filings_count st) in
      record {
        answers = inr (⊎_elim (λ h. omega (arith, s.low)) (λ h. omega (arith, s.high, st.marks.ok.0)), ap (λ (x : ℕ). ok (x ∷ []) []) gone);
        sheet = shrunk_sheet st st' n shrunk;
        stands = ap₂ {C = Standing} (λ (fs : List Filing) (ms : List ℕ). record { filings = fs; marks = ms })
            (shrunk_filings st st' n shrunk ∙ ap (λ (x : ℕ). take x (state_standing st).filings) s.read) marks;
      }
