-- The sheet that a state was opened on and what stands, after a filing is added or filings are taken away.
use Rattle.std.proofs.Common.{◌≡◌, ℕ, suc, ◌+◌, ◌-◌, ◌<◌, ◌≤◌, Bool, true, cond, not, ◌&&◌, List, [], ◌∷◌, ◌++◌, map, length, take, drop, None, vec_items, vec_len, sym, ap, ◌∙◌, subst, ap₂, subst₂, arith, length-drop}
use mathlib.Core.Path.{fun_ext}
use native.Mathlib.Decide.{dec_le}
use lib.ListN.{length-map}
use Rattle.std.proofs.lemmas.List.{take-append-le, drop-append-le, take-take, drop-take, take-map, map_push, get_or_append_left, get_or_push, get_or-take, length_push}
use Rattle.std.proofs.ByRecursion.{All-push, All-take}
use Rattle.horn.specs.Sheets.{Sheet, Clause, Lawful, all_of}
use Rattle.horn.specs.Levels.{in_force, least}
use Rattle.horn.specs.Bans.{places}
use Rattle.horn.specs.Claims.{added}
use Rattle.horn.specs.Lawfulness.{satisfiable}
use Rattle.horn.proofs.Tests.{all_true, all_from}
use Rattle.horn.proofs.Growing.{bans_add_nothing}
use Rattle.horn.proofs.Lawfulness.{lawful_tested}
use Rattle.round.specs.Calls.{Filing, Standing, filed}
use Rattle.round.specs.Runs.{standing_sheet, newly_discharged}
use Rattle.round.specs.Rows.{at, Filled}
use Rattle.round.specs.Ranks.{Ranks, ranked}
use Rattle.round.specs.Held.{held_rows, held_sheet}
use Rattle.round.specs.Good.{Usable, Stocked, Kept, Good, state_sheet, opened_sheet, state_standing, state_position, is_filing, filing_of}
use Rattle.round.specs.Sound.{position_sheet}
use Rattle.round.specs.declared.tables.Tables.{Tables}
use Rattle.round.specs.declared.state.State.{State}
use Rattle.round.proofs.Bans.{places_agree}
use Rattle.round.proofs.Filings.{Sound}
use Rattle.round.proofs.Lookups.{length_clauses}
use Rattle.round.proofs.Meaning.{in_force_ranked}

pub clauses_count : (st : State) → length (state_sheet st).clauses ≡ vec_len st.tables.outcomes
clauses_count st = length_clauses (held_rows st.tables) ∙ sym st.tables.outcomes.ok.0

pub filings_count : (st : State) → length (state_standing st).filings ≡ vec_len st.tables.outcomes - st.opened
filings_count st =
    let cs : List Clause = (state_sheet st).clauses in
    length-map (drop st.opened cs) filing_of ∙ length-drop st.opened cs ∙ ap (λ (n : ℕ). n - st.opened) (clauses_count st)

-- The sheet with the standing filings is lawful, and some choice satisfies it.
pub good_sound : (st : State) → Good st → Sound (opened_sheet st) (state_standing st).filings
good_sound st g =
    let e : standing_sheet (opened_sheet st) (state_standing st) ≡ state_sheet st = position_sheet st g.kept in
    record {
      lawful = subst Lawful (sym e) ((lawful_tested (state_sheet st)).0 g.stocked.lawfully);
      satisfied = ap satisfiable e ∙ g.unbroken;
    }

-- the tables hold the sheet of a position
pub sheet_of : (st : State) (s : Sheet) (x : Standing) → Kept st → opened_sheet st ≡ s → state_standing st ≡ x → state_sheet st ≡ standing_sheet s x
sheet_of st s x k es ex = sym (position_sheet st k) ∙ ap₂ (λ (a : Sheet) (b : Standing). standing_sheet a b) es ex

-- There are at most 8,000 places and one for each filing.
pub room_places : (st : State) → Filled (held_rows st.tables) → Kept st → vec_len st.tables.places ≤ 8000 + (vec_len st.tables.outcomes - st.opened)
room_places st f k =
    let n : ℕ = vec_len st.tables.outcomes - st.opened in
    let e : st.opened + n ≡ length (vec_items st.tables.outcomes) = omega (arith, k.opened_clauses, st.tables.outcomes.ok.0) in
    let v : at (vec_items st.tables.starts) (st.opened + n) ≡ length (vec_items st.tables.places) = ap (at (vec_items st.tables.starts)) e ∙ f.ends in
    omega (arith, v, k.starts n (omega (arith, k.opened_clauses)), st.tables.places.ok.0)

-- What is filled and lawful, with few opened clauses and filings, is within the limits.
pub stocked_at : (st : State) → Usable st → Filled (held_rows st.tables) → st.tables.conditions ≤ 1000 → Kept st → Lawful (state_sheet st) → Stocked st
stocked_at st u f h k w = record {
  usable = u;
  filled = f;
  few_conditions = h;
  lawfully = (lawful_tested (state_sheet st)).1 w;
}

-- a state whose clauses are as they were
module _ (st st' : State) (tables : st'.tables ≡ st.tables) (opened : st'.opened ≡ st.opened) where
  pub kept_marks : Kept st → vec_len st'.marks ≤ 32
      → ((i j : ℕ) → i ≤ j → j < vec_len st'.marks → at (vec_items st'.marks) i ≤ at (vec_items st'.marks) j)
      → ((i : ℕ) → i < vec_len st'.marks → st.opened + at (vec_items st'.marks) i ≤ vec_len st.tables.outcomes)
      → Kept st'
  kept_marks k few rise stand =
      let n : vec_len st'.tables.outcomes ≡ vec_len st.tables.outcomes = ap (λ (t : Tables). vec_len t.outcomes) tables in
      record {
        few_opened = omega (arith, opened, k.few_opened);
        opened_clauses = omega (arith, opened, n, k.opened_clauses);
        few_filings = omega (arith, opened, n, k.few_filings);
        filings = subst₂ (λ (t : Tables) (o : ℕ). all_of is_filing (drop o (held_sheet t).clauses) ≡ true) (sym tables) (sym opened) k.filings;
        starts = subst₂ (λ (t : Tables) (o : ℕ). (j : ℕ) → o + j ≤ vec_len t.outcomes → at (vec_items t.starts) (o + j) ≤ 8000 + j) (sym tables) (sym opened) k.starts;
        few_marks = few;
        marks_rise = rise;
        marks_stand = λ i h. omega (arith, opened, n, stand i h);
      }

  pub position_same : st'.marks ≡ st.marks → state_position st' ≡ state_position st
  position_same marks = λ i. record {
    sheet = record { top = (tables i).conditions; clauses = take (opened i) (held_sheet (tables i)).clauses };
    standing = record { filings = map filing_of (drop (opened i) (held_sheet (tables i)).clauses); marks = vec_items (marks i) };
  }

  pub kept_same : st'.marks ≡ st.marks → Kept st → Kept st'
  kept_same marks k =
      let m : vec_len st'.marks ≡ vec_len st.marks = λ i. vec_len (marks i) in
      let at_mark : (j : ℕ) → at (vec_items st'.marks) j ≡ at (vec_items st.marks) j = λ j i. at (vec_items (marks i)) j in
      kept_marks k (omega (arith, m, k.few_marks))
      (λ i j l h. omega (arith, at_mark i, at_mark j, k.marks_rise i j l (omega arith)))
      (λ i h. omega (arith, at_mark i, k.marks_stand i (omega arith)))

-- numbers that rise, and one more that is no less than any
rising_push : (xs : List ℕ) (n : ℕ) → ((i j : ℕ) → i ≤ j → j < length xs → at xs i ≤ at xs j) → ((i : ℕ) → i < length xs → at xs i ≤ n)
    → (i j : ℕ) → i ≤ j → j < length xs + 1 → at (xs ++ n ∷ []) i ≤ at (xs ++ n ∷ []) j
rising_push xs n rise low i j l h = by (dec_le (length xs) i) (dec_le (length xs) j)
  where
    by : Dec (length xs ≤ i) → Dec (length xs ≤ j) → at (xs ++ n ∷ []) i ≤ at (xs ++ n ∷ []) j
    by (yes a) (yes b) = let e : i ≡ j = omega arith in omega (arith, ap (at (xs ++ n ∷ [])) e)
    by (yes a) (no b) = absurd (omega arith)
    by (no a) (yes b) =
        let e : length xs ≡ j = omega arith in
        omega (arith, get_or_push xs n 0 j e, get_or_append_left xs (n ∷ []) 0 i (omega arith), low i (omega arith))
    by (no a) (no b) = omega (arith, get_or_append_left xs (n ∷ []) 0 i (omega arith), get_or_append_left xs (n ∷ []) 0 j (omega arith), rise i j l (omega arith))

below_push : (xs : List ℕ) (n m : ℕ) → ((i : ℕ) → i < length xs → at xs i ≤ m) → n ≤ m → (i : ℕ) → i < length xs + 1 → at (xs ++ n ∷ []) i ≤ m
below_push xs n m low last i h = by (dec_le (length xs) i)
  where
    by : Dec (length xs ≤ i) → at (xs ++ n ∷ []) i ≤ m
    by (yes a) = let e : length xs ≡ i = omega arith in omega (arith, get_or_push xs n 0 i e)
    by (no a) = omega (arith, get_or_append_left xs (n ∷ []) 0 i (omega arith), low i (omega arith))

-- one mark more
pub kept_marked : (st st' : State) → st'.tables ≡ st.tables → st'.opened ≡ st.opened
    → vec_items st'.marks ≡ vec_items st.marks ++ (vec_len st.tables.outcomes - st.opened) ∷ []
    → vec_len st.marks < 32 → Kept st → Kept st'
kept_marked st st' tables opened items room k =
    let xs : List ℕ = vec_items st.marks in
    let n : ℕ = vec_len st.tables.outcomes - st.opened in
    let e : vec_len st'.marks ≡ length xs + 1 = st'.marks.ok.0 ∙ ap length items ∙ length_push xs n in
    let at_mark : (j : ℕ) → at (vec_items st'.marks) j ≡ at (xs ++ n ∷ []) j = λ j i. at (items i) j in
    let low : (i : ℕ) → i < length xs → at xs i ≤ n = λ i h. omega (arith, k.marks_stand i (omega (arith, st.marks.ok.0))) in
    let rise : (i j : ℕ) → i ≤ j → j < length xs → at xs i ≤ at xs j = λ i j l h. k.marks_rise i j l (omega (arith, st.marks.ok.0)) in
    kept_marks st st' tables opened k (omega (arith, e, st.marks.ok.0))
    (λ i j l h. omega (arith, at_mark i, at_mark j, rising_push xs n rise low i j l (omega arith)))
    (λ i h. omega (arith, at_mark i, below_push xs n n low (omega arith) i (omega arith), k.opened_clauses))

-- One clause more, a filing.
pub record Grown (st st' : State) (c : Clause) : Type 0 where
  pub opened : st'.opened ≡ st.opened
  pub marks : st'.marks ≡ st.marks
  pub conditions : st'.tables.conditions ≡ st.tables.conditions
  pub clauses : (state_sheet st').clauses ≡ (state_sheet st).clauses ++ c ∷ []
  pub starts : vec_items st'.tables.starts ≡ vec_items st.tables.starts ++ vec_len st'.tables.places ∷ []
  pub count : vec_len st'.tables.outcomes ≡ vec_len st.tables.outcomes + 1
  pub places : vec_len st'.tables.places ≤ vec_len st.tables.places + 1
  pub filing : is_filing c ≡ true
  pub room : vec_len st.tables.outcomes < st.opened + 256

module _ (st st' : State) (c : Clause) (g : Grown st st' c) (k : Kept st) where
  within : st.opened ≤ length (state_sheet st).clauses
  within = omega (arith, clauses_count st, k.opened_clauses)

  rest : drop st'.opened (state_sheet st').clauses ≡ drop st.opened (state_sheet st).clauses ++ c ∷ []
  rest = ap₂ (λ (n : ℕ) (xs : List Clause). drop n xs) g.opened g.clauses ∙ drop-append-le st.opened (state_sheet st).clauses (c ∷ []) within

  pub grown_sheet : opened_sheet st' ≡ opened_sheet st
  grown_sheet = ap₂ {C = Sheet} (λ (n : ℕ) (xs : List Clause). record { top = n; clauses = xs }) g.conditions
      (ap₂ (λ (n : ℕ) (xs : List Clause). take n xs) g.opened g.clauses ∙ take-append-le st.opened (state_sheet st).clauses (c ∷ []) within)

  pub grown_standing : state_standing st' ≡ filed (state_standing st) (filing_of c)
  grown_standing = ap₂ {C = Standing} (λ (fs : List Filing) (ms : List ℕ). record { filings = fs; marks = ms })
      (ap (map filing_of) rest ∙ map_push filing_of (drop st.opened (state_sheet st).clauses) c)
      (λ i. vec_items (g.marks i))

  pub grown_kept : Filled (held_rows st.tables) → Kept st'
  grown_kept f = record {
    few_opened = omega (arith, g.opened, k.few_opened);
    opened_clauses = omega (arith, g.opened, g.count, k.opened_clauses);
    few_filings = omega (arith, g.opened, g.count, g.room);
    filings = ap (all_of is_filing) rest ∙ all_from is_filing (drop st.opened (state_sheet st).clauses ++ c ∷ [])
        (All-push (λ x. is_filing x ≡ true) (drop st.opened (state_sheet st).clauses) c (all_true is_filing (drop st.opened (state_sheet st).clauses) k.filings) g.filing);
    starts = λ j h. start j (omega (arith, g.opened, g.count)) (ap₂ (λ (xs : List ℕ) (n : ℕ). at xs (n + j)) g.starts g.opened);
    few_marks = omega (arith, len, k.few_marks);
    marks_rise = λ i j l h. omega (arith, at_mark i, at_mark j, k.marks_rise i j l (omega (arith, len)));
    marks_stand = λ i h. omega (arith, at_mark i, g.opened, g.count, k.marks_stand i (omega (arith, len)));
  }
    where
      len : vec_len st'.marks ≡ vec_len st.marks
      len = λ i. vec_len (g.marks i)

      at_mark : (j : ℕ) → at (vec_items st'.marks) j ≡ at (vec_items st.marks) j
      at_mark j = λ i. at (vec_items (g.marks i)) j

      ss : length (vec_items st.tables.starts) ≡ vec_len st.tables.outcomes + 1
      ss = omega (arith, f.counted, st.tables.outcomes.ok.0)

      start : (j : ℕ) → st.opened + j ≤ vec_len st.tables.outcomes + 1
          → at (vec_items st'.tables.starts) (st'.opened + j) ≡ at (vec_items st.tables.starts ++ vec_len st'.tables.places ∷ []) (st.opened + j)
          → at (vec_items st'.tables.starts) (st'.opened + j) ≤ 8000 + j
      start j h e = by (dec_le (st.opened + j) (vec_len st.tables.outcomes))
        where
          by : Dec (st.opened + j ≤ vec_len st.tables.outcomes) → at (vec_items st'.tables.starts) (st'.opened + j) ≤ 8000 + j
          by (yes l) = omega (arith, e, k.starts j l, get_or_append_left (vec_items st.tables.starts) (vec_len st'.tables.places ∷ []) 0 (st.opened + j) (omega (arith, ss)))
          by (no l) =
              let z : length (vec_items st.tables.starts) ≡ st.opened + j = omega (arith, ss) in
              omega (arith, e, get_or_push (vec_items st.tables.starts) (vec_len st'.tables.places) 0 (st.opened + j) z, g.places, room_places st f k, k.opened_clauses)

-- The first n filings are left.
pub record Shrunk (st st' : State) (n : ℕ) : Type 0 where
  pub opened : st'.opened ≡ st.opened
  pub conditions : st'.tables.conditions ≡ st.tables.conditions
  pub clauses : (state_sheet st').clauses ≡ take (st.opened + n) (state_sheet st).clauses
  pub starts : vec_items st'.tables.starts ≡ take (st.opened + n + 1) (vec_items st.tables.starts)
  pub count : vec_len st'.tables.outcomes ≡ st.opened + n
  pub enough : st.opened + n ≤ vec_len st.tables.outcomes
  pub few_marks : vec_len st'.marks ≤ 32
  pub marks_rise : (i j : ℕ) → i ≤ j → j < vec_len st'.marks → at (vec_items st'.marks) i ≤ at (vec_items st'.marks) j
  pub marks_stand : (i : ℕ) → i < vec_len st'.marks → at (vec_items st'.marks) i ≤ n

module _ (st st' : State) (n : ℕ) (g : Shrunk st st' n) where
  left : drop st'.opened (state_sheet st').clauses ≡ take n (drop st.opened (state_sheet st).clauses)
  left = ap₂ (λ (m : ℕ) (xs : List Clause). drop m xs) g.opened g.clauses ∙ drop-take st.opened n (state_sheet st).clauses

  pub shrunk_sheet : opened_sheet st' ≡ opened_sheet st
  shrunk_sheet = ap₂ {C = Sheet} (λ (m : ℕ) (xs : List Clause). record { top = m; clauses = xs }) g.conditions
      (ap₂ (λ (m : ℕ) (xs : List Clause). take m xs) g.opened g.clauses ∙ take-take st.opened (st.opened + n) (state_sheet st).clauses (omega arith))

  pub shrunk_filings : (state_standing st').filings ≡ take n (state_standing st).filings
  shrunk_filings = ap (map filing_of) left ∙ sym (take-map filing_of n (drop st.opened (state_sheet st).clauses))

  pub shrunk_kept : Kept st → Kept st'
  shrunk_kept k = record {
    few_opened = omega (arith, g.opened, k.few_opened);
    opened_clauses = omega (arith, g.opened, g.count);
    few_filings = omega (arith, g.opened, g.count, g.enough, k.few_filings);
    filings = ap (all_of is_filing) left ∙ all_from is_filing (take n (drop st.opened (state_sheet st).clauses))
        (All-take (λ x. is_filing x ≡ true) n (drop st.opened (state_sheet st).clauses) (all_true is_filing (drop st.opened (state_sheet st).clauses) k.filings));
    starts = λ j h.
        let e : at (vec_items st'.tables.starts) (st'.opened + j) ≡ at (take (st.opened + n + 1) (vec_items st.tables.starts)) (st.opened + j) = ap₂ (λ (xs : List ℕ) (m : ℕ). at xs (m + j)) g.starts g.opened in
        let l : st.opened + j < st.opened + n + 1 = omega (arith, g.opened, g.count) in
        omega (arith, e, get_or-take (st.opened + n + 1) (vec_items st.tables.starts) (st.opened + j) 0 l, k.starts j (omega (arith, g.enough)));
    few_marks = g.few_marks;
    marks_rise = g.marks_rise;
    marks_stand = λ i h. omega (arith, g.opened, g.count, g.marks_stand i h);
  }

-- A ban puts nothing in force, so the ranks are the same.
pub ranks_banned : (s : Sheet) (c : Clause) (table : List ℕ) → c.outcome ≡ None → Ranks s table → Ranks (added s (c ∷ [])) table
ranks_banned s c table e r p h = r p h ∙ ap (λ (f : ℕ → Bool). cond (f s.top) (least f (suc s.top)) 0) (fun_ext (λ k. sym (bans_add_nothing s (c ∷ []) (e, tt) k p)))

-- counted by the old ranks, the places that are newly discharged
pub newly_counted : (now next : Sheet) (table : List ℕ) → Lawful next → Ranks now table → places (λ p. in_force next p && not (ranked table p)) next.clauses ≡ newly_discharged now next
newly_counted now next table w r = places_agree next (λ p. in_force next p && not (ranked table p)) (λ p. in_force next p && not (in_force now p))
    (λ p h. ap (λ (b : Bool). in_force next p && not b) (in_force_ranked now table r p h.0)) next.clauses w
