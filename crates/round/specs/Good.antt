-- What holds of every round.
use Rattle.std.specs.Prelude.{◌≡◌, ℕ, ◌+◌, ◌<◌, ◌≤◌, Bool, true, false, not, ◌&&◌, List, [], map, length, take, drop, Some, None, Ok, Err, vec_items, vec_len, vec_capacity, Option, Result, ◌==◌, slice_index}
use Rattle.std.proofs.Math.Bool.{Bool-set}
use mathlib.Core.HLevel.{Π_prop}
use Rattle.std.proofs.Math.Bridge.{le_prop}
use Rattle.horn.specs.Sheets.{Sheet, Clause, all_of, outcome_size}
use Rattle.horn.specs.Levels.{in_force}
use Rattle.horn.specs.Bans.{lowest_broken, places}
use Rattle.horn.specs.Lawfulness.{lawful, satisfiable}
use Rattle.round.specs.Calls.{Filing, of_fact, of_ban, Standing}
use Rattle.round.specs.Runs.{Position}
use Rattle.round.specs.Rows.{at, Filled}
use Rattle.round.specs.Ranks.{Ranks, ranks_prop, ranked as has_rank}
use Rattle.round.specs.Lent.{filled_prop}
use Rattle.round.specs.Held.{held_rows, held_sheet}
use Rattle.round.specs.declared.refusals.Refusal.{Refusal}
use Rattle.round.specs.declared.refusals.Refusal.TheVariants.{Contradiction}
use Rattle.round.specs.declared.state.State.{State}

-- the sheet of a state: the clauses that it was opened on, then the filings
abbrev pub state_sheet : State → Sheet
state_sheet st = held_sheet st.tables

-- A filing is a clause of one literal.
abbrev pub is_filing : Clause → Bool
is_filing c = length c.body + outcome_size c.outcome == 1

abbrev pub filing_with : List ℕ → Option ℕ → Filing
filing_with body None = of_ban (slice_index body 0)
filing_with body (Some p) = of_fact p

-- the filing of such a clause
abbrev pub filing_of : Clause → Filing
filing_of c = filing_with c.body c.outcome

-- the sheet that a state was opened on
abbrev pub opened_sheet : State → Sheet
opened_sheet st = record { top = st.tables.conditions; clauses = take st.opened (state_sheet st).clauses }

-- what stands
abbrev pub state_standing : State → Standing
state_standing st = record { filings = map filing_of (drop st.opened (state_sheet st).clauses); marks = vec_items st.marks }

abbrev pub state_position : State → Position
state_position st = record { sheet = opened_sheet st; standing = state_standing st }

-- All memory that a round can want is there, whatever it holds: its tables' by their type, and that of the marks.
pub record Usable (st : State) : Type 0 where
  pub mark_room : 32 ≤ vec_capacity st.marks

-- No condition has a rank, no mark stands, and no clause counts as opened.
pub record Bare (st : State) : Type 0 where
  pub usable : Usable st
  pub opened : st.opened ≡ 0
  pub marks : vec_items st.marks ≡ []
  pub unranked : (p : ℕ) → at st.rank.value p ≡ 0

-- The tables hold a lawful sheet; by their type it is within the limits.
pub record Stocked (st : State) : Type 0 where
  pub usable : Usable st
  pub filled : Filled (held_rows st.tables)
  pub few_conditions : st.tables.conditions ≤ 1000
  pub lawfully : lawful (state_sheet st) ≡ true

-- The clauses past those that were opened are filings, at most 256; there are at most 32 marks, and each has the number of filings that stood when it
-- was set, which is no less than for the mark before it and no more than stand now.
pub record Kept (st : State) : Type 0 where
  pub few_opened : st.opened ≤ 2000
  pub opened_clauses : st.opened ≤ vec_len st.tables.outcomes
  pub few_filings : vec_len st.tables.outcomes ≤ st.opened + 256
  pub filings : all_of is_filing (drop st.opened (state_sheet st).clauses) ≡ true
  pub starts : (k : ℕ) → st.opened + k ≤ vec_len st.tables.outcomes → at (vec_items st.tables.starts) (st.opened + k) ≤ 8000 + k
  pub few_marks : vec_len st.marks ≤ 32
  pub marks_rise : (i j : ℕ) → i ≤ j → j < vec_len st.marks → at (vec_items st.marks) i ≤ at (vec_items st.marks) j
  pub marks_stand : (i : ℕ) → i < vec_len st.marks → st.opened + at (vec_items st.marks) i ≤ vec_len st.tables.outcomes

-- What holds of every round: its sheet is lawful and within the limits, the table has the rank of each condition, and
-- some choice satisfies the sheet.
pub record Good (st : State) : Type 0 where
  pub stocked : Stocked st
  pub kept : Kept st
  pub ranked : Ranks (state_sheet st) (st.rank.value)
  pub unbroken : satisfiable (state_sheet st) ≡ true

-- The clauses and marks stay as they were; the ranks may change.
pub record Unmoved (st st' : State) : Type 0 where
  pub tables : st'.tables ≡ st.tables
  pub opened : st'.opened ≡ st.opened
  pub marks : st'.marks ≡ st.marks
  pub stocked : Stocked st'

-- The conditions have their ranks, and no ban is broken; n body places hold a condition that has a rank now and had none.
pub record RankedAnew (st st' : State) (n : ℕ) : Type 0 where
  pub unmoved : Unmoved st st'
  pub ranked : Ranks (state_sheet st') (st'.rank.value)
  pub unbroken : satisfiable (state_sheet st') ≡ true
  pub discharged : n ≡ places (λ p. in_force (state_sheet st') p && not (has_rank (st.rank.value) p)) (state_sheet st').clauses

-- No choice satisfies the clauses, and the ranks are the old ones; b is the lowest broken ban.
pub record BrokenBy (st st' : State) (b : ℕ) : Type 0 where
  pub unmoved : Unmoved st st'
  pub ranks : st'.rank ≡ st.rank
  pub broken : satisfiable (state_sheet st') ≡ false
  pub lowest : b ≡ lowest_broken (state_sheet st')

-- the conditions are ranked anew, or a ban is broken
abbrev pub Settled : State → State → Result ℕ Refusal → Type 0
Settled st st' (Ok n) = RankedAnew st st' n
Settled st st' (Err e) = (b : ℕ) × (e ≡ Contradiction b) × BrokenBy st st' b

-- Each of these facts has one proof at most.
usable_prop : (st : State) → IsProp (Usable st)
usable_prop st = λ p q i. record {
  mark_room = le_prop p.mark_room q.mark_room i;
}

stocked_prop : (st : State) → IsProp (Stocked st)
stocked_prop st = λ p q i. record {
  usable = usable_prop st p.usable q.usable i;
  filled = filled_prop (held_rows st.tables) p.filled q.filled i;
  few_conditions = le_prop p.few_conditions q.few_conditions i;
  lawfully = Bool-set _ _ p.lawfully q.lawfully i;
}

kept_prop : (st : State) → IsProp (Kept st)
kept_prop st = λ p q i. record {
  few_opened = le_prop p.few_opened q.few_opened i;
  opened_clauses = le_prop p.opened_clauses q.opened_clauses i;
  few_filings = le_prop p.few_filings q.few_filings i;
  filings = Bool-set _ _ p.filings q.filings i;
  starts = Π_prop (λ k. Π_prop (λ _. le_prop)) p.starts q.starts i;
  few_marks = le_prop p.few_marks q.few_marks i;
  marks_rise = Π_prop (λ a. Π_prop (λ b. Π_prop (λ _. Π_prop (λ _. le_prop)))) p.marks_rise q.marks_rise i;
  marks_stand = Π_prop (λ a. Π_prop (λ _. le_prop)) p.marks_stand q.marks_stand i;
}

pub good_prop : (st : State) → IsProp (Good st)
good_prop st = λ p q i. record {
  stocked = stocked_prop st p.stocked q.stocked i;
  kept = kept_prop st p.kept q.kept i;
  ranked = ranks_prop (state_sheet st) st.rank.value p.ranked q.ranked i;
  unbroken = Bool-set _ _ p.unbroken q.unbroken i;
}
