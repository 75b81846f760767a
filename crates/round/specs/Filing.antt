-- One more filing.
use Rattle.std.specs.Prelude.{◌≡◌, ℕ, ◌+◌, ◌-◌, ◌<◌, vec_len}
use Rattle.horn.specs.Sheets.{Condition}
use Rattle.round.specs.Answers.{Answer}
use Rattle.round.specs.Calls.{Filing, files, condition_of}
use Rattle.round.specs.Runs.{Step}
use Rattle.round.specs.Good.{opened_sheet, state_position}
use Rattle.round.specs.declared.state.State.{State}

-- A filing of p may be added, and would be clause n.
pub record MayFile (st : State) (p n : ℕ) : Type 0 where
  pub condition : Condition (opened_sheet st) p
  pub room : vec_len st.tables.outcomes - st.opened < 256
  pub number : n ≡ vec_len st.tables.outcomes + 1

-- Each filing of p is turned back with this answer.
abbrev pub TurnsBack : State → ℕ → Answer → Type 0
TurnsBack st p a = (f : Filing) → condition_of f ≡ p → Step (state_position st) (files f) a (state_position st)
