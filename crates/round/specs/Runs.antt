-- What each call answers, by the sheet that the round was opened on and what stands; and runs, which are lists of calls so answered.
-- Assumes nothing.
use Rattle.std.specs.Prelude.{◌≡◌, ℕ, suc, ◌-◌, ◌<◌, ◌≤◌, true, false, not, ◌&&◌, ◌⊎◌, List, [], ◌∷◌, length}
use Rattle.horn.specs.Sheets.{Sheet}
use Rattle.horn.specs.Levels.{in_force}
use Rattle.horn.specs.Bans.{lowest_broken, places}
use Rattle.horn.specs.Lawfulness.{satisfiable}
use Rattle.round.specs.declared.refusals.Refusal.TheVariants.{NoCondition, FilingsFull, Contradiction, MarksFull, NoMark}
use Rattle.round.specs.Answers.{Answer, ok, refusal, Else, Outside, Asks, Rolls, Explains}
use Rattle.round.specs.Calls.{Call, fact, ban, mark, withdraw, ask, roll, explain, Event, Filing, of_fact, of_ban, Standing, filed, at_mark, after, with_filings}

-- the sheet with the standing filings
abbrev pub standing_sheet : Sheet → Standing → Sheet
standing_sheet s st = with_filings s st.filings

-- the sheet with the standing filings and one more
abbrev pub next_sheet : Sheet → Standing → Filing → Sheet
next_sheet s st f = standing_sheet s (filed st f)

-- the number of body places of `next` whose condition is in force there and was not in `now`
abbrev pub newly_discharged : Sheet → Sheet → ℕ
newly_discharged now next = places (λ p. in_force next p && not (in_force now p)) next.clauses

-- What a call answers. A filing is numbered as the last clause of the sheet that it makes.
abbrev pub Answers : Sheet → Standing → Call → Answer → Type 0
Answers s st (fact p) =
    let now = standing_sheet s st in
    let next = next_sheet s st (of_fact p) in
    Else (Outside s p) (refusal NoCondition)
    (Else (256 ≤ length st.filings) (refusal FilingsFull)
    (Else (satisfiable next ≡ false) (refusal (Contradiction (lowest_broken next)))
    (λ a. a ≡ ok (length next.clauses ∷ (newly_discharged now next ∷ [])) [])))
Answers s st (ban p) =
    let now = standing_sheet s st in
    let next = next_sheet s st (of_ban p) in
    Else (Outside s p) (refusal NoCondition)
    (Else (256 ≤ length st.filings) (refusal FilingsFull)
    (Else (in_force now p ≡ true) (refusal (Contradiction (length next.clauses)))
    (λ a. a ≡ ok (length next.clauses ∷ []) [])))
Answers s st mark =
    Else (32 ≤ length st.marks) (refusal MarksFull)
    (λ a. a ≡ ok (suc (length st.marks) ∷ []) [])
Answers s st (withdraw m) =
    Else ((m ≡ 0) ⊎ (length st.marks < m)) (refusal NoMark)
    (λ a. a ≡ ok ((length st.filings - at_mark st m) ∷ []) [])
Answers s st (ask p) = Asks (standing_sheet s st) p
Answers s st (roll n) = Rolls (standing_sheet s st) n
Answers s st (explain p n) = Explains (standing_sheet s st) p n

-- A run: each call is answered as its rule says, by what stood before it.
abbrev pub Run : Sheet → Standing → List Event → Type 0
Run s st [] = Unit {0}
Run s st (e ∷ es) = Answers s st e.call e.answer × Run s (after st e.call e.answer) es

-- What a round holds, as its calls see it: the sheet that it was opened on, and what stands.
pub record Position : Type 0 where
  pub sheet : Sheet
  pub standing : Standing

-- One call on a round: its answer, and the position that it leaves.
pub record Step (before : Position) (c : Call) (a : Answer) (next : Position) : Type 0 where
  pub answers : Answers before.sheet before.standing c a
  pub sheet : next.sheet ≡ before.sheet
  pub stands : next.standing ≡ after before.standing c a
