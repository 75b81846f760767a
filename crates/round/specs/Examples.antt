-- A worked run.
-- Assumes nothing.
use Rattle.std.specs.Prelude.{◌≡◌, List, [], ◌∷◌, ◌++◌, Some, None}
use Rattle.horn.specs.Sheets.{Sheet}
use Rattle.round.specs.Answers.{ok, refused, Opens}
use Rattle.round.specs.Calls.{fact, ban, mark, withdraw, ask, roll, explain, Event, event, of_fact, nothing, stands}
use Rattle.round.specs.Runs.{Run}

-- 3 if 1 and 2; not both 3 and 4; 1
abbrev pub example : Sheet
example = record {
  top = 4;
  clauses = record { body = 1 ∷ (2 ∷ []); outcome = Some 3 } ∷ (record { body = 3 ∷ (4 ∷ []); outcome = None } ∷ (record { body = []; outcome = Some 1 } ∷ []));
}

-- The fact 2 is clause 4; it puts 2 and 3 in force, each in one body place. The fact 4 would break the ban, clause 2.
abbrev pub filing_events : List Event
filing_events =
    event (fact 2) (ok (4 ∷ (2 ∷ [])) [])
    ∷ (event (fact 4) (refused 8 (2 ∷ []))
    ∷ (event (ask 9) (refused 6 []) ∷ []))

-- 3 has pebblings of length 2: clause 3 for 1, clause 4 for 2, then clause 1. In force are 1, 2 and 3, as bits 7.
abbrev pub question_events : List Event
question_events =
    event (explain 3 5) (ok (2 ∷ (3 ∷ [])) (3 ∷ (4 ∷ (1 ∷ []))))
    ∷ (event (explain 3 2) (refused 10 [])
    ∷ (event (explain 4 5) (refused 12 [])
    ∷ (event (roll 1) (ok (3 ∷ []) (7 ∷ []))
    ∷ (event (roll 0) (refused 10 []) ∷ []))))

-- Two filings stand after mark 1, one of them after mark 2; a ban of 3 would break itself. The withdrawal takes both filings and both marks.
abbrev pub mark_events : List Event
mark_events =
    event mark (ok (1 ∷ []) [])
    ∷ (event (ban 4) (ok (5 ∷ []) [])
    ∷ (event mark (ok (2 ∷ []) [])
    ∷ (event (fact 3) (ok (6 ∷ (0 ∷ [])) [])
    ∷ (event (ban 3) (refused 8 (7 ∷ []))
    ∷ (event (withdraw 3) (refused 11 [])
    ∷ (event (withdraw 1) (ok (2 ∷ []) [])
    ∷ (event (withdraw 2) (refused 11 [])
    ∷ (event (ask 4) (ok (0 ∷ []) []) ∷ []))))))))

abbrev pub events : List Event
events = filing_events ++ (question_events ++ mark_events)

pub record WorkedRun : Type 0 where
  pub opening : Opens example (ok (3 ∷ (4 ∷ (1 ∷ []))) [])
  pub run : Run example nothing events
  pub left : stands nothing events ≡ record { filings = of_fact 2 ∷ []; marks = [] }
