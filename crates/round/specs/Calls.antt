-- The calls on an opened round, and what stands after them.
-- Assumes nothing.
use Rattle.std.specs.Prelude.{ℕ, ◌-◌, List, [], ◌∷◌, ◌++◌, map, length, take, Some, None, slice_index}
use Rattle.horn.specs.Sheets.{Clause, Sheet}
use Rattle.round.specs.Answers.{Answer, ok, refused}

-- A fact and a ban name their condition, a withdrawal its mark, an ask its condition, a roll how many words its buffer has, an explain its condition
-- and how many places its buffer has. (A mark is what databases call a savepoint, a withdrawal a rollback to it.)
pub data Call : Type 0 where
  fact : ℕ → Call
  ban : ℕ → Call
  mark : Call
  withdraw : ℕ → Call
  ask : ℕ → Call
  roll : ℕ → Call
  explain : ℕ → ℕ → Call

-- a call and what it answered
pub record Event : Type 0 where
  pub call : Call
  pub answer : Answer

abbrev pub event : Call → Answer → Event
event c a = record { call = c; answer = a }

abbrev pub calls : List Event → List Call
calls [] = []
calls (e ∷ es) = e.call ∷ calls es

-- A filing is a fact or a ban of a single condition.
pub data Filing : Type 0 where
  of_fact : ℕ → Filing
  of_ban : ℕ → Filing

-- the call that files it
abbrev pub files : Filing → Call
files (of_fact p) = fact p
files (of_ban p) = ban p

abbrev pub condition_of : Filing → ℕ
condition_of (of_fact p) = p
condition_of (of_ban p) = p

abbrev pub clause_of : Filing → Clause
clause_of (of_fact p) = record { body = []; outcome = Some p }
clause_of (of_ban p) = record { body = p ∷ []; outcome = None }

-- What stands: the filings, oldest first, and for each mark how many filings stood when it was set.
pub record Standing : Type 0 where
  pub filings : List Filing
  pub marks : List ℕ

abbrev pub nothing : Standing
nothing = record { filings = []; marks = [] }

-- with one filing more
abbrev pub filed : Standing → Filing → Standing
filed st f = record { filings = st.filings ++ (f ∷ []); marks = st.marks }

-- with one mark more
abbrev pub marked : Standing → Standing
marked st = record { filings = st.filings; marks = st.marks ++ (length st.filings ∷ []) }

-- how many filings stood when mark m was set
abbrev pub at_mark : Standing → ℕ → ℕ
at_mark st m = slice_index st.marks (m - 1)

-- without the filings made since mark m was set, and without that mark and all later ones
abbrev pub withdrawn : Standing → ℕ → Standing
withdrawn st m = record { filings = take (at_mark st m) st.filings; marks = take (m - 1) st.marks }

-- What stands after one more call follows from the call and its answer alone: an accepted fact or ban stands until an accepted withdrawal to a mark set
-- before it, a mark until one to it or to an earlier mark. A refused call changes nothing.
abbrev pub after : Standing → Call → Answer → Standing
after st c (refused n named) = st
after st (fact p) (ok ns written) = filed st (of_fact p)
after st (ban p) (ok ns written) = filed st (of_ban p)
after st mark (ok ns written) = marked st
after st (withdraw m) (ok ns written) = withdrawn st m
after st (ask p) (ok ns written) = st
after st (roll n) (ok ns written) = st
after st (explain p n) (ok ns written) = st

-- what stands after these calls
abbrev pub stands : Standing → List Event → Standing
stands st [] = st
stands st (e ∷ es) = stands (after st e.call e.answer) es

-- the sheet with filings behind its clauses
abbrev pub with_filings : Sheet → List Filing → Sheet
with_filings s fs = record { top = s.top; clauses = s.clauses ++ map clause_of fs }
