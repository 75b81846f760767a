-- What an opened round promises of every list of calls, accepted or refused. Read this file first, from its last two records; what it says of choices and
-- bits is defined in Exact.
-- Assumes nothing.
use Rattle.std.specs.Prelude.{◌≡◌, ℕ, ◌<◌, ◌≤◌, Bool, true, false, cond, ◌⊎◌, ◌↔◌, List, [], ◌∷◌, ◌++◌, length}
use Rattle.horn.specs.Sheets.{Sheet, Condition, Lawful, IsTooLarge}
use Rattle.horn.specs.Pebblings.{Pebbling, lengths}
use Rattle.horn.specs.Bans.{LowestBroken}
use Rattle.horn.specs.Explanations.{Explanation}
use Rattle.round.specs.Answers.{Answer, ok, refused, Opens, opened}
use Rattle.round.specs.Exact.{Unsatisfiable, Entails, Contradicts, bit_of}
use Rattle.round.specs.Calls.{Call, fact, ban, mark, withdraw, ask, roll, explain, Event, event, calls, Filing, files, condition_of, nothing, stands}
use Rattle.round.specs.Runs.{Run, standing_sheet, next_sheet}

-- The answer reports condition q, of `top` conditions, as in force (b is true) or as not in force (b is false): an ask by 1 or 0, a roll by the
-- condition's bit, an explain by an explanation or a buffer that is too short for it, or by refusal 12.
abbrev pub Reports : ℕ → Call → Answer → ℕ → Bool → Type 0
Reports top (fact p) a q b = ⊥
Reports top (ban p) a q b = ⊥
Reports top mark a q b = ⊥
Reports top (withdraw m) a q b = ⊥
Reports top (ask p) (ok ns written) q b = (p ≡ q) × (ns ≡ cond b 1 0 ∷ [])
Reports top (ask p) (refused n named) q b = ⊥
Reports top (roll k) (ok ns words) q b = (1 ≤ q) × (q ≤ top) × (bit_of words q ≡ cond b 1 0)
Reports top (roll k) (refused n named) q b = ⊥
Reports top (explain p k) (ok ns steps) q b = (p ≡ q) × (b ≡ true)
Reports top (explain p k) (refused n named) q b = (p ≡ q) × (((n ≡ 10) × (b ≡ true)) ⊎ ((n ≡ 12) × (b ≡ false)))

-- one ban is named, the lowest that is broken
abbrev pub NamesLowest : Sheet → List ℕ → Type 0
NamesLowest s named = (n : ℕ) × (named ≡ n ∷ []) × LowestBroken s n

-- An explanation of p: the steps are the chosen clauses of the conditions that p needs, in order; they are a pebbling of p, and none is shorter; and the
-- numbers answered are its length and the number of steps.
pub record ShortestExplanation (s : Sheet) (p : ℕ) (ns steps : List ℕ) : Type 0 where
  pub defined : Explanation s p steps
  pub pebbling : Pebbling s p steps
  pub shortest : (others : List ℕ) → Pebbling s p others → lengths s steps p ≤ lengths s others p
  pub numbers : ns ≡ lengths s steps p ∷ (length steps ∷ [])

-- the event is no accepted withdrawal to mark m or to an earlier one
abbrev pub Spares : ℕ → Call → Answer → Type 0
Spares m c (refused n named) = Unit {0}
Spares m (fact p) (ok ns written) = Unit {0}
Spares m (ban p) (ok ns written) = Unit {0}
Spares m mark (ok ns written) = Unit {0}
Spares m (withdraw k) (ok ns written) = m < k
Spares m (ask p) (ok ns written) = Unit {0}
Spares m (roll k) (ok ns written) = Unit {0}
Spares m (explain p k) (ok ns written) = Unit {0}

-- mark m stands through all these events
abbrev pub AllSpare : ℕ → List Event → Type 0
AllSpare m [] = Unit {0}
AllSpare m (e ∷ es) = Spares m e.call e.answer × AllSpare m es

-- mark m was set in these events and stands at their end
pub record MarkStands (m : ℕ) (events : List Event) : Type 0 where
  pub earlier : List Event
  pub since : List Event
  pub numbers : List ℕ
  pub written : List ℕ
  pub whole : events ≡ earlier ++ (event mark (ok (m ∷ numbers) written) ∷ since)
  pub spared : AllSpare m since

-- opened alike: on the same conditions and clauses
abbrev pub Alike : Sheet → Sheet → Type 0
Alike s t = (s.top ≡ t.top) × (s.clauses ≡ t.clauses)

-- a run of a round opened on s: the events `before`, then the call c, which is answered a
abbrev pub Answered : Sheet → List Event → Call → Answer → Type 0
Answered s before c a = Run s nothing (before ++ (event c a ∷ []))

-- the sheet with the filings that stand after the events; and with one more
abbrev pub sheet_after : Sheet → List Event → Sheet
sheet_after s before = standing_sheet s (stands nothing before)

abbrev pub sheet_with : Sheet → List Event → Filing → Sheet
sheet_with s before f = next_sheet s (stands nothing before) f

-- The promise of a round opened on the sheet s, over every run: every list of calls with their answers. What stands follows from these alone.
pub record Promise (s : Sheet) : Type 0 where
  -- A filing past its earlier checks is turned back as contradictory exactly when no choice satisfies the sheet, the standing filings and itself.
  pub filings : (before : List Event) (f : Filing) (a : Answer) → Answered s before (files f) a
      → Condition s (condition_of f) → length (stands nothing before).filings < 256
      → Contradicts a ↔ Unsatisfiable (sheet_with s before f)
  -- It then names the lowest ban that would be broken.
  pub names : (before : List Event) (f : Filing) (named : List ℕ) → Answered s before (files f) (refused 8 named)
      → NamesLowest (sheet_with s before f) named
  -- A condition is reported in force exactly when every choice that satisfies the sheet and the standing filings holds it.
  pub reports : (before : List Event) (c : Call) (a : Answer) (q : ℕ) (b : Bool) → Answered s before c a
      → Reports s.top c a q b → (b ≡ true) ↔ Entails (sheet_after s before) q
  -- An explanation is the defined one, and no pebbling is shorter.
  pub explains : (before : List Event) (p k : ℕ) (ns steps : List ℕ) → Answered s before (explain p k) (ok ns steps)
      → ShortestExplanation (sheet_after s before) p ns steps
  -- An accepted withdrawal is to a mark that was set and that no withdrawal has reached since.
  pub sets : (before : List Event) (m : ℕ) (ns written : List ℕ) → Answered s before (withdraw m) (ok ns written) → MarkStands m before
  -- After an accepted withdrawal to mark m every further list of calls gets the same answers, refusals, written words and steps as from another round,
  -- opened alike, that saw only the calls before that mark was set.
  pub withdraws : (before since further : List Event) (m : ℕ) (ns written ns' written' : List ℕ)
      → Run s nothing (before ++ (event mark (ok (m ∷ ns) written) ∷ (since ++ (event (withdraw m) (ok ns' written') ∷ further))))
      → AllSpare m since
      → (t : Sheet) → Alike s t → (before' further' : List Event) → Run t nothing (before' ++ further')
      → calls before' ≡ calls before → calls further' ≡ calls further → further' ≡ further

-- The promise of an opening on the sheet s that answers a: past its size check it is turned back as contradictory exactly when no choice satisfies the
-- sheet; it then names the lowest broken ban; and the round keeps its promise, on s, or on the empty sheet that a refused opening leaves.
pub record OpeningPromise (s : Sheet) (a : Answer) : Type 0 where
  pub contradicts : (IsTooLarge s → ⊥) → Contradicts a ↔ Unsatisfiable s
  pub names : (named : List ℕ) → a ≡ refused 8 named → NamesLowest s named
  pub promise : Promise (opened a s)

-- Every opening keeps its promise.
abbrev pub OpeningPromised : Type 0
OpeningPromised = (s : Sheet) → Lawful s → (a : Answer) → Opens s a → OpeningPromise s a
