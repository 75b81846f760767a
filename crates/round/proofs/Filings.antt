-- The sheet of a round with filings behind its clauses: what is lawful, and what some choice satisfies.
use Rattle.std.proofs.Common.{◌≡◌, ℕ, zero, suc, ◌<◌, ◌≤◌, Bool, true, false, not, ◌||◌, List, [], ◌∷◌, ◌++◌, map, length, take, sym, refl, ap, ◌∙◌, subst, inl, inr, arith}
use Rattle.std.specs.List.{AllByRecursion}
use Rattle.std.proofs.lemmas.List.{append_assoc, append-nil, map_push}
use Rattle.std.proofs.ByRecursion.{All-push, All-weaker}
use Rattle.std.proofs.lemmas.Bool.{both_ways}
use Rattle.horn.specs.Sheets.{Clause, Sheet, Condition, Choice, Lawful, LawfulClause, Satisfies, satisfies}
use Rattle.horn.specs.Levels.{in_force}
use Rattle.horn.specs.Claims.{added}
use Rattle.horn.specs.Lawfulness.{satisfiable}
use Rattle.horn.proofs.Tests.{all_true, some_inj, none_some}
use Rattle.horn.proofs.Entailment.{standing}
use Rattle.horn.proofs.Lawfulness.{satisfiable_tested}
use Rattle.round.specs.Answers.{Outside}
use Rattle.round.specs.Calls.{Filing, of_fact, of_ban, condition_of, clause_of, with_filings}
use Rattle.round.specs.Exact.{Unsatisfiable}

pub not_no : (b : Bool) → (b ≡ false → ⊥) → b ≡ true
not_no true h = refl
not_no false h = absurd (h refl)

pub not_yes : (b : Bool) → (b ≡ true → ⊥) → b ≡ false
not_yes true h = absurd (h refl)
not_yes false h = refl

-- a number that is not outside is a condition
pub inside : (s : Sheet) (p : ℕ) → (Outside s p → ⊥) → Condition s p
inside s p h = (low p (λ e. h (inl e)), high p s.top (λ l. h (inr l)))
  where
    low : (a : ℕ) → (a ≡ 0 → ⊥) → 1 ≤ a
    low a h = omega arith

    high : (a b : ℕ) → (b < a → ⊥) → a ≤ b
    high a b h = omega arith

pub unsatisfiable : (s : Sheet) → Lawful s → satisfiable s ≡ false → Unsatisfiable s
unsatisfiable s w k v sat = both_ways _ k ((satisfiable_tested s w).1 (v, sat))

pub satisfiable_not : (s : Sheet) → Lawful s → satisfiable s ≡ true → Unsatisfiable s → ⊥
satisfiable_not s w k none = let v = (satisfiable_tested s w).0 k in none v.0 v.1

-- one filing more is one clause more
pub pushed : (s : Sheet) (fs : List Filing) (f : Filing) → with_filings s (fs ++ (f ∷ [])) ≡ added (with_filings s fs) (clause_of f ∷ [])
pushed s fs f = ap {B = Sheet} (λ (cs : List Clause). record { top = s.top; clauses = cs }) (ap (λ (cs : List Clause). s.clauses ++ cs) (map_push clause_of fs f) ∙ sym (append_assoc s.clauses (map clause_of fs) (clause_of f ∷ [])))

-- without filings it is the sheet
unfiled : (s : Sheet) → with_filings s [] ≡ s
unfiled s = ap {B = Sheet} (λ (cs : List Clause). record { top = s.top; clauses = cs }) (append-nil s.clauses)

-- lawful clauses are lawful on every sheet with the same conditions
lawful_again : (s : Sheet) (cs ds : List Clause) → AllByRecursion (LawfulClause (record { top = s.top; clauses = ds })) cs → AllByRecursion (LawfulClause s) cs
lawful_again s cs ds = All-weaker (LawfulClause (record { top = s.top; clauses = ds })) (LawfulClause s) (λ c l. record { conditions = l.conditions; outcomes = l.outcomes; different = l.different; something = l.something }) cs

-- the clause of a filing is lawful where it names a condition
pub filing_lawful : (s : Sheet) (f : Filing) → Condition s (condition_of f) → LawfulClause s (clause_of f)
filing_lawful s (of_fact p) h = record { conditions = tt; outcomes = λ q e. subst (Condition s) (some_inj e) h; different = tt; something = λ x e. none_some (sym e) }
filing_lawful s (of_ban p) h = record { conditions = (h, tt); outcomes = λ q e. absurd (none_some e); different = (refl, tt); something = λ e x. full e }
  where
    full : p ∷ [] ≡ [] → ⊥
    full e = let z : ◌≡◌ {A = ℕ} 1 0 = ap length e in omega arith

pub lawful_push : (s : Sheet) (fs : List Filing) (f : Filing) → Condition s (condition_of f) → Lawful (with_filings s fs) → Lawful (with_filings s (fs ++ (f ∷ [])))
lawful_push s fs f h w = subst Lawful (sym (pushed s fs f)) (All-push (LawfulClause S) (s.clauses ++ map clause_of fs) (clause_of f) (lawful_again S (s.clauses ++ map clause_of fs) (s.clauses ++ map clause_of fs) w) (filing_lawful S f h))
  where
    S : Sheet
    S = added (with_filings s fs) (clause_of f ∷ [])

all_kept : {X Y : Type 0} (P : X → Type 0) (f : Y → X) (xs : List X) (k : ℕ) (ys : List Y) → AllByRecursion P (xs ++ map f ys) → AllByRecursion P (xs ++ map f (take k ys))
all_kept P f (x ∷ xs) k ys h = (h.0, all_kept P f xs k ys h.1)
all_kept P f [] zero ys h = tt
all_kept P f [] (suc k) [] h = tt
all_kept P f [] (suc k) (y ∷ ys) h = (h.0, all_kept P f [] k ys h.1)

-- it stays lawful when filings are taken away
pub lawful_take : (s : Sheet) (fs : List Filing) (k : ℕ) → Lawful (with_filings s fs) → Lawful (with_filings s (take k fs))
lawful_take s fs k w = lawful_again (with_filings s (take k fs)) (s.clauses ++ map clause_of (take k fs)) (s.clauses ++ map clause_of fs) (all_kept (LawfulClause (with_filings s fs)) clause_of s.clauses k fs w)

-- a choice of one sheet, as a choice of another with the same conditions
abbrev pub rechosen : (s t : Sheet) → s.top ≡ t.top → Choice s → Choice t
rechosen s t e v = record { holds = v.holds; within = λ p h. ((v.within p h).0, subst (λ (n : ℕ). p ≤ n) e (v.within p h).1) }

-- The sheet with these filings is lawful, and some choice satisfies it.
pub record Sound (s : Sheet) (fs : List Filing) : Type 0 where
  pub lawful : Lawful (with_filings s fs)
  pub satisfied : satisfiable (with_filings s fs) ≡ true

pub sound_none : (s : Sheet) → Lawful s → satisfiable s ≡ true → Sound s []
sound_none s w k = record { lawful = subst Lawful (sym (unfiled s)) w; satisfied = subst (λ (t : Sheet). satisfiable t ≡ true) (sym (unfiled s)) k }

pub sound_push : (s : Sheet) (fs : List Filing) (f : Filing) → Condition s (condition_of f) → Sound s fs → satisfiable (with_filings s (fs ++ (f ∷ []))) ≡ true → Sound s (fs ++ (f ∷ []))
sound_push s fs f h o k = record { lawful = lawful_push s fs f h o.lawful; satisfied = k }

pub sound_take : (s : Sheet) (fs : List Filing) (k : ℕ) → Sound s fs → Sound s (take k fs)
sound_take s fs k o = record { lawful = w; satisfied = (satisfiable_tested (with_filings s (take k fs)) w).1 (rechosen (with_filings s fs) (with_filings s (take k fs)) refl v.0, all_kept (λ c. satisfies v.0.holds c ≡ true) clause_of s.clauses k fs v.1) }
  where
    w : Lawful (with_filings s (take k fs))
    w = lawful_take s fs k o.lawful

    v : (v : Choice (with_filings s fs)) × Satisfies (with_filings s fs) v
    v = (satisfiable_tested (with_filings s fs) o.lawful).0 o.satisfied

-- with a ban of a condition that is not in force, the conditions in force satisfy the sheet still
pub sound_ban : (s : Sheet) (fs : List Filing) (p : ℕ) → Condition s p → Sound s fs → in_force (with_filings s fs) p ≡ false → satisfiable (with_filings s (fs ++ (of_ban p ∷ []))) ≡ true
sound_ban s fs p h o k = subst (λ (t : Sheet). satisfiable t ≡ true) (sym (pushed s fs (of_ban p))) ((satisfiable_tested S w).1 (rechosen now S refl (standing now o.lawful), All-push (λ c. satisfies (in_force now) c ≡ true) now.clauses (clause_of (of_ban p)) (all_true (satisfies (in_force now)) now.clauses o.satisfied) (lacks (in_force now p) k)))
  where
    now : Sheet
    now = with_filings s fs

    S : Sheet
    S = added now (clause_of (of_ban p) ∷ [])

    w : Lawful S
    w = subst Lawful (pushed s fs (of_ban p)) (lawful_push s fs (of_ban p) h o.lawful)

    lacks : (b : Bool) → b ≡ false → ((not b || false) || false) ≡ true
    lacks true e = absurd (both_ways true e refl)
    lacks false e = refl
