-- Copying the clauses of a source.
use Rattle.std.proofs.Common.{◌≡◌, ℕ, zero, suc, ◌+◌, ◌-◌, ◌<◌, ◌≤◌, min, List, [], ◌∷◌, ◌++◌, length, get_or, take, Some, None, Option, unwrap_or, vec_len, sym, refl, ap, ◌∙◌, ap₂, arith}
use Rattle.std.specs.Option.{option_map}
use Rattle.std.proofs.lemmas.List.{take_more, take_all}
use Rattle.std.proofs.ByRecursion.{All-get_or}
use Rattle.std.proofs.lemmas.Option.{slice_get-get_or}
use Rattle.horn.specs.Sheets.{Sheet, Clause, Condition, Lawful, LawfulClause, clause_at, outcome_number, outcome_size, literals}
use Rattle.horn.specs.Sources.{place_of, outcome_at, size_at}
use Rattle.horn.proofs.Tests.{some_inj, none_some}
use Rattle.round.specs.Rows.{kept_outcome}
use Rattle.round.specs.Writing.{unfinished}
use Rattle.round.specs.Held.{held_rows, held_sheet, body_at, Ended, Copied}
use Rattle.round.specs.declared.tables.Tables.{Tables}
use Rattle.round.proofs.Growing.{writing_filled}
use Rattle.round.proofs.Lookups.{clause_at_nth, at_place_nth}

-- one place more of a clause's body
pub body_more : (o : Option Clause) (n j p : ℕ) (r : Option ℕ) (b b' : List ℕ) → option_map (λ c. length c.body) o ≡ Some n → 1 ≤ j → j ≤ n → Some b ≡ option_map (take (j - 1)) (option_map (λ c. c.body) o) → r ≡ place_of o j → p ≡ unwrap_or r 0 → b' ≡ b ++ p ∷ [] → Some b' ≡ option_map (take (j + 1 - 1)) (option_map (λ c. c.body) o)
body_more None n j p r b b' s low h e d f w = absurd (none_some s)
body_more (Some cl) n j p r b b' s low h e d f w =
    let size : length cl.body ≡ n = some_inj s in
    let here : j - 1 < length cl.body = omega arith in
    let next : j + 1 - 1 ≡ j - 1 + 1 = omega arith in
    let q : p ≡ get_or cl.body (j - 1) 0 = f ∙ ap (λ (x : Option ℕ). unwrap_or x 0) (d ∙ at_place_nth cl.body j low ∙ slice_get-get_or cl.body (j - 1) 0 here) in
    ap Some (w ∙ ap₂ (λ (x : List ℕ) (y : ℕ). x ++ y ∷ []) (some_inj e) q ∙ sym (take_more cl.body (j - 1) 0 here) ∙ ap (λ (k : ℕ). take k cl.body) (sym next))

pub body_all : (o : Option Clause) (n j : ℕ) (b : List ℕ) → option_map (λ c. length c.body) o ≡ Some n → n < j → Some b ≡ option_map (take (j - 1)) (option_map (λ c. c.body) o) → Some b ≡ option_map (λ c. c.body) o
body_all None n j b s h e = absurd (none_some s)
body_all (Some cl) n j b s h e =
    let size : length cl.body ≡ n = some_inj s in
    e ∙ ap Some (take_all (j - 1) cl.body (omega arith))

abbrev pub nothing : Clause
nothing = record { body = []; outcome = None }

abbrev pub nth_clause : Sheet → ℕ → Clause
nth_clause s k = get_or s.clauses k nothing

here : (s : Sheet) (i : ℕ) → 1 ≤ i → i ≤ length s.clauses → clause_at s i ≡ Some (nth_clause s (i - 1))
here s i low h = clause_at_nth s i low ∙ slice_get-get_or s.clauses (i - 1) nothing (omega arith)

number_back : (s : Sheet) (o : Option ℕ) → ((q : ℕ) → o ≡ Some q → Condition s q) → kept_outcome (outcome_number o) ≡ o
number_back s None w = refl
number_back s (Some zero) w = absurd (omega (arith, (w 0 refl).0))
number_back s (Some (suc q)) w = refl

outcome_back : (s : Sheet) (k : ℕ) → Lawful s → k < length s.clauses → kept_outcome (outcome_number (nth_clause s k).outcome) ≡ (nth_clause s k).outcome
outcome_back s k l h = number_back s (nth_clause s k).outcome (All-get_or (LawfulClause s) s.clauses k nothing h l).outcomes

size_min : (o : ℕ) → outcome_size (kept_outcome o) ≡ min o 1
size_min zero = refl
size_min (suc o) = omega arith

abbrev pub literals_in : Clause → ℕ
literals_in c = length c.body + outcome_size c.outcome

literals_push : (cs : List Clause) (c : Clause) → literals (cs ++ c ∷ []) ≡ literals cs + literals_in c
literals_push [] c = omega arith
literals_push (x ∷ cs) c = omega (arith, literals_push cs c)

pub literals_take : (k : ℕ) (cs : List Clause) → literals (take k cs) ≤ literals cs
literals_take zero cs = omega arith
literals_take (suc k) [] = omega arith
literals_take (suc k) (x ∷ cs) = omega (arith, literals_take k cs)

-- the literals up to the next clause
literals_next : (s : Sheet) (k : ℕ) → k < length s.clauses → literals (take (k + 1) s.clauses) ≡ literals (take k s.clauses) + literals_in (nth_clause s k)
literals_next s k h = ap literals (take_more s.clauses k nothing h) ∙ literals_push (take k s.clauses) (nth_clause s k)

-- what the questions answer of clause i, and what is written of it
module _ (s : Sheet) (i : ℕ) (l : Lawful s) (low : 1 ≤ i) (h : i ≤ length s.clauses) where
  within : i - 1 < length s.clauses
  within = omega arith

  pub size_here : (n : ℕ) (r : Option ℕ) → r ≡ size_at s i → n ≡ unwrap_or r 0 → n ≡ length (nth_clause s (i - 1)).body
  size_here n r e f = f ∙ ap (λ (x : Option ℕ). unwrap_or x 0) (e ∙ ap (option_map (λ (c : Clause). length c.body)) (here s i low h))

  pub size_is : (n : ℕ) → n ≡ length (nth_clause s (i - 1)).body → size_at s i ≡ Some n
  size_is n e = ap (option_map (λ (c : Clause). length c.body)) (here s i low h) ∙ ap Some (sym e)

  pub outcome_here : (n : ℕ) (r : Option ℕ) → r ≡ outcome_at s i → n ≡ unwrap_or r 0 → n ≡ outcome_number (nth_clause s (i - 1)).outcome
  outcome_here n r e f = f ∙ ap (λ (x : Option ℕ). unwrap_or x 0) (e ∙ ap (option_map (λ (c : Clause). outcome_number c.outcome)) (here s i low h))

  -- one clause more
  clause_more : (o : ℕ) (b : List ℕ) → Some b ≡ body_at s i → o ≡ outcome_number (nth_clause s (i - 1)).outcome
      → take (i - 1) s.clauses ++ record { body = b; outcome = kept_outcome o } ∷ [] ≡ take (i + 1 - 1) s.clauses
  clause_more o b e f =
      let cl : Clause = nth_clause s (i - 1) in
      let bb : b ≡ cl.body = some_inj (e ∙ ap (option_map (λ (c : Clause). c.body)) (here s i low h)) in
      let oo : kept_outcome o ≡ cl.outcome = ap kept_outcome f ∙ outcome_back s (i - 1) l within in
      let next : i - 1 + 1 ≡ i + 1 - 1 = omega arith in
      ap₂ (λ (x : List ℕ) (y : Option ℕ). take (i - 1) s.clauses ++ record { body = x; outcome = y } ∷ []) bb oo
      ∙ sym (take_more s.clauses (i - 1) nothing within)
      ∙ ap (λ (k : ℕ). take k s.clauses) next

  pub literals_more : (used n m o : ℕ) → used ≡ literals (take (i - 1) s.clauses) → n ≡ length (nth_clause s (i - 1)).body → o ≡ outcome_number (nth_clause s (i - 1)).outcome → m ≡ min o 1 → used + (n + m) ≡ literals (take (i + 1 - 1) s.clauses)
  literals_more used n m o u en eo em =
      let cl : Clause = nth_clause s (i - 1) in
      let z : outcome_size cl.outcome ≡ m = ap outcome_size (sym (outcome_back s (i - 1) l within)) ∙ ap (λ x. outcome_size (kept_outcome x)) (sym eo) ∙ size_min o ∙ sym em in
      let next : i - 1 + 1 ≡ i + 1 - 1 = omega arith in
      omega (arith, ap (λ (k : ℕ). literals (take k s.clauses)) next, literals_next s (i - 1) within, z, u, en)

-- The clauses before clause i are copied, and have so many literals.
pub record CopiedTo (s : Sheet) (t : Tables) (i used : ℕ) : Type 0 where
  pub clauses : (held_sheet t).clauses ≡ take (i - 1) s.clauses
  pub fresh : unfinished (held_rows t) ≡ []
  pub count : vec_len t.outcomes ≡ i - 1
  pub places : vec_len t.places ≤ used
  pub within : used ≤ 8000
  pub literals_used : used ≡ literals (take (i - 1) s.clauses)

pub copied_more : (s : Sheet) (t t' t'' : Tables) (i used n o m : ℕ) → Lawful s → 1 ≤ i → i ≤ length s.clauses → CopiedTo s t i used
    → n ≡ length (nth_clause s (i - 1)).body → o ≡ outcome_number (nth_clause s (i - 1)).outcome → m ≡ min o 1 → used + (n + m) ≤ 8000
    → held_sheet t' ≡ held_sheet t → Some (unfinished (held_rows t')) ≡ body_at s i → vec_len t'.outcomes ≡ vec_len t.outcomes → vec_len t'.places ≡ vec_len t.places + n
    → Ended t' t'' o → CopiedTo s t'' (i + 1) (used + (n + m))
copied_more s t t' t'' i used n o m l low h v en eo em small same body clauses places e = record {
  clauses = e.clauses
      ∙ ap (λ (cs : List Clause). cs ++ record { body = unfinished (held_rows t'); outcome = kept_outcome o } ∷ []) (ap (λ (x : Sheet). x.clauses) same ∙ v.clauses)
      ∙ clause_more s i l low h o (unfinished (held_rows t')) body eo;
  fresh = e.body;
  count = omega (arith, e.clauses_count, clauses, v.count);
  places = omega (arith, e.places_count, places, v.places);
  within = small;
  literals_used = literals_more s i l low h used n m o v.literals_used en eo em;
}

pub copied_all : (s : Sheet) (t : Tables) (i used : ℕ) → length s.clauses ≤ 2000 → length s.clauses ≤ i - 1 → i - 1 ≤ 2000 → CopiedTo s t i used → Copied s t
copied_all s t i used few all bound v =
    let whole : take (i - 1) s.clauses ≡ s.clauses = take_all (i - 1) s.clauses all in
    record {
      filled = writing_filled (held_rows t) t.rows v.fresh;
      clauses = v.clauses ∙ whole;
      few_clauses = omega (arith, v.count);
      few_places = omega (arith, v.places, v.within);
      sheet_clauses = few;
      sheet_literals = omega (arith, v.literals_used ∙ ap literals whole, v.within);
    }
