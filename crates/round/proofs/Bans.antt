-- A scan of the clauses by a table of ranks: the lowest broken ban, and the discharged places.
use Rattle.std.proofs.Common.{◌≡◌, ℕ, zero, suc, ◌+◌, ◌-◌, ◌<◌, ◌≤◌, Bool, true, false, cond, not, ◌&&◌, eqb, ltb, List, [], ◌∷◌, ◌++◌, map, length, take, drop, Some, None, sym, refl, ap, ◌∙◌, arith}
use Rattle.std.specs.List.{range_with_len, AllByRecursion, count_by}
use Rattle.std.proofs.ByRecursion.{All-weaker}
use Rattle.std.proofs.lemmas.List.{take-append-drop, drop-drop, drop_all}
use Rattle.std.proofs.lemmas.List.Sums.{sum_by-cons}
use Rattle.std.proofs.lemmas.Bool.Decides.{nat_tests}
use Rattle.std.proofs.lemmas.Bool.{cases_eq, cases_Bool, and_parts, and_from, or_from, both_ways, cond-true, cond-false}
use Rattle.horn.specs.Sheets.{Sheet, Clause, Condition, Lawful, LawfulClause, all_of, any_of, satisfies, holds_outcome, clause_at}
use Rattle.horn.specs.Pebblings.{InForce, Broken}
use Rattle.horn.specs.Levels.{in_force, first}
use Rattle.horn.specs.Bans.{no_outcome, breaks, tally, places}
use Rattle.horn.specs.Lawfulness.{satisfiable}
use Rattle.horn.proofs.Tests.{none_some, all_true, all_from, all_nth}
use Rattle.horn.proofs.Forced.{none_lacked}
use Rattle.horn.proofs.Entailment.{standing_or_broken, in_force_has}
use Rattle.round.specs.Rows.{at, Rows, Filled, kept_outcome, clause_in, clauses_in, sheet_in}
use Rattle.round.specs.Ranks.{Ranks, Scanned, ranked}
use Rattle.round.proofs.Meaning.{clause_here, here_clause, in_force_ranked}
use Rattle.round.proofs.Sets.{split}

-- two tests that agree on the conditions
module _ (s : Sheet) (f g : ℕ → Bool) (same : (p : ℕ) → Condition s p → f p ≡ g p) where
  pub all_agree : (ps : List ℕ) → AllByRecursion (Condition s) ps → all_of f ps ≡ all_of g ps
  all_agree [] h = refl
  all_agree (p ∷ ps) h =
      let e = same p h.0 in
      let d = all_agree ps h.1 in cc

  breaks_agree : (c : Clause) → LawfulClause s c → breaks f c ≡ breaks g c
  breaks_agree c w = ap (λ (b : Bool). no_outcome c.outcome && b) (all_agree c.body w.conditions)

  tally_agree : (ps : List ℕ) → AllByRecursion (Condition s) ps → tally f ps ≡ tally g ps
  tally_agree [] h = refl
  tally_agree (p ∷ ps) h =
      let e = same p h.0 in
      let d = tally_agree ps h.1 in cc

  pub places_agree : (cs : List Clause) → AllByRecursion (LawfulClause s) cs → places f cs ≡ places g cs
  places_agree [] h = refl
  places_agree (c ∷ cs) h =
      let e = tally_agree c.body h.0.conditions in
      let d = places_agree cs h.1 in cc

-- the first of the elements that passes
first_counted : {X : Type 0} (g : X → Bool) (f : ℕ → X) (a n c : ℕ) → a ≤ c → c < a + n
    → ((d : ℕ) → a ≤ d → d < c → g (f d) ≡ false) → g (f c) ≡ true → first g (map f (range_with_len a n)) + a ≡ suc c
first_counted g f a zero c l h low e = absurd (omega arith)
first_counted g f a (suc n) c l h low e = split (cases_eq c a)
    (λ z. let y : g (f a) ≡ true = ap (λ (x : ℕ). g (f x)) (sym z) ∙ e in
    let v : first g (map f (range_with_len a (suc n))) ≡ 1 = cond-true (g (f a)) 1 (suc (first g (map f (range_with_len (a + 1) n)))) y in
    omega (arith, v))
    (λ z. let y : g (f a) ≡ false = low a (omega arith) (omega arith) in
    let v : first g (map f (range_with_len a (suc n))) ≡ suc (first g (map f (range_with_len (a + 1) n))) =
    cond-false (g (f a)) 1 (suc (first g (map f (range_with_len (a + 1) n)))) y in
    omega (arith, v, first_counted g f (a + 1) n c (omega arith) (omega arith) (λ d p q. low d (omega arith) q) e))

-- an outcome that is none holds nothing
holds_none : (v : ℕ → Bool) (o : ℕ) → no_outcome (kept_outcome o) ≡ true → holds_outcome v (kept_outcome o) ≡ false
holds_none v zero e = refl
holds_none v (suc o) e = absurd (both_ways false refl e)

module _ (t : Rows) (top : ℕ) (table : List ℕ) (lawful : Lawful (sheet_in top t)) (r : Ranks (sheet_in top t) table) where
  same : (p : ℕ) → Condition (sheet_in top t) p → ranked table p ≡ in_force (sheet_in top t) p
  same p h = in_force_ranked (sheet_in top t) table r p h.0

  breaks_same : (c : ℕ) → c < length t.outs → breaks (ranked table) (clause_in t c) ≡ breaks (in_force (sheet_in top t)) (clause_in t c)
  breaks_same c h =
      breaks_agree (sheet_in top t) (ranked table) (in_force (sheet_in top t)) same (clause_in t c)
      (all_nth (LawfulClause (sheet_in top t)) (clauses_in t) c (clause_in t c) (clause_here t c h) lawful)

  -- a broken ban, and none before it
  pub scanned_some : (c : ℕ) → c < length t.outs → ((d : ℕ) → d < c → breaks (ranked table) (clause_in t d) ≡ false)
      → breaks (ranked table) (clause_in t c) ≡ true → Scanned (sheet_in top t) (Some (c + 1))
  scanned_some c h low e =
      let s : Sheet = sheet_in top t in
      let b : breaks (in_force s) (clause_in t c) ≡ true = sym (breaks_same c h) ∙ e in
      let v = and_parts (no_outcome (clause_in t c).outcome) (all_of (in_force s) (clause_in t c).body) b in
      let unmet : satisfies (in_force s) (clause_in t c) ≡ false =
      or_from (any_of (λ p. not (in_force s p)) (clause_in t c).body) (holds_outcome (in_force s) (clause_in t c).outcome)
      (none_lacked (in_force s) (clause_in t c).body (all_true (in_force s) (clause_in t c).body v.1))
      (holds_none (in_force s) (at t.outs c) v.0) in
      let f : first (breaks (in_force s)) (clauses_in t) + 0 ≡ suc c =
      first_counted (breaks (in_force s)) (clause_in t) 0 (length t.outs) c (omega arith) (omega arith)
      (λ d p q. sym (breaks_same d (omega arith)) ∙ low d q) b in (
        split (cases_Bool (satisfiable s))
            (λ z. absurd (both_ways _ unmet (all_nth (λ x. satisfies (in_force s) x ≡ true) (clauses_in t) c (clause_in t c) (clause_here t c h)
            (all_true (satisfies (in_force s)) (clauses_in t) z))))
            (λ z. z),
        omega (arith, f),
      )

  -- no broken ban
  pub scanned_none : ((d : ℕ) → d < length t.outs → breaks (ranked table) (clause_in t d) ≡ false) → Scanned (sheet_in top t) None
  scanned_none low = split (standing_or_broken (sheet_in top t) lawful)
      (λ h. all_from (satisfies (in_force (sheet_in top t))) (clauses_in t) h)
      (λ b. absurd (never b.0 b.1 b.1.numbers))
    where
      never : (n : ℕ) (b : Broken (sheet_in top t) n) → clause_at (sheet_in top t) n ≡ Some b.clause → ⊥
      never zero b e = none_some e
      never (suc n) b e =
          let s : Sheet = sheet_in top t in
          let x = here_clause t n b.clause e in
          let y : breaks (in_force s) b.clause ≡ true =
          and_from (no_outcome b.clause.outcome) (all_of (in_force s) b.clause.body) (ap no_outcome b.ban)
          (all_from (in_force s) b.clause.body (All-weaker (InForce s) (λ p. in_force s p ≡ true) (in_force_has s lawful) b.clause.body b.in_force)) in
          both_ways _ (low n x.0) (breaks_same n x.0 ∙ ap (breaks (in_force s)) x.1 ∙ y)

tally_append : (f : ℕ → Bool) (xs ys : List ℕ) → tally f (xs ++ ys) ≡ tally f xs + tally f ys
tally_append f [] ys = omega arith
tally_append f (x ∷ xs) ys = split (cases_Bool (f x))
    (λ e. rw e (omega (arith, tally_append f xs ys)))
    (λ e. rw e (tally_append f xs ys))

pub no_rank : (r : ℕ) → eqb r 0 ≡ not (ltb 0 r)
no_rank r = grind (arith, nat_tests)

pub tally_count : (f : ℕ → Bool) (xs : List ℕ) → count_by f xs ≡ tally f xs
tally_count f [] = refl
tally_count f (x ∷ xs) = one (f x) (count_by f (x ∷ xs)) (sum_by-cons (λ y. cond (f y) 1 0) x xs) (tally_count f xs)
  where
    one : (b : Bool) (n : ℕ) → n ≡ cond b 1 0 + count_by f xs → count_by f xs ≡ tally f xs → n ≡ cond b (suc (tally f xs)) (tally f xs)
    one true n e h = omega arith
    one false n e h = omega arith

-- the bodies fill the places
places_from : (f : ℕ → Bool) (t : Rows) → Filled t → (c k : ℕ) → c + k ≡ length t.outs
    → places f (map (clause_in t) (range_with_len c k)) ≡ tally f (drop (at t.starts c) t.places)
places_from f t w c zero e =
    let z : at t.starts c ≡ at t.starts (length t.outs) = ap (at t.starts) (omega arith) in
    sym (ap (tally f) (drop_all (at t.starts c) t.places (omega (arith, w.ends))))
places_from f t w c (suc k) e =
    let a : ℕ = at t.starts c in
    let b : ℕ = at t.starts (c + 1) in
    let m : a + (b - a) ≡ b = omega (arith, w.rising c (omega arith)) in
    let ih : places f (map (clause_in t) (range_with_len (c + 1) k)) ≡ tally f (drop b t.places) = places_from f t w (c + 1) k (omega arith) in
    let cut : tally f (drop (b - a) (drop a t.places)) ≡ tally f (drop b t.places) =
    ap (tally f) (drop-drop (b - a) a t.places ∙ ap (λ (x : ℕ). drop x t.places) m) in
    let whole : tally f (take (b - a) (drop a t.places) ++ drop (b - a) (drop a t.places)) ≡ tally f (drop a t.places) =
    ap (tally f) (take-append-drop (b - a) (drop a t.places)) in
    omega (arith, ih, cut, whole, tally_append f (take (b - a) (drop a t.places)) (drop (b - a) (drop a t.places)))

-- Counted over the places or over the bodies, by the table's ranks or by what is in force, among the conditions that pass another test.
pub places_ranked : (t : Rows) → Filled t → (top : ℕ) (table : List ℕ) → Lawful (sheet_in top t) → Ranks (sheet_in top t) table → (g : ℕ → Bool)
    → tally (λ p. ranked table p && g p) t.places ≡ places (λ p. in_force (sheet_in top t) p && g p) (clauses_in t)
places_ranked t w top table lawful r g =
    let s : Sheet = sheet_in top t in
    let f : ℕ → Bool = λ p. ranked table p && g p in
    sym (sym (places_agree s f (λ p. in_force s p && g p) (λ p h. ap (λ (b : Bool). b && g p) (same t top table lawful r p h)) (clauses_in t) lawful)
    ∙ places_from f t w 0 (length t.outs) (omega arith)
    ∙ ap (λ (x : ℕ). tally f (drop x t.places)) w.begins)
