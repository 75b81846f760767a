-- The sheet that rows hold: its clauses, its bodies, its levels and its ranks.
use Rattle.std.proofs.Common.{◌≡◌, ℕ, zero, suc, ◌+◌, ◌-◌, ◌<◌, ◌≤◌, min, Bool, true, false, ◌&&◌, ltb, List, [], ◌∷◌, map, length, take, drop, Some, sym, refl, ap, ◌∙◌, arith}
use Rattle.std.specs.List.{slice_get, range_with_len, All, list_all}
use Rattle.std.proofs.lemmas.List.{get_or_default, get_or-take, get_or-drop, length-take, length-drop}
use Rattle.std.proofs.lemmas.Bool.{cases_lt, cases_Bool, and_parts, and_from, eq-eqb, eqb-true, both_ways, cond-true, cond-false, lt-ltb}
use Rattle.horn.specs.Sheets.{Sheet, Clause, Lawful, all_of, is}
use Rattle.horn.specs.Levels.{level, in_force, rank, rank_or_zero}
use Rattle.horn.proofs.Tests.{none_some, some_inj}
use Rattle.horn.proofs.Levels.{level_more, level_clause, levels_stop, rank_below, rank_level, rank_pos}
use Rattle.round.specs.Rows.{at, Rows, Body, LawfulRows, kept_outcome, clause_in, clauses_in, sheet_in}
use Rattle.round.specs.Ranks.{Ranks, ranked}
use Rattle.round.proofs.Levels.{Level, Rank, within, condition}
use Rattle.round.proofs.Sets.{split}

module _ {X : Type 0} (f : ℕ → X) where
  nth_counted : (a n i : ℕ) → i < n → slice_get (map f (range_with_len a n)) i ≡ Some (f (a + i))
  nth_counted a zero i h = absurd (omega arith)
  nth_counted a (suc n) zero h = let e : a ≡ a + 0 = omega arith in ap (λ (x : ℕ). Some (f x)) e
  nth_counted a (suc n) (suc i) h =
      let e : a + 1 + i ≡ a + suc i = omega arith in
      nth_counted (a + 1) n i (omega arith) ∙ ap (λ (x : ℕ). Some (f x)) e

  counted_nth : (a n i : ℕ) (x : X) → slice_get (map f (range_with_len a n)) i ≡ Some x → i < n
  counted_nth a zero i x e = absurd (none_some e)
  counted_nth a (suc n) zero x e = omega arith
  counted_nth a (suc n) (suc i) x e = omega (arith, counted_nth (a + 1) n i x e)

-- clause c of the sheet
pub clause_here : (t : Rows) (c : ℕ) → c < length t.outs → slice_get (clauses_in t) c ≡ Some (clause_in t c)
clause_here t c h =
    let e : 0 + c ≡ c = omega arith in
    nth_counted (clause_in t) 0 (length t.outs) c h ∙ ap (λ (x : ℕ). Some (clause_in t x)) e

pub here_clause : (t : Rows) (c : ℕ) (x : Clause) → slice_get (clauses_in t) c ≡ Some x → (c < length t.outs) × (clause_in t c ≡ x)
here_clause t c x e =
    let h : c < length t.outs = counted_nth (clause_in t) 0 (length t.outs) c x e in
    (h, some_inj (sym (clause_here t c h) ∙ e))

module _ (f : ℕ → Bool) where
  take_passes : (n : ℕ) (ys : List ℕ) → ((i : ℕ) → i < n → f (at ys i) ≡ true) → all_of f (take n ys) ≡ true
  take_passes zero ys h = refl
  take_passes (suc n) [] h = refl
  take_passes (suc n) (y ∷ ys) h = and_from (f y) (all_of f (take n ys)) (h 0 (omega arith)) (take_passes n ys (λ i l. h (suc i) (omega arith)))

  passes_take : (n : ℕ) (ys : List ℕ) → all_of f (take n ys) ≡ true → (i : ℕ) → i < n → i < length ys → f (at ys i) ≡ true
  passes_take zero ys e i l h = absurd (omega arith)
  passes_take (suc n) [] e i l h = absurd (omega arith)
  passes_take (suc n) (y ∷ ys) e zero l h = (and_parts (f y) (all_of f (take n ys)) e).0
  passes_take (suc n) (y ∷ ys) e (suc i) l h = passes_take n ys (and_parts (f y) (all_of f (take n ys)) e).1 i (omega arith) (omega arith)

  -- a test passes at each condition of a body
  pub body_passes : (t : Rows) (c : ℕ) → ((j : ℕ) → Body t c j → f (at t.places j) ≡ true) → all_of f (clause_in t c).body ≡ true
  body_passes t c h =
      let a : ℕ = at t.starts c in
      take_passes (at t.starts (c + 1) - a) (drop a t.places)
      (λ i l. ap f (get_or-drop a t.places i 0) ∙ h (a + i) (omega arith, omega arith))

  pub passes_body : (t : Rows) (c : ℕ) → at t.starts (c + 1) ≤ length t.places → all_of f (clause_in t c).body ≡ true
      → (j : ℕ) → Body t c j → f (at t.places j) ≡ true
  passes_body t c w e j b =
      let a : ℕ = at t.starts c in
      let i : ℕ = j - a in
      let m : a + i ≡ j = omega (arith, b.0) in
      let l : i < length (drop a t.places) = omega (arith, length-drop a t.places, b.0, b.1) in
      let v : f (at (drop a t.places) i) ≡ true =
      passes_take (at t.starts (c + 1) - a) (drop a t.places) e i (omega (arith, b.0, b.1)) l in
      ap f (ap (at t.places) (sym m) ∙ sym (get_or-drop a t.places i 0)) ∙ v

-- a body has conditions below n
pub body_below : (n : ℕ) (t : Rows) → LawfulRows n t → (c j : ℕ) → j < length (clause_in t c).body → at (clause_in t c).body j < n
body_below n t w c j h =
    let a : ℕ = at t.starts c in
    let b : ℕ = at t.starts (c + 1) in
    let l : j < min (b - a) (length t.places - a) = omega (arith, length-take (b - a) (drop a t.places), length-drop a t.places) in
    let e : at (clause_in t c).body j ≡ at t.places (a + j) = get_or-take (b - a) (drop a t.places) j 0 (omega arith) ∙ get_or-drop a t.places j 0 in
    omega (arith, e, w.conditions (a + j) (omega arith))

pub body_conditions : {n : ℕ} (t : Rows) → LawfulRows n t → (c : ℕ) → All (λ p. p < n) (clause_in t c).body
body_conditions {n} t w c k d h = omega (arith, get_or_default (clause_in t c).body k d 0 h, body_below n t w c k h)

pub place_conditions : {n : ℕ} (t : Rows) → LawfulRows n t → All (λ p. p < n) t.places
place_conditions t w k d h = omega (arith, get_or_default t.places k d 0 h, w.conditions k h)

-- a sheet's tests of a list are those of the library
all_of_list : (f : ℕ → Bool) (xs : List ℕ) → list_all f xs ≡ all_of f xs
all_of_list f [] = refl
all_of_list f (x ∷ xs) = ap (λ (b : Bool). f x && b) (all_of_list f xs)

-- what a test of all of a body's conditions answered
pub body_tested : (f : ℕ → Bool) (t : Rows) (c : ℕ) (body : List ℕ) (answer : Bool) → body ≡ (clause_in t c).body → answer ≡ list_all f body → all_of f (clause_in t c).body ≡ answer
body_tested f t c body answer e h = sym (all_of_list f (clause_in t c).body) ∙ sym (ap (list_all f) e) ∙ sym h

pub gives_from : (o p : ℕ) → 0 < p → o ≡ p → is (kept_outcome o) p ≡ true
gives_from zero p h e = absurd (omega arith)
gives_from (suc o) p h e = eq-eqb (suc o) p e

pub gives_to : (o p : ℕ) → is (kept_outcome o) p ≡ true → o ≡ p
gives_to zero p e = absurd (both_ways false refl e)
gives_to (suc o) p e = eqb-true (suc o) p e

module _ (n : ℕ) (t : Rows) (lw : LawfulRows n t) (top : ℕ) where
  -- the levels of the rows are those of the sheet
  pub level_from : (k p : ℕ) → 0 < p → Level t k p → level (sheet_in top t) k p ≡ true
  level_from zero p h v = absurd v
  level_from (suc k) p h v =
      level_more (sheet_in top t) k p v.0 (clause_in t v.0) (clause_here t v.0 v.1) (gives_from (at t.outs v.0) p h v.2)
      (body_passes (level (sheet_in top t) k) t v.0
      (λ j b. level_from k (at t.places j) (condition n t lw v.0 j v.1 b).0 (v.3 j b)))

  pub level_to : (k p : ℕ) → 0 < p → level (sheet_in top t) k p ≡ true → Level t k p
  level_to zero p h e = absurd (both_ways false refl e)
  level_to (suc k) p h e =
      let v = level_clause (sheet_in top t) k p e in
      let c : ℕ = v.0 in
      let x = here_clause t c v.1 v.2 in
      let g : is (kept_outcome (at t.outs c)) p ≡ true = ap (λ (y : Clause). is y.outcome p) x.1 ∙ v.3 in
      let a : all_of (level (sheet_in top t) k) (clause_in t c).body ≡ true =
      ap (λ (y : Clause). all_of (level (sheet_in top t) k) y.body) x.1 ∙ v.4 in (
        c,
        x.0,
        gives_to (at t.outs c) p g,
        λ j b.
            level_to k (at t.places j) (condition n t lw c j x.0 b).0
            (passes_body (level (sheet_in top t) k) t c (within t lw.rows (c + 1) (omega (arith, x.0))) a j b),
      )

  -- and so are the ranks
  pub is_rank : Lawful (sheet_in top t) → (p r : ℕ) → 0 < p → Rank t p r → r ≡ rank_or_zero (sheet_in top t) p
  is_rank lawful p r h q =
      let s : Sheet = sheet_in top t in
      split (cases_Bool (in_force s p))
      (λ e.
      let some : 0 < r = split (cases_lt 0 r) (λ l. l) (λ l. absurd (q.none (omega arith) top (level_to top p h e))) in
      let above : rank s p ≤ r = rank_below s r p (level_from r p h (q.holds some)) in
      let below : r ≤ rank s p = split (cases_lt (rank s p) r)
      (λ l. absurd (q.least (rank s p) l (level_to (rank s p) p h (rank_level s p e)))) (λ l. l) in
      let same : r ≡ rank s p = omega arith in
      same ∙ sym (cond-true (in_force s p) (rank s p) 0 e))
      (λ e.
      let none : r ≡ 0 = split (cases_lt 0 r)
      (λ l. absurd (both_ways _ e (levels_stop s lawful r p (level_from r p h (q.holds l))))) (λ l. omega arith) in
      none ∙ sym (cond-false (in_force s p) (rank s p) 0 e))

-- a condition with a rank in the table is in force, and no other
pub in_force_ranked : (s : Sheet) (table : List ℕ) → Ranks s table → (p : ℕ) → 0 < p → ranked table p ≡ in_force s p
in_force_ranked s table r p h = split (cases_Bool (in_force s p))
    (λ e. let v : at table p ≡ rank s p = r p h ∙ cond-true (in_force s p) (rank s p) 0 e in
    lt-ltb 0 (at table p) (omega (arith, v, rank_pos s p)) ∙ sym e)
    (λ e. let v : at table p ≡ 0 = r p h ∙ cond-false (in_force s p) (rank s p) 0 e in
    ap (ltb 0) v ∙ sym e)
