-- The chosen clauses of what a condition needs are a pebbling of it, as short as any.
-- Assumes nothing.
use Rattle.std.proofs.Common.{◌≡◌, ℕ, zero, suc, ◌-◌, ◌<◌, ◌≤◌, Bool, true, false, cond, ◌&&◌, ◌||◌, eqb, ltb, ◌⊎◌, List, [], ◌∷◌, ◌++◌, map, length, get_or, Some, Option, sym, refl, ap, ◌∙◌, subst, inl, inr, ⊎_elim, arith}
use Rattle.std.specs.List.{slice_get, AllByRecursion}
use Rattle.std.proofs.lemmas.List.{map_push, get_or_push, length_push, append_assoc, append-nil}
use Rattle.std.proofs.ByRecursion.{All-weaker, All-push}
use Rattle.std.proofs.lemmas.Bool.{and_parts, and_from, or_cases, or_left, or_right, both_ways, cases_lt, cases_Bool, eqb-true, eqb-false, eq-eqb, lt-ltb, ltb-true, cond-true, cond-false}
use Rattle.horn.specs.Sheets.{all_of, any_of, Clause, Sheet, Lawful, Condition, gives, is, clause_at, outcome_of, body_of}
use Rattle.horn.specs.Pebblings.{step_gives, given, Allowed, Steps, Pebbling, longest, lengths, lengths_after}
use Rattle.horn.specs.Levels.{level, least, rank, first, explains, chosen, chosen_body, reaches, needed, listed, ordered, explanation, Before, Sorted}
use Rattle.horn.proofs.Tests.{all_true, all_from, any_at, any_from, any_append, all_nth, all_by_nth, none_some}
use Rattle.horn.proofs.Forced.{given_push, steps_push}
use Rattle.horn.proofs.Levels.{level_clause, level_mono, level_at, level_condition, gives_outcome, rank_below, rank_level, rank_pos, rank_top, rank_in, lengths_push, lengths_here, lengths_other, all_both}

-- the first element that passes a test
pub record First {X : Type 0} (f : X → Bool) (xs : List X) : Type 0 where
  pub at : ℕ
  pub it : X
  pub number : first f xs ≡ suc at
  pub is_at : slice_get xs at ≡ Some it
  pub passes : f it ≡ true
  pub lowest : (j : ℕ) (y : X) → j < at → slice_get xs j ≡ Some y → f y ≡ false

pub first_is : {X : Type 0} (f : X → Bool) (xs : List X) → any_of f xs ≡ true → First f xs
first_is f [] h = absurd (both_ways false refl h)
first_is {X} f (x ∷ xs) h = step (f x) refl (first_is f xs)
  where
    before : (r : First f xs) → f x ≡ false → (j : ℕ) (y : X) → j < suc r.at → slice_get (x ∷ xs) j ≡ Some y → f y ≡ false
    before r e zero y l k = sym (ap f (Rattle.horn.proofs.Tests.some_inj k)) ∙ e
    before r e (suc j) y l k = r.lowest j y (omega arith) k

    step : (b : Bool) → f x ≡ b → (any_of f xs ≡ true → First f xs) → First f (x ∷ xs)
    step true e ih = record { at = 0; it = x; number = cond-true (f x) (suc zero) (suc (first f xs)) e; is_at = refl; passes = e; lowest = λ j y l k. let w : ⊥ = omega arith in absurd w }
    step false e ih =
        let r : First f xs = ih (⊎_elim (λ k. absurd (both_ways _ e k)) (λ k. k) (or_cases (f x) (any_of f xs) h)) in
        record { at = suc r.at; it = r.it; number = cond-false (f x) (suc zero) (suc (first f xs)) e ∙ ap suc r.number; is_at = r.is_at; passes = r.passes; lowest = before r e }

-- the chosen clause of a condition in force
pub record Choosing (s : Sheet) (p : ℕ) : Type 0 where
  pub clause : Clause
  pub numbers : clause_at s (chosen s p) ≡ Some clause
  pub outcome : clause.outcome ≡ Some p
  pub shorter : AllByRecursion (λ b. rank s b < rank s p) clause.body

pub explains_some : (s : Sheet) (p : ℕ) → level s s.top p ≡ true → any_of (explains s p) s.clauses ≡ true
explains_some s p h =
    let r = least (λ j. level s (suc j) p) s.top in
    let c = level_clause s r p (rank_level s p h) in
    any_from (explains s p) s.clauses c.0 c.1 c.2
    (and_from (gives c.1 p) (all_of (λ b. ltb (rank s b) (rank s p)) c.1.body) c.3
    (all_from (λ b. ltb (rank s b) (rank s p)) c.1.body
    (All-weaker (λ b. level s r b ≡ true) (λ b. ltb (rank s b) (rank s p) ≡ true) (λ b k. lt-ltb (rank s b) (rank s p) (omega (arith, rank_below s r b k))) c.1.body (all_true (level s r) c.1.body c.4))))

pub choosing : (s : Sheet) (p : ℕ) → level s s.top p ≡ true → Choosing s p
choosing s p h =
    let r = first_is (explains s p) s.clauses (explains_some s p h) in
    let e = and_parts (gives r.it p) (all_of (λ b. ltb (rank s b) (rank s p)) r.it.body) r.passes in
    record {
      clause = r.it;
      numbers = ap (clause_at s) r.number ∙ r.is_at;
      outcome = gives_outcome r.it p e.0;
      shorter = All-weaker (λ b. ltb (rank s b) (rank s p) ≡ true) (λ b. rank s b < rank s p) (λ b. ltb-true (rank s b) (rank s p)) r.it.body (all_true (λ b. ltb (rank s b) (rank s p)) r.it.body e.1);
    }

pub chosen_body_is : (s : Sheet) (p : ℕ) (c : Choosing s p) → chosen_body s p ≡ c.clause.body
chosen_body_is s p c = ap body_of c.numbers

pub body_shorter : (s : Sheet) (p : ℕ) → level s s.top p ≡ true → AllByRecursion (λ b. rank s b < rank s p) (chosen_body s p)
body_shorter s p h = let c = choosing s p h in subst (λ (bs : List ℕ). AllByRecursion (λ b. rank s b < rank s p) bs) (sym (chosen_body_is s p c)) c.shorter

pub body_in_force : (s : Sheet) (p b : ℕ) → level s s.top p ≡ true → rank s b < rank s p → level s s.top b ≡ true
body_in_force s p b h l = rank_top s b (omega (arith, rank_below s s.top p h))

pub chosen_gives : (s : Sheet) (x p : ℕ) → level s s.top x ≡ true → step_gives s (chosen s x) p ≡ eqb x p
chosen_gives s x p h = let c = choosing s x h in ap (λ (o : Option Clause). is (outcome_of o) p) c.numbers ∙ ap (λ (o : Option ℕ). is o p) c.outcome

-- lists of conditions
abbrev pub mem : List ℕ → ℕ → Bool
mem L p = any_of (λ x. eqb x p) L

pub all_by_mem : (P : ℕ → Type 0) (L : List ℕ) → ((p : ℕ) → mem L p ≡ true → P p) → AllByRecursion P L
all_by_mem P L h = all_by_nth P L (λ i x e. h x (any_from (λ y. eqb y x) L i x e (eq-eqb x x refl)))

pub mem_push_cases : (L : List ℕ) (x p : ℕ) → mem (L ++ x ∷ []) p ≡ true → (mem L p ≡ true) ⊎ (x ≡ p)
mem_push_cases L x p h = ⊎_elim inl (λ (k : (eqb x p || false) ≡ true). ⊎_elim (λ (e : eqb x p ≡ true). inr (eqb-true x p e)) (λ (e : false ≡ true). absurd (both_ways false refl e)) (or_cases (eqb x p) false k)) (or_cases (mem L p) (mem (x ∷ []) p) (sym (any_append (λ y. eqb y p) L (x ∷ [])) ∙ h))

sorted_push : (s : Sheet) (L : List ℕ) (x : ℕ) → Sorted s L → AllByRecursion (λ y. Before s y x) L → Sorted s (L ++ x ∷ [])
sorted_push s [] x h a = (tt, tt)
sorted_push s (y ∷ L) x h a = (All-push (Before s y) L x h.0 a.0, sorted_push s L x h.1 a.1)

pub longest_lt : (t : ℕ → ℕ) (ps : List ℕ) (n : ℕ) → 0 < n → AllByRecursion (λ p. t p < n) ps → longest t ps < n
longest_lt t [] n l h = l
longest_lt t (p ∷ ps) n l h = let a = h.0 in let b = longest_lt t ps n l h.1 in omega arith

-- a list of conditions whose chosen clauses, one after the other, are steps as short as can be
pub record Good (s : Sheet) (L : List ℕ) : Type 0 where
  pub steps : Steps s (map (chosen s) L)
  pub same : (p : ℕ) → given s (map (chosen s) L) p ≡ mem L p
  pub lens : (p : ℕ) → mem L p ≡ true → lengths s (map (chosen s) L) p ≡ rank s p
  pub sorted : Sorted s L

pub good_none : (s : Sheet) → Good s []
good_none s = record { steps = λ i l. let w : ⊥ = omega arith in absurd w; same = λ p. refl; lens = λ p h. absurd (both_ways false refl h); sorted = tt }

pub good_push : (s : Sheet) (L : List ℕ) (x : ℕ) → level s s.top x ≡ true → mem L x ≡ false → AllByRecursion (λ b. mem L b ≡ true) (chosen_body s x) → AllByRecursion (λ y. Before s y x) L → Good s L → Good s (L ++ x ∷ [])
good_push s L x h fresh body late g =
    record {
      steps = rw (map_push (chosen s) L x) (steps_push s old (chosen s x) g.steps allowed);
      same = same;
      lens = lens;
      sorted = sorted_push s L x g.sorted late;
    }
  where
    old : List ℕ
    old = map (chosen s) L

    c : Choosing s x
    c = choosing s x h

    inside : AllByRecursion (λ b. mem L b ≡ true) c.clause.body
    inside = subst (λ (bs : List ℕ). AllByRecursion (λ b. mem L b ≡ true) bs) (chosen_body_is s x c) body

    allowed : Allowed s old (chosen s x)
    allowed = record { clause = c.clause; outcome = x; numbers = c.numbers; no_ban = c.outcome; fresh = g.same x ∙ fresh; ready = All-weaker (λ b. mem L b ≡ true) (λ b. given s old b ≡ true) (λ b k. g.same b ∙ k) c.clause.body inside }

    same : (p : ℕ) → given s (map (chosen s) (L ++ x ∷ [])) p ≡ mem (L ++ x ∷ []) p
    same p = ap (λ (ns : List ℕ). given s ns p) (map_push (chosen s) L x) ∙ given_push s old (chosen s x) p ∙ ap (λ (b : Bool). b || (step_gives s (chosen s x) p || false)) (g.same p) ∙ ap (λ (b : Bool). mem L p || (b || false)) (chosen_gives s x p h) ∙ sym (any_append (λ y. eqb y p) L (x ∷ []))

    m : ℕ
    m = longest (lengths s old) c.clause.body

    ranks : AllByRecursion (λ b. lengths s old b ≡ rank s b) c.clause.body
    ranks = All-weaker (λ b. mem L b ≡ true) (λ b. lengths s old b ≡ rank s b) g.lens c.clause.body inside

    below : m < rank s x
    below = longest_lt (lengths s old) c.clause.body (rank s x) (rank_pos s x) (all_both (λ b. rank s b < rank s x) (λ b. lengths s old b ≡ rank s b) (λ b. lengths s old b < rank s x) (λ b u v. omega arith) c.clause.body c.shorter ranks)

    in_m : (b : ℕ) → rank s b < rank s x → lengths s old b ≡ rank s b → lengths s old b ≤ m → level s m b ≡ true
    in_m b l e k = level_mono s (rank s b) m b (omega arith) (rank_in s b (omega (arith, rank_below s s.top x h)))

    above : rank s x ≤ suc m
    above = rank_below s (suc m) x (level_at s m x (chosen s x) c.clause c.numbers c.outcome (all_from (level s m) c.clause.body (all_both (λ b. rank s b < rank s x) (λ b. (lengths s old b ≡ rank s b) × (lengths s old b ≤ m)) (λ b. level s m b ≡ true) (λ b u v. in_m b u v.0 v.1) c.clause.body c.shorter (all_both (λ b. lengths s old b ≡ rank s b) (λ b. lengths s old b ≤ m) (λ b. (lengths s old b ≡ rank s b) × (lengths s old b ≤ m)) (λ b u v. (u, v)) c.clause.body ranks (Rattle.horn.proofs.Levels.longest_at (lengths s old) c.clause.body)))))

    lens_all : (p : ℕ) → lengths s (map (chosen s) (L ++ x ∷ [])) p ≡ lengths_after s (lengths s old) (chosen s x) p
    lens_all p = ap (λ (ns : List ℕ). lengths s ns p) (map_push (chosen s) L x) ∙ ap (λ (t : ℕ → ℕ). t p) (lengths_push s (λ _. 0) old (chosen s x))

    lens : (p : ℕ) → mem (L ++ x ∷ []) p ≡ true → lengths s (map (chosen s) (L ++ x ∷ [])) p ≡ rank s p
    lens p k = lens_all p ∙ ⊎_elim here there (cases_Bool (eqb x p))
      where
        here : eqb x p ≡ true → lengths_after s (lengths s old) (chosen s x) p ≡ rank s p
        here e = lengths_here s (lengths s old) (chosen s x) p c.clause c.numbers (chosen_gives s x p h ∙ e) ∙ (let f : suc m ≡ rank s x = omega (arith, below, above) in f) ∙ ap (rank s) (eqb-true x p e)

        there : eqb x p ≡ false → lengths_after s (lengths s old) (chosen s x) p ≡ rank s p
        there e = lengths_other s (lengths s old) (chosen s x) p (chosen_gives s x p h ∙ e) ∙ g.lens p (⊎_elim (λ u. u) (λ (u : x ≡ p). absurd (eqb-false x p e u)) (mem_push_cases L x p k))

-- what a listing holds
pub listed_holds : (f : ℕ → Bool) (n p : ℕ) → mem (listed f n) p ≡ true → (f p ≡ true) × (1 ≤ p) × (p ≤ n)
listed_holds f zero p h = absurd (both_ways false refl h)
listed_holds f (suc n) p h = ⊎_elim (λ (k : mem (listed f n) p ≡ true). let r = listed_holds f n p k in (r.0, r.1, omega arith)) (here (f (suc n)) refl) (or_cases _ _ (sym (any_append (λ y. eqb y p) (listed f n) (cond (f (suc n)) (suc n ∷ []) [])) ∙ h))
  where
    here : (b : Bool) → f (suc n) ≡ b → mem (cond b (suc n ∷ []) []) p ≡ true → (f p ≡ true) × (1 ≤ p) × (p ≤ suc n)
    here false e k = absurd (both_ways false refl k)
    here true e k = ⊎_elim (λ (g : eqb (suc n) p ≡ true). let q = eqb-true (suc n) p g in (sym (ap f q) ∙ e, omega arith, omega arith)) (λ (g : false ≡ true). absurd (both_ways false refl g)) (or_cases (eqb (suc n) p) false k)

pub listed_has : (f : ℕ → Bool) (n p : ℕ) → f p ≡ true → 1 ≤ p → p ≤ n → mem (listed f n) p ≡ true
listed_has f zero p h a b = let w : ⊥ = omega arith in absurd w
listed_has f (suc n) p h a b = any_append (λ y. eqb y p) (listed f n) (cond (f (suc n)) (suc n ∷ []) []) ∙ ⊎_elim (λ (l : p < suc n). or_left _ _ (listed_has f n p h a (omega arith))) (λ (l : suc n ≤ p). or_right (mem (listed f n) p) _ (here (let e : p ≡ suc n = omega arith in e))) (cases_lt p (suc n))
  where
    here : p ≡ suc n → mem (cond (f (suc n)) (suc n ∷ []) []) p ≡ true
    here e = ap (λ (b : Bool). mem (cond b (suc n ∷ []) []) p) (sym (ap f e) ∙ h) ∙ or_left (eqb (suc n) p) false (eq-eqb (suc n) p (sym e))

pub ordered_holds : (s : Sheet) (q d p : ℕ) → mem (ordered s q d) p ≡ true → (needed s q p ≡ true) × (rank s p ≤ d)
ordered_holds s q zero p h = absurd (both_ways false refl h)
ordered_holds s q (suc d) p h = ⊎_elim (λ (k : mem (ordered s q d) p ≡ true). let r = ordered_holds s q d p k in (r.0, omega arith)) (λ k. let r = and_parts _ _ (listed_holds (λ y. needed s q y && eqb (rank s y) (suc d)) s.top p k).0 in (r.0, omega (arith, eqb-true (rank s p) (suc d) r.1))) (or_cases _ _ (sym (any_append (λ y. eqb y p) (ordered s q d) (listed (λ y. needed s q y && eqb (rank s y) (suc d)) s.top)) ∙ h))

pub ordered_has : (s : Sheet) (q d p : ℕ) → Condition s p → needed s q p ≡ true → rank s p ≤ d → mem (ordered s q d) p ≡ true
ordered_has s q zero p c h l = let w : ⊥ = omega (arith, rank_pos s p) in absurd w
ordered_has s q (suc d) p c h l = any_append (λ y. eqb y p) (ordered s q d) (listed (λ y. needed s q y && eqb (rank s y) (suc d)) s.top) ∙ ⊎_elim (λ (k : rank s p < suc d). or_left _ _ (ordered_has s q d p c h (omega arith))) (λ (k : suc d ≤ rank s p). or_right (mem (ordered s q d) p) _ (listed_has (λ y. needed s q y && eqb (rank s y) (suc d)) s.top p (and_from _ _ h (eq-eqb (rank s p) (suc d) (omega arith))) c.0 c.1)) (cases_lt (rank s p) (suc d))

-- what a condition needs
pub reaches_self : (s : Sheet) (k q : ℕ) → reaches s k q q ≡ true
reaches_self s zero q = eq-eqb q q refl
reaches_self s (suc k) q = or_left (eqb q q) _ (eq-eqb q q refl)

pub reaches_in_force : (s : Sheet) (k q p : ℕ) → level s s.top q ≡ true → reaches s k q p ≡ true → (level s s.top p ≡ true) × ((q ≡ p) ⊎ (rank s p < rank s q))
reaches_in_force s zero q p h r = let e = eqb-true q p r in (subst (λ (x : ℕ). level s s.top x ≡ true) e h, inl e)
reaches_in_force s (suc k) q p h r = ⊎_elim (λ (g : eqb q p ≡ true). let e = eqb-true q p g in (subst (λ (x : ℕ). level s s.top x ≡ true) e h, inl e)) (down (λ b. reaches_in_force s k b p)) (or_cases (eqb q p) (any_of (λ b. reaches s k b p) (chosen_body s q)) r)
  where
    down : ((b : ℕ) → level s s.top b ≡ true → reaches s k b p ≡ true → (level s s.top p ≡ true) × ((b ≡ p) ⊎ (rank s p < rank s b))) → any_of (λ b. reaches s k b p) (chosen_body s q) ≡ true → (level s s.top p ≡ true) × ((q ≡ p) ⊎ (rank s p < rank s q))
    down ih g =
        let a = any_at (λ b. reaches s k b p) (chosen_body s q) g in
        let l = all_nth (λ b. rank s b < rank s q) (chosen_body s q) a.0 a.1 a.2 (body_shorter s q h) in
        let t = ih a.1 (body_in_force s q a.1 h l) a.3 in
        (t.0, ⊎_elim (λ (e : a.1 ≡ p). inr (subst (λ (x : ℕ). rank s x < rank s q) e l)) (λ (m : rank s p < rank s a.1). inr (omega arith)) t.1)

pub reaches_more : (s : Sheet) (k q p i b : ℕ) → reaches s k q p ≡ true → slice_get (chosen_body s p) i ≡ Some b → reaches s (suc k) q b ≡ true
reaches_more s k q p i b r e = go k q r
  where
    here : (k x : ℕ) → eqb x p ≡ true → reaches s (suc k) x b ≡ true
    here k x g = or_right (eqb x b) _ (any_from (λ y. reaches s k y b) (chosen_body s x) i b (ap (λ (z : ℕ). slice_get (chosen_body s z) i) (eqb-true x p g) ∙ e) (reaches_self s k b))

    go : (k x : ℕ) → reaches s k x p ≡ true → reaches s (suc k) x b ≡ true
    go zero x r = here zero x r
    go (suc k) x r = ⊎_elim (here (suc k) x) (λ g. let a = any_at (λ y. reaches s k y p) (chosen_body s x) g in or_right (eqb x b) _ (any_from (λ y. reaches s (suc k) y b) (chosen_body s x) a.0 a.1 a.2 (go k a.1 a.3))) (or_cases (eqb x p) (any_of (λ y. reaches s k y p) (chosen_body s x)) r)

-- chains of chosen clauses are no longer than the rank
pub reaches_fuel : (s : Sheet) (j k q p : ℕ) → level s s.top q ≡ true → rank s q ≤ suc k → reaches s j q p ≡ true → reaches s k q p ≡ true
reaches_fuel s j zero q p h l r = ⊎_elim (λ (e : q ≡ p). eq-eqb q p e) (λ (m : rank s p < rank s q). let w : ⊥ = omega (arith, rank_pos s p) in absurd w) (reaches_in_force s j q p h r).1
reaches_fuel s zero (suc k) q p h l r = or_left (eqb q p) _ r
reaches_fuel s (suc j) (suc k) q p h l r = ⊎_elim (λ (g : eqb q p ≡ true). or_left (eqb q p) _ g) (down (λ b. reaches_fuel s j k b p)) (or_cases (eqb q p) (any_of (λ b. reaches s j b p) (chosen_body s q)) r)
  where
    down : ((b : ℕ) → level s s.top b ≡ true → rank s b ≤ suc k → reaches s j b p ≡ true → reaches s k b p ≡ true) → any_of (λ b. reaches s j b p) (chosen_body s q) ≡ true → reaches s (suc k) q p ≡ true
    down ih g =
        let a = any_at (λ b. reaches s j b p) (chosen_body s q) g in
        let m = all_nth (λ b. rank s b < rank s q) (chosen_body s q) a.0 a.1 a.2 (body_shorter s q h) in
        or_right (eqb q p) _ (any_from (λ b. reaches s k b p) (chosen_body s q) a.0 a.1 a.2 (ih a.1 (body_in_force s q a.1 h m) (omega arith) a.3))

pub needed_body : (s : Sheet) (q p : ℕ) → level s s.top q ≡ true → needed s q p ≡ true → AllByRecursion (λ b. needed s q b ≡ true) (chosen_body s p)
needed_body s q p h r = all_by_nth (λ b. needed s q b ≡ true) (chosen_body s p) (λ i b e. reaches_fuel s (suc s.top) s.top q b h (omega (arith, rank_below s s.top q h)) (reaches_more s s.top q p i b r e))

-- the conditions that q needs, up to a rank, are in good order
pub good_ordered : (s : Sheet) → Lawful s → (q : ℕ) → level s s.top q ≡ true → (d : ℕ) → Good s (ordered s q d)
good_ordered s w q h zero = good_none s
good_ordered s w q h (suc d) = go (good_ordered s w q h d) s.top
  where
    f : ℕ → Bool
    f y = needed s q y && eqb (rank s y) (suc d)

    A : List ℕ
    A = ordered s q d

    add : (n : ℕ) → f (suc n) ≡ true → Good s (A ++ listed f n) → Good s ((A ++ listed f n) ++ suc n ∷ [])
    add n e g = good_push s (A ++ listed f n) (suc n) inforce fresh body (all_by_mem (λ y. Before s y (suc n)) (A ++ listed f n) before) g
      where
        parts : (needed s q (suc n) ≡ true) × (eqb (rank s (suc n)) (suc d) ≡ true)
        parts = and_parts _ _ e

        at_d : rank s (suc n) ≡ suc d
        at_d = eqb-true _ _ parts.1

        inforce : level s s.top (suc n) ≡ true
        inforce = (reaches_in_force s s.top q (suc n) h parts.0).0

        split : (y : ℕ) → mem (A ++ listed f n) y ≡ true → (rank s y ≤ d) ⊎ ((rank s y ≡ suc d) × (y ≤ n))
        split y k = ⊎_elim (λ a. inl (ordered_holds s q d y a).1) (λ b. let r = listed_holds f n y b in inr (eqb-true _ _ (and_parts (needed s q y) _ r.0).1, r.2)) (or_cases _ _ (sym (any_append (λ z. eqb z y) A (listed f n)) ∙ k))

        before : (y : ℕ) → mem (A ++ listed f n) y ≡ true → Before s y (suc n)
        before y k = ⊎_elim (λ (a : rank s y ≤ d). inl (omega (arith, at_d))) (λ (a : (rank s y ≡ suc d) × (y ≤ n)). inr (omega (arith, at_d), omega arith)) (split y k)

        fresh : mem (A ++ listed f n) (suc n) ≡ false
        fresh = ⊎_elim (λ (k : mem (A ++ listed f n) (suc n) ≡ true). ⊎_elim (λ (a : rank s (suc n) ≤ d). let z : ⊥ = omega (arith, at_d) in absurd z) (λ (a : (rank s (suc n) ≡ suc d) × (suc n ≤ n)). let z : ⊥ = omega arith in absurd z) (split (suc n) k)) (λ k. k) (cases_Bool (mem (A ++ listed f n) (suc n)))

        inside : (b : ℕ) → needed s q b ≡ true → rank s b < rank s (suc n) → mem (A ++ listed f n) b ≡ true
        inside b u v = any_append (λ z. eqb z b) A (listed f n) ∙ or_left _ _ (ordered_has s q d b (level_condition s w s.top b (reaches_in_force s s.top q b h u).0) u (omega (arith, at_d)))

        body : AllByRecursion (λ b. mem (A ++ listed f n) b ≡ true) (chosen_body s (suc n))
        body = all_both (λ b. needed s q b ≡ true) (λ b. rank s b < rank s (suc n)) (λ b. mem (A ++ listed f n) b ≡ true) inside (chosen_body s (suc n)) (needed_body s q (suc n) h parts.0) (body_shorter s (suc n) inforce)

    next : (n : ℕ) (b : Bool) → f (suc n) ≡ b → Good s (A ++ listed f n) → Good s (A ++ (listed f n ++ cond b (suc n ∷ []) []))
    next n true e g = subst (Good s) (append_assoc A (listed f n) (suc n ∷ [])) (add n e g)
    next n false e g = subst (λ (l : List ℕ). Good s (A ++ l)) (sym (append-nil (listed f n))) g

    go : Good s A → (n : ℕ) → Good s (A ++ listed f n)
    go g zero = subst (Good s) (sym (append-nil A)) g
    go g (suc n) = next n (f (suc n)) refl (go g n)

-- the last of them is q itself
listed_one : (f : ℕ → Bool) (q : ℕ) → f q ≡ true → ((p : ℕ) → f p ≡ true → p ≡ q) → 1 ≤ q → (n : ℕ) → ((n < q) × (listed f n ≡ [])) ⊎ ((q ≤ n) × (listed f n ≡ q ∷ []))
listed_one f q h only l zero = inl (l, refl)
listed_one f q h only l (suc n) = step (f (suc n)) refl (listed_one f q h only l n)
  where
    step : (b : Bool) → f (suc n) ≡ b → ((n < q) × (listed f n ≡ [])) ⊎ ((q ≤ n) × (listed f n ≡ q ∷ [])) → ((suc n < q) × (listed f n ++ cond b (suc n ∷ []) [] ≡ [])) ⊎ ((q ≤ suc n) × (listed f n ++ cond b (suc n ∷ []) [] ≡ q ∷ []))
    step true e (inl r) = let x = only (suc n) e in inr (omega arith, ap (λ (z : List ℕ). z ++ suc n ∷ []) r.1 ∙ ap (λ (z : ℕ). z ∷ []) x)
    step true e (inr r) = let x = only (suc n) e in let z : ⊥ = omega arith in absurd z
    step false e (inl r) = ⊎_elim (λ (m : suc n < q). inl (m, append-nil (listed f n) ∙ r.1)) (λ (m : q ≤ suc n). absurd (both_ways _ e (ap f (let x : suc n ≡ q = omega arith in x) ∙ h))) (cases_lt (suc n) q)
    step false e (inr r) = inr (omega arith, append-nil (listed f n) ∙ r.1)

pub ordered_last : (s : Sheet) → Lawful s → (q : ℕ) → level s s.top q ≡ true → (d : ℕ) → rank s q ≡ suc d → ordered s q (suc d) ≡ ordered s q d ++ q ∷ []
ordered_last s w q h d e = ap (λ (l : List ℕ). ordered s q d ++ l) (⊎_elim (λ (r : (s.top < q) × (listed f s.top ≡ [])). let z : ⊥ = omega (arith, cond_q.1) in absurd z) (λ (r : (q ≤ s.top) × (listed f s.top ≡ q ∷ [])). r.1) (listed_one f q (and_from _ _ (reaches_self s s.top q) (eq-eqb _ _ e)) only cond_q.0 s.top))
  where
    f : ℕ → Bool
    f y = needed s q y && eqb (rank s y) (suc d)

    cond_q : Condition s q
    cond_q = level_condition s w s.top q h

    only : (p : ℕ) → f p ≡ true → p ≡ q
    only p k = let r = and_parts (needed s q p) (eqb (rank s p) (suc d)) k in ⊎_elim (λ (x : q ≡ p). sym x) (λ (x : rank s p < rank s q). let z : ⊥ = omega (arith, eqb-true (rank s p) (suc d) r.1) in absurd z) (reaches_in_force s s.top q p h r.0).1

-- the explanation of a condition in force
pub explanation_pebbles : (s : Sheet) → Lawful s → (q : ℕ) → level s s.top q ≡ true → Pebbling s q (explanation s q) × (lengths s (explanation s q) q ≡ rank s q)
explanation_pebbles s w q h = (record { steps = g.steps; some_step = some; ends = ends }, g.lens q (subst (λ (l : List ℕ). mem l q ≡ true) (sym last) (any_append (λ y. eqb y q) A (q ∷ []) ∙ or_right (mem A q) _ (or_left (eqb q q) false (eq-eqb q q refl)))))
  where
    r : ℕ
    r = least (λ j. level s (suc j) q) s.top

    A : List ℕ
    A = ordered s q r

    g : Good s (ordered s q (rank s q))
    g = good_ordered s w q h (rank s q)

    last : ordered s q (rank s q) ≡ A ++ q ∷ []
    last = ordered_last s w q h r refl

    is_push : explanation s q ≡ map (chosen s) A ++ chosen s q ∷ []
    is_push = ap (map (chosen s)) last ∙ map_push (chosen s) A q

    some : 0 < length (explanation s q)
    some = rw is_push (omega (arith, length_push (map (chosen s) A) (chosen s q)))

    ends : step_gives s (get_or (explanation s q) (length (explanation s q) - 1) 0) q ≡ true
    ends = subst (λ (l : List ℕ). step_gives s (get_or l (length l - 1) 0) q ≡ true) (sym is_push) (ap (λ (n : ℕ). step_gives s n q) (get_or_push (map (chosen s) A) (chosen s q) 0 (length (map (chosen s) A ++ chosen s q ∷ []) - 1) (omega (arith, length_push (map (chosen s) A) (chosen s q)))) ∙ chosen_gives s q q h ∙ eq-eqb q q refl)
