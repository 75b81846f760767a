-- The levels of a sheet: they grow, stop at `top`, and hold what has a pebbling.
-- Assumes nothing.
use Rattle.std.proofs.Common.{◌≡◌, ℕ, zero, suc, ◌<◌, ◌≤◌, max, Bool, true, false, cond, ◌&&◌, ◌||◌, ◌⊎◌, List, [], ◌∷◌, ◌++◌, Some, None, Option, sym, refl, ap, ◌∙◌, subst, inl, inr, ⊎_elim, arith}
use mathlib.Core.Path.{fun_ext}
use Rattle.std.specs.List.{slice_get, AllByRecursion}
use Rattle.std.proofs.ByRecursion.{All-weaker}
use Rattle.std.proofs.lemmas.Bool.{and_parts, and_from, or_cases, both_ways, cases_lt, cases_Bool, or_from, eqb-true, eq-eqb, cond-true, cond-false}
use Rattle.horn.specs.Sheets.{all_of, any_of, Clause, Sheet, Lawful, Condition, gives, is, clause_at, outcome_of, body_of}
use Rattle.horn.specs.Pebblings.{step_gives, given, Allowed, Steps, longest, lengths, lengths_from, lengths_after}
use Rattle.horn.specs.Levels.{level, how_many, least, rank}
use Rattle.horn.specs.Claims
use Rattle.horn.proofs.Tests.{all_true, all_from, any_at, any_from, all_nth, none_some}
use Rattle.horn.proofs.Forced.{given_push, steps_ind, allowed_gives, ends_given}

pub bool_same : (a b : Bool) → (a ≡ true → b ≡ true) → (b ≡ true → a ≡ true) → a ≡ b
bool_same true true f g = refl
bool_same true false f g = sym (f refl)
bool_same false true f g = g refl
bool_same false false f g = refl

pub all_of_weaker : (f g : ℕ → Bool) → ((p : ℕ) → f p ≡ true → g p ≡ true) → (ps : List ℕ) → all_of f ps ≡ true → all_of g ps ≡ true
all_of_weaker f g h ps e = all_from g ps (All-weaker (λ p. f p ≡ true) (λ p. g p ≡ true) h ps (all_true f ps e))

-- a clause of the sheet whose body is in a level puts its outcome into the next
pub level_more : (s : Sheet) (k q i : ℕ) (c : Clause) → slice_get s.clauses i ≡ Some c → gives c q ≡ true → all_of (level s k) c.body ≡ true → level s (suc k) q ≡ true
level_more s k q i c e g b = any_from (λ c. gives c q && all_of (level s k) c.body) s.clauses i c e (and_from (gives c q) (all_of (level s k) c.body) g b)

-- and so is everything in a level
pub level_clause : (s : Sheet) (k q : ℕ) → level s (suc k) q ≡ true → (i : ℕ) × (c : Clause) × (slice_get s.clauses i ≡ Some c) × (gives c q ≡ true) × (all_of (level s k) c.body ≡ true)
level_clause s k q h =
    let r = any_at (λ c. gives c q && all_of (level s k) c.body) s.clauses h in
    let e = and_parts (gives r.1 q) (all_of (level s k) r.1.body) r.3 in
    (r.0, r.1, r.2, e.0, e.1)

pub level_next : (s : Sheet) (k q : ℕ) → level s k q ≡ true → level s (suc k) q ≡ true
level_next s zero q h = absurd (both_ways false refl h)
level_next s (suc k) q h =
    let r = level_clause s k q h in
    level_more s (suc k) q r.0 r.1 r.2 r.3 (all_of_weaker (level s k) (level s (suc k)) (level_next s k) r.1.body r.4)

pub level_mono : (s : Sheet) (j k q : ℕ) → j ≤ k → level s j q ≡ true → level s k q ≡ true
level_mono s j zero q l h = subst (λ n. level s n q ≡ true) (let e : j ≡ 0 = omega arith in e) h
level_mono s j (suc k) q l h = ⊎_elim (λ (m : j < suc k). level_next s k q (level_mono s j k q (omega arith) h)) (λ (m : suc k ≤ j). subst (λ n. level s n q ≡ true) (let e : j ≡ suc k = omega arith in e) h) (cases_lt j (suc k))

-- the outcome of a clause
pub gives_outcome : (c : Clause) (q : ℕ) → gives c q ≡ true → c.outcome ≡ Some q
gives_outcome c q h = go c.outcome h
  where
    go : (o : Option ℕ) → is o q ≡ true → o ≡ Some q
    go None e = absurd (both_ways false refl e)
    go (Some p) e = ap Some (eqb-true p q e)

pub outcome_gives : (c : Clause) (q : ℕ) → c.outcome ≡ Some q → gives c q ≡ true
outcome_gives c q e = ap (λ (o : Option ℕ). is o q) e ∙ eq-eqb q q refl

pub level_condition : (s : Sheet) → Lawful s → (k q : ℕ) → level s k q ≡ true → Condition s q
level_condition s w zero q h = absurd (both_ways false refl h)
level_condition s w (suc k) q h =
    let r = level_clause s k q h in
    (all_nth (Rattle.horn.specs.Sheets.LawfulClause s) s.clauses r.0 r.1 r.2 w).outcomes q (gives_outcome r.1 q r.3)

-- counting
pub how_many_le : (f : ℕ → Bool) (n : ℕ) → how_many f n ≤ n
how_many_le f zero = omega arith
how_many_le f (suc n) = let h = how_many_le f n in elim (f (suc n)) as (λ b. cond b (suc (how_many f n)) (how_many f n) ≤ suc n) [ true ↦ omega arith | false ↦ omega arith ]

abbrev Within : (ℕ → Bool) → (ℕ → Bool) → ℕ → Type 0
Within f g n = ((p : ℕ) → 1 ≤ p → p ≤ n → g p ≡ true → f p ≡ true) × (how_many f n ≤ how_many g n)

how_many_grows : (f g : ℕ → Bool) → ((p : ℕ) → f p ≡ true → g p ≡ true) → (n : ℕ) → Within f g n ⊎ (how_many f n < how_many g n)
how_many_grows f g h zero = inl ((λ p a b e. let k : ⊥ = omega arith in absurd k), omega arith)
how_many_grows f g h (suc n) = step (f (suc n)) (g (suc n)) refl refl (how_many_grows f g h n)
  where
    upto : Within f g n → (g (suc n) ≡ true → f (suc n) ≡ true) → (p : ℕ) → 1 ≤ p → p ≤ suc n → g p ≡ true → f p ≡ true
    upto k last p l m x = ⊎_elim (λ (y : p < suc n). k.0 p l (omega arith) x) (λ (y : suc n ≤ p). let e : p ≡ suc n = omega arith in ap f e ∙ last (sym (ap g e) ∙ x)) (cases_lt p (suc n))

    step : (a b : Bool) → f (suc n) ≡ a → g (suc n) ≡ b → Within f g n ⊎ (how_many f n < how_many g n) → (((p : ℕ) → 1 ≤ p → p ≤ suc n → g p ≡ true → f p ≡ true) × (cond a (suc (how_many f n)) (how_many f n) ≤ cond b (suc (how_many g n)) (how_many g n))) ⊎ (cond a (suc (how_many f n)) (how_many f n) < cond b (suc (how_many g n)) (how_many g n))
    step true true e d (inl k) = inl (upto k (λ _. e), omega arith)
    step true true e d (inr k) = inr (omega arith)
    step true false e d k = absurd (both_ways _ d (h (suc n) e))
    step false true e d (inl k) = inr (omega arith)
    step false true e d (inr k) = inr (omega arith)
    step false false e d (inl k) = inl (upto k (λ x. absurd (both_ways _ d x)), k.1)
    step false false e d (inr k) = inr k

-- two levels are the same, or the later one has more conditions
level_grows : (s : Sheet) → Lawful s → (k : ℕ) → (level s (suc k) ≡ level s k) ⊎ (how_many (level s k) s.top < how_many (level s (suc k)) s.top)
level_grows s w k = step (how_many_grows (level s k) (level s (suc k)) (level_next s k) s.top)
  where
    step : Within (level s k) (level s (suc k)) s.top ⊎ (how_many (level s k) s.top < how_many (level s (suc k)) s.top) → (level s (suc k) ≡ level s k) ⊎ (how_many (level s k) s.top < how_many (level s (suc k)) s.top)
    step (inl e) = inl (fun_ext (λ p. bool_same (level s (suc k) p) (level s k p) (λ h. let c = level_condition s w (suc k) p h in e.0 p c.0 c.1 h) (level_next s k p)))
    step (inr l) = inr l

level_stays : (s : Sheet) (k : ℕ) → level s (suc k) ≡ level s k → level s (suc (suc k)) ≡ level s (suc k)
level_stays s k e = ap {B = ℕ → Bool} (λ (f : ℕ → Bool) q. any_of (λ c. gives c q && all_of f c.body) s.clauses) e

level_full : (s : Sheet) → Lawful s → (k : ℕ) → (level s (suc k) ≡ level s k) ⊎ (k < how_many (level s (suc k)) s.top)
level_full s w zero = ⊎_elim inl (λ l. inr (omega arith)) (level_grows s w zero)
level_full s w (suc k) = ⊎_elim (λ e. inl (level_stays s k e)) (λ (l : k < how_many (level s (suc k)) s.top). ⊎_elim inl (λ (m : how_many (level s (suc k)) s.top < how_many (level s (suc (suc k))) s.top). inr (omega arith)) (level_grows s w (suc k))) (level_full s w k)

level_top : (s : Sheet) → Lawful s → level s (suc s.top) ≡ level s s.top
level_top s w = ⊎_elim (λ e. e) (λ (l : s.top < how_many (level s (suc s.top)) s.top). let k : ⊥ = omega (arith, how_many_le (level s (suc s.top)) s.top) in absurd k) (level_full s w s.top)

level_past : (s : Sheet) → Lawful s → (k : ℕ) → s.top ≤ k → level s (suc k) ≡ level s k
level_past s w zero l = subst (λ (n : ℕ). level s (suc n) ≡ level s n) (let e : s.top ≡ 0 = omega arith in e) (level_top s w)
level_past s w (suc k) l = ⊎_elim (λ (m : s.top < suc k). level_stays s k (level_past s w k (omega arith))) (λ (m : suc k ≤ s.top). subst (λ (n : ℕ). level s (suc n) ≡ level s n) (let e : s.top ≡ suc k = omega arith in e) (level_top s w)) (cases_lt s.top (suc k))

pub levels_stop : Claims.LevelsStop
levels_stop s w zero q h = absurd (both_ways false refl h)
levels_stop s w (suc k) q h = ⊎_elim (λ (m : k < s.top). level_mono s (suc k) s.top q m h) (λ (m : s.top ≤ k). levels_stop s w k q (sym (ap (λ (f : ℕ → Bool). f q) (level_past s w k m)) ∙ h)) (cases_lt k s.top)

-- a pebbling's lengths with one step more
pub lengths_push : (s : Sheet) (t : ℕ → ℕ) (ns : List ℕ) (n : ℕ) → lengths_from s t (ns ++ n ∷ []) ≡ lengths_after s (lengths_from s t ns) n
lengths_push s t [] n = refl
lengths_push s t (m ∷ ns) n = lengths_push s (lengths_after s t m) ns n

pub lengths_here : (s : Sheet) (t : ℕ → ℕ) (n p : ℕ) (c : Clause) → clause_at s n ≡ Some c → step_gives s n p ≡ true → lengths_after s t n p ≡ suc (longest t c.body)
lengths_here s t n p c e g = cond-true (step_gives s n p) (suc (longest t (body_of (clause_at s n)))) (t p) g ∙ ap (λ (o : Option Clause). suc (longest t (body_of o))) e

pub lengths_other : (s : Sheet) (t : ℕ → ℕ) (n p : ℕ) → step_gives s n p ≡ false → lengths_after s t n p ≡ t p
lengths_other s t n p g = cond-false (step_gives s n p) (suc (longest t (body_of (clause_at s n)))) (t p) g

pub level_at : (s : Sheet) (k q n : ℕ) (c : Clause) → clause_at s n ≡ Some c → c.outcome ≡ Some q → all_of (level s k) c.body ≡ true → level s (suc k) q ≡ true
level_at s k q zero c e g b = absurd (none_some e)
level_at s k q (suc n) c e g b = level_more s k q n c e (outcome_gives c q g) b

pub longest_at : (t : ℕ → ℕ) (ps : List ℕ) → AllByRecursion (λ p. t p ≤ longest t ps) ps
longest_at t [] = tt
longest_at t (p ∷ ps) = (omega arith, All-weaker (λ x. t x ≤ longest t ps) (λ x. t x ≤ max (t p) (longest t ps)) (λ x h. omega arith) ps (longest_at t ps))

pub all_both : (P Q R : ℕ → Type 0) → ((p : ℕ) → P p → Q p → R p) → (ps : List ℕ) → AllByRecursion P ps → AllByRecursion Q ps → AllByRecursion R ps
all_both P Q R h [] a b = tt
all_both P Q R h (p ∷ ps) a b = (h p a.0 b.0, all_both P Q R h ps a.1 b.1)

pub given_before : (s : Sheet) (ns : List ℕ) (n p : ℕ) → step_gives s n p ≡ false → given s (ns ++ n ∷ []) p ≡ true → given s ns p ≡ true
given_before s ns n p g e = ⊎_elim (λ h. h) (λ (k : (step_gives s n p || false) ≡ true). absurd (both_ways _ (or_from _ _ g refl) k)) (or_cases _ _ (sym (given_push s ns n p) ∙ e))

pub in_level : (s : Sheet) (ns : List ℕ) → Steps s ns → (p : ℕ) → given s ns p ≡ true → level s (lengths s ns p) p ≡ true
in_level s = steps_ind s (λ ns. (p : ℕ) → given s ns p ≡ true → level s (lengths s ns p) p ≡ true) (λ p e. absurd (both_ways false refl e)) more
  where
    more : (ns : List ℕ) (n : ℕ) → Allowed s ns n → ((p : ℕ) → given s ns p ≡ true → level s (lengths s ns p) p ≡ true) → (p : ℕ) → given s (ns ++ n ∷ []) p ≡ true → level s (lengths s (ns ++ n ∷ []) p) p ≡ true
    more ns n a ih p e = subst (λ (t : ℕ → ℕ). level s (t p) p ≡ true) (sym (lengths_push s (λ _. 0) ns n)) (⊎_elim here there (cases_Bool (step_gives s n p)))
      where
        L : ℕ
        L = longest (lengths s ns) a.clause.body

        body : all_of (level s L) a.clause.body ≡ true
        body = all_from (level s L) a.clause.body (all_both (λ x. given s ns x ≡ true) (λ x. lengths s ns x ≤ L) (λ x. level s L x ≡ true) (λ x g l. level_mono s (lengths s ns x) L x l (ih x g)) a.clause.body a.ready (longest_at (lengths s ns) a.clause.body))

        here : step_gives s n p ≡ true → level s (lengths_after s (lengths s ns) n p) p ≡ true
        here g = subst (λ (m : ℕ). level s m p ≡ true) (sym (lengths_here s (lengths s ns) n p a.clause a.numbers g)) (level_at s L p n a.clause a.numbers (a.no_ban ∙ ap Some (eqb-true _ _ (sym (allowed_gives s ns n a p) ∙ g))) body)

        there : step_gives s n p ≡ false → level s (lengths_after s (lengths s ns) n p) p ≡ true
        there g = subst (λ (m : ℕ). level s m p ≡ true) (sym (lengths_other s (lengths s ns) n p g)) (ih p (given_before s ns n p g e))

pub levels_hold : Claims.LevelsHold
levels_hold s q ns h = in_level s ns h.steps q (ends_given s q ns h)

-- the least number that passes a test
pub least_below : (f : ℕ → Bool) (n k : ℕ) → f k ≡ true → least f n ≤ k
least_below f zero k h = omega arith
least_below f (suc n) zero h = rw h (omega arith)
least_below f (suc n) (suc k) h = let r = least_below (λ j. f (suc j)) n k h in elim (f zero) as (λ b. cond b zero (suc (least (λ j. f (suc j)) n)) ≤ suc k) [ true ↦ omega arith | false ↦ omega arith ]

pub least_passes : (f : ℕ → Bool) (n k : ℕ) → k < n → f k ≡ true → f (least f n) ≡ true
least_passes f zero k l h = let w : ⊥ = omega arith in absurd w
least_passes f (suc n) zero l h = rw h h
least_passes f (suc n) (suc k) l h = step (f zero) refl (least_passes (λ j. f (suc j)) n k (omega arith) h)
  where
    step : (b : Bool) → f zero ≡ b → f (suc (least (λ j. f (suc j)) n)) ≡ true → f (cond b zero (suc (least (λ j. f (suc j)) n))) ≡ true
    step true e r = e
    step false e r = r

pub rank_below : (s : Sheet) (k q : ℕ) → level s k q ≡ true → rank s q ≤ k
rank_below s k q h = least_below (λ j. level s j q) (suc s.top) k h

pub rank_level : (s : Sheet) (q : ℕ) → level s s.top q ≡ true → level s (rank s q) q ≡ true
rank_level s q h = least_passes (λ j. level s j q) (suc s.top) s.top (omega arith) h

pub rank_pos : (s : Sheet) (q : ℕ) → 1 ≤ rank s q
rank_pos s q = omega arith

pub least_in : (f : ℕ → Bool) (n : ℕ) → least f n < n → f (least f n) ≡ true
least_in f zero l = let w : ⊥ = omega arith in absurd w
least_in f (suc n) l = step (f zero) refl (least_in (λ j. f (suc j)) n) l
  where
    step : (b : Bool) → f zero ≡ b → (least (λ j. f (suc j)) n < n → f (suc (least (λ j. f (suc j)) n)) ≡ true) → cond b zero (suc (least (λ j. f (suc j)) n)) < suc n → f (cond b zero (suc (least (λ j. f (suc j)) n))) ≡ true
    step true e ih l = e
    step false e ih l = ih (omega arith)

-- a condition whose rank is at most `top` is in force
pub rank_in : (s : Sheet) (q : ℕ) → rank s q ≤ s.top → level s (rank s q) q ≡ true
rank_in s q l = least_in (λ j. level s j q) (suc s.top) (omega arith)

pub rank_top : (s : Sheet) (q : ℕ) → rank s q ≤ s.top → level s s.top q ≡ true
rank_top s q l = level_mono s (rank s q) s.top q l (rank_in s q l)
