-- The theorems about choices and pebblings.
-- Assumes nothing.
use Rattle.std.proofs.Common.{◌≡◌, ℕ, suc, ◌≤◌, Bool, true, false, not, ◌&&◌, ◌||◌, ◌⊎◌, List, [], ◌∷◌, Some, None, Option, sym, refl, ap, ◌∙◌, inl, inr, ⊎_elim, arith}
use Rattle.std.specs.List.{slice_get, AllByRecursion}
use Rattle.std.proofs.ByRecursion.{All-weaker}
use Rattle.std.proofs.lemmas.Bool.{both_ways, or_left, or_right, cases_Bool, or_from, or_parts}
use Rattle.horn.specs.Sheets.{all_of, any_of, Clause, Sheet, Lawful, Choice, satisfies, Satisfies, holds_outcome}
use Rattle.horn.specs.Pebblings.{Pebbling, InForce, Broken, lengths}
use Rattle.horn.specs.Levels.{level, in_force, rank, explanation}
use Rattle.horn.specs.Claims
use Rattle.horn.proofs.Tests.{all_true, all_from, all_by_nth, all_nth}
use Rattle.horn.proofs.Forced.{forced, none_lacked, at_clause}
use Rattle.horn.proofs.Levels.{level_more, level_mono, level_condition, levels_stop, levels_hold, rank_below, outcome_gives}
use Rattle.horn.proofs.Explained.{explanation_pebbles}

pub in_force_has : (s : Sheet) → Lawful s → (q : ℕ) → InForce s q → in_force s q ≡ true
in_force_has s w q f = levels_stop s w (lengths s f.0 q) q (levels_hold s q f.0 f.1)

pub in_force_is : (s : Sheet) → Lawful s → (q : ℕ) → in_force s q ≡ true → InForce s q
in_force_is s w q h = (explanation s q, (explanation_pebbles s w q h).0)

pub decided : Claims.Decided
decided s w q = (in_force_is s w q, in_force_has s w q)

pub levelled : Claims.Levelled
levelled s w k q = (there, λ f. level_mono s (lengths s f.0 q) k q f.2 (levels_hold s q f.0 f.1))
  where
    there : level s k q ≡ true → (ns : List ℕ) × Pebbling s q ns × (lengths s ns q ≤ k)
    there h = let e = explanation_pebbles s w q (levels_stop s w k q h) in (explanation s q, e.0, omega (arith, e.1, rank_below s k q h))

pub rank_least : (s : Sheet) (q : ℕ) (ns : List ℕ) → Pebbling s q ns → rank s q ≤ lengths s ns q
rank_least s q ns h = rank_below s (lengths s ns q) q (levels_hold s q ns h)

pub ranked : Claims.Ranked
ranked s w q f = let e = explanation_pebbles s w q (in_force_has s w q f) in record { pebbling = (explanation s q, e.0, e.1); least = rank_least s q }

pub explained : Claims.Explained
explained s w q f = let e = explanation_pebbles s w q (in_force_has s w q f) in (e.0, e.1, λ ns h. omega (arith, e.1, rank_least s q ns h))

-- a set either lacks a condition of the list or holds them all
lacks_or_all : (v : ℕ → Bool) (ps : List ℕ) → (any_of (λ p. not (v p)) ps ≡ true) ⊎ AllByRecursion (λ p. v p ≡ true) ps
lacks_or_all v [] = inr tt
lacks_or_all v (p ∷ ps) = step (v p) refl (lacks_or_all v ps)
  where
    step : (b : Bool) → v p ≡ b → (any_of (λ p. not (v p)) ps ≡ true) ⊎ AllByRecursion (λ p. v p ≡ true) ps → ((not b || any_of (λ p. not (v p)) ps) ≡ true) ⊎ ((v p ≡ true) × AllByRecursion (λ p. v p ≡ true) ps)
    step true e (inl h) = inl h
    step true e (inr h) = inr (e, h)
    step false e r = inl refl

pub closed : Claims.Closed
closed s w = all_by_nth (λ c. (q : ℕ) → c.outcome ≡ Some q → satisfies (in_force s) c ≡ true) s.clauses step
  where
    step : (i : ℕ) (c : Clause) → slice_get s.clauses i ≡ Some c → (q : ℕ) → c.outcome ≡ Some q → satisfies (in_force s) c ≡ true
    step i c e q o = ⊎_elim (λ (h : any_of (λ p. not (in_force s p)) c.body ≡ true). or_left _ _ h) (λ (h : AllByRecursion (λ p. in_force s p ≡ true) c.body). or_right (any_of (λ p. not (in_force s p)) c.body) _ (ap (holds_outcome (in_force s)) o ∙ levels_stop s w (suc s.top) q (level_more s s.top q i c e (outcome_gives c q o) (all_from (in_force s) c.body h)))) (lacks_or_all (in_force s) c.body)

-- the set of the conditions in force, as a choice
abbrev pub standing : (s : Sheet) → Lawful s → Choice s
standing s w = record { holds = in_force s; within = level_condition s w s.top }

-- it satisfies the sheet, or a ban is broken
pub standing_or_broken : (s : Sheet) → Lawful s → AllByRecursion (λ c. satisfies (in_force s) c ≡ true) s.clauses ⊎ ((n : ℕ) × Broken s n)
standing_or_broken s w = ⊎_elim (λ (h : all_of (satisfies (in_force s)) s.clauses ≡ true). inl (all_true (satisfies (in_force s)) s.clauses h)) (λ h. inr (found h)) (cases_Bool (all_of (satisfies (in_force s)) s.clauses))
  where
    failing : (cs : List Clause) → all_of (satisfies (in_force s)) cs ≡ false → (i : ℕ) × (c : Clause) × (slice_get cs i ≡ Some c) × (satisfies (in_force s) c ≡ false)
    failing [] h = absurd (both_ways true h refl)
    failing (c ∷ cs) h = ⊎_elim (λ (e : satisfies (in_force s) c ≡ true). let r = failing cs (sym (ap (λ (b : Bool). b && all_of (satisfies (in_force s)) cs) e) ∙ h) in (suc r.0, r.1, r.2, r.3)) (λ (e : satisfies (in_force s) c ≡ false). (0, c, refl, e)) (cases_Bool (satisfies (in_force s) c))

    ban : (i : ℕ) (c : Clause) → slice_get s.clauses i ≡ Some c → satisfies (in_force s) c ≡ false → (o : Option ℕ) → c.outcome ≡ o → c.outcome ≡ None
    ban i c e f None o = o
    ban i c e f (Some q) o = absurd (both_ways _ f (all_nth (λ c. (q : ℕ) → c.outcome ≡ Some q → satisfies (in_force s) c ≡ true) s.clauses i c e (closed s w) q o))

    found : all_of (satisfies (in_force s)) s.clauses ≡ false → (n : ℕ) × Broken s n
    found h =
        let r = failing s.clauses h in
        (suc r.0, record { clause = r.1; numbers = r.2; ban = ban r.0 r.1 r.2 r.3 r.1.outcome refl; in_force = ⊎_elim (λ (a : any_of (λ p. not (in_force s p)) r.1.body ≡ true). absurd (both_ways _ (or_parts _ _ r.3).0 a)) (λ (a : AllByRecursion (λ p. in_force s p ≡ true) r.1.body). All-weaker (λ p. in_force s p ≡ true) (InForce s) (in_force_is s w) r.1.body a) (lacks_or_all (in_force s) r.1.body) })

-- a broken ban is satisfied by no choice
pub broken_never : (s : Sheet) (n : ℕ) → Broken s n → (v : Choice s) → Satisfies s v → ⊥
broken_never s n b v sat = both_ways _ (or_from _ _ (none_lacked v.holds b.clause.body (All-weaker (InForce s) (λ p. v.holds p ≡ true) (forced s v sat) b.clause.body b.in_force)) (ap (holds_outcome v.holds) b.ban)) (at_clause s (λ c. satisfies v.holds c ≡ true) n b.clause b.numbers sat)

pub contradicted : Claims.Contradicted
contradicted s w = (λ no-choice. ⊎_elim (λ sat. absurd (no-choice (standing s w) sat)) (λ b. b) (standing_or_broken s w), λ b. broken_never s b.0 b.1)

pub entailed : Claims.Entailed
entailed s w v sat q = (λ f u us. forced s u us q f, λ every. in_force_is s w q (every (standing s w) (⊎_elim (λ x. x) (λ (b : (n : ℕ) × Broken s n). absurd (broken_never s b.0 b.1 v sat)) (standing_or_broken s w))))
