-- Lists of steps, and what every choice that satisfies a sheet holds.
-- Assumes nothing.
use Rattle.std.proofs.Common.{◌≡◌, ℕ, zero, suc, ◌-◌, ◌<◌, ◌≤◌, Bool, true, false, not, ◌||◌, eqb, List, [], ◌∷◌, ◌++◌, length, get_or, take, Some, Option, sym, refl, ap, ◌∙◌, subst, ⊎_elim, arith, take_all, take-suc}
use lib.Seq.{take-append-le, take-append_seam}
use Rattle.std.specs.List.{AllByRecursion}
use Rattle.std.proofs.lemmas.List.{get_or_append_left, get_or_push, length_push}
use Rattle.std.proofs.ByRecursion.{All-weaker}
use Rattle.std.proofs.lemmas.Bool.{or_cases, both_ways, cases_lt, eqb-true}
use Rattle.horn.specs.Sheets.{any_of, Clause, Sheet, holds_outcome, satisfies, Keeps, clause_at, outcome_of, is}
use Rattle.horn.specs.Pebblings.{step_gives, given, Allowed, Steps, Pebbling}
use Rattle.horn.specs.Claims
use Rattle.horn.proofs.Tests.{all_nth, any_append, any_from}

-- what a list of steps gives with one step more
pub given_push : (s : Sheet) (ns : List ℕ) (n p : ℕ) → given s (ns ++ n ∷ []) p ≡ (given s ns p || (step_gives s n p || false))
given_push s ns n p = any_append (λ m. step_gives s m p) ns (n ∷ [])

-- induction along a list of steps
pub steps_ind : (s : Sheet) (P : List ℕ → Type 0) → P [] → ((ns : List ℕ) (n : ℕ) → Allowed s ns n → P ns → P (ns ++ n ∷ [])) → (ns : List ℕ) → Steps s ns → P ns
steps_ind s P base more ns h = subst P (take_all (length ns) ns (omega arith)) (go (length ns) (omega arith))
  where
    go : (i : ℕ) → i ≤ length ns → P (take i ns)
    go zero l = base
    go (suc i) l = rw (take-suc ns i 0 l) (more (take i ns) (get_or ns i 0) (h i l) (go i (omega arith)))

pub steps_push : (s : Sheet) (ns : List ℕ) (n : ℕ) → Steps s ns → Allowed s ns n → Steps s (ns ++ n ∷ [])
steps_push s ns n h a i l = ⊎_elim early late (cases_lt i (length ns))
  where
    early : i < length ns → Allowed s (take i (ns ++ n ∷ [])) (get_or (ns ++ n ∷ []) i 0)
    early k = rw (take-append-le i ns (n ∷ []) (omega arith), get_or_append_left ns (n ∷ []) 0 i k) (h i k)

    late : length ns ≤ i → Allowed s (take i (ns ++ n ∷ [])) (get_or (ns ++ n ∷ []) i 0)
    late k = let e : length ns ≡ i = omega (arith, length_push ns n) in
        rw (← e, take-append_seam ns (n ∷ []), get_or_push ns n 0 (length ns) refl) a

-- the outcome of an allowed step
pub allowed_gives : (s : Sheet) (ns : List ℕ) (n : ℕ) (a : Allowed s ns n) (p : ℕ) → step_gives s n p ≡ eqb a.outcome p
allowed_gives s ns n a p = ap (λ (o : Option Clause). is (outcome_of o) p) a.numbers ∙ ap (λ (o : Option ℕ). is o p) a.no_ban

pub none_lacked : (v : ℕ → Bool) (ps : List ℕ) → AllByRecursion (λ p. v p ≡ true) ps → any_of (λ p. not (v p)) ps ≡ false
none_lacked v [] h = refl
none_lacked v (p ∷ ps) h = rw h.0 (none_lacked v ps h.1)

-- a set that satisfies a clause and holds its body holds its outcome
pub fires : (v : ℕ → Bool) (c : Clause) (q : ℕ) → satisfies v c ≡ true → c.outcome ≡ Some q → AllByRecursion (λ p. v p ≡ true) c.body → v q ≡ true
fires v c q h e b = ⊎_elim lacks has (or_cases (any_of (λ p. not (v p)) c.body) (holds_outcome v c.outcome) h)
  where
    lacks : any_of (λ p. not (v p)) c.body ≡ true → v q ≡ true
    lacks k = absurd (both_ways _ (none_lacked v c.body b) k)

    has : holds_outcome v c.outcome ≡ true → v q ≡ true
    has k = sym (ap (holds_outcome v) e) ∙ k

-- the clause with a number keeps what all clauses keep
pub at_clause : (s : Sheet) (P : Clause → Type 0) (n : ℕ) (c : Clause) → clause_at s n ≡ Some c → AllByRecursion P s.clauses → P c
at_clause s P zero c e h = absurd (Rattle.horn.proofs.Tests.none_some e)
at_clause s P (suc n) c e h = all_nth P s.clauses n c e h

pub held : (s : Sheet) (v : ℕ → Bool) → Keeps s v → (ns : List ℕ) → Steps s ns → (p : ℕ) → given s ns p ≡ true → v p ≡ true
held s v keeps = steps_ind s (λ ns. (p : ℕ) → given s ns p ≡ true → v p ≡ true) (λ p e. absurd (both_ways false refl e)) more
  where
    more : (ns : List ℕ) (n : ℕ) → Allowed s ns n → ((p : ℕ) → given s ns p ≡ true → v p ≡ true) → (p : ℕ) → given s (ns ++ n ∷ []) p ≡ true → v p ≡ true
    more ns n a ih p e = ⊎_elim (ih p) here (or_cases _ _ (sym (given_push s ns n p) ∙ e))
      where
        q : v a.outcome ≡ true
        q = fires v a.clause a.outcome (at_clause s (λ c. (x : ℕ) → c.outcome ≡ Some x → satisfies v c ≡ true) n a.clause a.numbers keeps a.outcome a.no_ban) a.no_ban (All-weaker (λ x. given s ns x ≡ true) (λ x. v x ≡ true) ih a.clause.body a.ready)

        here : (step_gives s n p || false) ≡ true → v p ≡ true
        here k = ⊎_elim (λ (g : step_gives s n p ≡ true). subst (λ x. v x ≡ true) (eqb-true _ _ (sym (allowed_gives s ns n a p) ∙ g)) q) (λ (f : false ≡ true). absurd (both_ways false refl f)) (or_cases (step_gives s n p) false k)

-- the last step's outcome is given
pub ends_given : (s : Sheet) (q : ℕ) (ns : List ℕ) → Pebbling s q ns → given s ns q ≡ true
ends_given s q ns h = any_from (λ m. step_gives s m q) ns (length ns - 1) (get_or ns (length ns - 1) 0) (Rattle.std.proofs.lemmas.Option.slice_get-get_or ns (length ns - 1) 0 (let k = h.some_step in omega arith)) h.ends

pub least_set : Claims.Least
least_set s v keeps q f = held s v keeps f.0 f.1.steps q (ends_given s q f.0 f.1)

pub forced : Claims.Forced
forced s v sat = least_set s v.holds (All-weaker (λ c. satisfies v.holds c ≡ true) (λ c. (q : ℕ) → c.outcome ≡ Some q → satisfies v.holds c ≡ true) (λ c h q e. h) s.clauses sat)
