-- What stays when clauses are added.
-- Assumes nothing.
use Rattle.std.proofs.Common.{◌≡◌, ℕ, zero, suc, ◌-◌, Bool, true, false, cond, ◌&&◌, ◌||◌, List, [], ◌∷◌, ◌++◌, length, get_or, Some, None, Option, sym, refl, ap, ◌∙◌, arith}
use mathlib.Core.Path.{fun_ext}
use Rattle.std.specs.List.{AllByRecursion}
use Rattle.std.proofs.ByRecursion.{All-weaker}
use Rattle.std.proofs.lemmas.Bool.{both_ways, or_from}
use Rattle.std.proofs.lemmas.Option.{slice_get_within}
use Rattle.horn.specs.Sheets.{all_of, any_of, Clause, Sheet, gives, is, clause_at, outcome_of, body_of}
use Rattle.horn.specs.Pebblings.{step_gives, given, Allowed, Steps, longest, lengths, lengths_after}
use Rattle.horn.specs.Levels.{level}
use Rattle.horn.specs.Claims
use Rattle.horn.specs.Claims.{added}
use Rattle.horn.proofs.Tests.{any_append}
use Rattle.horn.proofs.Places.{nth_append_left}
use Rattle.horn.proofs.Forced.{steps_ind, steps_push, given_push}
use Rattle.horn.proofs.Levels.{lengths_push}

-- the clauses of the first sheet keep their numbers
pub clause_added : (s : Sheet) (cs : List Clause) (n : ℕ) (c : Clause) → clause_at s n ≡ Some c → clause_at (added s cs) n ≡ Some c
clause_added s cs zero c e = e
clause_added s cs (suc n) c e = nth_append_left s.clauses cs n (slice_get_within s.clauses n c e) ∙ e

record Same (s : Sheet) (cs : List Clause) (ns : List ℕ) : Type 0 where
  steps : Steps (added s cs) ns
  gives_same : (p : ℕ) → given (added s cs) ns p ≡ given s ns p
  lengths_same : lengths (added s cs) ns ≡ lengths s ns

same_added : (s : Sheet) (cs : List Clause) (ns : List ℕ) → Steps s ns → Same s cs ns
same_added s cs = steps_ind s (Same s cs) (record { steps = λ i l. let z : ⊥ = omega arith in absurd z; gives_same = λ p. refl; lengths_same = refl }) more
  where
    S : Sheet
    S = added s cs

    more : (ns : List ℕ) (n : ℕ) → Allowed s ns n → Same s cs ns → Same s cs (ns ++ n ∷ [])
    more ns n a ih = record { steps = steps_push S ns n ih.steps b; gives_same = λ p. given_push S ns n p ∙ ap (λ (o : Option Clause). given S ns p || (is (outcome_of o) p || false)) at_same ∙ ap (λ (x : Bool). x || (step_gives s n p || false)) (ih.gives_same p) ∙ sym (given_push s ns n p); lengths_same = lengths_push S (λ _. 0) ns n ∙ ap {B = ℕ → ℕ} (λ (t : ℕ → ℕ). lengths_after S t n) ih.lengths_same ∙ ap {B = ℕ → ℕ} (λ (o : Option Clause) p. cond (is (outcome_of o) p) (suc (longest (lengths s ns) (body_of o))) (lengths s ns p)) at_same ∙ sym (lengths_push s (λ _. 0) ns n) }
      where
        at_same : clause_at S n ≡ clause_at s n
        at_same = clause_added s cs n a.clause a.numbers ∙ sym a.numbers

        b : Allowed S ns n
        b = record { clause = a.clause; outcome = a.outcome; numbers = clause_added s cs n a.clause a.numbers; no_ban = a.no_ban; fresh = ih.gives_same a.outcome ∙ a.fresh; ready = All-weaker (λ p. given s ns p ≡ true) (λ p. given S ns p ≡ true) (λ p h. ih.gives_same p ∙ h) a.clause.body a.ready }

pub growing : Claims.Growing
growing s cs q ns h = (record { steps = r.steps; some_step = h.some_step; ends = last (clause_at s n) refl h.ends }, ap (λ (t : ℕ → ℕ). t q) r.lengths_same)
  where
    r : Same s cs ns
    r = same_added s cs ns h.steps

    n : ℕ
    n = get_or ns (length ns - 1) 0

    last : (o : Option Clause) → clause_at s n ≡ o → is (outcome_of o) q ≡ true → step_gives (added s cs) n q ≡ true
    last None e k = absurd (both_ways false refl k)
    last (Some c) e k = ap (λ (o : Option Clause). is (outcome_of o) q) (clause_added s cs n c e) ∙ k

pub bans_add_nothing : Claims.BansAddNothing
bans_add_nothing s cs h zero q = refl
bans_add_nothing s cs h (suc k) q = any_append (λ c. gives c q && all_of (level (added s cs) k) c.body) s.clauses cs ∙ ap (λ (b : Bool). any_of (λ c. gives c q && all_of (level (added s cs) k) c.body) s.clauses || b) (none cs h) ∙ or_false _ ∙ ap (λ (f : ℕ → Bool). any_of (λ c. gives c q && all_of f c.body) s.clauses) (fun_ext (bans_add_nothing s cs h k))
  where
    or_false : (b : Bool) → (b || false) ≡ b
    or_false true = refl
    or_false false = refl

    none : (ds : List Clause) → AllByRecursion (λ c. c.outcome ≡ None) ds → any_of (λ c. gives c q && all_of (level (added s cs) k) c.body) ds ≡ false
    none [] a = refl
    none (d ∷ ds) a = or_from _ _ (ap (λ (o : Option ℕ). is o q && all_of (level (added s cs) k) d.body) a.0) (none ds a.1)
