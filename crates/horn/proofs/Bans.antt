-- The lowest broken ban.
-- Assumes nothing.
use Rattle.std.proofs.Common.{◌≡◌, ℕ, zero, suc, ◌<◌, true, false, Some, None, Option, refl, ap, ◌∙◌, arith}
use Rattle.std.proofs.ByRecursion.{All-weaker}
use Rattle.std.proofs.lemmas.Bool.{and_parts, and_from, both_ways}
use Rattle.horn.specs.Sheets.{all_of, any_of, Clause, Sheet, Lawful, clause_at}
use Rattle.horn.specs.Pebblings.{InForce, Broken}
use Rattle.horn.specs.Levels.{in_force}
use Rattle.horn.specs.Bans.{no_outcome, breaks, lowest_broken, LowestBroken}
use Rattle.horn.specs.Bans
use Rattle.horn.proofs.Tests.{all_true, all_from, any_from, none_some}
use Rattle.horn.proofs.Explained.{First, first_is}
use Rattle.horn.proofs.Entailment.{in_force_has, in_force_is, contradicted}

breaks_broken : (s : Sheet) → Lawful s → (n : ℕ) (c : Clause) → clause_at s n ≡ Some c → breaks (in_force s) c ≡ true → Broken s n
breaks_broken s w n c e h = record { clause = c; numbers = e; ban = none c.outcome k.0; in_force = All-weaker (λ p. in_force s p ≡ true) (InForce s) (in_force_is s w) c.body (all_true (in_force s) c.body k.1) }
  where
    k : (no_outcome c.outcome ≡ true) × (all_of (in_force s) c.body ≡ true)
    k = and_parts _ _ h

    none : (o : Option ℕ) → no_outcome o ≡ true → o ≡ None
    none None x = refl
    none (Some q) x = absurd (both_ways false refl x)

broken_breaks : (s : Sheet) → Lawful s → (n : ℕ) (b : Broken s n) → breaks (in_force s) b.clause ≡ true
broken_breaks s w n b = and_from _ _ (ap no_outcome b.ban) (all_from (in_force s) b.clause.body (All-weaker (InForce s) (λ p. in_force s p ≡ true) (in_force_has s w) b.clause.body b.in_force))

pub lowest_found : Bans.LowestFound
lowest_found s w no-choice = record { broken = breaks_broken s w (lowest_broken s) r.it (ap (clause_at s) r.number ∙ r.is_at) r.passes; lowest = low }
  where
    any : (n : ℕ) (b : Broken s n) → clause_at s n ≡ Some b.clause → any_of (breaks (in_force s)) s.clauses ≡ true
    any zero b e = absurd (none_some e)
    any (suc n) b e = any_from (breaks (in_force s)) s.clauses n b.clause e (broken_breaks s w (suc n) b)

    r : First (breaks (in_force s)) s.clauses
    r = let x = (contradicted s w).0 no-choice in first_is (breaks (in_force s)) s.clauses (any x.0 x.1 x.1.numbers)

    below : (m : ℕ) (b : Broken s m) → m < lowest_broken s → clause_at s m ≡ Some b.clause → ⊥
    below zero b l e = none_some e
    below (suc m) b l e = both_ways _ (r.lowest m b.clause (omega (arith, r.number)) e) (broken_breaks s w (suc m) b)

    low : (m : ℕ) → m < lowest_broken s → Broken s m → ⊥
    low m l b = below m b l b.numbers
