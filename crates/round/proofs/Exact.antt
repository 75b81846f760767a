-- The answers of opening, ask and roll, in choices.
use Rattle.std.proofs.Common.{◌≡◌, ℕ, ◌≤◌, Bool, true, false, cond, ◌↔◌, List, [], ◌∷◌, sym, refl, ap, ◌∙◌, subst, inl, inr, arith}
use Rattle.std.proofs.lemmas.Bool.{both_ways}
use Rattle.horn.specs.Sheets.{Sheet, Lawful, IsTooLarge}
use Rattle.horn.specs.Levels.{in_force}
use Rattle.horn.specs.Bans.{LowestBroken}
use Rattle.horn.specs.Lawfulness.{satisfiable}
use Rattle.horn.proofs.Bans.{lowest_found}
use Rattle.horn.proofs.Entailment.{entailed, in_force_has, in_force_is}
use Rattle.horn.proofs.Lawfulness.{satisfiable_tested}
use Rattle.round.specs.Answers.{Answer, ok, refused, Opens, Asks, Rolls}
use Rattle.round.specs.Exact.{Unsatisfiable, Entails, Contradicts, bit_of, OpeningExact, ReportsExact}
use Rattle.round.proofs.Choosing.{ok_refused}
use Rattle.round.proofs.Words.{rolled}

refused_number : {i j : ℕ} {x y : List ℕ} → refused i x ≡ refused j y → i ≡ j
refused_number e = cc

refused_ban : {i j b n : ℕ} → refused i (b ∷ []) ≡ refused j (n ∷ []) → b ≡ n
refused_ban e = cc

ok_number : {n m : ℕ} → ok (n ∷ []) [] ≡ ok (m ∷ []) [] → n ≡ m
ok_number e = cc

ok_words : {ns ms u w : List ℕ} → ok ns u ≡ ok ms w → u ≡ w
ok_words e = cc

pub unsatisfiable : (s : Sheet) → Lawful s → satisfiable s ≡ false → Unsatisfiable s
unsatisfiable s w k v sat = both_ways _ k ((satisfiable_tested s w).1 (v, sat))

not_unsatisfiable : (s : Sheet) → Lawful s → (satisfiable s ≡ false → ⊥) → Unsatisfiable s → ⊥
not_unsatisfiable s w k none = go (satisfiable s) refl
  where
    go : (b : Bool) → satisfiable s ≡ b → ⊥
    go true e = let v = (satisfiable_tested s w).0 e in none v.0 v.1
    go false e = k e

contradicts : (s : Sheet) → Lawful s → (a : Answer) → Opens s a → (IsTooLarge s → ⊥) → Contradicts a ↔ Unsatisfiable s
contradicts s w a (inl r) small = absurd (small r.0)
contradicts s w a (inr (x, inl r)) small = (λ _. unsatisfiable s w r.0, λ _. subst Contradicts (sym r.1) refl)
contradicts s w a (inr (x, inr (y, e))) small = (λ h. absurd (subst Contradicts e h), λ h. absurd (not_unsatisfiable s w y h))

names : (s : Sheet) → Lawful s → (b : ℕ) → Opens s (refused 8 (b ∷ [])) → LowestBroken s b
names s w b (inl r) = let e = refused_number r.1 in absurd (omega arith)
names s w b (inr (x, inl r)) = subst (LowestBroken s) (sym (refused_ban r.1)) (lowest_found s w (unsatisfiable s w r.0))
names s w b (inr (x, inr (y, e))) = absurd (ok_refused (sym e))

pub opening_exact : OpeningExact
opening_exact = record { contradicts = contradicts; names = names }

-- the test of a condition says whether every satisfying choice holds it
entails : (s : Sheet) → Lawful s → satisfiable s ≡ true → (p : ℕ) → (in_force s p ≡ true) ↔ Entails s p
entails s w k p =
    let v = (satisfiable_tested s w).0 k in
    let e = entailed s w v.0 v.1 p in
    (λ h. e.0 (in_force_is s w p h), λ h. in_force_has s w p (e.1 h))

one : (b : Bool) (n : ℕ) → n ≡ cond b 1 0 → (n ≡ 1) ↔ (b ≡ true)
one true n e = (λ _. refl, λ _. e)
one false n e = (λ h. absurd (omega arith), λ h. absurd (both_ways false refl h))

both : {A B C : Type 0} → A ↔ B → B ↔ C → A ↔ C
both f g = (λ a. g.0 (f.0 a), λ c. f.1 (g.1 c))

asks : (s : Sheet) → Lawful s → satisfiable s ≡ true → (p n : ℕ) → Asks s p (ok (n ∷ []) []) → (n ≡ 1) ↔ Entails s p
asks s w k p n (inl r) = absurd (ok_refused r.1)
asks s w k p n (inr (x, e)) = both (one (in_force s p) n (ok_number e)) (entails s w k p)

rolls : (s : Sheet) → Lawful s → satisfiable s ≡ true → (n : ℕ) (ns words : List ℕ) → Rolls s n (ok ns words)
    → (q : ℕ) → 1 ≤ q → q ≤ s.top → (bit_of words q ≡ 1) ↔ Entails s q
rolls s w k n ns words (inl r) q a b = absurd (ok_refused r.1)
rolls s w k n ns words (inr (x, e)) q a b =
    both (one (in_force s q) (bit_of words q) (ap (λ u. bit_of u q) (ok_words e) ∙ rolled (in_force s) s.top q a b)) (entails s w k q)

pub reports_exact : ReportsExact
reports_exact = record { asks = asks; rolls = rolls }
