-- A text of the grammar whose bodies have no condition twice has no fault 4.
use Rattle.std.proofs.Common.{◌≡◌, ℕ, ◌+◌, ◌≤◌, Bool, true, false, cond, not, ◌&&◌, eqb, List, [], ◌∷◌, length, get_or, drop, sym, refl, ap, ◌∙◌, subst, ⊎_elim, arith, length-drop, eq-eqb, ne_eqb, eqb-true}
use Rattle.std.specs.List.{AllByRecursion}
use Rattle.std.proofs.lemmas.List.{drop-drop, get_or_past}
use Rattle.std.proofs.lemmas.Bool.{cases_Bool, cases_eq, and_parts, and_from, or_parts, or_from, or_left, or_right, not-true, not_from_false, both_ways}
use Rattle.horn.specs.Sheets.{Distinct, any_of}
use Rattle.text.specs.Grammar.{digit, Number, NegLits, one, more, Basic, fact, rule, ban, Text, last, join, numeral, neg_lits, basic, text, value, conditions, clause, clauses}
use Rattle.text.specs.Judging.{Names, Negated, Held, Repeats}
use Rattle.text.specs.Limits.{lead_value}
use Rattle.text.proofs.Bodies.{held_less, held_none, signed_next}
use Rattle.text.proofs.Numbers.{at_drop, lead_is}
use Rattle.text.proofs.Trees.{lead_number}
use Rattle.text.proofs.Meaning.{signs, past_number}

-- no negated condition stands twice with no ( between; seen are those of the body so far, neg says that a ~ was just read
abbrev fresh : List ℕ → Bool → List ℕ → Bool
fresh seen neg [] = true
fresh seen neg (b ∷ bs) =
    cond (eqb b 40) (fresh [] false bs)
    (cond (eqb b 80) (cond neg (not (any_of (eqb (lead_value bs)) seen) && fresh (lead_value bs ∷ seen) false bs) (fresh seen false bs))
    (fresh seen (eqb b 126) bs))

-- on trees
passes : (seen : List ℕ) (b : ℕ) (s : List ℕ) → digit b ≡ true → fresh seen false (b ∷ s) ≡ fresh seen false s
passes seen b s d = let g = signs b d in rw (g.0, g.2, g.3)

past : (seen : List ℕ) (n : Number) (s : List ℕ) → fresh seen false (numeral n s) ≡ fresh seen false s
past seen n s = past_number (fresh seen false) (passes seen) n s

one_more : (p : ℕ) (seen qs : List ℕ) → any_of (eqb p) qs ≡ false → AllByRecursion (λ q. any_of (eqb q) seen ≡ false) qs → AllByRecursion (λ q. any_of (eqb q) (p ∷ seen) ≡ false) qs
one_more p seen [] d h = tt
one_more p seen (q ∷ qs) d h =
    let o = or_parts (eqb p q) (any_of (eqb p) qs) d in
    let e : eqb q p ≡ false = ne_eqb q p (λ e. both_ways (eqb p q) o.0 (eq-eqb p q (sym e))) in
    (or_from (eqb q p) (any_of (eqb q) seen) e h.0, one_more p seen qs o.1 h.1)

-- what follows is fresh, whatever was seen before
abbrev Free : List ℕ → Type 0
Free s = (seen : List ℕ) → fresh seen false s ≡ true

negs : (seen : List ℕ) (ns : NegLits) (x : ℕ) (s : List ℕ) → digit x ≡ false → Distinct (conditions ns) → AllByRecursion (λ q. any_of (eqb q) seen ≡ false) (conditions ns) → Free (x ∷ s) → fresh seen false (neg_lits ns (x ∷ s)) ≡ true
negs seen (one n) x s other d h f =
    rw (lead_number n x s other) (and_from _ _ (not_from_false (any_of (eqb (value n)) seen) h.0) (past (value n ∷ seen) n (x ∷ s) ∙ f (value n ∷ seen)))
negs seen (more n ns) x s other d h f =
    rw (lead_number n 124 (neg_lits ns (x ∷ s)) refl)
    (and_from _ _ (not_from_false (any_of (eqb (value n)) seen) h.0)
    (past (value n ∷ seen) n (124 ∷ neg_lits ns (x ∷ s)) ∙ negs (value n ∷ seen) ns x s other d.1 (one_more (value n) seen (conditions ns) d.0 h.1) f))

none_seen : (qs : List ℕ) → AllByRecursion (λ q. any_of (eqb q) [] ≡ false) qs
none_seen [] = tt
none_seen (q ∷ qs) = (refl, none_seen qs)

basics : (c : Basic) (s : List ℕ) → Distinct (clause c).body → Free s → Free (basic c s)
basics (fact n) s d f seen = past [] n (41 ∷ s) ∙ f []
basics (rule ns n) s d f seen = negs [] ns 124 (80 ∷ numeral n (41 ∷ s)) refl d (none_seen (conditions ns)) (λ z. past z n (41 ∷ s) ∙ f z)
basics (ban ns) s d f seen = negs [] ns 41 s refl d (none_seen (conditions ns)) f

texts : (t : Text) → AllByRecursion (λ c. Distinct c.body) (clauses t) → Free (text t [])
texts (last c) d = basics c [] d.0 (λ seen. refl)
texts (join c t) d = basics c (38 ∷ text t []) d.0 (texts t d.1)

-- on places
module _ (s : List ℕ) where
  pub record Knows (p : ℕ) (seen : List ℕ) (neg : Bool) : Type 0 where
    pub bodies : (n j : ℕ) → Held s p n j → any_of (eqb n) seen ≡ true
    pub signed : Negated s p → neg ≡ true

  module _ (p : ℕ) (seen : List ℕ) (neg : Bool) (k : Knows p seen neg) where
    after_open : get_or s p 0 ≡ 40 → Knows (p + 1) [] false
    after_open e = record {
      bodies = λ n j h. absurd (held_none s p n j e h);
      signed = λ h. absurd (omega (arith, signed_next s p h));
    }

    after_named : get_or s p 0 ≡ 80 → Knows (p + 1) (lead_value (drop (p + 1) s) ∷ seen) false
    after_named e = record {
      bodies = λ n j h. ⊎_elim
          (λ (q : j ≡ p).
          let c : Names s p n = subst (λ i. Names s i n) q h.condition in
          or_left (eqb n (lead_value (drop (p + 1) s))) (any_of (eqb n) seen) (eq-eqb n (lead_value (drop (p + 1) s)) (sym (lead_is s p n c))))
          (λ (q : j ≡ p → ⊥). or_right (eqb n (lead_value (drop (p + 1) s))) (any_of (eqb n) seen) (k.bodies n j (held_less s p n j (omega (arith, h.before, q)) h)))
          (cases_eq j p);
      signed = λ h. absurd (omega (arith, signed_next s p h));
    }

    after_outcome : neg ≡ false → get_or s p 0 ≡ 80 → Knows (p + 1) seen false
    after_outcome e l = record {
      bodies = λ n j h. ⊎_elim
          (λ (q : j ≡ p). absurd (both_ways neg e (k.signed (subst (Negated s) q h.negated))))
          (λ (q : j ≡ p → ⊥). k.bodies n j (held_less s p n j (omega (arith, h.before, q)) h))
          (cases_eq j p);
      signed = λ h. absurd (omega (arith, signed_next s p h));
    }

    after_other : (get_or s p 0 ≡ 80 → ⊥) → Knows (p + 1) seen (eqb (get_or s p 0) 126)
    after_other m = record {
      bodies = λ n j h. ⊎_elim
          (λ (q : j ≡ p). absurd (m (sym (ap (λ i. get_or s i 0) q) ∙ h.condition.letter)))
          (λ (q : j ≡ p → ⊥). k.bodies n j (held_less s p n j (omega (arith, h.before, q)) h))
          (cases_eq j p);
      signed = λ h. eq-eqb (get_or s p 0) 126 (signed_next s p h);
    }

    not_again : any_of (eqb (lead_value (drop (p + 1) s))) seen ≡ false → Repeats s p → ⊥
    not_again e r =
        let w = lead_is s p r.0 r.1 in
        both_ways (any_of (eqb r.0) seen) (sym (ap (λ n. any_of (eqb n) seen) w) ∙ e) (k.bodies r.0 r.3.0 r.3.1)

  here_or_later : (p : ℕ) → (Repeats s p → ⊥) → ((i : ℕ) → p + 1 ≤ i → Repeats s i → ⊥) → (i : ℕ) → p ≤ i → Repeats s i → ⊥
  here_or_later p h f i l r = ⊎_elim (λ (q : i ≡ p). h (subst (Repeats s) q r)) (λ (q : i ≡ p → ⊥). f i (omega arith) r) (cases_eq i p)

  clear : (u : List ℕ) (p : ℕ) (seen : List ℕ) (neg : Bool) → u ≡ drop p s → Knows p seen neg → fresh seen neg u ≡ true → (i : ℕ) → p ≤ i → Repeats s i → ⊥
  clear [] p seen neg e k f = λ i l r. omega (arith, get_or_past s i 0 (omega (arith, ap length e, length-drop p s)), r.1.letter)
  clear (b ∷ bs) p seen neg e k f =
      let rest : bs ≡ drop (p + 1) s = ap (drop 1) e ∙ drop-drop 1 p s in
      let at : get_or s p 0 ≡ b = sym (at_drop s p) ∙ ap (λ x. get_or x 0 0) (sym e) in
      let lead : lead_value bs ≡ lead_value (drop (p + 1) s) = ap lead_value rest in
      ⊎_elim
      (λ (t : eqb b 40 ≡ true).
      let o : get_or s p 0 ≡ 40 = at ∙ eqb-true b 40 t in
      here_or_later p (λ r. omega (arith, o, r.1.letter)) (clear bs (p + 1) [] false rest (after_open p seen neg k o) (rw t at f)))
      (λ (t : eqb b 40 ≡ false).
      let f₁ : cond (eqb b 80) (cond neg (not (any_of (eqb (lead_value bs)) seen) && fresh (lead_value bs ∷ seen) false bs) (fresh seen false bs)) (fresh seen (eqb b 126) bs) ≡ true = rw t at f in
      ⊎_elim
      (λ (v : eqb b 80 ≡ true).
      let o : get_or s p 0 ≡ 80 = at ∙ eqb-true b 80 v in
      let f₂ : cond neg (not (any_of (eqb (lead_value bs)) seen) && fresh (lead_value bs ∷ seen) false bs) (fresh seen false bs) ≡ true = rw v at f₁ in
      ⊎_elim
      (λ (w : neg ≡ true).
      let f₃ : (not (any_of (eqb (lead_value bs)) seen) && fresh (lead_value bs ∷ seen) false bs) ≡ true = rw w at f₂ in
      let z = and_parts (not (any_of (eqb (lead_value bs)) seen)) (fresh (lead_value bs ∷ seen) false bs) f₃ in
      here_or_later p (not_again p seen neg k (sym (ap (λ n. any_of (eqb n) seen) lead) ∙ not-true _ z.0))
      (clear bs (p + 1) (lead_value bs ∷ seen) false rest (subst (λ n. Knows (p + 1) (n ∷ seen) false) (sym lead) (after_named p seen neg k o)) z.1))
      (λ (w : neg ≡ false).
      here_or_later p (λ r. both_ways neg w (k.signed r.2)) (clear bs (p + 1) seen false rest (after_outcome p seen neg k w o) (rw w at f₂)))
      (cases_Bool neg))
      (λ (v : eqb b 80 ≡ false).
      let m : get_or s p 0 ≡ 80 → ⊥ = λ q. both_ways (eqb b 80) v (eq-eqb b 80 (sym at ∙ q)) in
      here_or_later p (λ r. m r.1.letter) (clear bs (p + 1) seen (eqb b 126) rest (subst (λ x. Knows (p + 1) seen (eqb x 126)) at (after_other p seen neg k m)) (rw v at f₁)))
      (cases_Bool (eqb b 80)))
      (cases_Bool (eqb b 40))

  start : Knows 0 [] false
  start = record { bodies = λ n j h. absurd (omega (arith, h.before)); signed = λ h. absurd (omega (arith, h.0)) }

pub no_repeats : (t : Text) (s : List ℕ) → text t [] ≡ s → AllByRecursion (λ c. Distinct c.body) (clauses t) → (i : ℕ) → Repeats s i → ⊥
no_repeats t s e d i r = clear s s 0 [] false refl (start s) (ap (fresh [] false) (sym e) ∙ texts t d []) i (omega arith) r
