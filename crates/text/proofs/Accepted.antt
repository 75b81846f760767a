-- The good texts are those of the grammar whose clauses keep the limits.
use Rattle.std.proofs.Common.{◌≡◌, ℕ, zero, suc, ◌+◌, ◌-◌, ◌<◌, ◌≤◌, Bool, true, false, cond, eqb, List, [], ◌∷◌, length, get_or, drop, count_by, sym, refl, ap, ◌∙◌, subst, inl, inr, ⊎_elim, add-one, arith, eq-eqb, eqb-true}
use Rattle.std.specs.List.{AllByRecursion}
use Rattle.std.proofs.ByRecursion.{All-weaker}
use Rattle.std.proofs.lemmas.List.{get_or_past, take_all}
use Rattle.std.proofs.lemmas.List.Sums.{sum_by-take-le}
use Rattle.std.proofs.lemmas.Bool.{cases_Bool, cases_lt, cases_eq}
use Rattle.horn.specs.Sheets.{Distinct, LawfulClause, top_of, literals}
use Rattle.text.specs.Grammar.{digit, Digits, end, then, Number, number, NegLits, one, more, Basic, fact, rule, ban, Text, last, join, digits, numeral, neg_lits, inside, basic, text, Spells, clauses}
use Rattle.text.specs.Judging.{Negated, Begins, IsTooGreat, IsTooMany, Good, many}
use Rattle.text.specs.Limits.{lead_value, top_in}
use Rattle.text.specs.Reading.{sheet_in}
use Rattle.text.specs.Accepted.{KeepsLimits, AcceptedExactly}
use Rattle.text.proofs.Numbers.{many_more, lead_is}
use Rattle.text.proofs.Trees.{opens, letters, tops, apart, first_is_digit}
use Rattle.text.proofs.InPlace.{meaning, whole_limit}
use Rattle.text.proofs.Lawfulness.{low, lawful}
use Rattle.text.proofs.Fresh.{no_repeats}

-- among the first i bytes, the one that is b and has n such before it
occurs : (b : ℕ) (s : List ℕ) (i n : ℕ) → i ≤ length s → n < many b s i → (j : ℕ) × (j < i) × (get_or s j 0 ≡ b) × (many b s j ≡ n)
occurs b s zero n l h = absurd (omega arith)
occurs b s (suc i) n l h =
    let m : many b s (suc i) ≡ many b s i + cond (eqb (get_or s i 0) b) 1 0 = ap (many b s) (sym (add-one i)) ∙ many_more b s i (omega arith) in
    ⊎_elim
    (λ (q : n < many b s i). let r = occurs b s i n (omega arith) q in (r.0, omega (arith, r.1), r.2, r.3))
    (λ (q : many b s i ≤ n). ⊎_elim
    (λ (t : eqb (get_or s i 0) b ≡ true). (i, omega arith, eqb-true (get_or s i 0) b t, omega (arith, rw t at m)))
    (λ (t : eqb (get_or s i 0) b ≡ false). absurd (omega (arith, rw t at m)))
    (cases_Bool (eqb (get_or s i 0) b)))
    (cases_lt n (many b s i))

-- a byte b at place i counts
counts_here : (b : ℕ) (s : List ℕ) (i : ℕ) → get_or s i 0 ≡ b → 0 < b → many b s i + 1 ≤ count_by (λ x. eqb x b) s
counts_here b s i e h = ⊎_elim
    (λ (l : i < length s). let m = rw (eq-eqb (get_or s i 0) b e) at (many_more b s i l) in omega (arith, m, sum_by-take-le (λ x. cond (eqb x b) 1 0) s (i + 1)))
    (λ (l : length s ≤ i). absurd (omega (arith, get_or_past s i 0 l)))
    (cases_lt i (length s))

all_counted : (b : ℕ) (s : List ℕ) → many b s (length s) ≡ count_by (λ x. eqb x b) s
all_counted b s = ap (count_by (λ x. eqb x b)) (take_all (length s) s (omega arith))

-- a number after a P is not above the greatest
lead_low : (s : List ℕ) (i : ℕ) → get_or s i 0 ≡ 80 → lead_value (drop (i + 1) s) ≤ top_in s
lead_low [] i e = absurd (omega arith)
lead_low (b ∷ bs) zero e = rw (eq-eqb b 80 e) (omega arith)
lead_low (b ∷ bs) (suc i) e =
    let h = lead_low bs i e in
    let z : suc i + 1 ≡ suc (i + 1) = omega arith in
    ⊎_elim
    (λ (t : eqb b 80 ≡ true). rw (t, z) (omega (arith, h)))
    (λ (t : eqb b 80 ≡ false). rw (t, z) h)
    (cases_Bool (eqb b 80))

-- in a text of the grammar P follows ~
abbrev Follows : List ℕ → Type 0
Follows s = (i : ℕ) → get_or s i 0 ≡ 126 → get_or s (i + 1) 0 ≡ 80

follows_cons : (b : ℕ) (s : List ℕ) → (b ≡ 126 → get_or s 0 0 ≡ 80) → Follows s → Follows (b ∷ s)
follows_cons b s h f zero e = h e
follows_cons b s h f (suc i) e = let z : suc i + 1 ≡ suc (i + 1) = omega arith in ap (λ k. get_or (b ∷ s) k 0) z ∙ f i e

not_tilde : (b : ℕ) → digit b ≡ true → (s : List ℕ) → b ≡ 126 → get_or s 0 0 ≡ 80
not_tilde b d s e = absurd (let z : ◌≡◌ {A = Bool} true false = sym (eq-eqb b 126 e) ∙ apart 126 b refl d in let y : ◌≡◌ {A = ℕ} 0 1 = cc in omega arith)

follows_digits : (ds : Digits) (s : List ℕ) → Follows s → Follows (digits ds s)
follows_digits end s f = f
follows_digits (then b d ds) s f = follows_cons b (digits ds s) (not_tilde b d (digits ds s)) (follows_digits ds s f)

follows_number : (n : Number) (s : List ℕ) → Follows s → Follows (numeral n s)
follows_number (number b d ds) s f = follows_cons b (digits ds s) (not_tilde b (first_is_digit b d) (digits ds s)) (follows_digits ds s f)

sign : (b : ℕ) (s : List ℕ) → eqb b 126 ≡ false → Follows s → Follows (b ∷ s)
sign b s n = follows_cons b s (λ e. absurd (let z : ◌≡◌ {A = Bool} true false = sym (eq-eqb b 126 e) ∙ n in let y : ◌≡◌ {A = ℕ} 0 1 = cc in omega arith))

follows_negs : (ns : NegLits) (s : List ℕ) → Follows s → Follows (neg_lits ns s)
follows_negs (one n) s f = follows_cons 126 (80 ∷ numeral n s) (λ _. refl) (sign 80 (numeral n s) refl (follows_number n s f))
follows_negs (more n ns) s f =
    follows_cons 126 (80 ∷ numeral n (124 ∷ neg_lits ns s)) (λ _. refl) (sign 80 (numeral n (124 ∷ neg_lits ns s)) refl (follows_number n (124 ∷ neg_lits ns s) (sign 124 (neg_lits ns s) refl (follows_negs ns s f))))

follows_inside : (c : Basic) (s : List ℕ) → Follows s → Follows (inside c s)
follows_inside (fact n) s f = sign 80 (numeral n s) refl (follows_number n s f)
follows_inside (rule ns n) s f = follows_negs ns (124 ∷ 80 ∷ numeral n s) (sign 124 (80 ∷ numeral n s) refl (sign 80 (numeral n s) refl (follows_number n s f)))
follows_inside (ban ns) s f = follows_negs ns s f

follows_basic : (c : Basic) (s : List ℕ) → Follows s → Follows (basic c s)
follows_basic c s f = sign 40 (inside c (41 ∷ s)) refl (follows_inside c (41 ∷ s) (sign 41 s refl f))

follows_text : (t : Text) → Follows (text t [])
follows_text (last c) = follows_basic c [] (λ i e. absurd (omega arith))
follows_text (join c t) = follows_basic c (38 ∷ text t []) (sign 38 (text t []) refl (follows_text t))

-- clauses within the limits have no fault
module _ (t : Text) (s : List ℕ) (e : Spells t s) (h : KeepsLimits (clauses t)) where
  opens_all : count_by (λ x. eqb x 40) s ≡ length (clauses t)
  opens_all = omega (arith, ap (count_by (λ x. eqb x 40)) e, opens t [])

  letters_all : count_by (λ x. eqb x 80) s ≡ literals (clauses t)
  letters_all = omega (arith, ap (count_by (λ x. eqb x 80)) e, letters t [])

  no_great : (i : ℕ) → IsTooGreat s i → ⊥
  no_great i g = omega (arith, lead_low s i g.1.letter, lead_is s i g.0 g.1, g.2, ap top_in e, tops t [], h.low)

  no_many : (i : ℕ) → IsTooMany s i → ⊥
  no_many i = ⊎_elim
      (λ (o : (get_or s i 0 ≡ 40) × (many 40 s i ≡ 2000)). omega (arith, counts_here 40 s i o.0 (omega arith), o.1, opens_all, h.few_clauses))
      (λ (o : Begins s i × (many 80 s i ≡ 8000)). ⊎_elim
      (λ (q : get_or s i 0 ≡ 126).
      let p : get_or s (i + 1) 0 ≡ 80 = subst Follows e (follows_text t) i q in
      let l : i < length s = ⊎_elim (λ (l : i < length s). l) (λ (l : length s ≤ i). absurd (omega (arith, get_or_past s i 0 l))) (cases_lt i (length s)) in
      let m = rw q at (many_more 80 s i l) in
      omega (arith, counts_here 80 s (i + 1) p (omega arith), m, o.1, letters_all, h.few_literals))
      (λ (q : (get_or s i 0 ≡ 80) × (Negated s i → ⊥)). omega (arith, counts_here 80 s i q.0 (omega arith), o.1, letters_all, h.few_literals))
      o.0)

  pub keeps_good : Good s (length (clauses t)) (top_of (clauses t)) (literals (clauses t))
  keeps_good = record {
    tree = t;
    spells = e;
    none = λ g j. ⊎_elim
        (λ p. p.1 t e)
        (λ p. ⊎_elim (λ q. no_great j q.1) (⊎_elim (λ q. no_repeats t s e h.different j q.1) (λ q. no_many j q.1)) p.1);
    m_is = refl;
    k_is = refl;
    n_is = refl;
  }

-- the clauses of a good text keep the limits
module _ (s : List ℕ) (m k n : ℕ) (g : Good s m k n) where
  no_more : (i : ℕ) → i < length s → IsTooMany s i → ⊥
  no_more i l x = whole_limit s m k n g 5 i l (inr (inr (refl, x)))

  few_clauses : length (clauses g.tree) ≤ 2000
  few_clauses = ⊎_elim
      (λ (q : 2000 < length (clauses g.tree)).
      let r = occurs 40 s (length s) 2000 (omega arith) (omega (arith, all_counted 40 s, ap (count_by (λ x. eqb x 40)) g.spells, opens g.tree [])) in
      absurd (no_more r.0 r.1 (inl (r.2, r.3))))
      (λ (q : length (clauses g.tree) ≤ 2000). q)
      (cases_lt 2000 (length (clauses g.tree)))

  few_literals : literals (clauses g.tree) ≤ 8000
  few_literals = ⊎_elim
      (λ (q : 8000 < literals (clauses g.tree)).
      let r = occurs 80 s (length s) 8000 (omega arith) (omega (arith, all_counted 80 s, ap (count_by (λ x. eqb x 80)) g.spells, letters g.tree [])) in
      let i = r.0 in
      absurd (⊎_elim
      (λ (z : get_or s (i - 1) 0 ≡ 126). ⊎_elim
      (λ (p : 0 < i).
      let y : i - 1 + 1 ≡ i = omega arith in
      let a = rw z at (many_more 80 s (i - 1) (omega (arith, r.1))) in
      no_more (i - 1) (omega (arith, r.1)) (inr (inl z, omega (arith, a, ap (many 80 s) y, r.3))))
      (λ (p : i ≤ 0). no_more i r.1 (inr (inr (r.2, λ w. omega (arith, w.0)), r.3)))
      (cases_lt 0 i))
      (λ (z : get_or s (i - 1) 0 ≡ 126 → ⊥). no_more i r.1 (inr (inr (r.2, λ w. z w.1), r.3)))
      (cases_eq (get_or s (i - 1) 0) 126)))
      (λ (q : literals (clauses g.tree) ≤ 8000). q)
      (cases_lt 8000 (literals (clauses g.tree)))

  pub good_keeps : KeepsLimits (clauses g.tree)
  good_keeps = record {
    low = omega (arith, low s m k n g, g.k_is);
    different = All-weaker (LawfulClause (sheet_in k s)) (λ c. Distinct c.body) (λ c l. l.different) (clauses g.tree) (subst (AllByRecursion (LawfulClause (sheet_in k s))) (meaning s m k n g) (lawful s m k n g));
    few_clauses = few_clauses;
    few_literals = few_literals;
  }

pub accepted_exactly : AcceptedExactly
accepted_exactly s short = (λ c j. (j.1.tree, j.1.spells, good_keeps s _ _ _ j.1), λ t e h. (short, keeps_good t s e h))
