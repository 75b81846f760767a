-- The counts of a text are those of its clauses.
use Rattle.std.proofs.Common.{◌≡◌, ℕ, ◌+◌, ◌-◌, ◌*◌, ◌≤◌, max, true, false, cond, eqb, leb, List, ◌∷◌, length, count_by, sym, refl, ap, ◌∙◌, ⊎_elim, true≢false, zero-add, arith, ne_eqb, le-leb, leb-true}
use mathlib.Core.Bool.{false≢true}
use Rattle.std.proofs.lemmas.List.Sums.{sum_by-cons}
use Rattle.std.proofs.lemmas.Bool.{cases_Bool}
use Rattle.horn.specs.Sheets.{greatest, top_of, literals, outcome_number, outcome_size}
use Rattle.text.specs.Grammar.{digit, first_digit, Digits, end, then, Number, number, NegLits, one, more, Basic, fact, rule, ban, Text, last, join, digits, numeral, neg_lits, inside, basic, text, value_from, value, conditions, clause, clauses}
use Rattle.text.specs.Judging.{run_value}
use Rattle.text.specs.Limits.{lead_value, top_in}

abbrev cnt : ℕ → List ℕ → ℕ
cnt k s = count_by (λ x. eqb x k) s

cons : (k b : ℕ) (s : List ℕ) → cnt k (b ∷ s) ≡ cond (eqb b k) 1 0 + cnt k s
cons k b s = sum_by-cons (λ x. cond (eqb x k) 1 0) b s

-- a digit is no other byte
pub apart : (k b : ℕ) → digit k ≡ false → digit b ≡ true → eqb b k ≡ false
apart k b other d = ne_eqb b k (λ e. true≢false (sym d ∙ (ap digit e ∙ other)))

pub first_is_digit : (b : ℕ) → first_digit b ≡ true → digit b ≡ true
first_is_digit b h = ⊎_elim
    (λ e. let f : leb b 57 ≡ true = rw e at h in let g : leb 48 b ≡ true = le-leb 48 b (omega (arith, leb-true 49 b e)) in rw (g, f))
    (λ e. absurd (false≢true (rw e at h)))
    (cases_Bool (leb 49 b))

pub first_low : (b : ℕ) → first_digit b ≡ true → 49 ≤ b
first_low b h = ⊎_elim (λ e. leb-true 49 b e) (λ e. absurd (false≢true (rw e at h))) (cases_Bool (leb 49 b))

module _ (k : ℕ) (other : digit k ≡ false) where
  cnt_digits : (ds : Digits) (s : List ℕ) → cnt k (digits ds s) ≡ cnt k s
  cnt_digits end s = refl
  cnt_digits (then b d ds) s =
      let e = rw (apart k b other d) at (cons k b (digits ds s)) in
      omega (arith, e, cnt_digits ds s)

  cnt_number : (n : Number) (s : List ℕ) → cnt k (numeral n s) ≡ cnt k s
  cnt_number (number b d ds) s =
      let e = rw (apart k b other (first_is_digit b d)) at (cons k b (digits ds s)) in
      omega (arith, e, cnt_digits ds s)

-- no clause begins inside another
opens_negs : (ns : NegLits) (s : List ℕ) → cnt 40 (neg_lits ns s) ≡ cnt 40 s
opens_negs (one n) s = omega (arith, cons 40 126 (80 ∷ numeral n s), cons 40 80 (numeral n s), cnt_number 40 refl n s)
opens_negs (more n ns) s =
    omega (arith, cons 40 126 (80 ∷ numeral n (124 ∷ neg_lits ns s)), cons 40 80 (numeral n (124 ∷ neg_lits ns s)), cnt_number 40 refl n (124 ∷ neg_lits ns s), cons 40 124 (neg_lits ns s), opens_negs ns s)

opens_inside : (c : Basic) (s : List ℕ) → cnt 40 (inside c s) ≡ cnt 40 s
opens_inside (fact n) s = omega (arith, cons 40 80 (numeral n s), cnt_number 40 refl n s)
opens_inside (rule ns n) s = omega (arith, opens_negs ns (124 ∷ 80 ∷ numeral n s), cons 40 124 (80 ∷ numeral n s), cons 40 80 (numeral n s), cnt_number 40 refl n s)
opens_inside (ban ns) s = opens_negs ns s

opens_basic : (c : Basic) (s : List ℕ) → cnt 40 (basic c s) ≡ 1 + cnt 40 s
opens_basic c s = omega (arith, cons 40 40 (inside c (41 ∷ s)), opens_inside c (41 ∷ s), cons 40 41 s)

pub opens : (t : Text) (s : List ℕ) → cnt 40 (text t s) ≡ length (clauses t) + cnt 40 s
opens (last c) s = opens_basic c s
opens (join c t) s = omega (arith, opens_basic c (38 ∷ text t s), cons 40 38 (text t s), opens t s)

-- each literal has one P
letters_negs : (ns : NegLits) (s : List ℕ) → cnt 80 (neg_lits ns s) ≡ length (conditions ns) + cnt 80 s
letters_negs (one n) s = omega (arith, cons 80 126 (80 ∷ numeral n s), cons 80 80 (numeral n s), cnt_number 80 refl n s)
letters_negs (more n ns) s =
    omega (arith, cons 80 126 (80 ∷ numeral n (124 ∷ neg_lits ns s)), cons 80 80 (numeral n (124 ∷ neg_lits ns s)), cnt_number 80 refl n (124 ∷ neg_lits ns s), cons 80 124 (neg_lits ns s), letters_negs ns s)

letters_inside : (c : Basic) (s : List ℕ) → cnt 80 (inside c s) ≡ (length (clause c).body + outcome_size (clause c).outcome) + cnt 80 s
letters_inside (fact n) s = omega (arith, cons 80 80 (numeral n s), cnt_number 80 refl n s)
letters_inside (rule ns n) s = omega (arith, letters_negs ns (124 ∷ 80 ∷ numeral n s), cons 80 124 (80 ∷ numeral n s), cons 80 80 (numeral n s), cnt_number 80 refl n s)
letters_inside (ban ns) s = omega (arith, letters_negs ns s)

letters_basic : (c : Basic) (s : List ℕ) → cnt 80 (basic c s) ≡ (length (clause c).body + outcome_size (clause c).outcome) + cnt 80 s
letters_basic c s = omega (arith, cons 80 40 (inside c (41 ∷ s)), letters_inside c (41 ∷ s), cons 80 41 s)

pub letters : (t : Text) (s : List ℕ) → cnt 80 (text t s) ≡ literals (clauses t) + cnt 80 s
letters (last c) s = omega (arith, letters_basic c s)
letters (join c t) s = omega (arith, letters_basic c (38 ∷ text t s), cons 80 38 (text t s), letters t s)

-- the greatest number
run_digits : (ds : Digits) (v x : ℕ) (s : List ℕ) → digit x ≡ false → run_value v (digits ds (x ∷ s)) ≡ value_from v ds
run_digits end v x s other = rw other
run_digits (then b d ds) v x s other = rw d (run_digits ds (10 * v + (b - 48)) x s other)

pub run_number : (n : Number) (x : ℕ) (s : List ℕ) → digit x ≡ false → run_value 0 (numeral n (x ∷ s)) ≡ value n
run_number (number b d ds) x s other = rw (first_is_digit b d, zero-add (b - 48)) (run_digits ds (b - 48) x s other)

pub lead_number : (n : Number) (x : ℕ) (s : List ℕ) → digit x ≡ false → lead_value (numeral n (x ∷ s)) ≡ value n
lead_number (number b d ds) x s other = rw (d, first_is_digit b d, zero-add (b - 48)) (run_digits ds (b - 48) x s other)

top_digits : (ds : Digits) (s : List ℕ) → top_in (digits ds s) ≡ top_in s
top_digits end s = refl
top_digits (then b d ds) s = rw (apart 80 b refl d) (top_digits ds s)

top_number : (n : Number) (s : List ℕ) → top_in (numeral n s) ≡ top_in s
top_number (number b d ds) s = rw (apart 80 b refl (first_is_digit b d)) (top_digits ds s)

top_negs : (ns : NegLits) (x : ℕ) (s : List ℕ) → digit x ≡ false → top_in (neg_lits ns (x ∷ s)) ≡ max (greatest (conditions ns)) (top_in (x ∷ s))
top_negs (one n) x s other = omega (arith, lead_number n x s other, top_number n (x ∷ s))
top_negs (more n ns) x s other = omega (arith, lead_number n 124 (neg_lits ns (x ∷ s)) refl, top_number n (124 ∷ neg_lits ns (x ∷ s)), top_negs ns x s other)

top_inside : (c : Basic) (s : List ℕ) → top_in (inside c (41 ∷ s)) ≡ max (max (greatest (clause c).body) (outcome_number (clause c).outcome)) (top_in s)
top_inside (fact n) s = omega (arith, lead_number n 41 s refl, top_number n (41 ∷ s))
top_inside (rule ns n) s = omega (arith, top_negs ns 124 (80 ∷ numeral n (41 ∷ s)) refl, lead_number n 41 s refl, top_number n (41 ∷ s))
top_inside (ban ns) s = omega (arith, top_negs ns 41 s refl)

pub tops : (t : Text) (s : List ℕ) → top_in (text t s) ≡ max (top_of (clauses t)) (top_in s)
tops (last c) s = omega (arith, top_inside c s)
tops (join c t) s = omega (arith, top_inside c (38 ∷ text t s), tops t s)
