-- The value of a run of digits.
use Rattle.std.proofs.Common.{◌≡◌, ℕ, ◌+◌, ◌-◌, ◌*◌, ◌<◌, ◌≤◌, min, max, true, false, cond, ◌&&◌, eqb, leb, List, [], ◌∷◌, Some, None, Option, length, get_or, take, drop, sym, refl, ap, ◌∙◌, subst, ⊎_elim, add-zero, arith}
use Rattle.std.specs.Char.{is_ascii_digit}
use mathlib.Core.Bool.{false≢true}
use Rattle.std.proofs.lemmas.List.Sums.{sum_by_more, count_by-le-length}
use Rattle.std.proofs.lemmas.List.{drop_more, get_or-drop, drop-drop, length-take}
use Rattle.std.proofs.lemmas.Bool.{cond_both, cases_lt, cases_Bool}
use Rattle.text.specs.Grammar.{digit, first_digit}
use Rattle.text.specs.Judging.{run_value, many, Names}
use Rattle.text.specs.Limits.{lead_value, top_in, Read}
use Rattle.text.specs.Reading.{Small}

pub grows : (s : List ℕ) (v : ℕ) → v ≤ run_value v s
grows [] v = omega arith
grows (b ∷ bs) v =
    let h : 10 * v + (b - 48) ≤ run_value (10 * v + (b - 48)) bs = grows bs (10 * v + (b - 48)) in
    cond_both (digit b) (run_value (10 * v + (b - 48)) bs) v (λ x. v ≤ x) (λ e. omega arith) (λ e. omega arith)

-- past 1000 it no longer matters how great it is
pub capped : (s : List ℕ) (v : ℕ) → min 1001 (run_value (min 1001 v) s) ≡ min 1001 (run_value v s)
capped s v = ⊎_elim
    (λ h. let e : min 1001 v ≡ v = omega arith in ap (λ x. min 1001 (run_value x s)) e)
    (λ h. omega (arith, grows s v, grows s (min 1001 v)))
    (cases_lt v 1001)

ascii_digit : (b : ℕ) → is_ascii_digit b ≡ digit b
ascii_digit b = elim (leb 48 b) as (λ x. (x && leb b 57) ≡ cond x (leb b 57) false) [ true ↦ refl | false ↦ refl ]

-- a digit more, where nothing is lost if the value stops at 1001
pub digit_more : (v : ℕ) (s : List ℕ) (i : ℕ) → i < length s → is_ascii_digit (get_or s i 0) ≡ true → (w : ℕ) → w ≡ min (v * 10 + (get_or s i 0 - 48)) 1001 → min 1001 (run_value w (drop (i + 1) s)) ≡ min 1001 (run_value v (drop i s))
digit_more v s i h e w t =
    let n : ℕ = 10 * v + (get_or s i 0 - 48) in
    let d : digit (get_or s i 0) ≡ true = sym (ascii_digit (get_or s i 0)) ∙ e in
    let c : w ≡ min 1001 n = omega arith in
    let more : run_value v (drop i s) ≡ run_value n (drop (i + 1) s) = rw (drop_more s i 0 h, d) refl in
    ap (λ x. min 1001 (run_value x (drop (i + 1) s))) c ∙ (capped (drop (i + 1) s) n ∙ sym (ap (min 1001) more))

lead_some : (u : List ℕ) → first_digit (get_or u 0 0) ≡ true → lead_value u ≡ run_value 0 u
lead_some [] e = absurd (false≢true e)
lead_some (b ∷ bs) e = rw e

lead_none : (u : List ℕ) → first_digit (get_or u 0 0) ≡ false → lead_value u ≡ 0
lead_none [] e = refl
lead_none (b ∷ bs) e = rw e

pub at_drop : (s : List ℕ) (j : ℕ) → get_or (drop j s) 0 0 ≡ get_or s j 0
at_drop s j = get_or-drop j s 0 0 ∙ ap (λ x. get_or s x 0) (add-zero j)

pub lead_is : (s : List ℕ) (i n : ℕ) → Names s i n → lead_value (drop (i + 1) s) ≡ n
lead_is s i n c = lead_some (drop (i + 1) s) (ap first_digit (at_drop s (i + 1)) ∙ c.leads) ∙ sym c.is

pub lead_absent : (s : List ℕ) (i : ℕ) → get_or s i 0 ≡ 80 → ((n : ℕ) → Names s i n → ⊥) → lead_value (drop (i + 1) s) ≡ 0
lead_absent s i p no_one = ⊎_elim
    (λ e. absurd (no_one (run_value 0 (drop (i + 1) s)) (record { letter = p; leads = e; is = refl })))
    (λ e. lead_none (drop (i + 1) s) (ap first_digit (at_drop s (i + 1)) ∙ e))
    (cases_Bool (first_digit (get_or s (i + 1) 0)))

-- a condition that stands in the bytes from a place on
names_at : (s : List ℕ) (k i n : ℕ) → Names (drop k s) i n → Names s (k + i) n
names_at s k i n c =
    let e : k + (i + 1) ≡ k + i + 1 = omega arith in
    record {
      letter = sym (get_or-drop k s i 0) ∙ c.letter;
      leads = ap (λ x. first_digit (get_or s x 0)) (sym e) ∙ (sym (ap first_digit (get_or-drop k s (i + 1) 0)) ∙ c.leads);
      is = c.is ∙ (ap (run_value 0) (drop-drop (i + 1) k s) ∙ ap (λ x. run_value 0 (drop x s)) e);
    }

names_first : (s : List ℕ) (k n : ℕ) → Names s k n → Names (drop k s) 0 n
names_first s k n c = record {
  letter = at_drop s k ∙ c.letter;
  leads = ap first_digit (get_or-drop k s 1 0) ∙ c.leads;
  is = c.is ∙ sym (ap (run_value 0) (drop-drop 1 k s));
}

pub read_at : (s : List ℕ) (k : ℕ) (r : Option ℕ) → Read (drop k s) 0 r → Read s k r
read_at s k None none = λ n c. none n (names_first s k n c)
read_at s k (Some r) x = let e : k + 0 ≡ k = add-zero k in record { value = x.value; condition = subst (λ i. Names s i x.value) e (names_at s k 0 x.value x.condition); capped = x.capped }

-- small numbers stay so further on
pub small_drop : (s : List ℕ) (k : ℕ) → Small s → Small (drop k s)
small_drop s k small i n c = small (k + i) n (names_at s k i n c)

pub small_tail : (b : ℕ) (bs : List ℕ) → Small (b ∷ bs) → Small bs
small_tail b bs small = small_drop (b ∷ bs) 1 small

-- the number after a P is small where all are
pub lead_low : (s : List ℕ) → get_or s 0 0 ≡ 80 → Small s → lead_value (drop 1 s) ≤ 1000
lead_low s e small = ⊎_elim
    (λ (t : first_digit (get_or s 1 0) ≡ true).
    let c : Names s 0 (run_value 0 (drop 1 s)) = record { letter = e; leads = t; is = refl } in
    omega (arith, lead_is s 0 (run_value 0 (drop 1 s)) c, small 0 (run_value 0 (drop 1 s)) c))
    (λ (t : first_digit (get_or s 1 0) ≡ false). omega (arith, lead_none (drop 1 s) (ap first_digit (at_drop s 1) ∙ t)))
    (cases_Bool (first_digit (get_or s 1 0)))

pub many_low : (b : ℕ) (s : List ℕ) (i : ℕ) → many b s i ≤ i
many_low b s i = omega (arith, count_by-le-length (λ x. eqb x b) (take i s), length-take i s)

pub many_more : (b : ℕ) (s : List ℕ) (i : ℕ) → i < length s → many b s (i + 1) ≡ many b s i + cond (eqb (get_or s i 0) b) 1 0
many_more b s i h = sum_by_more (λ x. cond (eqb x b) 1 0) s i 0 h

pub top_more : (s : List ℕ) (i : ℕ) → i < length s → top_in (drop i s) ≡ cond (eqb (get_or s i 0) 80) (max (lead_value (drop (i + 1) s)) (top_in (drop (i + 1) s))) (top_in (drop (i + 1) s))
top_more s i h = rw (drop_more s i 0 h)
