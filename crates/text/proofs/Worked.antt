-- What judging answers of some texts, by computing.
use Rattle.std.proofs.Common.{◌≡◌, ℕ, zero, suc, ◌+◌, ◌-◌, ◌<◌, ◌≤◌, Bool, true, false, cond, not, ◌&&◌, ◌||◌, eqb, leb, ◌⊎◌, List, length, get_or, take, drop, codes, sym, refl, ap, ◌∙◌, inl, inr, ⊎_elim, arith, length-take, eq-eqb, eqb-true, leb-true}
use Rattle.std.proofs.lemmas.List.{get_or-take}
use Rattle.std.proofs.lemmas.List.Sums.{sum_by-take-le, count_by-le-length, get_or-le-sum_by}
use Rattle.std.proofs.lemmas.Bool.{cases_eq, cases_lt, or_cases, and_parts, not-true, both_ways}
use Rattle.text.specs.declared.verdict.Fault.TheVariants.{TooGreat, Repeated}
use Rattle.text.specs.Grammar.{first_digit, end, then, number, one, fact, rule, last, Text}
use Rattle.text.specs.Judging.{run_value, Names, IsTooGreat, IsTooMany, Limit, many}
use Rattle.text.specs.Limits.{Clear, First}
use Rattle.text.specs.Examples.{WorkedTexts}
use Rattle.text.proofs.Passes.{outside_at, refused_at}
use Rattle.text.proofs.Accepted.{keeps_good}

-- a test that finds no condition at place j, or a small one that is no repetition
abbrev quiet : List ℕ → ℕ → Bool
quiet s j =
    not (eqb (get_or s j 0) 80) || (not (first_digit (get_or s (j + 1) 0))
    || (leb (run_value 0 (drop (j + 1) s)) 1000 && (not (eqb (get_or s (j - 1) 0) 126) || eqb (many 80 s j) 0)))

abbrev quiet_below : List ℕ → ℕ → Bool
quiet_below s zero = true
quiet_below s (suc v) = quiet s v && quiet_below s v

module _ (s : List ℕ) where
  letter_before : (j k : ℕ) → k < j → j ≤ length s → get_or s k 0 ≡ 80 → 0 < many 80 s j
  letter_before j k l h e =
      let a = get_or-le-sum_by (λ x. cond (eqb x 80) 1 0) (take j s) k 0 (omega (arith, length-take j s)) in
      let b : eqb (get_or (take j s) k 0) 80 ≡ true = eq-eqb _ 80 (get_or-take j s k 0 l ∙ e) in
      omega (arith, rw b at a)

  module _ (few : length s < 2000) where
    no_many : (b i : ℕ) → many b s i < 2000
    no_many b i = omega (arith, sum_by-take-le (λ x. cond (eqb x b) 1 0) s i, count_by-le-length (λ x. eqb x b) s)

    not_too_many : (i : ℕ) → IsTooMany s i → ⊥
    not_too_many i = ⊎_elim (λ p. omega (arith, no_many 40 i, p.1)) (λ p. omega (arith, no_many 80 i, p.1))

    not_great : (j n : ℕ) → Names s j n → n ≤ 1000 → IsTooGreat s j → ⊥
    not_great j n c l g = omega (arith, c.is, g.1.is, g.2)

    -- a quiet place has no fault of the limits
    named_low : (j n : ℕ) → quiet s j ≡ true → Names s j n → (n ≤ 1000) × ((eqb (get_or s (j - 1) 0) 126 ≡ false) ⊎ (many 80 s j ≡ 0))
    named_low j n q c =
        ⊎_elim (λ a. absurd (both_ways (eqb (get_or s j 0) 80) (not-true _ a) (eq-eqb (get_or s j 0) 80 c.letter)))
        (λ a. ⊎_elim (λ b. absurd (both_ways (first_digit (get_or s (j + 1) 0)) (not-true _ b) c.leads))
        (λ b.
        let d = and_parts (leb (run_value 0 (drop (j + 1) s)) 1000) (not (eqb (get_or s (j - 1) 0) 126) || eqb (many 80 s j) 0) b in
        (omega (arith, leb-true (run_value 0 (drop (j + 1) s)) 1000 d.0, c.is), ⊎_elim (λ x. inl (not-true _ x)) (λ x. inr (eqb-true (many 80 s j) 0 x)) (or_cases (not (eqb (get_or s (j - 1) 0) 126)) (eqb (many 80 s j) 0) d.1)))
        (or_cases (not (first_digit (get_or s (j + 1) 0))) _ a))
        (or_cases (not (eqb (get_or s j 0) 80)) _ q)

    silent : (j : ℕ) → j ≤ length s → quiet s j ≡ true → (g : ℕ) → Limit s g j → ⊥
    silent j l q g = ⊎_elim
        (λ p. omega (arith, (named_low j p.1.0 q p.1.1).0, p.1.2))
        (⊎_elim
        (λ p. ⊎_elim
        (λ x. both_ways (eqb (get_or s (j - 1) 0) 126) x (eq-eqb (get_or s (j - 1) 0) 126 p.1.2.1))
        (λ x. omega (arith, letter_before j p.1.3.0 p.1.3.1.before l p.1.3.1.condition.letter, x))
        (named_low j p.1.0 q p.1.1).1)
        (λ p. not_too_many j p.1))

    clear : (v : ℕ) → v ≤ length s → quiet_below s v ≡ true → Clear s v
    clear zero l q j h = absurd (omega arith)
    clear (suc v) l q j h =
        let d = and_parts (quiet s v) (quiet_below s v) q in
        ⊎_elim (λ (x : j < v). clear v (omega arith) d.1 j x) (λ (x : v ≤ j). let e : v ≡ j = omega arith in rw (sym e) (silent v (omega arith) d.0)) (cases_lt j v)

three : (s : List ℕ) (i g : ℕ) → Limit s g i → 3 ≤ g
three s i g = ⊎_elim (λ p. omega (arith, p.0)) (⊎_elim (λ p. omega (arith, p.0)) (λ p. omega (arith, p.0)))

four : (s : List ℕ) (i g : ℕ) → (IsTooGreat s i → ⊥) → Limit s g i → 4 ≤ g
four s i g n = ⊎_elim (λ p. absurd (n p.1)) (⊎_elim (λ p. omega (arith, p.0)) (λ p. omega (arith, p.0)))

-- (P1000) and (~P1|P1)
thousand : Text
thousand = last (fact (number 49 refl (then 48 refl (then 48 refl (then 48 refl end)))))

own : Text
own = last (rule (one (number 49 refl end)) (number 49 refl end))

-- the second P of (~P2|~P2)
twice : First (codes "(~P2|~P2)") 9 (Repeated 6)
twice =
    let s = codes "(~P2|~P2)" in
    let c : Names s 6 2 = record { letter = refl; leads = refl; is = refl } in
    record {
      at = 6;
      within = omega arith;
      is = record {
        place = refl;
        limit = inr (inl (
          refl,
          (
            2,
            c,
            (omega arith, refl),
            (
              2,
              record {
                before = omega arith;
                condition = record { letter = refl; leads = refl; is = refl };
                negated = (omega arith, refl);
                same = λ k a b e. ⊎_elim
                    (λ (q : k ≡ 3). omega (arith, ap (λ i. get_or s i 0) q))
                    (λ (q : k ≡ 3 → ⊥). ⊎_elim
                    (λ (p : k ≡ 4). omega (arith, ap (λ i. get_or s i 0) p))
                    (λ (p : k ≡ 4 → ⊥). let r : k ≡ 5 = omega (arith, q, p) in omega (arith, ap (λ i. get_or s i 0) r))
                    (cases_eq k 4))
                    (cases_eq k 3);
              },
            ),
          ),
        ));
        least = λ g. four s 6 g (not_great s (omega arith) 6 2 c (omega arith));
      };
      clear = clear s (omega arith) 6 (omega arith) refl;
    }

above : First (codes "(P1001)") 7 (TooGreat 1)
above =
    let s = codes "(P1001)" in
    record {
      at = 1;
      within = omega arith;
      is = record { place = refl; limit = inl (refl, (1001, record { letter = refl; leads = refl; is = refl }, omega arith)); least = three s 1 };
      clear = clear s (omega arith) 1 (omega arith) refl;
    }

pub worked_texts : WorkedTexts
unfolding thousand own
worked_texts = record {
  empty = (omega arith, outside_at (codes "") 0 refl refl (clear (codes "") (omega arith) 0 (omega arith) refl));
  zero = (omega arith, outside_at (codes "(P0)") 2 refl refl (clear (codes "(P0)") (omega arith) 2 (omega arith) refl));
  too_great = refused_at (codes "(P1001)") 7 refl (omega arith) (TooGreat 1) above;
  greatest = (omega arith, keeps_good thousand (codes "(P1000)") refl (record { low = omega arith; different = (tt, tt); few_clauses = omega arith; few_literals = omega arith }));
  repeated = refused_at (codes "(~P2|~P2)") 9 refl (omega arith) (Repeated 6) twice;
  order = (omega arith, outside_at (codes "(P1|~P2)") 3 refl refl (clear (codes "(P1|~P2)") (omega arith) 3 (omega arith) refl));
  own_outcome = (omega arith, keeps_good own (codes "(~P1|P1)") refl (record { low = omega arith; different = ((refl, tt), tt); few_clauses = omega arith; few_literals = omega arith }));
  unfinished = (omega arith, outside_at (codes "(P1)&") 5 refl refl (clear (codes "(P1)&") (omega arith) 5 (omega arith) refl));
  leading_zero = (omega arith, outside_at (codes "(P01001)") 2 refl refl (clear (codes "(P01001)") (omega arith) 2 (omega arith) refl));
}
