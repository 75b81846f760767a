-- The clauses of a good text are those of a lawful sheet.
use Rattle.std.proofs.Common.{◌≡◌, ℕ, zero, suc, ◌+◌, ◌-◌, ◌*◌, ◌<◌, ◌≤◌, max, true, false, eqb, List, [], ◌∷◌, ◌++◌, length, get_or, drop, Some, None, sym, refl, ap, ◌∙◌, subst, ⊎_elim, add-one, arith, ne_eqb, eqb-true}
use mathlib.Core.Bool.{false≢true}
use Rattle.std.specs.List.{AllByRecursion}
use Rattle.std.proofs.lemmas.List.{append_assoc, get_or-append-add, get_or_append_left, get_or-append_right, drop_at, length-append}
use Rattle.std.proofs.lemmas.Bool.{cases_lt, cases_eq, cases_Bool}
use Rattle.horn.specs.Sheets.{Sheet, Condition, Distinct, Lawful, LawfulClause, any_of, greatest, top_of, outcome_number}
use Rattle.text.specs.Grammar.{digit, first_digit, Digits, end, then, Number, number, NegLits, one, more, Basic, fact, rule, ban, Text, last, join, digits, numeral, neg_lits, basic, text, value, value_from, conditions, clause, clauses}
use Rattle.text.specs.Judging.{run_value, Names, Negated, Repeats, Good}
use Rattle.text.specs.Limits.{lead_value, top_in}
use Rattle.text.specs.Reading.{sheet_in, Small}
use Rattle.text.proofs.Numbers.{small_tail, lead_low}
use Rattle.text.proofs.Trees.{run_number, first_is_digit, first_low, tops}
use Rattle.text.proofs.InPlace.{front_inside, small, meaning, repeats_none}

-- no ( stands in it
abbrev NoOpen : List ℕ → Type 0
NoOpen s = (k : ℕ) → get_or s k 0 ≡ 40 → ⊥

no_open-++ : (a b : List ℕ) → NoOpen a → NoOpen b → NoOpen (a ++ b)
no_open-++ a b p q k e = ⊎_elim
    (λ h. p k (sym (get_or_append_left a b 0 k h) ∙ e))
    (λ h. q (k - length a) (sym (get_or-append_right a b (length a) k 0 refl h) ∙ e))
    (cases_lt k (length a))

no_open_cons : (b : ℕ) (s : List ℕ) → (b ≡ 40 → ⊥) → NoOpen s → NoOpen (b ∷ s)
no_open_cons b s n p zero e = n e
no_open_cons b s n p (suc k) e = p k e

not_open : (b : ℕ) → digit b ≡ true → b ≡ 40 → ⊥
not_open b d e = false≢true (sym (ap digit e) ∙ d)

no_open_nil : NoOpen []
no_open_nil k e = omega arith

-- the bytes of a number, and none in front of another
digits_split : (ds : Digits) (s : List ℕ) → digits ds s ≡ digits ds [] ++ s
digits_split end s = refl
digits_split (then b d ds) s = ap (λ x. b ∷ x) (digits_split ds s)

number_split : (n : Number) (s : List ℕ) → numeral n s ≡ numeral n [] ++ s
number_split (number b d ds) s = ap (λ x. b ∷ x) (digits_split ds s)

no_open_digits : (ds : Digits) → NoOpen (digits ds [])
no_open_digits end k e = no_open_nil k e
no_open_digits (then b d ds) k e = no_open_cons b (digits ds []) (not_open b d) (no_open_digits ds) k e

no_open_number : (n : Number) → NoOpen (numeral n [])
no_open_number (number b d ds) k e = no_open_cons b (digits ds []) (not_open b (first_is_digit b d)) (no_open_digits ds) k e

first_of : (n : Number) (s : List ℕ) → first_digit (get_or (numeral n s) 0 0) ≡ true
first_of (number b d ds) s = d

-- a literal and the | after it
abbrev literal : Number → List ℕ
literal n = 126 ∷ 80 ∷ (numeral n [] ++ (124 ∷ []))

literal_split : (n : Number) (u : List ℕ) → 126 ∷ 80 ∷ numeral n (124 ∷ u) ≡ literal n ++ u
literal_split n u = ap (λ w. 126 ∷ 80 ∷ w) (number_split n (124 ∷ u) ∙ sym (append_assoc (numeral n []) (124 ∷ []) u))

no_open_bar : NoOpen (124 ∷ [])
no_open_bar = no_open_cons 124 [] (λ e. omega arith) no_open_nil

no_open_tail : (n : Number) → NoOpen (80 ∷ (numeral n [] ++ (124 ∷ [])))
no_open_tail n = no_open_cons 80 (numeral n [] ++ (124 ∷ [])) (λ e. omega arith) (no_open-++ (numeral n []) (124 ∷ []) (no_open_number n) no_open_bar)

no_open_literal : (n : Number) → NoOpen (literal n)
no_open_literal n = no_open_cons 126 (80 ∷ (numeral n [] ++ (124 ∷ []))) (λ e. omega arith) (no_open_tail n)

shift : (pre mid : List ℕ) (m : Number) (u : List ℕ) → (pre ++ (126 ∷ mid)) ++ (126 ∷ 80 ∷ numeral m (124 ∷ u)) ≡ (pre ++ (126 ∷ (mid ++ literal m))) ++ u
shift pre mid m u =
    ap (λ w. (pre ++ (126 ∷ mid)) ++ w) (literal_split m u)
    ∙ (sym (append_assoc (pre ++ (126 ∷ mid)) (literal m) u) ∙ ap (λ w. w ++ u) (append_assoc pre (126 ∷ mid) (literal m)))

-- every number is at least 1
value_grows : (ds : Digits) (v : ℕ) → v ≤ value_from v ds
value_grows end v = omega arith
value_grows (then b d ds) v = omega (arith, value_grows ds (10 * v + (b - 48)))

positive : (n : Number) → 1 ≤ value n
positive (number b d ds) = omega (arith, value_grows ds (b - 48), first_low b d)

some_negs : (ns : NegLits) → conditions ns ≡ [] → ⊥
some_negs (one n) e = let z : ◌≡◌ {A = ℕ} 0 1 = cc in omega arith
some_negs (more n ns) e = let z : ◌≡◌ {A = ℕ} 0 1 = cc in omega arith

-- a clause with conditions up to the greatest of a sheet, all different, is lawful there
module _ (x : Sheet) where
  over_negs : (ns : NegLits) → greatest (conditions ns) ≤ x.top → AllByRecursion (Condition x) (conditions ns)
  over_negs (one n) h = ((positive n, omega arith), tt)
  over_negs (more n ns) h = ((positive n, omega arith), over_negs ns (omega arith))

  named : (n : Number) → value n ≤ x.top → (q : ℕ) → Some (value n) ≡ Some q → Condition x q
  named n h q e = let z : value n ≡ q = cc in (omega (arith, positive n), omega arith)

  unnamed : (q : ℕ) → None ≡ Some q → Condition x q
  unnamed q e = absurd (let z : ◌≡◌ {A = ℕ} 0 1 = cc in omega arith)

  some_outcome : (q : ℕ) → Some q ≡ None → ⊥
  some_outcome q e = let z : ◌≡◌ {A = ℕ} 0 1 = cc in omega arith

  pub lawful_basic : (c : Basic) → max (greatest (clause c).body) (outcome_number (clause c).outcome) ≤ x.top → Distinct (clause c).body → LawfulClause x (clause c)
  lawful_basic (fact n) h d = record { conditions = tt; outcomes = named n (omega arith); different = d; something = λ _. some_outcome (value n) }
  lawful_basic (rule ns n) h d = record { conditions = over_negs ns (omega arith); outcomes = named n (omega arith); different = d; something = λ _. some_outcome (value n) }
  lawful_basic (ban ns) h d = record { conditions = over_negs ns (omega arith); outcomes = unnamed; different = d; something = λ e _. some_negs ns e }

module _ (s : List ℕ) where
  -- a negated literal with its place
  module _ (pre : List ℕ) (n : Number) (x : ℕ) (rest : List ℕ) (other : digit x ≡ false) (e : s ≡ pre ++ (126 ∷ 80 ∷ numeral n (x ∷ rest))) where
    at : (k : ℕ) → get_or s (length pre + k) 0 ≡ get_or (126 ∷ 80 ∷ numeral n (x ∷ rest)) k 0
    at k = ap (λ u. get_or u (length pre + k) 0) e ∙ get_or-append-add pre (126 ∷ 80 ∷ numeral n (x ∷ rest)) k 0

    stands : Names s (length pre + 1) (value n)
    stands = record {
      letter = at 1;
      leads =
          let h : length pre + 1 + 1 ≡ length pre + 2 = omega arith in
          ap (λ i. first_digit (get_or s i 0)) h ∙ (ap first_digit (at 2) ∙ first_of n (x ∷ rest));
      is =
          let h : length pre + 1 + 1 ≡ length (pre ++ (126 ∷ 80 ∷ [])) = omega (arith, length-append pre (126 ∷ 80 ∷ [])) in
          let f : s ≡ (pre ++ (126 ∷ 80 ∷ [])) ++ numeral n (x ∷ rest) = e ∙ sym (append_assoc pre (126 ∷ 80 ∷ []) (numeral n (x ∷ rest))) in
          sym (ap (λ u. run_value 0 (drop (length pre + 1 + 1) u)) f ∙ (ap (run_value 0) (drop_at (pre ++ (126 ∷ 80 ∷ [])) (numeral n (x ∷ rest)) (length pre + 1 + 1) (sym h)) ∙ run_number n x rest other));
    }

    negated : Negated s (length pre + 1)
    negated = let h : length pre + 1 - 1 ≡ length pre + 0 = omega arith in (omega arith, ap (λ i. get_or s i 0) h ∙ at 0)

  module _ (none : (i : ℕ) → Repeats s i → ⊥) where
    -- two literals with no ( between them are of different conditions
    differ : (pre mid : List ℕ) (n m : Number) (x y : ℕ) (r rest : List ℕ) → digit x ≡ false → digit y ≡ false
        → s ≡ pre ++ (126 ∷ 80 ∷ numeral n (x ∷ r))
        → s ≡ (pre ++ (126 ∷ mid)) ++ (126 ∷ 80 ∷ numeral m (y ∷ rest))
        → NoOpen mid → 0 < length mid → value n ≡ value m → ⊥
    differ pre mid n m x y r rest ox oy e f no-open long same =
        let i = length (pre ++ (126 ∷ mid)) + 1 in
        let w : length (pre ++ (126 ∷ mid)) ≡ length pre + (length mid + 1) = length-append pre (126 ∷ mid) ∙ ap (λ q. length pre + q) (sym (add-one (length mid))) in
        none i (
          value m,
          stands (pre ++ (126 ∷ mid)) m y rest oy f,
          negated (pre ++ (126 ∷ mid)) m y rest oy f,
          (
            length pre + 1,
            record {
              before = omega (arith, w);
              condition = subst (λ q. Names s (length pre + 1) q) same (stands pre n x r ox e);
              negated = negated pre n x r ox e;
              same = λ k lo hi b. ⊎_elim
                  (λ h. let z : k ≡ length (pre ++ (126 ∷ mid)) + 0 = omega arith in
                  let c : 126 ≡ 40 = sym (at (pre ++ (126 ∷ mid)) m y rest oy f 0) ∙ (sym (ap (λ q. get_or s q 0) z) ∙ b) in omega arith)
                  (λ h. let q = k - (length pre + 1) in
                  let z : k ≡ length pre + suc q = omega arith in
                  let l : k < length (pre ++ (126 ∷ mid)) = omega arith in
                  no-open q (sym (get_or-append-add pre (126 ∷ mid) (suc q) 0) ∙ (ap (λ u. get_or (pre ++ (126 ∷ mid)) u 0) (sym z) ∙ (sym (get_or_append_left (pre ++ (126 ∷ mid)) (126 ∷ 80 ∷ numeral m (y ∷ rest)) 0 k l) ∙ (sym (ap (λ u. get_or u k 0) f) ∙ b)))))
                  (cases_eq k (length (pre ++ (126 ∷ mid))));
            },
          ),
        )

    absent : (pre mid : List ℕ) (n : Number) (x : ℕ) (r : List ℕ) (ns : NegLits) (y : ℕ) (rest : List ℕ) → digit x ≡ false → digit y ≡ false
        → s ≡ pre ++ (126 ∷ 80 ∷ numeral n (x ∷ r))
        → s ≡ (pre ++ (126 ∷ mid)) ++ neg_lits ns (y ∷ rest)
        → NoOpen mid → 0 < length mid → any_of (eqb (value n)) (conditions ns) ≡ false
    absent pre mid n x r (one m) y rest ox oy e f no-open long = rw (ne_eqb (value n) (value m) (differ pre mid n m x y r rest ox oy e f no-open long))
    absent pre mid n x r (more m ns) y rest ox oy e f no-open long =
        let h = absent pre (mid ++ literal m) n x r ns y rest ox oy e (f ∙ shift pre mid m (neg_lits ns (y ∷ rest))) (no_open-++ mid (literal m) no-open (no_open_literal m)) (omega (arith, length-append mid (literal m))) in
        rw (ne_eqb (value n) (value m) (differ pre mid n m x 124 r (neg_lits ns (y ∷ rest)) ox refl e f no-open long)) h

    pub distinct : (pre : List ℕ) (ns : NegLits) (y : ℕ) (rest : List ℕ) → digit y ≡ false → s ≡ pre ++ neg_lits ns (y ∷ rest) → Distinct (conditions ns)
    distinct pre (one n) y rest oy e = (refl, tt)
    distinct pre (more n ns) y rest oy e =
        let mid = 80 ∷ (numeral n [] ++ (124 ∷ [])) in
        let f : s ≡ (pre ++ (126 ∷ mid)) ++ neg_lits ns (y ∷ rest) = e ∙ (ap (λ u. pre ++ u) (literal_split n (neg_lits ns (y ∷ rest))) ∙ sym (append_assoc pre (literal n) (neg_lits ns (y ∷ rest)))) in (
          absent pre mid n 124 (neg_lits ns (y ∷ rest)) ns y rest refl oy e f (no_open_tail n) (omega arith),
          distinct (pre ++ (126 ∷ mid)) ns y rest oy f,
        )

    distinct_basic : (pre : List ℕ) (c : Basic) (rest : List ℕ) → s ≡ pre ++ basic c rest → Distinct (clause c).body
    distinct_basic pre (fact n) rest e = tt
    distinct_basic pre (rule ns n) rest e = distinct (pre ++ (40 ∷ [])) ns 124 (80 ∷ numeral n (41 ∷ rest)) refl (e ∙ sym (append_assoc pre (40 ∷ []) (neg_lits ns (124 ∷ 80 ∷ numeral n (41 ∷ rest)))))
    distinct_basic pre (ban ns) rest e = distinct (pre ++ (40 ∷ [])) ns 41 rest refl (e ∙ sym (append_assoc pre (40 ∷ []) (neg_lits ns (41 ∷ rest))))

    each : (x : Sheet) (pre : List ℕ) (t : Text) → s ≡ pre ++ text t [] → top_of (clauses t) ≤ x.top → AllByRecursion (LawfulClause x) (clauses t)
    each x pre (last c) e h = (lawful_basic x c (omega arith) (distinct_basic pre c [] e), tt)
    each x pre (join c t) e h =
        let a = front_inside c (41 ∷ 38 ∷ text t []) in
        let head = 40 ∷ (a.0 ++ (41 ∷ 38 ∷ [])) in
        let f : s ≡ (pre ++ head) ++ text t [] =
        e ∙ (ap (λ u. pre ++ (40 ∷ u)) (a.1 ∙ sym (append_assoc a.0 (41 ∷ 38 ∷ []) (text t []))) ∙ sym (append_assoc pre head (text t []))) in
        (lawful_basic x c (omega arith) (distinct_basic pre c (38 ∷ text t []) e), each x (pre ++ head) t f (omega arith))

top_low : (s : List ℕ) → Small s → top_in s ≤ 1000
top_low [] small = omega arith
top_low (b ∷ bs) small =
    let h = top_low bs (small_tail b bs small) in
    ⊎_elim
    (λ (t : eqb b 80 ≡ true). let l : lead_value bs ≤ 1000 = lead_low (b ∷ bs) (eqb-true b 80 t) small in rw t (omega arith))
    (λ (t : eqb b 80 ≡ false). rw t h)
    (cases_Bool (eqb b 80))

-- a good text
module _ (s : List ℕ) (m k n : ℕ) (g : Good s m k n) where
  pub low : k ≤ 1000
  low =
      let e : top_in s ≡ max (top_of (clauses g.tree)) 0 = ap top_in (sym g.spells) ∙ tops g.tree [] in
      omega (arith, e, top_low s (small s m k n g), g.k_is)

  pub lawful : Lawful (sheet_in k s)
  lawful = subst (AllByRecursion (LawfulClause (sheet_in k s))) (sym (meaning s m k n g)) (each s (repeats_none s m k n g) (sheet_in k s) [] g.tree (sym g.spells) (omega (arith, g.k_is)))
