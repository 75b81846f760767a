-- The steps of an explanation, listed from the marks of what a condition needs.
use Rattle.std.proofs.Common.{◌≡◌, ℕ, zero, suc, ◌+◌, ◌-◌, ◌<◌, ◌≤◌, Bool, true, false, cond, ◌&&◌, eqb, ltb, leb, List, [], ◌∷◌, ◌++◌, map, length, take, drop, set, sym, refl, ap, ◌∙◌, ap₂, inl, inr, ⊎_elim, add-one, arith, length-append, length-drop, drop-cons}
use lib.ListN.{length-map}
use lib.Seq.{set_at}
use Rattle.std.specs.List.{AllByRecursion, count_by}
use Rattle.std.proofs.lemmas.List.Sums.{sum_by_push}
use Rattle.std.proofs.lemmas.List.{append_assoc, append-nil, length_push, map_push, take_at, take_more, get_or-drop}
use Rattle.std.proofs.lemmas.Bool.{cases_Bool, cases_lt, both_ways, and_left, eq-eqb, ne_eqb, le-leb, cond-true, cond-false}
use Rattle.std.proofs.lemmas.Bool.Decides.{nat_tests}
use Rattle.horn.specs.Sheets.{Sheet}
use Rattle.horn.specs.Levels.{in_force, rank, chosen, needed, listed, ordered, explanation, how_many}
use Rattle.horn.proofs.Explained.{all_by_mem, ordered_holds, reaches_in_force}
use Rattle.round.specs.Answers.{ok, refusal, Explains}
use Rattle.round.specs.Rows.{at}
use Rattle.round.specs.declared.refusals.Refusal.TheVariants.{ShortBuffer}
use Rattle.round.specs.Ranks.{ranked}
use Rattle.round.specs.Needed.{Choices, Marks, by_mark}
use Rattle.round.proofs.Rolls.{and_true, how_many_same}
use Rattle.round.proofs.Sets.{split}

-- the conditions with marks up to d, and those with the next mark up to k
abbrev pub so_far : List ℕ → ℕ → ℕ → ℕ → List ℕ
so_far marks top d k = by_mark marks top d ++ listed (λ p. eqb (at marks p) (suc d)) k

module _ (marks : List ℕ) (top d p : ℕ) (from_one : 1 ≤ p) where
  pub so_far_hit : at marks p ≡ d + 1 → so_far marks top d p ≡ so_far marks top d (p - 1) ++ p ∷ []
  so_far_hit e =
      let k : ℕ = p - 1 in
      let m : p ≡ suc k = omega arith in
      let f : eqb (at marks (suc k)) (suc d) ≡ true = eq-eqb (at marks (suc k)) (suc d) (sym (ap (at marks) m) ∙ e ∙ add-one d) in
      ap (so_far marks top d) m
      ∙ ap (λ (b : Bool). by_mark marks top d ++ (listed (λ x. eqb (at marks x) (suc d)) k ++ cond b (suc k ∷ []) [])) f
      ∙ sym (append_assoc (by_mark marks top d) (listed (λ x. eqb (at marks x) (suc d)) k) (suc k ∷ []))
      ∙ ap (λ (x : ℕ). so_far marks top d k ++ x ∷ []) (sym m)

  pub so_far_miss : (at marks p ≡ d + 1 → ⊥) → so_far marks top d p ≡ so_far marks top d (p - 1)
  so_far_miss n =
      let k : ℕ = p - 1 in
      let m : p ≡ suc k = omega arith in
      let f : eqb (at marks (suc k)) (suc d) ≡ false = ne_eqb (at marks (suc k)) (suc d) (λ e. n (ap (at marks) m ∙ e ∙ sym (add-one d))) in
      ap (so_far marks top d) m
      ∙ ap (λ (b : Bool). by_mark marks top d ++ (listed (λ x. eqb (at marks x) (suc d)) k ++ cond b (suc k ∷ []) [])) f
      ∙ ap (λ (l : List ℕ). by_mark marks top d ++ l) (append-nil (listed (λ x. eqb (at marks x) (suc d)) k))

-- what never falls from one number to the next
rising : (f : ℕ → ℕ) → ((n : ℕ) → f n ≤ f (suc n)) → (k n : ℕ) → k ≤ n → f k ≤ f n
rising f h k zero l = let e : k ≡ zero = omega arith in omega (arith, ap f e)
rising f h k (suc n) l = split (cases_lt k (suc n))
    (λ a. omega (arith, rising f h k n (omega arith), h n))
    (λ a. let e : k ≡ suc n = omega arith in omega (arith, ap f e))

-- there is room for what is listed so far
so_far_room : (marks : List ℕ) (top d k last : ℕ) → k ≤ top → d < last → length (so_far marks top d k) ≤ length (by_mark marks top last)
so_far_room marks top d k last l h =
    let f : ℕ → Bool = λ p. eqb (at marks p) (suc d) in
    let a : length (listed f k) ≤ length (listed f top) =
    rising (λ n. length (listed f n)) (λ n. omega (arith, length-append (listed f n) (cond (f (suc n)) (suc n ∷ []) []))) k top l in
    let b : length (by_mark marks top (suc d)) ≤ length (by_mark marks top last) =
    rising (λ n. length (by_mark marks top n)) (λ n. omega (arith, length-append (by_mark marks top n) (listed (λ p. eqb (at marks p) (suc n)) top))) (suc d) last (omega arith) in
    omega (arith, a, b, length-append (by_mark marks top d) (listed f k), length-append (by_mark marks top d) (listed f top))

pub hit_room : (marks : List ℕ) (top d p last : ℕ) → 1 ≤ p → p ≤ top → d < last → at marks p ≡ d + 1 → length (so_far marks top d (p - 1)) < length (by_mark marks top last)
hit_room marks top d p last one l h e =
    omega (arith, so_far_room marks top d p last l h, ap length (so_far_hit marks top d p one e), length_push (so_far marks top d (p - 1)) p)

-- a buffer with the clauses of the conditions `done`, and then what stood there before
abbrev pub Written : List ℕ → List ℕ → List ℕ → List ℕ → Type 0
Written picked done before after = after ≡ map (at picked) done ++ drop (length done) before

pub written_more : (picked done before after : List ℕ) (p n : ℕ) → n ≡ length done → n < length after → Written picked done before after
    → Written picked (done ++ p ∷ []) before (set after n (at picked p))
written_more picked done before after p n e h w =
    let f : ℕ → ℕ = at picked in
    let l : n < length before = omega (arith, ap length w, length-append (map f done) (drop (length done) before), length-map done f, length-drop (length done) before) in
    let m : suc n ≡ length (done ++ p ∷ []) = omega (arith, length_push done p) in
    ap (λ (x : List ℕ). set x n (f p)) (w ∙ ap (λ (k : ℕ). map f done ++ drop k before) (sym e) ∙ ap (λ (x : List ℕ). map f done ++ x) (drop-cons before n 0 l))
    ∙ set_at (map f done) (at before n) (drop (suc n) before) (f p) n (length-map done f ∙ sym e)
    ∙ sym (append_assoc (map f done) (f p ∷ []) (drop (suc n) before))
    ∙ ap₂ (λ (x : List ℕ) (k : ℕ). x ++ drop k before) (sym (map_push f done p)) m

-- how many are listed
listed_size : (f : ℕ → Bool) (n : ℕ) → length (listed f n) ≡ how_many f n
listed_size f zero = refl
listed_size f (suc n) = length-append (listed f n) (cond (f (suc n)) (suc n ∷ []) []) ∙ one (f (suc n)) (listed_size f n)
  where
    one : (b : Bool) → length (listed f n) ≡ how_many f n → length (listed f n) + length (cond b (suc n ∷ []) []) ≡ cond b (suc (how_many f n)) (how_many f n)
    one true e = omega arith
    one false e = omega arith

module _ (marks : List ℕ) where
  -- a mark from 1 to d
  abbrev up : ℕ → ℕ → Bool
  up d p = ltb 0 (at marks p) && leb (at marks p) d

  up_none : (n : ℕ) → how_many (up 0) n ≡ 0
  up_none zero = refl
  up_none (suc n) = let h = up_none n in one (at marks (suc n)) (how_many (up 0) n) h
    where
      one : (x a : ℕ) → a ≡ 0 → cond (ltb 0 x && leb x 0) (suc a) a ≡ 0
      one x a h = grind (arith, nat_tests)

  up_more : (d n : ℕ) → how_many (up (suc d)) n ≡ how_many (up d) n + how_many (λ p. eqb (at marks p) (suc d)) n
  up_more d zero = refl
  up_more d (suc n) = one (at marks (suc n)) (how_many (up (suc d)) n) (how_many (up d) n) (how_many (λ p. eqb (at marks p) (suc d)) n) (up_more d n)
    where
      one : (x a b e : ℕ) → a ≡ b + e → cond (ltb 0 x && leb x (suc d)) (suc a) a ≡ cond (ltb 0 x && leb x d) (suc b) b + cond (eqb x (suc d)) (suc e) e
      one x a b e h = grind (arith, nat_tests)

  by_mark_size : (top d : ℕ) → length (by_mark marks top d) ≡ how_many (up d) top
  by_mark_size top zero = sym (up_none top)
  by_mark_size top (suc d) =
      omega (arith, length-append (by_mark marks top d) (listed (λ p. eqb (at marks p) (suc d)) top), listed_size (λ p. eqb (at marks p) (suc d)) top, by_mark_size top d, up_more d top)

  -- all that is marked is listed
  pub marked_size : (top last : ℕ) → ((p : ℕ) → at marks p ≤ last) → how_many (ranked marks) top ≡ length (by_mark marks top last)
  marked_size top last h =
      how_many_same (ranked marks) (up last) top (λ p _ _. sym (and_true (ltb 0 (at marks p)) (leb (at marks p) last) (le-leb (at marks p) last (h p)))) top (omega arith)
      ∙ sym (by_mark_size top last)

listed_same : (f g : ℕ → Bool) (n : ℕ) → ((p : ℕ) → f p ≡ g p) → listed f n ≡ listed g n
listed_same f g zero same = refl
listed_same f g (suc n) same = ap₂ (λ (l : List ℕ) (b : Bool). l ++ cond b (suc n ∷ []) []) (listed_same f g n same) (same (suc n))

map_same : (f g : ℕ → ℕ) (ps : List ℕ) → AllByRecursion (λ p. f p ≡ g p) ps → map f ps ≡ map g ps
map_same f g [] h = refl
map_same f g (p ∷ ps) h = ap₂ (λ (x : ℕ) (l : List ℕ). x ∷ l) h.0 (map_same f g ps h.1)

module _ (s : Sheet) (q : ℕ) (h : in_force s q ≡ true) (marks : List ℕ) (m : Marks s q marks) where
  test_same : (d p : ℕ) → eqb (at marks p) (suc d) ≡ (needed s q p && eqb (rank s p) (suc d))
  test_same d p = split (cases_Bool (needed s q p))
      (λ e. ap (λ (x : ℕ). eqb x (suc d)) (m p ∙ cond-true (needed s q p) (rank s p) 0 e) ∙ ap (λ (b : Bool). b && eqb (rank s p) (suc d)) (sym e))
      (λ e. ne_eqb (at marks p) (suc d) (λ z. omega (arith, m p ∙ cond-false (needed s q p) (rank s p) 0 e)) ∙ sym (and_left (needed s q p) (eqb (rank s p) (suc d)) e))

  by_mark_is : (d : ℕ) → by_mark marks s.top d ≡ ordered s q d
  by_mark_is zero = refl
  by_mark_is (suc d) = ap₂ (λ (x y : List ℕ). x ++ y) (by_mark_is d)
      (listed_same (λ p. eqb (at marks p) (suc d)) (λ p. needed s q p && eqb (rank s p) (suc d)) s.top (test_same d))

  -- the steps are those of the explanation
  pub steps_are : (picked : List ℕ) → Choices s picked → map (at picked) (by_mark marks s.top (rank s q)) ≡ explanation s q
  steps_are picked c =
      ap (map (at picked)) (by_mark_is (rank s q))
      ∙ map_same (at picked) (chosen s) (ordered s q (rank s q))
      (all_by_mem (λ p. at picked p ≡ chosen s p) (ordered s q (rank s q)) (λ p i. c p (reaches_in_force s s.top q p h (ordered_holds s q (rank s q) p i).0).0))

  marks_few : (p : ℕ) → at marks p ≤ rank s q
  marks_few p = split (cases_Bool (needed s q p))
      (λ e. let v = m p ∙ cond-true (needed s q p) (rank s p) 0 e in
      split (reaches_in_force s s.top q p h e).1 (λ z. omega (arith, v, ap (rank s) z)) (λ z. omega (arith, v)))
      (λ e. omega (arith, m p ∙ cond-false (needed s q p) (rank s p) 0 e))

  -- as many steps as marks
  pub steps_count : how_many (ranked marks) s.top ≡ length (by_mark marks s.top (rank s q))
  steps_count = marked_size marks s.top (rank s q) marks_few

  pub steps_size : how_many (ranked marks) s.top ≡ length (explanation s q)
  steps_size = steps_count ∙ ap length (by_mark_is (rank s q)) ∙ sym (length-map (ordered s q (rank s q)) (chosen s))

  -- what is written
  pub steps_written : (picked before after : List ℕ) (r n : ℕ) → Choices s picked → r ≡ rank s q → n ≡ how_many (ranked marks) s.top
      → Written picked (by_mark marks s.top r) before after → after ≡ explanation s q ++ drop n before
  steps_written picked before after r n c e k w =
      let size : length (by_mark marks s.top r) ≡ n = ap (λ (x : ℕ). length (by_mark marks s.top x)) e ∙ sym steps_count ∙ sym k in
      w ∙ ap₂ (λ (l : List ℕ) (x : ℕ). l ++ drop x before) (ap (λ (x : ℕ). map (at picked) (by_mark marks s.top x)) e ∙ steps_are picked c) size

-- the answers
module _ (s : Sheet) (q n : ℕ) (low : 0 < q) (high : q ≤ s.top) (h : in_force s q ≡ true) where
  pub explains_short : n < length (explanation s q) → Explains s q n (refusal ShortBuffer)
  explains_short l = inr (⊎_elim (λ e. omega arith) (λ e. omega arith), inr (λ e. both_ways (in_force s q) e h, inl (l, refl)))

  pub explains_ok : length (explanation s q) ≤ n → (r k : ℕ) (before after : List ℕ) → r ≡ rank s q → k ≡ length (explanation s q) → after ≡ explanation s q ++ drop k before
      → Explains s q n (ok (r ∷ (k ∷ [])) (take k after))
  explains_ok l r k before after er ek ea =
      let written : take k after ≡ explanation s q = ap (take k) ea ∙ take_at (explanation s q) (drop k before) k (sym ek) in
      inr (⊎_elim (λ e. omega arith) (λ e. omega arith), inr (λ e. both_ways (in_force s q) e h, inr (λ e. omega arith, λ i. ok (er i ∷ (ek i ∷ [])) (written i))))

-- how many marks stand from number 1 on
pub marks_counted : (marks : List ℕ) (n : ℕ) → n < length marks → count_by (λ x. ltb 0 x) (take n (drop 1 marks)) ≡ how_many (ranked marks) n
marks_counted marks zero h = refl
marks_counted marks (suc n) h =
    let rest : List ℕ = drop 1 marks in
    let m : suc n ≡ n + 1 = sym (add-one n) in
    let here : at rest n ≡ at marks (suc n) = get_or-drop 1 marks n 0 ∙ ap (at marks) (omega arith) in
    ap (λ (k : ℕ). count_by (λ x. ltb 0 x) (take k rest)) m
    ∙ ap (count_by (λ x. ltb 0 x)) (take_more rest n 0 (omega (arith, length-drop 1 marks)))
    ∙ sum_by_push (λ x. cond (ltb 0 x) 1 0) (take n rest) (at rest n)
    ∙ one (ltb 0 (at rest n)) (ltb 0 (at marks (suc n))) (ap (ltb 0) here) (marks_counted marks n (omega arith))
  where
    one : (a b : Bool) → a ≡ b → count_by (λ x. ltb 0 x) (take n (drop 1 marks)) ≡ how_many (ranked marks) n
        → count_by (λ x. ltb 0 x) (take n (drop 1 marks)) + cond a 1 0 ≡ cond b (suc (how_many (ranked marks) n)) (how_many (ranked marks) n)
    one true true e h = omega arith
    one false false e h = omega arith
    one true false e h = absurd (both_ways true e refl)
    one false true e h = absurd (both_ways false refl e)
