-- Rows while a clause is being written.
use Rattle.std.proofs.Common.{◌≡◌, ℕ, zero, suc, ◌+◌, ◌-◌, ◌<◌, ◌≤◌, List, [], ◌∷◌, ◌++◌, map, length, get_or, take, drop, refl, ap, ◌∙◌, ap₂, arith, length-drop}
use Rattle.std.specs.List.{range_with_len, between}
use Rattle.std.proofs.lemmas.List.{drop-append-le, take-append-le, take_all, drop_all, get_or_append_left, get_or_push, length_push}
use Rattle.std.proofs.lemmas.List.FromFn.{length-map-range_with_len, get_or-map-range_with_len, map-range_with_len_more, fill_by_all}
use Rattle.horn.specs.Sheets.{Clause}
use Rattle.round.specs.Rows.{at, Rows, rows, kept_outcome, clause_in, clauses_in, Filled}
use Rattle.round.specs.Writing.{Writing, unfinished}

-- Where no body is being written, the bodies fill the places.
pub writing_filled : (t : Rows) → Writing t → unfinished t ≡ [] → Filled t
writing_filled t w e =
    let n : length (unfinished t) ≡ 0 = ap length e in
    record {
      counted = w.counted;
      begins = w.begins;
      rising = w.rising;
      ends = omega (arith, n, length-drop (at t.starts (length t.outs)) t.places, w.ends (length t.outs) (omega arith));
    }

pub filled_writing : (t : Rows) → Filled t → Writing t
filled_writing t f = record {
  counted = f.counted;
  begins = f.begins;
  rising = f.rising;
  ends = λ c h. let k : ℕ = length t.outs - c in let e : c + k ≡ length t.outs = omega arith in up k c e;
}
  where
    up : (k c : ℕ) → c + k ≡ length t.outs → at t.starts c ≤ length t.places
    up zero c e = let s : c ≡ length t.outs = omega arith in omega (arith, ap (at t.starts) s, f.ends)
    up (suc k) c e = omega (arith, f.rising c (omega arith), up k (c + 1) (omega arith))

pub filled_unfinished : (t : Rows) → Filled t → unfinished t ≡ []
filled_unfinished t f = drop_all (at t.starts (length t.outs)) t.places (omega (arith, f.ends))

-- two functions alike below n make the same list
pub alike : (f g : ℕ → Clause) (n : ℕ) → ((k : ℕ) → k < n → f k ≡ g k) → map f (range_with_len 0 n) ≡ map g (range_with_len 0 n)
alike f g n h = fill_by_all g (map f (range_with_len 0 n)) n (f 0) (length-map-range_with_len f 0 n) (λ k l. let e : 0 + k ≡ k = omega arith in get_or-map-range_with_len f 0 n k k (f 0) l e ∙ h k l)

pub between_append : (ps qs : List ℕ) (a b : ℕ) → a ≤ b → b ≤ length ps → between a b (ps ++ qs) ≡ between a b ps
between_append ps qs a b h l =
    let m : a ≤ length ps = omega arith in
    let n : b - a ≤ length (drop a ps) = omega (arith, length-drop a ps) in
    ap (take (b - a)) (drop-append-le a ps qs m) ∙ take-append-le (b - a) (drop a ps) qs n

module _ (os ss ps : List ℕ) (s : Writing (rows os ss ps)) where
  -- one place more
  pub clauses_place : (p : ℕ) → clauses_in (rows os ss (ps ++ p ∷ [])) ≡ clauses_in (rows os ss ps)
  clauses_place p = alike (clause_in (rows os ss (ps ++ p ∷ []))) (clause_in (rows os ss ps)) (length os)
      (λ k h. let hi : k + 1 ≤ length os = omega arith in ap (λ (b : List ℕ). record { body = b; outcome = kept_outcome (get_or os k 0) }) (between_append ps (p ∷ []) (get_or ss k 0) (get_or ss (k + 1) 0) (s.rising k h) (s.ends (k + 1) hi)))

  pub body_place : (p : ℕ) → unfinished (rows os ss (ps ++ p ∷ [])) ≡ unfinished (rows os ss ps) ++ p ∷ []
  body_place p = drop-append-le (get_or ss (length os) 0) ps (p ∷ []) (s.ends (length os) (omega arith))

  start_old : (k : ℕ) → k ≤ length os → (e : ℕ) → get_or (ss ++ e ∷ []) k 0 ≡ get_or ss k 0
  start_old k h e = get_or_append_left ss (e ∷ []) 0 k (omega (arith, s.counted))

  start_new : (e : ℕ) → get_or (ss ++ e ∷ []) (length os + 1) 0 ≡ e
  start_new e = get_or_push ss e 0 (length os + 1) s.counted

  -- the clause is ended
  pub body_end : (o : ℕ) → unfinished (rows (os ++ o ∷ []) (ss ++ length ps ∷ []) ps) ≡ []
  body_end o =
      let e = ap (λ j. get_or (ss ++ length ps ∷ []) j 0) (length_push os o) ∙ start_new (length ps) in
      drop_all (get_or (ss ++ length ps ∷ []) (length (os ++ o ∷ [])) 0) ps (omega (arith, e))

  pub clauses_end : (o : ℕ) → clauses_in (rows (os ++ o ∷ []) (ss ++ length ps ∷ []) ps) ≡ clauses_in (rows os ss ps) ++ record { body = unfinished (rows os ss ps); outcome = kept_outcome o } ∷ []
  clauses_end o =
      let n : ℕ = length os in
      let f : ℕ → Clause = clause_in (rows (os ++ o ∷ []) (ss ++ length ps ∷ []) ps) in
      ap (λ m. map f (range_with_len 0 m)) (length_push os o)
      ∙ map-range_with_len_more f 0 n n (omega arith)
      ∙ ap₂ (λ (x : List Clause) (y : Clause). x ++ y ∷ [])
      (alike f (clause_in (rows os ss ps)) n (λ k h. old k h))
      (ap₂ (λ (b : List ℕ) (q : ℕ). record { body = b; outcome = kept_outcome q }) last (get_or_push os o 0 n refl))
    where
      old : (k : ℕ) → k < length os → clause_in (rows (os ++ o ∷ []) (ss ++ length ps ∷ []) ps) k ≡ clause_in (rows os ss ps) k
      old k h =
          let a = start_old k (omega arith) (length ps) in
          let b = start_old (k + 1) (omega arith) (length ps) in
          ap₂ (λ (x : List ℕ) (q : ℕ). record { body = x; outcome = kept_outcome q }) (ap₂ (λ x y. between x y ps) a b) (get_or_append_left os (o ∷ []) 0 k h)

      last : between (get_or (ss ++ length ps ∷ []) (length os) 0) (get_or (ss ++ length ps ∷ []) (length os + 1) 0) ps ≡ unfinished (rows os ss ps)
      last =
          ap₂ (λ x y. between x y ps) (start_old (length os) (omega arith) (length ps)) (start_new (length ps))
          ∙ take_all (length ps - get_or ss (length os) 0) (drop (get_or ss (length os) 0) ps) (omega (arith, length-drop (get_or ss (length os) 0) ps))
