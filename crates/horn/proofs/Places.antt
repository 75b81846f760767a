-- The clause with a number, in parts of a list and in two lists joined.
use Rattle.std.proofs.Common.{◌≡◌, ℕ, zero, suc, ◌+◌, ◌-◌, ◌<◌, ◌≤◌, List, [], ◌∷◌, ◌++◌, length, take, sym, refl, ap, ◌∙◌, arith}
use Rattle.std.specs.List.{slice_get}
use Rattle.horn.specs.Sheets.{Sheet, clause_at}
use Rattle.horn.specs.Joining.{joined}

module _ {X : Type 0} where
  pub nth_append_left : (xs ys : List X) (i : ℕ) → i < length xs → slice_get (xs ++ ys) i ≡ slice_get xs i
  nth_append_left [] ys i h = absurd (omega arith)
  nth_append_left (x ∷ xs) ys zero h = refl
  nth_append_left (x ∷ xs) ys (suc i) h = nth_append_left xs ys i (omega arith)

  pub nth_append_right : (xs ys : List X) (i : ℕ) → slice_get (xs ++ ys) (length xs + i) ≡ slice_get ys i
  nth_append_right [] ys i = let e : 0 + i ≡ i = omega arith in ap (slice_get ys) e
  nth_append_right (x ∷ xs) ys i =
      let e : suc (length xs) + i ≡ suc (length xs + i) = omega arith in
      ap (slice_get (x ∷ (xs ++ ys))) e ∙ nth_append_right xs ys i

  pub nth_take : (n : ℕ) (xs : List X) (i : ℕ) → i < n → slice_get (take n xs) i ≡ slice_get xs i
  nth_take zero xs i h = absurd (omega arith)
  nth_take (suc n) [] i h = refl
  nth_take (suc n) (x ∷ xs) zero h = refl
  nth_take (suc n) (x ∷ xs) (suc i) h = nth_take n xs i (omega arith)

-- the clauses of a join
module _ (a b : Sheet) (n i : ℕ) (e : n ≡ length a.clauses) (h : i < 65536) where
  pub in_first : i ≤ n → clause_at (joined a b) i ≡ clause_at a i
  in_first l = go i l h
    where
      go : (j : ℕ) → j ≤ n → j < 65536 → clause_at (joined a b) j ≡ clause_at a j
      go zero l h = refl
      go (suc j) l h = nth_take 65535 (a.clauses ++ b.clauses) j (omega arith) ∙ nth_append_left a.clauses b.clauses j (omega (arith, e))

  pub in_second : n < i → clause_at (joined a b) i ≡ clause_at b (i - n)
  in_second l =
      let k : ℕ = i - n - 1 in
      let f : i - n ≡ suc k = omega arith in
      let g : i ≡ suc (length a.clauses + k) = omega (arith, e) in
      ap (clause_at (joined a b)) g ∙ nth_take 65535 (a.clauses ++ b.clauses) (length a.clauses + k) (omega arith)
      ∙ nth_append_right a.clauses b.clauses k ∙ sym (ap (clause_at b) f)
