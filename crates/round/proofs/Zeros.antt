-- The number of zeros of a table.
use Rattle.std.proofs.Common.{◌≡◌, ℕ, zero, suc, refl, replicate, ◌+◌, ◌<◌, ◌≤◌, false, cond, eqb, List, length, set, arith}
use Rattle.std.proofs.lemmas.List.Sums.{sum_by-set, count_by-le-length}
use Rattle.std.proofs.lemmas.List.{get_or_past}
use Rattle.std.proofs.lemmas.Bool.{ne_eqb, cases_lt}
use Rattle.round.proofs.Sets.{split}
use Rattle.round.specs.Rows.{at}
use Rattle.round.specs.Steps.{zeros}

abbrev mark : ℕ → ℕ
mark x = cond (eqb x 0) 1 0

mark_pos : (x : ℕ) → 0 < x → mark x ≡ 0
mark_pos x h = let e : eqb x 0 ≡ false = ne_eqb x 0 (λ q. omega arith) in rw e

-- a zero that is written over
pub zeros_set : (xs : List ℕ) (i y : ℕ) → i < length xs → at xs i ≡ 0 → 0 < y → zeros (set xs i y) + 1 ≡ zeros xs
zeros_set xs i y h e p =
    let b : zeros (set xs i y) + mark (at xs i) ≡ zeros xs + mark y = sum_by-set mark xs i y 0 h in
    let d : zeros (set xs i y) + 1 ≡ zeros xs + mark y = rw e at b in
    omega (arith, mark_pos y p)

pub zeros_le : (xs : List ℕ) → zeros xs ≤ length xs
zeros_le xs = count_by-le-length (λ x. eqb x 0) xs

-- a table that was filled with zeros
pub cleared : (xs : List ℕ) (n : ℕ) → length xs ≡ n → ((k : ℕ) → k < n → at xs k ≡ 0) → (p : ℕ) → at xs p ≡ 0
cleared xs n e h p = split (cases_lt p n) (h p) (λ l. get_or_past xs p 0 (omega arith))

pub zeros_at : (n p : ℕ) → at (replicate n 0) p ≡ 0
zeros_at zero p = refl
zeros_at (suc n) zero = refl
zeros_at (suc n) (suc p) = zeros_at n p
