-- The bit of a condition in a roll's words.
use Rattle.std.proofs.Common.{◌≡◌, ℕ, zero, suc, ◌+◌, ◌-◌, ◌*◌, ◌/◌, ◌%◌, ◌^◌, ◌<◌, ◌≤◌, Bool, true, false, cond, ◌&&◌, leb, [], ◌∷◌, get_or, refl, ap, ◌∙◌, ⊎_elim, arith}
use native.Mathlib.Nat.{add-mul-div_right, div-eq_of_lt}
use Rattle.std.proofs.lemmas.Nat.{pow_pos, pow-add, shr_high}
use Rattle.std.proofs.lemmas.List.{get_or_append_left, get_or_push}
use Rattle.std.proofs.lemmas.Bool.{cases_lt, le-leb}
use Rattle.round.specs.Answers.{words_for, bits, words_of, roll_words}
use Rattle.round.specs.Exact.{bit_of}
use Rattle.round.proofs.Rolls.{and_true, bits_lt, length_words}

-- a multiple of 2 ^ n more leaves the lower bits
low_same : (b n i : ℕ) → i < n → (b + 2 ^ n) / 2 ^ i % 2 ≡ b / 2 ^ i % 2
low_same b n i l =
    let k : ℕ = n - i - 1 in
    let e : n ≡ suc k + i = omega arith in
    let p : 2 ^ n ≡ 2 ^ suc k * 2 ^ i = ap (λ (x : ℕ). 2 ^ x) e ∙ pow-add 2 (suc k) i in
    let d : (b + 2 ^ n) / 2 ^ i ≡ b / 2 ^ i + 2 ^ suc k = ap (λ (x : ℕ). (b + x) / 2 ^ i) p ∙ add-mul-div_right b (2 ^ suc k) (pow_pos i) in
    rw d (omega arith)

-- the bit i is that of the condition first + i
pub bit_is : (f : ℕ → Bool) (first n i : ℕ) → i < n → bits f first n / 2 ^ i % 2 ≡ cond (f (first + i)) 1 0
bit_is f first zero i l = let z : ⊥ = omega arith in absurd z
bit_is f first (suc n) i l = ⊎_elim (λ (h : i < n). low h (bit_is f first n i h)) (λ (h : n ≤ i). high (let e : i ≡ n = omega arith in e)) (cases_lt i n)
  where
    B : ℕ
    B = bits f first n

    low : i < n → B / 2 ^ i % 2 ≡ cond (f (first + i)) 1 0 → (B + cond (f (first + n)) (2 ^ n) 0) / 2 ^ i % 2 ≡ cond (f (first + i)) 1 0
    low h ih = elim (f (first + n)) as (λ b. (B + cond b (2 ^ n) 0) / 2 ^ i % 2 ≡ cond (f (first + i)) 1 0) [
      | true ↦ low_same B n i h ∙ ih
      | false ↦ ap (λ (x : ℕ). x / 2 ^ i % 2) (let e : B + 0 ≡ B = omega arith in e) ∙ ih
    ]

    top : (b : Bool) → (B + cond b (2 ^ n) 0) / 2 ^ n % 2 ≡ cond b 1 0
    top true = let e : (B + 2 ^ n) / 2 ^ n ≡ 1 = ap (λ (x : ℕ). x / 2 ^ n) (let z : B + 2 ^ n ≡ 1 * 2 ^ n + B = omega arith in z) ∙ shr_high 1 n B (bits_lt f first n) in rw e refl
    top false = let e : (B + 0) / 2 ^ n ≡ 0 = ap (λ (x : ℕ). x / 2 ^ n) (let z : B + 0 ≡ B = omega arith in z) ∙ div-eq_of_lt (bits_lt f first n) in rw e refl

    high : i ≡ n → (B + cond (f (first + n)) (2 ^ n) 0) / 2 ^ i % 2 ≡ cond (f (first + i)) 1 0
    high e = rw e (top (f (first + n)))

word_is : (f : ℕ → Bool) (n w : ℕ) → w < n → get_or (words_of f n) w 0 ≡ bits f (32 * w + 1) 32
word_is f zero w l = let z : ⊥ = omega arith in absurd z
word_is f (suc n) w l = ⊎_elim
    (λ (h : w < n). get_or_append_left (words_of f n) (bits f (32 * n + 1) 32 ∷ []) 0 w (let k = length_words f n in omega arith) ∙ word_is f n w h)
    (λ (h : n ≤ w). let e : n ≡ w = omega arith in get_or_push (words_of f n) (bits f (32 * n + 1) 32) 0 w (length_words f n ∙ e) ∙ ap (λ (x : ℕ). bits f (32 * x + 1) 32) e)
    (cases_lt w n)

-- The bit of a condition in the roll of a set is 1 where the set holds it, else 0.
pub rolled : (f : ℕ → Bool) (top q : ℕ) → 1 ≤ q → q ≤ top → bit_of (roll_words f top) q ≡ cond (f q) 1 0
rolled f top q a b =
    let g : ℕ → Bool = λ p. f p && leb p top in
    let w : ℕ = (q - 1) / 32 in
    let i : ℕ = (q - 1) % 32 in
    let e : get_or (roll_words f top) w 0 ≡ bits g (32 * w + 1) 32 = word_is g (words_for top) w (omega arith) in
    let h : get_or (roll_words f top) w 0 / 2 ^ i % 2 ≡ cond (g (32 * w + 1 + i)) 1 0 = ap (λ (x : ℕ). x / 2 ^ i % 2) e ∙ bit_is g (32 * w + 1) 32 i (omega arith) in
    let n : 32 * w + 1 + i ≡ q = omega arith in
    h ∙ ap (λ (x : Bool). cond x 1 0) (ap g n ∙ and_true (f q) (leb q top) (le-leb q top b))
