-- A set as bits in words, and its size.
use Rattle.std.proofs.Common.{◌≡◌, ℕ, zero, suc, ◌+◌, ◌-◌, ◌*◌, ◌/◌, ◌%◌, ◌^◌, ◌<◌, ◌≤◌, Bool, true, false, cond, ◌&&◌, leb, List, [], ◌∷◌, ◌++◌, length, get_or, drop, set, sym, refl, ap, ◌∙◌, ap₂, append_assoc, pow-suc, add-one, arith, length-append, drop-cons, pow_mono}
use lib.Count.{ones, ones_step}
use mir.Val.{bool_byte}
use lib.Seq.{set_at}
use Rattle.std.proofs.lemmas.Bool.{le-leb, lt-leb, and_right}
use Rattle.horn.specs.Levels.{how_many}
use Rattle.round.specs.Answers.{bits, words_of, words_for, roll_words, up_to}

bit_le : (b : Bool) → cond b 1 0 ≤ 1
bit_le true = omega arith
bit_le false = omega arith

-- the lowest bit first
bits_front : (f : ℕ → Bool) (first n : ℕ) → bits f first (suc n) ≡ 2 * bits f (suc first) n + cond (f first) 1 0
bits_front f first zero = let e : first + 0 ≡ first = omega arith in ap (λ p. 0 + cond (f p) 1 0) e
bits_front f first (suc n) =
    let e : first + suc n ≡ suc first + n = omega arith in
    let d : cond (f (first + suc n)) (2 ^ suc n) 0 ≡ 2 * cond (f (suc first + n)) (2 ^ n) 0 = ap (λ p. cond (f p) (2 ^ suc n) 0) e ∙ double (f (suc first + n)) in
    omega (arith, bits_front f first n, d)
  where
    double : (b : Bool) → cond b (2 ^ suc n) 0 ≡ 2 * cond b (2 ^ n) 0
    double true = rw pow-suc (omega arith)
    double false = refl

pub bits_lt : (f : ℕ → Bool) (first n : ℕ) → bits f first n < 2 ^ n
bits_lt f first zero = omega arith
bits_lt f first (suc n) = rw pow-suc (omega (arith, bits_front f first n, bits_lt f (suc first) n, bit_le (f first)))

-- how many of the n numbers from `first` on pass the test
abbrev pub size : (ℕ → Bool) → ℕ → ℕ → ℕ
size f first zero = 0
size f first (suc n) = cond (f first) 1 0 + size f (suc first) n

pub size_le : (f : ℕ → Bool) (first n : ℕ) → size f first n ≤ n
size_le f first zero = omega arith
size_le f first (suc n) = omega (arith, size_le f (suc first) n, bit_le (f first))

pub ones_bits : (f : ℕ → Bool) (first n : ℕ) → ones (bits f first n) ≡ size f first n
unfolding ones
ones_bits f first zero = refl
ones_bits f first (suc n) =
    let x : ℕ = bits f (suc first) n in
    let b : ℕ = cond (f first) 1 0 in
    let m : (2 * x + b) % 2 ≡ b = omega (arith, bit_le (f first)) in
    let d : (2 * x + b) / 2 ≡ x = omega (arith, bit_le (f first)) in
    ap ones (bits_front f first n) ∙ ones_step (2 * x + b) ∙ ap₂ (λ u v. u + v) m (ap ones d ∙ ones_bits f (suc first) n)

pub how_many_add : (f : ℕ → Bool) (n m : ℕ) → how_many f (n + m) ≡ how_many f n + size f (suc n) m
how_many_add f n zero = let e : n + 0 ≡ n = omega arith in omega (arith, ap (how_many f) e)
how_many_add f n (suc m) =
    let e : n + suc m ≡ suc n + m = omega arith in
    omega (arith, ap (how_many f) e, how_many_add f (suc n) m, one (f (suc n)))
  where
    one : (b : Bool) → cond b (suc (how_many f n)) (how_many f n) ≡ how_many f n + cond b 1 0
    one true = omega arith
    one false = omega arith

pub and_true : (b c : Bool) → c ≡ true → (b && c) ≡ b
and_true true c e = e
and_true false c e = refl

-- tests alike at the numbers from 1 on make the same set
module _ (f g : ℕ → Bool) (n : ℕ) (same : (p : ℕ) → 0 < p → p ≤ n → f p ≡ g p) where
  pub how_many_same : (m : ℕ) → m ≤ n → how_many f m ≡ how_many g m
  how_many_same zero h = refl
  how_many_same (suc m) h = ap₂ (λ (b : Bool) (k : ℕ). cond b (suc k) k) (same (suc m) (omega arith) h) (how_many_same m (omega arith))

  pub bits_same : (first b : ℕ) → 0 < first → first + b ≤ suc n → bits f first b ≡ bits g first b
  bits_same first zero l h = refl
  bits_same first (suc b) l h = ap₂ (λ (x : ℕ) (c : Bool). x + cond c (2 ^ b) 0) (bits_same first b l (omega arith)) (same (first + b) (omega arith) (omega arith))

  pub words_same : (w : ℕ) → 32 * w ≤ n → words_of f w ≡ words_of g w
  words_same zero h = refl
  words_same (suc w) h = ap₂ (λ (ws : List ℕ) (x : ℕ). ws ++ x ∷ []) (words_same w (omega arith)) (bits_same (32 * w + 1) 32 (omega arith) (omega arith))

module _ (f : ℕ → Bool) (top : ℕ) where
  above : (k : ℕ) → how_many (up_to top f) (top + k) ≡ how_many f top
  above zero =
      let e : top + 0 ≡ top = omega arith in
      ap (how_many (up_to top f)) e ∙ how_many_same (up_to top f) f top (λ p l h. and_true (f p) (leb p top) (le-leb p top h)) top (omega arith)
  above (suc k) =
      let e : top + suc k ≡ suc (top + k) = omega arith in
      let n : up_to top f (suc (top + k)) ≡ false = and_right (f (suc (top + k))) (leb (suc (top + k)) top) (lt-leb (suc (top + k)) top (omega arith)) in
      ap (how_many (up_to top f)) e ∙ ap (λ (b : Bool). cond b (suc (how_many (up_to top f) (top + k))) (how_many (up_to top f) (top + k))) n ∙ above k

  -- what lies above `top` does not count
  pub how_many_up_to : (n : ℕ) → top ≤ n → how_many (up_to top f) n ≡ how_many f top
  how_many_up_to n h = let e : n ≡ top + (n - top) = omega arith in ap (how_many (up_to top f)) e ∙ above (n - top)

-- sets alike are written alike
pub roll_same : (f g : ℕ → Bool) (top : ℕ) → ((p : ℕ) → 0 < p → f p ≡ g p) → roll_words f top ≡ roll_words g top
roll_same f g top h = words_same (up_to top f) (up_to top g) (32 * words_for top) (λ p l _. ap (λ (b : Bool). b && leb p top) (h p l)) (words_for top) (omega arith)

pub length_words : (f : ℕ → Bool) (w : ℕ) → length (words_of f w) ≡ w
length_words f zero = refl
length_words f (suc w) = omega (arith, length-append (words_of f w) (bits f (32 * w + 1) 32 ∷ []), length_words f w)

-- one bit more, in front
pub word_more : (f : ℕ → Bool) (first b w bit : ℕ) → 0 < b → b ≤ 32 → w ≡ bits f (first + b) (32 - b) → bit ≡ bool_byte (f (first + (b - 1))) → w * 2 + bit ≡ bits f (first + (b - 1)) (32 - (b - 1))
word_more f first b w bit p h e d =
    let n : 32 - (b - 1) ≡ suc (32 - b) = omega arith in
    let q : suc (first + (b - 1)) ≡ first + b = omega arith in
    let x : bits f (suc (first + (b - 1))) (32 - b) ≡ w = ap (λ k. bits f k (32 - b)) q ∙ sym e in
    let y : bits f (first + (b - 1)) (32 - (b - 1)) ≡ 2 * bits f (suc (first + (b - 1))) (32 - b) + cond (f (first + (b - 1))) 1 0 = ap (bits f (first + (b - 1))) n ∙ bits_front f (first + (b - 1)) (32 - b) in
    omega (arith, x, y, d, byte (f (first + (b - 1))))
  where
    byte : (b : Bool) → bool_byte b ≡ cond b 1 0
    byte true = refl
    byte false = refl

pub word_fits : (f : ℕ → Bool) (first b : ℕ) → b ≤ 32 → bits f first b < 2 ^ 32
word_fits f first b h = omega (arith, bits_lt f first b, pow_mono h)

-- one word more in the buffer
pub words_more : (f : ℕ → Bool) (before ws : List ℕ) (w x : ℕ) → w < length before → ws ≡ words_of f w ++ drop w before → x ≡ bits f (32 * w + 1) 32 → set ws w x ≡ words_of f (w + 1) ++ drop (w + 1) before
words_more f before ws w x h e d =
    ap (λ (l : List ℕ). set l w x) (e ∙ ap (λ (l : List ℕ). words_of f w ++ l) (drop-cons before w 0 h))
    ∙ set_at (words_of f w) (get_or before w 0) (drop (suc w) before) x w (length_words f w)
    ∙ ap (λ (v : ℕ). words_of f w ++ v ∷ drop (suc w) before) d
    ∙ sym (append_assoc (words_of f w) (bits f (32 * w + 1) 32 ∷ []) (drop (suc w) before))
    ∙ ap (λ (k : ℕ). words_of f k ++ drop k before) (sym (add-one w))

-- the ones of a word more
pub count_more : (f : ℕ → Bool) (w n x : ℕ) → n ≡ how_many f (32 * w) → x ≡ bits f (32 * w + 1) 32 → n + ones x ≡ how_many f (32 * (w + 1))
count_more f w n x e d =
    let k : 32 * (w + 1) ≡ 32 * w + 32 = omega arith in
    let q : 32 * w + 1 ≡ suc (32 * w) = add-one (32 * w) in
    let o : ones x ≡ size f (suc (32 * w)) 32 = ap ones d ∙ ones_bits f (32 * w + 1) 32 ∙ ap (λ j. size f j 32) q in
    omega (arith, e, o, ap (how_many f) k, how_many_add f (32 * w) 32)

pub ones_few : (f : ℕ → Bool) (first x : ℕ) → x ≡ bits f first 32 → ones x ≤ 32
ones_few f first x d = let o : ones x ≡ size f first 32 = ap ones d ∙ ones_bits f first 32 in omega (arith, o, size_le f first 32)
