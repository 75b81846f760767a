-- What the calls on a round answer: refused with this if .., then with that if .., else this answer.
-- Assumes nothing.
use Rattle.std.specs.Prelude.{◌≡◌, ℕ, zero, suc, ◌+◌, ◌*◌, ◌/◌, ◌^◌, ◌<◌, Bool, false, cond, ◌&&◌, ◌⊎◌, List, [], ◌∷◌, ◌++◌, length, nat_le}
use Rattle.horn.specs.Sheets.{Sheet, IsTooLarge, empty_sheet}
use Rattle.horn.specs.Levels.{in_force, rank, explanation, how_many}
use Rattle.horn.specs.Bans.{lowest_broken, discharged}
use Rattle.horn.specs.Lawfulness.{satisfiable}
use Rattle.round.specs.declared.refusals.Refusal.{Refusal}
use Rattle.round.specs.declared.refusals.Refusal.TheVariants.{TooLarge, NoCondition, FilingsFull, Contradiction, MarksFull, ShortBuffer, NoMark, NotInForce}

-- The numbers answered and what was written to the buffer; or a refusal's number, with the ban that it names, if any.
pub data Answer : Type 0 where
  ok : List ℕ → List ℕ → Answer
  refused : ℕ → List ℕ → Answer

-- the number of a refusal
abbrev pub refusal_number : Refusal → ℕ
refusal_number TooLarge = 5
refusal_number NoCondition = 6
refusal_number FilingsFull = 7
refusal_number (Contradiction n) = 8
refusal_number MarksFull = 9
refusal_number ShortBuffer = 10
refusal_number NoMark = 11
refusal_number NotInForce = 12

-- the ban that a refusal names, if any
abbrev pub refusal_names : Refusal → List ℕ
refusal_names TooLarge = []
refusal_names NoCondition = []
refusal_names FilingsFull = []
refusal_names (Contradiction n) = n ∷ []
refusal_names MarksFull = []
refusal_names ShortBuffer = []
refusal_names NoMark = []
refusal_names NotInForce = []

abbrev pub refusal : Refusal → Answer
refusal e = refused (refusal_number e) (refusal_names e)

-- Refusals are tried in order: where P holds the answer is x, else the rest decides.
abbrev pub Else : Type 0 → Answer → (Answer → Type 0) → Answer → Type 0
Else P x rest a = (P × (a ≡ x)) ⊎ ((P → ⊥) × rest a)

-- the number is no condition of the sheet
abbrev pub Outside : Sheet → ℕ → Type 0
Outside s p = (p ≡ 0) ⊎ (s.top < p)

-- What an opening on the sheet answers: the numbers of clauses, of conditions and of discharged body places.
abbrev pub Opens : Sheet → Answer → Type 0
Opens s =
    Else (IsTooLarge s) (refusal TooLarge)
    (Else (satisfiable s ≡ false) (refusal (Contradiction (lowest_broken s)))
    (λ a. a ≡ ok (length s.clauses ∷ (s.top ∷ (discharged s ∷ []))) []))

-- the sheet of a round after an opening on s; a refused opening leaves the round empty
abbrev pub opened : Answer → Sheet → Sheet
opened (ok ns written) s = s
opened (refused n named) s = empty_sheet

-- What an ask for p answers: 1 for in force, else 0.
abbrev pub Asks : Sheet → ℕ → Answer → Type 0
Asks s p =
    Else (Outside s p) (refusal NoCondition)
    (λ a. a ≡ ok (cond (in_force s p) 1 0 ∷ []) [])

-- how many 32-bit words hold a bit for each of `top` conditions
abbrev pub words_for : ℕ → ℕ
words_for top = (top + 31) / 32

-- a word of n bits: number first + b is bit b
abbrev pub bits : (ℕ → Bool) → ℕ → ℕ → ℕ
bits f first zero = 0
bits f first (suc b) = bits f first b + cond (f (first + b)) (2 ^ b) 0

-- words of 32 bits each, from number 1 on
abbrev pub words_of : (ℕ → Bool) → ℕ → List ℕ
words_of f zero = []
words_of f (suc w) = words_of f w ++ (bits f (32 * w + 1) 32 ∷ [])

-- the test, failed by every number above `top`
abbrev pub up_to : ℕ → (ℕ → Bool) → ℕ → Bool
up_to top f p = f p && nat_le p top

-- The set of the conditions from 1 to top that pass the test: condition p is bit (p − 1) mod 32 of word (p − 1) div 32.
abbrev pub roll_words : (ℕ → Bool) → ℕ → List ℕ
roll_words f top = words_of (up_to top f) (words_for top)

-- What a roll into a buffer of n words answers and writes: how many conditions are in force, and their set.
abbrev pub Rolls : Sheet → ℕ → Answer → Type 0
Rolls s n =
    Else (n < words_for s.top) (refusal ShortBuffer)
    (λ a. a ≡ ok (how_many (in_force s) s.top ∷ []) (roll_words (in_force s) s.top))

-- What an explain of p into a buffer of n places answers and writes: the length of p's shortest pebblings and the number of steps, and the steps.
abbrev pub Explains : Sheet → ℕ → ℕ → Answer → Type 0
Explains s p n =
    Else (Outside s p) (refusal NoCondition)
    (Else (in_force s p ≡ false) (refusal NotInForce)
    (Else (n < length (explanation s p)) (refusal ShortBuffer)
    (λ a. a ≡ ok (rank s p ∷ (length (explanation s p) ∷ [])) (explanation s p))))
