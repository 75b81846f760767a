-- The records of the console's input, and how they lie in it. Assumes nothing.
use Rattle.std.specs.Prelude.{◌≡◌, ℕ, ◌/◌, ◌%◌, ◌<◌, List, [], ◌∷◌, ◌++◌, length, codes, ◌≢◌}
use Rattle.std.specs.List.{flat_map, AllByRecursion}

-- the network's sheet and the show's sheet, each with its text; an opening; a question for a condition
pub data Record : Type 0 where
  network : List ℕ → Record
  show : List ℕ → Record
  opening : Record
  asking : ℕ → Record

-- the two bytes at which a record is known
abbrev pub mark : Record → List ℕ
mark (network t) = codes "NS"
mark (show t) = codes "SS"
mark opening = codes "OP"
mark (asking n) = codes "AS"

-- a number in two bytes, the high one first
abbrev pub two_bytes : ℕ → List ℕ
two_bytes n = n / 256 ∷ n % 256 ∷ []

-- what follows the mark: the text's length and the text, a number, or nothing
abbrev pub content : Record → List ℕ
content (network t) = two_bytes (length t) ++ t
content (show t) = two_bytes (length t) ++ t
content opening = []
content (asking n) = two_bytes n

abbrev pub bytes_of : Record → List ℕ
bytes_of r = mark r ++ content r

-- its length or number can be told in two bytes
abbrev pub Fitting : Record → Type 0
Fitting (network t) = length t < 65536
Fitting (show t) = length t < 65536
Fitting opening = Unit {0}
Fitting (asking n) = n < 65536

-- no record begins here
abbrev pub NoRecord : List ℕ → Type 0
NoRecord bs = (r : Record) (tail : List ℕ) → Fitting r → bs ≢ bytes_of r ++ tail

-- the bytes of these records, one after the other
abbrev pub all_bytes : List Record → List ℕ
all_bytes rs = flat_map bytes_of rs

-- The input is these records and then a rest at which no record begins.
pub record Parsed (input : List ℕ) (rs : List Record) (rest : List ℕ) : Type 0 where
  pub fitting : AllByRecursion Fitting rs
  pub whole : input ≡ all_bytes rs ++ rest
  pub ended : NoRecord rest

-- An input has at most one such reading; that it has one, `serve` shows, wherever there is memory.
abbrev pub ParsedOnce : Type 0
ParsedOnce = (input : List ℕ) (rs qs : List Record) (a b : List ℕ) → Parsed input rs a → Parsed input qs b → (rs ≡ qs) × (a ≡ b)
