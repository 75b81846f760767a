-- The lines that the console prints. Assumes nothing.
use Rattle.std.specs.Prelude.{ℕ, List, [], ◌∷◌, ◌++◌, Some, None, codes, decimal, Option}
use Rattle.std.specs.List.{flat_map}

-- where a refusal comes from
pub data Layer : Type 0 where
  in_record : Layer
  in_text : Layer
  in_round : Layer

abbrev pub layer_name : Layer → List ℕ
layer_name in_record = codes "record"
layer_name in_text = codes "text"
layer_name in_round = codes "round"

-- What a record is answered: numbers; or a refusal, with its number and the place or ban that it names, if any.
pub data Reply : Type 0 where
  accepted : List ℕ → Reply
  refused : Layer → ℕ → List ℕ → Reply

-- the numbers, each in decimal after a space
abbrev pub numbers : List ℕ → List ℕ
numbers ns = flat_map (λ n. 32 ∷ decimal n) ns

-- a place or ban, if there is one
abbrev pub optional : Option ℕ → List ℕ
optional None = []
optional (Some n) = n ∷ []

-- The line of a reply: the record's mark, the reply, and byte 10.
abbrev pub line : List ℕ → Reply → List ℕ
line mark (accepted ns) = mark ++ (codes " ok" ++ (numbers ns ++ (10 ∷ [])))
line mark (refused layer n places) = mark ++ (codes " no " ++ (layer_name layer ++ (numbers (n ∷ places) ++ (10 ∷ []))))
