-- Judging a text: what a good one is, and which fault of a bad one is reported.
-- Places are counted in bytes from 0. 126 is ~, 80 is P, 40 is (.
use Rattle.std.specs.Prelude.{◌≡◌, ℕ, ◌+◌, ◌-◌, ◌*◌, ◌<◌, ◌≤◌, true, cond, ◌⊎◌, List, [], ◌∷◌, length, take, drop, count_by, ◌≢◌, nat_eq, slice_index, slice_index_or}
use Rattle.horn.specs.Sheets.{top_of, literals}
use Rattle.text.specs.Grammar.{digit, first_digit, Text, Spells, Outside, Longest, clauses}

-- the number whose digits run to the first other byte or the end, after digits with the value v
abbrev pub run_value : ℕ → List ℕ → ℕ
run_value v [] = v
run_value v (b ∷ bs) = cond (digit b) (run_value (10 * v + (b - 48)) bs) v

-- at place i stands the P of condition n
pub record Names (s : List ℕ) (i n : ℕ) : Type 0 where
  pub letter : slice_index_or s i 0 ≡ 80
  pub leads : first_digit (slice_index s (i + 1)) ≡ true
  pub is : n ≡ run_value 0 (drop (i + 1) s)

-- a ~ stands just before place i
abbrev pub Negated : List ℕ → ℕ → Type 0
Negated s i = (0 < i) × (slice_index s (i - 1) ≡ 126)

-- how often the byte b stands before place i
abbrev pub many : ℕ → List ℕ → ℕ → ℕ
many b s i = count_by (λ x. nat_eq x b) (take i s)

-- fault 3: a condition above 1,000
abbrev pub IsTooGreat : List ℕ → ℕ → Type 0
IsTooGreat s i = (n : ℕ) × Names s i n × (1000 < n)

-- condition n stands at place j, in the body in which place i stands and before that place
pub record Held (s : List ℕ) (i n j : ℕ) : Type 0 where
  pub before : j < i
  pub condition : Names s j n
  pub negated : Negated s j
  pub same : (k : ℕ) → j < k → k < i → slice_index s k ≢ 40

-- fault 4: a condition that its body already holds
abbrev pub Repeats : List ℕ → ℕ → Type 0
Repeats s i = (n : ℕ) × Names s i n × Negated s i × ((j : ℕ) × Held s i n j)

-- the first byte of a literal
abbrev pub Begins : List ℕ → ℕ → Type 0
Begins s i = (slice_index s i ≡ 126) ⊎ ((slice_index s i ≡ 80) × (Negated s i → ⊥))

-- fault 5: the ( of clause 2,001, or the first byte of literal 8,001; each literal has one P
abbrev pub IsTooMany : List ℕ → ℕ → Type 0
IsTooMany s i = ((slice_index s i ≡ 40) × (many 40 s i ≡ 2000)) ⊎ (Begins s i × (many 80 s i ≡ 8000))

-- the faults of the limits
abbrev pub Limit : List ℕ → ℕ → ℕ → Type 0
Limit s f i = ((f ≡ 3) × IsTooGreat s i) ⊎ (((f ≡ 4) × Repeats s i) ⊎ ((f ≡ 5) × IsTooMany s i))

-- The text s has fault f at place i: 2 at the end of its longest viable beginning, the others before that place.
abbrev pub Faulty : List ℕ → ℕ → ℕ → Type 0
Faulty s f i = ((f ≡ 2) × Outside s × Longest s i) ⊎ (((v : ℕ) × Longest s v × (i < v)) × Limit s f i)

-- The fault that is reported: at the lowest place, and there of the lowest number.
pub record Reported (s : List ℕ) (f i : ℕ) : Type 0 where
  pub is : Faulty s f i
  pub lowest : (g j : ℕ) → Faulty s g j → (i < j) ⊎ ((i ≡ j) × (f ≤ g))

-- A good text, with its number of clauses, its greatest condition and its number of literals.
pub record Good (s : List ℕ) (m k n : ℕ) : Type 0 where
  pub tree : Text
  pub spells : Spells tree s
  pub none : (g j : ℕ) → Faulty s g j → ⊥
  pub m_is : m ≡ length (clauses tree)
  pub k_is : k ≡ top_of (clauses tree)
  pub n_is : n ≡ literals (clauses tree)
