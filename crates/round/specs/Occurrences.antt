-- Where the conditions occur in the bodies.
use Rattle.std.specs.Prelude.{suc, zero, Some, None, Option, ◌≡◌, ℕ, ◌-◌, ◌<◌, ◌≤◌, List, length, ◌≢◌}
use Rattle.round.specs.Rows.{at, Rows, Body}

-- The places of each condition form a chain, the last place first: `first` has one more than the last place of the
-- condition, `next` one more than the place before; 0 ends the chain. Places below n are chained.
pub record Chained (n : ℕ) (places first next : List ℕ) : Type 0 where
  pub last : (p j : ℕ) → at first p ≤ j → j < n → at places j ≢ p
  pub starts_at : (p : ℕ) → 0 < at first p → (at first p ≤ n) × (at places (at first p - 1) ≡ p)
  pub before : (i : ℕ) → i < n → at next i ≤ i
  pub between : (i j : ℕ) → i < n → at next i ≤ j → j < i → at places j ≢ at places i
  pub goes_on : (i : ℕ) → i < n → 0 < at next i → at places (at next i - 1) ≡ at places i

-- Each place below n has its clause in the table of owners, for the clauses below m.
pub record Owned (t : Rows) (m n : ℕ) (owner : List ℕ) : Type 0 where
  pub is : (c j : ℕ) → c < m → Body t c j → at owner j ≡ c
  pub within : (j : ℕ) → j < n → (at owner j < m) × Body t (at owner j) j

-- The tables have all occurrences.
pub record Linked (t : Rows) (first next owner : List ℕ) : Type 0 where
  pub chained : Chained (length t.places) t.places first next
  pub owned : Owned t (length t.outs) (length t.places) owner

-- one more than a place, 0 for none: how a chain keeps the place that comes next
abbrev pub cursor : Option ℕ → ℕ
cursor None = zero
cursor (Some j) = suc j
