-- Rows while a clause is being written: the places past the last start belong to no clause yet.
use Rattle.std.specs.Prelude.{◌≡◌, ℕ, ◌+◌, ◌<◌, ◌≤◌, List, length, drop}
use Rattle.std.specs.Coded.{Π_prop, le_prop}
use Rattle.std.proofs.Math.Nat.{ℕ_set}
use Rattle.round.specs.Rows.{at, Rows}

-- The bodies stand one after the other, from the first place on.
pub record Writing (t : Rows) : Type 0 where
  pub counted : length t.starts ≡ length t.outs + 1
  pub begins : at t.starts 0 ≡ 0
  pub rising : (c : ℕ) → c < length t.outs → at t.starts c ≤ at t.starts (c + 1)
  pub ends : (c : ℕ) → c ≤ length t.outs → at t.starts c ≤ length t.places

-- the body that is being written
abbrev pub unfinished : Rows → List ℕ
unfinished t = drop (at t.starts (length t.outs)) t.places

-- This fact has one proof at most.
pub writing_prop : (t : Rows) → IsProp (Writing t)
writing_prop t = λ p q i. record {
  counted = ℕ_set _ _ p.counted q.counted i;
  begins = ℕ_set _ _ p.begins q.begins i;
  rising = Π_prop (λ c. Π_prop (λ _. le_prop)) p.rising q.rising i;
  ends = Π_prop (λ c. Π_prop (λ _. le_prop)) p.ends q.ends i;
}
