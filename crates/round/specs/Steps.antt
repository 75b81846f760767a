-- What holds between the steps of the computation of ranks.
use Rattle.std.specs.Prelude.{◌≡◌, ℕ, zero, suc, ◌+◌, ◌-◌, ◌<◌, ◌≤◌, ◌⊎◌, List, [], ◌∷◌, ◌++◌, length, count_by, ◌≢◌, nat_eq, slice_set}
use Rattle.round.specs.Rows.{at, Rows, Body}

-- how many entries of the table are 0
abbrev pub zeros : List ℕ → ℕ
zeros xs = count_by (λ x. nat_eq x 0) xs

-- What `enter` does with an outcome o at the rank r: nothing, or it has the rank r and stands at the end of the queue.
pub record Entered (o r : ℕ) (rank queue rank' queue' : List ℕ) : Type 0 where
  pub cases : ((rank' ≡ rank) × (queue' ≡ queue) × ((o ≡ 0) ⊎ (0 < at rank o)))
      ⊎ ((rank' ≡ slice_set rank o r) × (queue' ≡ queue ++ o ∷ []) × (0 < o) × (at rank o ≡ 0))

-- what stood in the queue stands there still
abbrev pub Extended : List ℕ → List ℕ → Type 0
Extended queue queue' = (length queue ≤ length queue') × ((i : ℕ) → i < length queue → at queue' i ≡ at queue i)

-- The ranked conditions stand in the queue below tail. Those below `end` have ranks up to `level`, from `head` on just
-- that; those from `end` on have the next. Each has a clause whose conditions have lower ranks.
pub record Queued (t : Rows) (rank queue : List ℕ) (head end tail level : ℕ) : Type 0 where
  pub room : tail + zeros rank ≤ length rank
  pub order : (head ≤ end) × (end ≤ tail)
  pub ranked : (i : ℕ) → i < tail → (0 < at rank (at queue i)) × (at queue i < length rank)
  pub low : (i : ℕ) → i < end → at rank (at queue i) ≤ level
  pub front : (i : ℕ) → head ≤ i → i < end → at rank (at queue i) ≡ level
  pub back : (i : ℕ) → end ≤ i → i < tail → at rank (at queue i) ≡ level + 1
  pub listed : (p : ℕ) → 0 < at rank p → (i : ℕ) × (i < tail) × (at queue i ≡ p)
  pub founded : (p : ℕ) → 0 < at rank p → (c : ℕ) × (c < length t.outs) × (at t.outs c ≡ p)
      × ((j : ℕ) → Body t c j → (0 < at rank (at t.places j)) × (at rank (at t.places j) < at rank p))

-- The clause c is as its conditions' ranks want it: its outcome is ranked, by at most one more than one of them.
abbrev pub Close : Rows → List ℕ → ℕ → Type 0
Close t rank c = (0 < at rank (at t.outs c)) × ((at rank (at t.outs c) ≤ 1)
    ⊎ ((j : ℕ) × Body t c j × (at rank (at t.outs c) ≤ at rank (at t.places j) + 1)))

-- the sum of f over the n numbers from a on
abbrev pub total : (ℕ → ℕ) → ℕ → ℕ → ℕ
total f a zero = 0
total f a (suc n) = total f a n + f (a + n)

-- The counters of the clauses below m: a place is pending (1) until it is discharged (0), and a counter has the number
-- of the clause's pending places. The places of the conditions in the queue below `done` are discharged, and so are those
-- of p from `cursor` on; those of conditions without a rank, of the queue from `next` on and of p below `cursor` are
-- pending. Where no place of it is pending the clause is closed.
pub record Counted (t : Rows) (m : ℕ) (rank queue count : List ℕ) (done next tail level p cursor : ℕ) : Type 0 where
  pub pending : ℕ → ℕ
  pub counts : (c : ℕ) → c < m → at count c ≡ total pending (at t.starts c) (at t.starts (c + 1) - at t.starts c)
  pub discharged : (j : ℕ) → j < length t.places → pending j ≡ 0 → (0 < at rank (at t.places j)) × (at rank (at t.places j) ≤ level)
  pub unranked : (j : ℕ) → j < length t.places → at rank (at t.places j) ≡ 0 → pending j ≡ 1
  pub waiting : (i j : ℕ) → j < length t.places → next ≤ i → i < tail → at queue i ≡ at t.places j → pending j ≡ 1
  pub here : (j : ℕ) → j < cursor → at t.places j ≡ p → pending j ≡ 1
  pub gone : (i j : ℕ) → j < length t.places → i < done → at queue i ≡ at t.places j → pending j ≡ 0
  pub gone_here : (j : ℕ) → 0 < p → cursor ≤ j → j < length t.places → at t.places j ≡ p → pending j ≡ 0
  pub distinct : (i k : ℕ) → i < k → k < tail → at queue i ≢ at queue k
  pub closed : (c : ℕ) → c < m → at count c ≡ 0 → 0 < at t.outs c → Close t rank c
