-- Ranks that each clause and each ranked condition bear out are the lengths of the shortest pebblings.
use Rattle.std.proofs.Common.{◌≡◌, ℕ, zero, suc, ◌+◌, ◌-◌, ◌<◌, ◌≤◌, List, length, ap, subst, arith}
use Rattle.round.specs.Rows.{at, Rows, Body, Filled, LawfulRows}

-- Level k holds the conditions with a pebbling of length at most k: the outcomes of the clauses whose conditions
-- are all in the level before.
abbrev pub Level : Rows → ℕ → ℕ → Type 0
Level t zero p = ⊥
Level t (suc k) p =
    (c : ℕ) × (c < length t.outs) × (at t.outs c ≡ p) × ((j : ℕ) → Body t c j → Level t k (at t.places j))

-- r is the length of the shortest pebblings of p, or 0 if p has none
pub record Rank (t : Rows) (p r : ℕ) : Type 0 where
  pub holds : 0 < r → Level t r p
  pub least : (k : ℕ) → k < r → Level t k p → ⊥
  pub none : r ≡ 0 → (k : ℕ) → Level t k p → ⊥

-- every ranked condition has a clause with conditions of lower ranks
abbrev pub Founded : Rows → List ℕ → Type 0
Founded t rank = (p : ℕ) → 0 < at rank p → (c : ℕ) × (c < length t.outs) × (at t.outs c ≡ p)
    × ((j : ℕ) → Body t c j → (0 < at rank (at t.places j)) × (at rank (at t.places j) < at rank p))

-- a clause whose conditions have ranks up to k gives its outcome a rank up to k + 1
abbrev pub Full : Rows → List ℕ → Type 0
Full t rank = (c k : ℕ) → c < length t.outs → 0 < at t.outs c
    → ((j : ℕ) → Body t c j → (0 < at rank (at t.places j)) × (at rank (at t.places j) ≤ k))
    → (0 < at rank (at t.outs c)) × (at rank (at t.outs c) ≤ suc k)

-- levels grow
pub level_more : (t : Rows) (k p : ℕ) → Level t k p → Level t (suc k) p
level_more t zero p h = absurd h
level_more t (suc k) p h = (h.0, h.1, h.2, λ j b. level_more t k (at t.places j) (h.3 j b))

moved : (t : Rows) (a b p : ℕ) → a ≡ b → Level t a p → Level t b p
moved t a b p e h = subst (λ n. Level t n p) e h

pub level_up : (t : Rows) (k d p : ℕ) → Level t k p → Level t (k + d) p
level_up t k zero p h = moved t k (k + 0) p (omega arith) h
level_up t k (suc d) p h = moved t (suc (k + d)) (k + suc d) p (omega arith) (level_more t (k + d) p (level_up t k d p h))

pub level_mono : (t : Rows) (k n p : ℕ) → k ≤ n → Level t k p → Level t n p
level_mono t k n p l h = moved t (k + (n - k)) n p (omega arith) (level_up t k (n - k) p h)

-- bodies end within the places
ends_within : (t : Rows) → Filled t → (c d : ℕ) → c + d ≡ length t.outs → at t.starts c ≤ length t.places
ends_within t w c zero e =
    let q : c ≡ length t.outs = omega arith in
    let s : at t.starts c ≡ at t.starts (length t.outs) = ap (at t.starts) q in omega (arith, w.ends)
ends_within t w c (suc d) e =
    omega (arith, ends_within t w (c + 1) d (omega arith), w.rising c (omega arith))

pub within : (t : Rows) → Filled t → (c : ℕ) → c ≤ length t.outs → at t.starts c ≤ length t.places
within t w c h = ends_within t w c (length t.outs - c) (omega arith)

-- each place of a body holds a condition
pub condition : (n : ℕ) (t : Rows) → LawfulRows n t → (c j : ℕ) → c < length t.outs → Body t c j → (0 < at t.places j) × (at t.places j < n)
condition n t w c j h b = w.conditions j (omega (arith, within t w.rows (c + 1) (omega arith)))

-- a ranked condition is in the level of its rank
pub sound : (t : Rows) (rank : List ℕ) → Founded t rank → (n p : ℕ) → at rank p ≤ n → 0 < at rank p → Level t (at rank p) p
sound t rank f zero p l h = absurd (omega arith)
sound t rank f (suc n) p l h =
    let r : ℕ = at rank p - 1 in
    let g = f p h in
    let v : Level t (suc r) p = (
      g.0,
      g.1,
      g.2,
      λ j b.
          level_mono t (at rank (at t.places j)) r (at t.places j) (omega (arith, g.3 j b))
          (sound t rank f n (at t.places j) (omega (arith, g.3 j b)) (g.3 j b).0),
    ) in
    moved t (suc r) (at rank p) p (omega arith) v

-- a condition in a level has a rank up to it
pub full : (n : ℕ) (t : Rows) → LawfulRows n t → (rank : List ℕ) → Full t rank → (k p : ℕ) → 0 < p → Level t k p → (0 < at rank p) × (at rank p ≤ k)
full n t w rank f zero p h v = absurd v
full n t w rank f (suc k) p h v =
    let e : at t.outs v.0 ≡ p = v.2 in
    let g : (0 < at rank (at t.outs v.0)) × (at rank (at t.outs v.0) ≤ suc k) =
    f v.0 k v.1 (omega arith)
    (λ j b. full n t w rank f k (at t.places j) (condition n t w v.0 j v.1 b).0 (v.3 j b)) in
    rw e at g

-- such ranks are the lengths of the shortest pebblings
pub are_ranks : (n : ℕ) (t : Rows) → LawfulRows n t → (rank : List ℕ) → Founded t rank → Full t rank
    → (p : ℕ) → 0 < p → Rank t p (at rank p)
are_ranks n t w rank f g p h = record {
  holds = sound t rank f (at rank p) p (omega arith);
  least = λ k l v. omega (arith, full n t w rank g k p h v);
  none = λ e k v. omega (arith, full n t w rank g k p h v);
}
