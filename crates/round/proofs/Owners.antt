-- The table of owners, one clause more.
use Rattle.std.proofs.Common.{◌≡◌, ℕ, zero, suc, ◌+◌, ◌-◌, ◌<◌, ◌≤◌, List, length, drop, sym, ap, ◌∙◌, ⊎_elim, arith}
use borrow.Rule.Slice.PartMut.{put_mid}
use Rattle.std.proofs.lemmas.Slice.{between-put_mid, take-put_mid_below}
use Rattle.std.proofs.lemmas.List.{get_or-take, get_or-drop}
use Rattle.std.proofs.lemmas.Bool.{cases_lt}
use Rattle.round.specs.Rows.{at, Rows, Filled}
use Rattle.round.specs.Occurrences.{Owned}

starts_up : (t : Rows) → Filled t → (a d : ℕ) → a + d ≤ length t.outs → at t.starts a ≤ at t.starts (a + d)
starts_up t w a zero h = let e : at t.starts a ≡ at t.starts (a + 0) = ap (at t.starts) (omega arith) in omega arith
starts_up t w a (suc d) h =
    let e : at t.starts (a + d + 1) ≡ at t.starts (a + suc d) = ap (at t.starts) (omega arith) in
    omega (arith, starts_up t w a d (omega arith), w.rising (a + d) (omega arith))

pub starts_mono : (t : Rows) → Filled t → (a b : ℕ) → a ≤ b → b ≤ length t.outs → at t.starts a ≤ at t.starts b
starts_mono t w a b h l =
    let e : at t.starts (a + (b - a)) ≡ at t.starts b = ap (at t.starts) (omega arith) in
    omega (arith, starts_up t w a (b - a) (omega arith))

pub owned_more : (t : Rows) → Filled t → (c : ℕ) (owner owner' : List ℕ) → c < length t.outs
    → Owned t c (at t.starts c) owner
    → ((j : ℕ) → at t.starts c ≤ j → j < at t.starts (c + 1) → at owner' j ≡ c)
    → ((j : ℕ) → j < at t.starts c → at owner' j ≡ at owner j)
    → Owned t (c + 1) (at t.starts (c + 1)) owner'
owned_more t w c owner owner' l o inside outside = record {
  is = λ c₁ j h b. ⊎_elim
      (λ k. outside j (omega (arith, starts_mono t w (c₁ + 1) c (omega arith) (omega arith))) ∙ o.is c₁ j k b)
      (λ k. let e : c₁ ≡ c = omega arith in inside j (rw e at b).0 (rw e at b).1 ∙ sym e)
      (cases_lt c₁ c);
  within = λ j h. ⊎_elim
      (λ k. let e = outside j k in rw e (let v = o.within j k in (omega (arith, v.0), v.1)))
      (λ k. let e = inside j k h in rw e (omega arith, (k, h)))
      (cases_lt j (at t.starts c));
}

pub owned_all : (t : Rows) → Filled t → (c : ℕ) (owner : List ℕ) → c ≡ length t.outs → Owned t c (at t.starts c) owner
    → Owned t (length t.outs) (length t.places) owner
owned_all t w c owner e o =
    let o₁ : Owned t (length t.outs) (at t.starts (length t.outs)) owner = rw e at o in
    rw w.ends at o₁

-- a part of a table that was filled with c
module _ (owner part : List ℕ) (a e c : ℕ) (inside : a ≤ length owner) (size : length part ≡ e - a) (filled : (k : ℕ) → k < e - a → at part k ≡ c) where
  pub filled_inside : (j : ℕ) → a ≤ j → j < e → at (put_mid a (e - a) owner part) j ≡ c
  filled_inside j h l =
      let owner' : List ℕ = put_mid a (e - a) owner part in
      let m : j ≡ a + (j - a) = omega arith in
      ap (at owner') m ∙ sym (get_or-drop a owner' (j - a) 0) ∙ sym (get_or-take (e - a) (drop a owner') (j - a) 0 (omega arith))
      ∙ ap (λ (xs : List ℕ). at xs (j - a)) (between-put_mid a (e - a) owner part e inside size) ∙ filled (j - a) (omega arith)

  pub filled_before : (j : ℕ) → j < a → at (put_mid a (e - a) owner part) j ≡ at owner j
  filled_before j l =
      sym (get_or-take a (put_mid a (e - a) owner part) j 0 l)
      ∙ ap (λ (xs : List ℕ). at xs j) (take-put_mid_below a (e - a) owner part a (omega arith) inside) ∙ get_or-take a owner j 0 l
