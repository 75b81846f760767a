-- The clauses of rows, by their numbers.
use Rattle.std.proofs.Common.{◌≡◌, ℕ, zero, suc, ◌+◌, ◌-◌, ◌<◌, ◌≤◌, List, length, get_or, take, drop, Some, None, Option, Bor, ltb, sym, refl, ap, ◌∙◌, ap₂, arith, length-drop, length-take}
use Rattle.std.specs.Option.{IfSome, is_some, option_copied, option_map}
use native.Mathlib.Decide.{dec_le}
use borrow.Author.Tests.{ltb-true, ltb-false}
use Rattle.std.specs.List.{between, slice_get}
use Rattle.std.proofs.lemmas.List.{get_or-take, get_or-drop, get_or_read_under}
use Rattle.std.proofs.lemmas.List.FromFn.{length-map-range_with_len}
use Rattle.std.proofs.lemmas.Option.{slice_get-get_or, slice_get_past, slice_get_read}
use Rattle.horn.specs.Sheets.{Sheet, Clause, clause_at, outcome_number}
use Rattle.horn.specs.Sources.{at_place, place_of, outcome_at}
use Rattle.horn.proofs.Tests.{some_inj, none_some}
use Rattle.round.proofs.Meaning.{clause_here}
use Rattle.round.specs.Rows.{at, Rows, kept_outcome, clause_in, clauses_in, sheet_in}
use Rattle.round.specs.Writing.{Writing}
use Rattle.round.specs.Held.{body_at}

pub clause_at_nth : (s : Sheet) (i : ℕ) → 1 ≤ i → clause_at s i ≡ slice_get s.clauses (i - 1)
clause_at_nth s zero h = absurd (omega arith)
clause_at_nth s (suc i) h = let e : i ≡ suc i - 1 = omega arith in ap (slice_get s.clauses) e

pub at_place_nth : (ps : List ℕ) (j : ℕ) → 1 ≤ j → at_place ps j ≡ slice_get ps (j - 1)
at_place_nth ps zero h = absurd (omega arith)
at_place_nth ps (suc j) h = let e : j ≡ suc j - 1 = omega arith in ap (slice_get ps) e

pub length_clauses : (t : Rows) → length (clauses_in t) ≡ length t.outs
length_clauses t = length-map-range_with_len (clause_in t) 0 (length t.outs)

module _ (top : ℕ) (t : Rows) (n i : ℕ) (size : n ≡ length t.outs) (low : 1 ≤ i) where
  pub none_at : n ≤ i - 1 → clause_at (sheet_in top t) i ≡ None
  none_at h = clause_at_nth (sheet_in top t) i low ∙ slice_get_past (clauses_in t) (i - 1) (omega (arith, length_clauses t))

  pub clause_found : i - 1 < n → clause_at (sheet_in top t) i ≡ Some (clause_in t (i - 1))
  clause_found h = clause_at_nth (sheet_in top t) i low ∙ clause_here t (i - 1) (omega arith)

pub kept_number : (o : ℕ) → outcome_number (kept_outcome o) ≡ o
kept_number zero = refl
kept_number (suc o) = refl

pub size_between : (ps : List ℕ) (a b : ℕ) → a ≤ b → b ≤ length ps → length (between a b ps) ≡ b - a
size_between ps a b h l = simp (length-take, length-drop) (omega arith)

pub nth_between : (ps : List ℕ) (a b j : ℕ) → b ≤ length ps → a + j < b → slice_get (between a b ps) j ≡ Some (get_or ps (a + j) 0)
nth_between ps a b j l h =
    let s : length (between a b ps) ≡ b - a = size_between ps a b (omega arith) l in
    let q : j < length (between a b ps) = omega arith in
    let t : j < b - a = omega arith in
    slice_get-get_or (between a b ps) j 0 q ∙ ap Some (get_or-take (b - a) (drop a ps) j 0 t ∙ get_or-drop a ps j 0)

-- where the body of clause i stands
pub record Found (top : ℕ) (t : Rows) (i from end : ℕ) : Type 0 where
  pub rising : from ≤ end
  pub within : end ≤ length t.places
  pub is : Some (take (end - from) (drop from t.places)) ≡ body_at (sheet_in top t) i

module _ (top : ℕ) (t : Rows) (w : Writing t) (starts : List ℕ) (same : starts ≡ t.starts) (i k : ℕ) (number : (1 ≤ i) × (k ≡ i - 1)) where
  pub not_found : length starts ≤ k + 1 → body_at (sheet_in top t) i ≡ None
  not_found h = ap (option_map (λ (c : Clause). c.body)) (none_at top t (length t.outs) i refl number.0 (omega (arith, w.counted, ap length same)))

  pub found : (from end : ℕ) → from ≡ get_or t.starts k from → (k + 1 < length starts) × ((d : ℕ) → end ≡ get_or starts (k + 1) d) → Found top t i from end
  found from end f e =
      let lt : i - 1 < length t.outs = omega (arith, w.counted, ap length same, e.0) in
      let a : from ≡ at t.starts (i - 1) = get_or_read_under t.starts k (length t.starts) from 0 f (omega (arith, w.counted)) refl ∙ ap (at t.starts) number.1 in
      let b : end ≡ at t.starts (i - 1 + 1) = e.1 0 ∙ ap₂ (λ (xs : List ℕ) (n : ℕ). get_or xs (n + 1) 0) same number.1 in
      record {
        rising = omega (arith, a, b, w.rising (i - 1) lt);
        within = omega (arith, b, w.ends (i - 1 + 1) (omega arith));
        is = ap Some (ap₂ (λ (x y : ℕ). between x y t.places) a b) ∙ sym (ap (option_map (λ (c : Clause). c.body)) (clause_found top t (length t.outs) i refl number.0 lt));
      }

-- a read of an element, if it is there
pub copied_is : (xs : List ℕ) (k : ℕ) (o : Option (Bor ℕ)) → is_some o ≡ ltb k (length xs) → IfSome o (λ x. x.now ≡ get_or xs k x.now) → option_copied o ≡ slice_get xs k
copied_is xs k None e h = sym (slice_get_past xs k (ltb-false k (length xs) (sym e)))
copied_is xs k (Some x) e h = sym (slice_get_read xs (length xs) k x.now refl (ltb-true k (length xs) (sym e)) h)

-- what the questions answer
pub outcome_found : (top : ℕ) (t : Rows) (i k : ℕ) → (1 ≤ i) × (k ≡ i - 1) → slice_get t.outs k ≡ outcome_at (sheet_in top t) i
outcome_found top t i k number = by (dec_le (length t.outs) (i - 1))
  where
    by : Dec (length t.outs ≤ i - 1) → slice_get t.outs k ≡ outcome_at (sheet_in top t) i
    by (yes a) = slice_get_past t.outs k (omega (arith, number.1)) ∙ sym (ap (option_map (λ (c : Clause). outcome_number c.outcome)) (none_at top t (length t.outs) i refl number.0 a))
    by (no a) =
        slice_get-get_or t.outs k 0 (omega (arith, number.1))
        ∙ ap (λ (n : ℕ). Some (get_or t.outs n 0)) number.1
        ∙ ap Some (sym (kept_number (at t.outs (i - 1))))
        ∙ sym (ap (option_map (λ (c : Clause). outcome_number c.outcome)) (clause_found top t (length t.outs) i refl number.0 (omega arith)))

pub place_found : (o : Option Clause) (b : List ℕ) (j k : ℕ) → Some b ≡ option_map (λ c. c.body) o → (1 ≤ j) × (k ≡ j - 1) → slice_get b k ≡ place_of o j
place_found None b j k e number = absurd (none_some (sym e))
place_found (Some c) b j k e number = ap₂ (λ (x : List ℕ) (n : ℕ). slice_get x n) (some_inj e) number.1 ∙ sym (at_place_nth c.body j number.0)
