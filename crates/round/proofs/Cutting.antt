-- Rows of which the first clauses are kept.
use Rattle.std.proofs.Common.{◌≡◌, ℕ, ◌+◌, ◌<◌, ◌≤◌, List, map, length, take, drop, sym, ap, ◌∙◌, subst, ap₂, arith}
use Rattle.std.specs.List.{between, range_with_len}
use Rattle.std.proofs.lemmas.List.{length-take-le, get_or-take, take-append-drop}
use Rattle.std.proofs.lemmas.List.FromFn.{take-map-range_with_len}
use Rattle.horn.specs.Sheets.{Clause}
use Rattle.round.specs.Rows.{at, rows, kept_outcome, clause_in, clauses_in, Filled}
use Rattle.round.proofs.Growing.{filled_writing, alike, between_append}

module _ (os ss ps : List ℕ) (f : Filled (rows os ss ps)) (n : ℕ) (few : n ≤ length os) where
  cut_outs : length (take n os) ≡ n
  cut_outs = length-take-le n os few

  cut_places : length (take (at ss n) ps) ≡ at ss n
  cut_places = length-take-le (at ss n) ps ((filled_writing (rows os ss ps) f).ends n few)

  start_kept : (c : ℕ) → c ≤ n → at (take (n + 1) ss) c ≡ at ss c
  start_kept c l = get_or-take (n + 1) ss c 0 (omega arith)

  cut_filled : Filled (rows (take n os) (take (n + 1) ss) (take (at ss n) ps))
  cut_filled = record {
    counted = omega (arith, length-take-le (n + 1) ss (omega (arith, f.counted)), cut_outs);
    begins = start_kept 0 (omega arith) ∙ f.begins;
    rising = λ c l. let k : c < n = omega (arith, cut_outs) in omega (arith, f.rising c (omega arith), start_kept c (omega arith), start_kept (c + 1) (omega arith));
    ends = ap (at (take (n + 1) ss)) cut_outs ∙ start_kept n (omega arith) ∙ sym cut_places;
  }

  clause_kept : (c : ℕ) → c < n → clause_in (rows (take n os) (take (n + 1) ss) (take (at ss n) ps)) c ≡ clause_in (rows os ss ps) c
  clause_kept c l =
      let w = filled_writing (rows (take n os) (take (n + 1) ss) (take (at ss n) ps)) cut_filled in
      let here : c < length (take n os) = omega (arith, cut_outs) in
      let qs : List ℕ = take (at ss n) ps in
      let a : ℕ = at (take (n + 1) ss) c in
      let b : ℕ = at (take (n + 1) ss) (c + 1) in
      let whole : between a b ps ≡ between a b qs =
      ap (between a b) (sym (take-append-drop (at ss n) ps)) ∙ between_append qs (drop (at ss n) ps) a b (w.rising c here) (w.ends (c + 1) (omega arith)) in
      ap₂ (λ (x : List ℕ) (o : ℕ). record { body = x; outcome = kept_outcome o })
      (sym whole ∙ ap₂ (λ x y. between x y ps) (start_kept c (omega arith)) (start_kept (c + 1) (omega arith)))
      (get_or-take n os c 0 l)

  cut_clauses : clauses_in (rows (take n os) (take (n + 1) ss) (take (at ss n) ps)) ≡ take n (clauses_in (rows os ss ps))
  cut_clauses =
      let g : ℕ → Clause = clause_in (rows (take n os) (take (n + 1) ss) (take (at ss n) ps)) in
      ap (λ m. map g (range_with_len 0 m)) cut_outs
      ∙ alike g (clause_in (rows os ss ps)) n clause_kept
      ∙ sym (take-map-range_with_len (clause_in (rows os ss ps)) 0 (length os) n few)

  -- the rows that are left
  module _ (os' ss' ps' : List ℕ) (eo : os' ≡ take n os) (es : ss' ≡ take (n + 1) ss) (ep : ps' ≡ take (at ss n) ps) where
    left : rows os' ss' ps' ≡ rows (take n os) (take (n + 1) ss) (take (at ss n) ps)
    left = λ i. rows (eo i) (es i) (ep i)

    pub left_filled : Filled (rows os' ss' ps')
    left_filled = subst Filled (sym left) cut_filled

    pub left_clauses : clauses_in (rows os' ss' ps') ≡ take n (clauses_in (rows os ss ps))
    left_clauses = ap clauses_in left ∙ cut_clauses

    pub left_places : length ps' ≡ at ss n
    left_places = ap length ep ∙ cut_places
