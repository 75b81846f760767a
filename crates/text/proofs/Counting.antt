-- One byte more in the counts.
use Rattle.std.proofs.Common.{◌≡◌, ℕ, ◌+◌, ◌<◌, ◌≤◌, max, List, length, get_or, drop, arith, ne_eqb}
use Rattle.text.specs.declared.verdict.Counts.{Counts}
use Rattle.text.specs.Judging.{many}
use Rattle.text.specs.Limits.{lead_value, top_in, Counted}
use Rattle.text.proofs.Numbers.{many_low, many_more, top_more}

pub counted : (s : List ℕ) (i : ℕ) (c : Counts) → c.clauses ≡ many 40 s i → c.literals ≡ many 80 s i → max c.conditions (top_in (drop i s)) ≡ top_in s → c.conditions ≤ 1000 → Counted s i c
counted s i c m n t low = record { clauses_is = m; literals_is = n; top_is = t; few_clauses = omega (arith, many_low 40 s i); few_literals = omega (arith, many_low 80 s i); low_top = low }

module _ (s : List ℕ) (i : ℕ) (c : Counts) (within : i < length s) (h : Counted s i c) where
  pub step_open : get_or s i 0 ≡ 40 → Counted s (i + 1) (record { clauses = c.clauses + 1; conditions = c.conditions; literals = c.literals })
  step_open e =
      let m = rw e at (many_more 40 s i within) in
      let n = rw e at (many_more 80 s i within) in
      let t = rw e at (top_more s i within) in
      record { clauses_is = omega arith; literals_is = omega arith; top_is = omega arith; few_clauses = omega arith; few_literals = omega arith; low_top = omega arith }

  pub step_letter : (k : ℕ) → k ≡ max c.conditions (lead_value (drop (i + 1) s)) → k ≤ 1000 → get_or s i 0 ≡ 80 → Counted s (i + 1) (record { clauses = c.clauses; conditions = k; literals = c.literals + 1 })
  step_letter k is low e =
      let m = rw e at (many_more 40 s i within) in
      let n = rw e at (many_more 80 s i within) in
      let t = rw e at (top_more s i within) in
      record { clauses_is = omega arith; literals_is = omega arith; top_is = omega arith; few_clauses = omega arith; few_literals = omega arith; low_top = omega arith }

  pub step_other : (get_or s i 0 ≡ 40 → ⊥) → (get_or s i 0 ≡ 80 → ⊥) → Counted s (i + 1) c
  step_other no-open no-letter =
      let m = rw (ne_eqb (get_or s i 0) 40 no-open) at (many_more 40 s i within) in
      let n = rw (ne_eqb (get_or s i 0) 80 no-letter) at (many_more 80 s i within) in
      let t = rw (ne_eqb (get_or s i 0) 80 no-letter) at (top_more s i within) in
      record { clauses_is = omega arith; literals_is = omega arith; top_is = omega arith; few_clauses = omega arith; few_literals = omega arith; low_top = omega arith }
