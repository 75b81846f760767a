-- The chosen clauses of a sheet, found in rows by a table of ranks.
use Rattle.std.proofs.Common.{◌≡◌, ℕ, zero, suc, ◌+◌, ◌-◌, ◌<◌, ◌≤◌, Bool, true, false, ◌&&◌, ltb, List, length, set, Some, sym, ap, ◌∙◌, ap₂, arith}
use Rattle.std.proofs.lemmas.Bool.{cases_eq, cases_lt, cases_Bool, and_parts, and_from, and_left, both_ways, lt-ltb, le-ltb, cond-true}
use Rattle.horn.specs.Sheets.{Sheet, Clause, Condition, Lawful, LawfulClause, all_of, gives, clause_at}
use Rattle.horn.specs.Levels.{in_force, rank, explains, chosen, chosen_body}
use Rattle.horn.proofs.Tests.{none_some, all_nth}
use Rattle.horn.proofs.Levels.{level_condition}
use Rattle.horn.proofs.Explained.{First, first_is, explains_some, choosing, chosen_body_is, body_in_force}
use Rattle.round.specs.Rows.{at, Rows, clause_in, clauses_in, sheet_in}
use Rattle.round.specs.Ranks.{Ranks, ranked}
use Rattle.round.specs.Needed.{lower, explains_by, ChosenFrom, Choices}
use Rattle.round.proofs.Bans.{all_agree}
use Rattle.round.proofs.Meaning.{clause_here, here_clause, gives_from, gives_to, in_force_ranked}
use Rattle.round.proofs.Sets.{at_same, at_other, split}

-- the table's rank of a condition in force
pub rank_here : (s : Sheet) (table : List ℕ) → Ranks s table → (p : ℕ) → 0 < p → in_force s p ≡ true → at table p ≡ rank s p
rank_here s table r p h e = r p h ∙ cond-true (in_force s p) (rank s p) 0 e

pub ranked_force : (s : Sheet) (table : List ℕ) → Ranks s table → (p : ℕ) → 0 < p → 0 < at table p → in_force s p ≡ true
ranked_force s table r p h l = sym (in_force_ranked s table r p h) ∙ lt-ltb 0 (at table p) l

-- The clause before c either supports its outcome, and is written over what stands there, or does not.
module _ (t : Rows) (table picked : List ℕ) (c : ℕ) (some : 0 < c) (old : ChosenFrom t table c picked) where
  outcome : (p d : ℕ) → explains_by table p (clause_in t d) ≡ true → (at t.outs d ≡ p) × (all_of (lower table (at table (at t.outs d))) (clause_in t d).body ≡ true)
  outcome p d e =
      let x = and_parts (gives (clause_in t d) p) (all_of (lower table (at table p)) (clause_in t d).body) e in
      let g : at t.outs d ≡ p = gives_to (at t.outs d) p x.0 in
      (g, ap (λ (y : ℕ). all_of (lower table (at table y)) (clause_in t d).body) g ∙ x.1)

  pub chosen_hit : at t.outs (c - 1) < length picked → all_of (lower table (at table (at t.outs (c - 1)))) (clause_in t (c - 1)).body ≡ true
      → ChosenFrom t table (c - 1) (set picked (at t.outs (c - 1)) (c - 1 + 1))
  chosen_hit in_table hit p d pos l h e low = split (cases_eq d (c - 1))
      (λ z. at_same picked (at t.outs (c - 1)) (c - 1 + 1) p in_table (sym (outcome p d e).0 ∙ ap (at t.outs) z) ∙ ap (λ (x : ℕ). x + 1) (sym z))
      (λ z. at_other picked (at t.outs (c - 1)) (c - 1 + 1) p
      (λ q. both_ways _ (low (c - 1) (omega arith) (omega arith))
      (and_from _ _ (gives_from (at t.outs (c - 1)) p pos (sym q)) (ap (λ (y : ℕ). all_of (lower table (at table y)) (clause_in t (c - 1)).body) q ∙ hit)))
      ∙ old p d pos (omega arith) h e (λ i a b. low i (omega arith) b))

  pub chosen_miss : all_of (lower table (at table (at t.outs (c - 1)))) (clause_in t (c - 1)).body ≡ false → ChosenFrom t table (c - 1) picked
  chosen_miss miss p d pos l h e low = split (cases_eq d (c - 1))
      (λ z. absurd (both_ways _ miss (ap (λ (x : ℕ). all_of (lower table (at table (at t.outs x))) (clause_in t x).body) (sym z) ∙ (outcome p d e).1)))
      (λ z. old p d pos (omega arith) h e (λ i a b. low i (omega arith) b))

module _ (t : Rows) (top : ℕ) (table : List ℕ) (lawful : Lawful (sheet_in top t)) (r : Ranks (sheet_in top t) table) where
  module _ (p : ℕ) (h : in_force (sheet_in top t) p ≡ true) where
    abbrev s : Sheet
    s = sheet_in top t

    known : Condition s p
    known = level_condition s lawful top p h

    lower_same : (b : ℕ) → Condition s b → lower table (at table p) b ≡ ltb (rank s b) (rank s p)
    lower_same b k = split (cases_Bool (in_force s b))
        (λ e. ap (λ (x : Bool). x && ltb (at table b) (at table p)) (in_force_ranked s table r b k.0 ∙ e)
        ∙ ap₂ ltb (rank_here s table r b k.0 e) (rank_here s table r p known.0 h))
        (λ e. and_left (ranked table b) (ltb (at table b) (at table p)) (in_force_ranked s table r b k.0 ∙ e)
        ∙ sym (le-ltb (rank s b) (rank s p) (split (cases_lt (rank s b) (rank s p)) (λ l. absurd (both_ways _ e (body_in_force s p b h l))) (λ l. l))))

    explains_same : (d : ℕ) → d < length t.outs → explains_by table p (clause_in t d) ≡ explains s p (clause_in t d)
    explains_same d l =
        ap (λ (x : Bool). gives (clause_in t d) p && x)
        (all_agree s (lower table (at table p)) (λ b. ltb (rank s b) (rank s p)) lower_same (clause_in t d).body
        (all_nth (LawfulClause s) (clauses_in t) d (clause_in t d) (clause_here t d l) lawful).conditions)

    chosen_is : (picked : List ℕ) → ChosenFrom t table 0 picked → at picked p ≡ chosen s p
    chosen_is picked all =
        let f : First (explains s p) (clauses_in t) = first_is (explains s p) (clauses_in t) (explains_some s p h) in
        let x = here_clause t f.at f.it f.is_at in
        let e : at picked p ≡ f.at + 1 = all p f.at known.0 (omega arith) x.0 (explains_same f.at x.0 ∙ ap (explains s p) x.1 ∙ f.passes)
        (λ i _ l. explains_same i (omega (arith, x.0)) ∙ f.lowest i (clause_in t i) l (clause_here t i (omega (arith, x.0)))) in
        omega (arith, e, f.number)

  -- all clauses were tried
  pub chosen_found : (picked : List ℕ) → ChosenFrom t table 0 picked → Choices (sheet_in top t) picked
  chosen_found picked all p h = chosen_is p h picked all

-- the row of a chosen clause
pub chosen_row : (t : Rows) (top p : ℕ) → in_force (sheet_in top t) p ≡ true
    → (1 ≤ chosen (sheet_in top t) p) × (chosen (sheet_in top t) p - 1 < length t.outs) × ((clause_in t (chosen (sheet_in top t) p - 1)).body ≡ chosen_body (sheet_in top t) p)
chosen_row t top p h =
    let c = choosing (sheet_in top t) p h in
    let x = row (chosen (sheet_in top t) p) c.clause c.numbers in
    (x.0, x.1, ap (λ (y : Clause). y.body) x.2 ∙ sym (chosen_body_is (sheet_in top t) p c))
  where
    row : (n : ℕ) (x : Clause) → clause_at (sheet_in top t) n ≡ Some x → (1 ≤ n) × (n - 1 < length t.outs) × (clause_in t (n - 1) ≡ x)
    row zero x e = absurd (none_some e)
    row (suc n) x e =
        let y = here_clause t n x e in
        let z : suc n - 1 ≡ n = omega arith in
        (omega arith, omega (arith, y.0), ap (clause_in t) z ∙ y.1)
