-- The marks of what a condition needs.
use Rattle.std.proofs.Common.{◌≡◌, ℕ, zero, suc, ◌+◌, ◌-◌, ◌<◌, ◌≤◌, Bool, true, false, cond, ◌||◌, eqb, ◌⊎◌, List, [], ◌∷◌, length, take, set, sym, refl, ap, ◌∙◌, subst, inl, inr, arith}
use Rattle.std.specs.List.{AllByRecursion}
use Rattle.std.proofs.ByRecursion.{All-weaker}
use Rattle.std.proofs.lemmas.List.{take_more}
use Rattle.std.proofs.lemmas.Bool.{cases_eq, cases_lt, cases_Bool, or_cases, or_left, or_right, both_ways, eqb-true, eq-eqb, ne_eqb, cond-true, cond-false}
use Rattle.horn.specs.Sheets.{Sheet, Condition, Lawful, any_of}
use Rattle.horn.specs.Levels.{in_force, rank, chosen_body, reaches, needed}
use Rattle.horn.proofs.Tests.{any_at, any_append, all_nth}
use Rattle.horn.proofs.Levels.{level_condition, rank_pos}
use Rattle.horn.proofs.Explained.{mem, all_by_mem, body_shorter, body_in_force, needed_body, reaches_self, reaches_in_force}
use Rattle.horn.proofs.Explaining.{all_mem}
use Rattle.round.specs.Rows.{at, Rows, clause_in, sheet_in}
use Rattle.round.specs.Ranks.{Ranks}
use Rattle.round.specs.Needed.{Choices, Marking, Marks}
use Rattle.round.proofs.Reasons.{rank_here, chosen_row}
use Rattle.round.proofs.Sets.{at_same, at_other, split}

or_none : (a : Bool) → (a || false) ≡ a
or_none true = refl
or_none false = refl

-- one more condition of a body is marked
pub body_more : (table before marks body : List ℕ) (i : ℕ) → i < length body → at body i < length marks
    → ((p : ℕ) → at marks p ≡ cond (any_of (λ b. eqb b p) (take i body)) (at table p) (at before p))
    → (p : ℕ) → at (set marks (at body i) (at table (at body i))) p ≡ cond (any_of (λ b. eqb b p) (take (i + 1) body)) (at table p) (at before p)
body_more table before marks body i l h old p =
    let x : ℕ = at body i in
    let m : mem (take (i + 1) body) p ≡ (mem (take i body) p || (eqb x p || false)) =
    ap (λ (ps : List ℕ). mem ps p) (take_more body i 0 l) ∙ any_append (λ b. eqb b p) (take i body) (x ∷ []) in
    split (cases_eq p x)
    (λ e. at_same marks x (at table x) p h e ∙ ap (at table) (sym e)
    ∙ sym (cond-true (mem (take (i + 1) body) p) (at table p) (at before p) (m ∙ or_right (mem (take i body) p) (eqb x p || false) (or_left (eqb x p) false (eq-eqb x p (sym e))))))
    (λ n. at_other marks x (at table x) p n ∙ old p
    ∙ ap (λ (b : Bool). cond b (at table p) (at before p)) (sym (m ∙ ap (λ (b : Bool). mem (take i body) p || (b || false)) (ne_eqb x p (λ e. n (sym e))) ∙ or_none (mem (take i body) p))))

module _ (s : Sheet) (w : Lawful s) (q : ℕ) (h : in_force s q ≡ true) where
  -- what is marked is in force
  pub marked_force : (d n : ℕ) (marks : List ℕ) → Marking s q d n marks → (p : ℕ) → 0 < at marks p → in_force s p ≡ true
  marked_force d n marks m p l = (reaches_in_force s s.top q p h (m.sound p l).0).0

  -- the mark of q alone
  pub marks_begun : (table marks : List ℕ) → Ranks s table → ((p : ℕ) → at marks p ≡ 0) → q < length marks → Marking s q (at table q) 0 (set marks q (at table q))
  marks_begun table marks r none l = record {
    begun = omega (arith, here q (omega arith), own, rank_pos s q);
    sound = λ p k. let e = only p k in (ap (needed s q) e ∙ reaches_self s s.top q, here p e ∙ own ∙ ap (rank s) (sym e));
    closed = λ p k past. let e = only p k in absurd (never p (ap (rank s) e) e past);
  }
    where
      known : Condition s q
      known = level_condition s w s.top q h

      own : at table q ≡ rank s q
      own = rank_here s table r q known.0 h

      here : (p : ℕ) → p ≡ q → at (set marks q (at table q)) p ≡ at table q
      here p e = at_same marks q (at table q) p l e

      only : (p : ℕ) → 0 < at (set marks q (at table q)) p → p ≡ q
      only p k = split (cases_eq p q) (λ e. e) (λ e. absurd (omega (arith, at_other marks q (at table q) p e, none p)))

      never : (p : ℕ) → rank s p ≡ rank s q → p ≡ q → (at table q < rank s p) ⊎ ((rank s p ≡ at table q) × (p ≤ 0)) → ⊥
      never p a e (inl b) = omega (arith, own)
      never p a e (inr b) = omega (arith, known.0)

  module _ (d k : ℕ) (marks : List ℕ) (m : Marking s q d k marks) where
    -- a condition of another rank, or without a mark
    pub marks_skip : (at marks (k + 1) ≡ d → ⊥) → Marking s q d (k + 1) marks
    marks_skip other = record {
      begun = m.begun;
      sound = m.sound;
      closed = λ p l past. m.closed p l (split past inl (λ e. split (cases_eq p (k + 1))
          (λ z. absurd (other (ap (at marks) (sym z) ∙ (m.sound p l).1 ∙ e.0)))
          (λ z. inr (e.0, omega (arith, e.1)))));
    }

    -- a chosen body more
    pub marks_more : (table marks' : List ℕ) → Ranks s table → 0 < d → at marks (k + 1) ≡ d
        → ((p : ℕ) → at marks' p ≡ cond (any_of (λ b. eqb b p) (chosen_body s (k + 1))) (at table p) (at marks p)) → Marking s q d (k + 1) marks'
    marks_more table marks' r pos at_d is = record {
      begun = grown q m.begun;
      sound = λ p l. split (cases_Bool (mem body p)) (λ i. (need p i, value p i)) (λ i. let v = m.sound p (omega (arith, kept p i)) in (v.0, kept p i ∙ v.1));
      closed = λ p l past. split (cases_eq p x)
          (λ e. subst (λ (y : ℕ). AllByRecursion (λ b. 0 < at marks' b) (chosen_body s y)) (sym e) (all_by_mem (λ b. 0 < at marks' b) body marked))
          (λ e. split (cases_Bool (mem body p))
          (λ i. absurd (split past (λ a. omega (arith, lower p i, of_x)) (λ a. omega (arith, lower p i, of_x, a.0))))
          (λ i. All-weaker (λ b. 0 < at marks b) (λ b. 0 < at marks' b) grown (chosen_body s p)
          (m.closed p (omega (arith, kept p i)) (split past inl (λ a. inr (a.0, omega (arith, a.1)))))));
    }
      where
        x : ℕ
        x = k + 1

        body : List ℕ
        body = chosen_body s x

        of_x : rank s x ≡ d
        of_x = sym (m.sound x (omega arith)).1 ∙ at_d

        force : in_force s x ≡ true
        force = marked_force d k marks m x (omega arith)

        lower : (b : ℕ) → mem body b ≡ true → rank s b < rank s x
        lower b i = all_mem (λ y. rank s y < rank s x) body b (body_shorter s x force) i

        need : (b : ℕ) → mem body b ≡ true → needed s q b ≡ true
        need b i = all_mem (λ y. needed s q y ≡ true) body b (needed_body s q x h (m.sound x (omega arith)).0) i

        value : (b : ℕ) → mem body b ≡ true → at marks' b ≡ rank s b
        value b i =
            let f : in_force s b ≡ true = body_in_force s x b force (lower b i) in
            is b ∙ cond-true (mem body b) (at table b) (at marks b) i ∙ rank_here s table r b (level_condition s w s.top b f).0 f

        marked : (b : ℕ) → mem body b ≡ true → 0 < at marks' b
        marked b i = omega (arith, value b i, rank_pos s b)

        kept : (b : ℕ) → mem body b ≡ false → at marks' b ≡ at marks b
        kept b i = is b ∙ cond-false (mem body b) (at table b) (at marks b) i

        grown : (b : ℕ) → 0 < at marks b → 0 < at marks' b
        grown b l = split (cases_Bool (mem body b)) (marked b) (λ i. omega (arith, kept b i))

  -- all conditions of a rank were looked at
  pub marks_down : (d : ℕ) (marks : List ℕ) → Marking s q (d + 1) s.top marks → Marking s q d 0 marks
  marks_down d marks m = record {
    begun = m.begun;
    sound = m.sound;
    closed = λ p l past.
        let c : Condition s p = level_condition s w s.top p (marked_force (d + 1) s.top marks m p l) in
        m.closed p l (split past
        (λ a. split (cases_lt (d + 1) (rank s p)) inl (λ b. inr (omega arith, c.1)))
        (λ a. absurd (omega (arith, a.1, c.0))));
  }

  -- all ranks were looked at
  pub marks_all : (marks : List ℕ) → Marking s q 0 0 marks → Marks s q marks
  marks_all marks m p = split (cases_Bool (needed s q p))
      (λ e. (m.sound p (reach s.top q m.begun e)).1 ∙ sym (cond-true (needed s q p) (rank s p) 0 e))
      (λ e. split (cases_lt 0 (at marks p))
      (λ l. absurd (both_ways _ e (m.sound p l).0))
      (λ l. let z : at marks p ≡ 0 = omega arith in z ∙ sym (cond-false (needed s q p) (rank s p) 0 e)))
    where
      reach : (k x : ℕ) → 0 < at marks x → reaches s k x p ≡ true → 0 < at marks p
      reach zero x l e = subst (λ (y : ℕ). 0 < at marks y) (eqb-true x p e) l
      reach (suc k) x l e = split (or_cases (eqb x p) (any_of (λ b. reaches s k b p) (chosen_body s x)) e)
          (λ i. subst (λ (y : ℕ). 0 < at marks y) (eqb-true x p i) l)
          (λ i. let a = any_at (λ b. reaches s k b p) (chosen_body s x) i in
          reach k a.1 (all_nth (λ b. 0 < at marks b) (chosen_body s x) a.0 a.1 a.2 (m.closed x l (inl (rank_pos s x)))) a.3)

-- the row of a marked condition's chosen clause
pub marked_row : (t : Rows) (top : ℕ) → Lawful (sheet_in top t) → (q : ℕ) → in_force (sheet_in top t) q ≡ true → (picked : List ℕ) → Choices (sheet_in top t) picked
    → (d k : ℕ) (marks : List ℕ) → Marking (sheet_in top t) q d k marks → 0 < d → at marks (k + 1) ≡ d
    → (1 ≤ at picked (k + 1)) × (at picked (k + 1) - 1 < length t.outs) × ((clause_in t (at picked (k + 1) - 1)).body ≡ chosen_body (sheet_in top t) (k + 1))
marked_row t top w q h picked choices d k marks m pos at_d =
    let f : in_force (sheet_in top t) (k + 1) ≡ true = marked_force (sheet_in top t) w q h d k marks m (k + 1) (omega arith) in
    let e = choices (k + 1) f in
    let x = chosen_row t top (k + 1) f in
    (omega (arith, e, x.0), omega (arith, e, x.1), ap (λ (n : ℕ). (clause_in t (n - 1)).body) e ∙ x.2)
