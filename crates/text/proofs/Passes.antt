-- What judging answers, from the reader's two passes.
use Rattle.std.proofs.Common.{◌≡◌, ℕ, ◌<◌, ◌≤◌, true, false, eqb, List, [], ◌++◌, Some, None, Option, MatchOption, unwrap_or, length, take, drop, count_by, sym, refl, ap, ◌∙◌, subst, inl, inr, ⊎_elim, arith}
use Rattle.std.proofs.lemmas.List.{take_all, drop_all, append-nil}
use Rattle.std.proofs.lemmas.Bool.{cases_order}
use Rattle.text.specs.declared.verdict.Counts.{Counts}
use Rattle.text.specs.declared.verdict.Fault.{Fault}
use Rattle.text.specs.declared.states.State.TheVariants.{Start}
use Rattle.text.specs.States.{reach, accepts}
use Rattle.text.specs.Judging.{Limit, Reported, Good}
use Rattle.text.specs.Limits.{Counted, Clear, First, top_in}
use Rattle.text.specs.Verdicts.{Refused, fault_number, fault_place}
use Rattle.text.proofs.Sound.{sound, outside, longest, only}
use Rattle.text.proofs.Trees.{opens, letters, tops}

module _ (s : List ℕ) where
  abbrev v : ℕ
  v = reach Start s

  reported_limit : (f i : ℕ) → i < v → Limit s f i → ((g : ℕ) → Limit s g i → f ≤ g) → Clear s i → Reported s f i
  reported_limit f i below l least before = record {
    is = inr ((v, longest s, below), l);
    lowest = λ g j. ⊎_elim
        (λ p. inl (omega (arith, only s v j (longest s) p.2)))
        (λ p. ⊎_elim
        (λ e. inr (e, least g (subst (λ x. Limit s g x) (sym e) p.1)))
        (⊎_elim (λ h. inl h) (λ h. absurd (before j h g p.1)))
        (cases_order i j));
  }

  reported_outside : accepts Start s ≡ false → Clear s v → Reported s 2 v
  reported_outside out none = record {
    is = inl (refl, outside s out, longest s);
    lowest = λ g j. ⊎_elim
        (λ p. inr (only s v j (longest s) p.2, omega (arith, p.0)))
        (λ p. absurd (none j (omega (arith, only s v p.0.0 (longest s) p.0.1, p.0.2)) g p.1));
  }

  module _ (inside : accepts Start s ≡ true) where
    all_read : v ≡ length s
    all_read =
        let t = sound Start s inside in
        let e : take (length s) s ++ [] ≡ s = append-nil (take (length s) s) ∙ take_all (length s) s (omega arith) in
        let w = (longest s).longest (length s) (omega arith) (t.0, [], t.1 ∙ sym e) in
        omega (arith, w, (longest s).within)

    pub good : (c : Counts) → Clear s v → Counted s v c → Good s c.clauses c.conditions c.literals
    good c none h =
        let t = sound Start s inside in
        let whole : take v s ≡ s = take_all v s (omega (arith, all_read)) in
        let past : drop v s ≡ [] = drop_all v s (omega (arith, all_read)) in
        record {
          tree = t.0;
          spells = t.1;
          none = λ g j. ⊎_elim (λ p. p.1 t.0 t.1) (λ p. none j (omega (arith, only s v p.0.0 (longest s) p.0.1, p.0.2)) g p.1);
          m_is = omega (arith, h.clauses_is, ap (count_by (λ x. eqb x 40)) whole, ap (count_by (λ x. eqb x 40)) t.1, opens t.0 []);
          k_is = omega (arith, h.top_is, ap top_in past, ap top_in t.1, tops t.0 []);
          n_is = omega (arith, h.literals_is, ap (count_by (λ x. eqb x 80)) whole, ap (count_by (λ x. eqb x 80)) t.1, letters t.0 []);
        }

  -- the same, at a number that is known to be that place
  pub outside_at : (w : ℕ) → w ≡ v → accepts Start s ≡ false → Clear s w → Reported s 2 w
  outside_at w e out none = subst (λ x. Reported s 2 x) (sym e) (reported_outside out (λ j h. none j (omega arith)))

  pub good_at : (w : ℕ) → w ≡ v → accepts Start s ≡ true → (c : Counts) → Clear s w → Counted s w c → Good s c.clauses c.conditions c.literals
  good_at w e inside c none h = good inside c (λ j l. none j (omega arith)) (subst (λ x. Counted s x c) e h)

  pub refused_at : (w : ℕ) → w ≡ v → length s ≤ 60000 → (f : Fault) → First s w f → Refused s (fault_number f) (fault_place f)
  refused_at w e short f h =
      subst (Refused s (fault_number f)) (sym h.is.place)
      (short, reported_limit (fault_number f) h.at (omega (arith, h.within)) h.is.limit h.is.least h.clear)

  -- where the reader gets to, from what it finds outside
  pub end_is : (o : Option ℕ) → MatchOption o (accepts Start s ≡ true) (λ p. (p ≡ v) × (accepts Start s ≡ false)) → unwrap_or o (length s) ≡ v
  end_is None inside = sym (all_read inside)
  end_is (Some p) h = h.0
