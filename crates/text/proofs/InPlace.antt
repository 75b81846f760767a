-- What a text in place keeps.
use Rattle.std.proofs.Common.{◌≡◌, ℕ, ◌<◌, ◌≤◌, List, [], ◌∷◌, ◌++◌, length, take, Err, Result, sym, refl, ap, ◌∙◌, subst, inl, inr, ⊎_elim, arith}
use Rattle.text.specs.declared.verdict.Counts.{Counts}
use Rattle.text.specs.declared.verdict.Fault.{Fault}
use Rattle.std.proofs.lemmas.List.{take_all, append-nil, append_assoc, get_or_past}
use Rattle.std.proofs.lemmas.Bool.{cases_lt}
use Rattle.horn.specs.Sheets.{top_of}
use Rattle.text.specs.Grammar.{Digits, end, then, Number, number, NegLits, one, more, Basic, fact, rule, ban, digits, numeral, neg_lits, inside, Longest, clauses}
use Rattle.text.specs.Judging.{Repeats, Limit, Good}
use Rattle.text.specs.Verdicts.{fault_number, fault_place, Refused, Judged, conditions_in}
use Rattle.text.specs.Reading.{clauses_in, starts_in, sheet_in, Small, Meant}
use Rattle.text.proofs.Meaning.{reads, one_meaning}
use Rattle.text.proofs.Starts.{same_length}
use Rattle.text.proofs.Pinned.{good_or_refused}

-- each writes something before what follows it
abbrev Front : (List ℕ → List ℕ) → Type 0
Front f = (s : List ℕ) → (p : List ℕ) × (f s ≡ p ++ s)

behind : (f g : List ℕ → List ℕ) → Front f → Front g → Front (λ s. f (g s))
behind f g h k s = let a = k s in let b = h (g s) in (b.0 ++ a.0, b.1 ∙ (ap (λ x. b.0 ++ x) a.1 ∙ sym (append_assoc b.0 a.0 s)))

byte : (b : ℕ) → Front (λ s. b ∷ s)
byte b s = (b ∷ [], refl)

front_digits : (ds : Digits) → Front (digits ds)
front_digits end s = ([], refl)
front_digits (then b d ds) s = let a = front_digits ds s in (b ∷ a.0, ap (λ x. b ∷ x) a.1)

front_number : (n : Number) → Front (numeral n)
front_number (number b d ds) s = let a = front_digits ds s in (b ∷ a.0, ap (λ x. b ∷ x) a.1)

front_letter : (n : Number) → Front (λ s. 80 ∷ numeral n s)
front_letter n s = let a = front_number n s in (80 ∷ a.0, ap (λ x. 80 ∷ x) a.1)

front_negs : (ns : NegLits) → Front (neg_lits ns)
front_negs (one n) s = let a = front_letter n s in (126 ∷ a.0, ap (λ x. 126 ∷ x) a.1)
front_negs (more n ns) s =
    let a = behind (λ u. 80 ∷ numeral n u) (λ u. 124 ∷ neg_lits ns u) (front_letter n) (behind (λ u. 124 ∷ u) (neg_lits ns) (byte 124) (front_negs ns)) s in
    (126 ∷ a.0, ap (λ x. 126 ∷ x) a.1)

pub front_inside : (c : Basic) → Front (inside c)
front_inside (fact n) s = front_letter n s
front_inside (rule ns n) s = behind (neg_lits ns) (λ u. 124 ∷ 80 ∷ numeral n u) (front_negs ns) (behind (λ u. 124 ∷ u) (λ u. 80 ∷ numeral n u) (byte 124) (front_letter n)) s
front_inside (ban ns) s = front_negs ns s

module _ (s : List ℕ) (m k n : ℕ) (g : Good s m k n) where
  whole : Longest s (length s)
  whole = record {
    within = omega arith;
    viable = (g.tree, [], g.spells ∙ sym (append-nil (take (length s) s) ∙ take_all (length s) s (omega arith)));
    longest = λ w h _. h;
  }

  -- no fault of the limits stands in it
  pub whole_limit : (f i : ℕ) → i < length s → Limit s f i → ⊥
  whole_limit f i l x = g.none f i (inr ((length s, whole, l), x))

  pub small : Small s
  small i p c = ⊎_elim
      (λ h. ⊎_elim
      (λ l. absurd (whole_limit 3 i l (inl (refl, (p, c, h)))))
      (λ l. absurd (omega (arith, get_or_past s i 0 l, c.letter)))
      (cases_lt i (length s)))
      (λ h. h) (cases_lt 1000 p)

  pub repeats_none : (i : ℕ) → Repeats s i → ⊥
  repeats_none i r = ⊎_elim
      (λ l. whole_limit 4 i l (inr (inl (refl, r))))
      (λ l. omega (arith, get_or_past s i 0 l, r.1.letter))
      (cases_lt i (length s))

  pub meaning : clauses_in s ≡ clauses g.tree
  meaning = ap clauses_in (sym g.spells) ∙ (reads g.tree [] ∙ append-nil (clauses g.tree))

  pub counted : m ≡ length (starts_in 0 s)
  counted = g.m_is ∙ (sym (ap length meaning) ∙ sym (same_length 0 s))

  pub meant_good : length s ≤ 60000 → Meant s (sheet_in k s)
  meant_good short = record {
    good = λ m' k' n' _ h.
        let c : clauses_in s ≡ clauses h.tree = meaning ∙ one_meaning g.tree h.tree s g.spells h.spells in
        let t : k ≡ k' = g.k_is ∙ (ap top_of (one_meaning g.tree h.tree s g.spells h.spells) ∙ sym h.k_is) in
        cc;
    refused = λ h. absurd (h m k n short g);
  }

pub meant_refused : (s u : List ℕ) (r : Result Counts Fault) (f : Fault) → r ≡ Err f → Judged s r → u ≡ [] → Meant s (sheet_in (conditions_in r) u)
meant_refused s u r f is j e =
    let h : Refused s (fault_number f) (fault_place f) = subst (Judged s) is j in
    record { good = λ m k n l g. absurd (good_or_refused s m k n _ (fault_place f) l g h); refused = λ _. cc }
