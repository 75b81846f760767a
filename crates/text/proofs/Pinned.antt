-- Judging has one answer.
use Rattle.std.proofs.Common.{◌≡◌, ℕ, ◌≤◌, cond, eqb, List, length, Some, None, Ok, Err, Option, sym, refl, ap, ◌∙◌, ⊎_elim, arith}
use Rattle.horn.specs.Sheets.{top_of, literals}
use Rattle.text.proofs.Meaning.{one_meaning}
use Rattle.text.specs.declared.verdict.Counts.{Counts}
use Rattle.text.specs.declared.verdict.Fault.{Fault}
use Rattle.text.specs.declared.verdict.Fault.TheVariants.{TooLong, Outside, TooGreat, Repeated, TooMany}
use Rattle.text.specs.Judging.{Reported, Good}
use Rattle.text.specs.Verdicts.{fault_number, fault_place, Refused, OneAnswer}

-- a fault is known by its number and its place
fault_back : ℕ → Option ℕ → Fault
fault_back n None = TooLong
fault_back n (Some i) = cond (eqb n 2) (Outside i) (cond (eqb n 3) (TooGreat i) (cond (eqb n 4) (Repeated i) (TooMany i)))

back : (f : Fault) → fault_back (fault_number f) (fault_place f) ≡ f
unfolding fault_back
back TooLong = refl
back (Outside i) = refl
back (TooGreat i) = refl
back (Repeated i) = refl
back (TooMany i) = refl

reported_once : (s : List ℕ) (f g i j : ℕ) → Reported s f i → Reported s g j → (f ≡ g) × (i ≡ j)
reported_once s f g i j t u = ⊎_elim
    (λ a. ⊎_elim (λ b. absurd (omega arith)) (λ b. absurd (omega (arith, b.0))) (u.lowest f i t.is))
    (λ a. ⊎_elim (λ b. absurd (omega (arith, a.0))) (λ b. (omega (arith, a.1, b.1), a.0)) (u.lowest f i t.is))
    (t.lowest g j u.is)

counts : (x y z u v w : ℕ) → x ≡ u → y ≡ v → z ≡ w → ◌≡◌ {A = Counts} (record { clauses = x; conditions = y; literals = z }) (record { clauses = u; conditions = v; literals = w })
counts x y z u v w a b c = cc

refused_once : (s : List ℕ) (f g : ℕ) (p q : Option ℕ) → Refused s f p → Refused s g q → (f ≡ g) × (p ≡ q)
refused_once s f g None None a b = (a.0 ∙ sym b.0, refl)
refused_once s f g None (Some j) a b = absurd (omega (arith, a.1, b.0))
refused_once s f g (Some i) None a b = absurd (omega (arith, a.0, b.1))
refused_once s f g (Some i) (Some j) a b = let w = reported_once s f g i j a.1 b.1 in (w.0, ap Some w.1)

pub good_or_refused : (s : List ℕ) (m k n f : ℕ) (p : Option ℕ) → length s ≤ 60000 → Good s m k n → Refused s f p → ⊥
good_or_refused s m k n f None short g a = omega (arith, a.1)
good_or_refused s m k n f (Some i) short g a = g.none f i a.1.is

pub one_answer : OneAnswer
one_answer s (Ok c) (Ok d) j k =
    let g = j.1 in
    let h = k.1 in
    let e = one_meaning g.tree h.tree s g.spells h.spells in
    let a : c.clauses ≡ d.clauses = g.m_is ∙ (ap length e ∙ sym h.m_is) in
    let b : c.conditions ≡ d.conditions = g.k_is ∙ (ap top_of e ∙ sym h.k_is) in
    let l : c.literals ≡ d.literals = g.n_is ∙ (ap literals e ∙ sym h.n_is) in
    ap Ok (counts c.clauses c.conditions c.literals d.clauses d.conditions d.literals a b l)
one_answer s (Ok c) (Err f) j k = absurd (good_or_refused s _ _ _ _ (fault_place f) j.0 j.1 k)
one_answer s (Err f) (Ok d) j k = absurd (good_or_refused s _ _ _ _ (fault_place f) k.0 k.1 j)
one_answer s (Err f) (Err g) j k =
    let w = refused_once s (fault_number f) (fault_number g) (fault_place f) (fault_place g) j k in
    ap Err (sym (back f) ∙ (ap (λ n. fault_back n (fault_place f)) w.0 ∙ (ap (fault_back (fault_number g)) w.1 ∙ back g)))
