-- What the reader accepts is a text of the grammar, and what it reads is the longest viable beginning.
use Rattle.std.proofs.Common.{◌≡◌, ℕ, zero, suc, ◌≤◌, Bool, true, false, cond, eqb, ◌⊎◌, List, [], ◌∷◌, ◌++◌, length, take, Some, None, Option, sym, refl, ap, ◌∙◌, subst, inl, inr, ⊎_elim, true≢false, arith, eqb-true}
use mathlib.Core.Bool.{false≢true}
use Rattle.text.specs.declared.states.State.{State}
use Rattle.text.specs.declared.states.State.TheVariants.{Start, Literal, Negated, NegFirst, NegMore, PosFirst, PosMore, Done}
use Rattle.text.specs.Grammar.{digit, first_digit, Digits, end, then, Number, number, one, more, Basic, fact, rule, ban, Text, last, join, digits, numeral, inside, text, Spells, Outside, Longest}
use Rattle.text.specs.States.{next, on, reach, accepts}
use Rattle.text.proofs.Machine.{texts}

-- one literal more in front
cons_neg : Number → Basic → Basic
cons_neg n (fact m) = rule (one n) m
cons_neg n (rule ns m) = rule (more n ns) m
cons_neg n (ban ns) = ban (more n ns)

inside_cons : (n : Number) (c : Basic) (s : List ℕ) → inside (cons_neg n c) s ≡ 126 ∷ 80 ∷ numeral n (124 ∷ inside c s)
unfolding cons_neg
inside_cons n (fact m) s = refl
inside_cons n (rule ns m) s = refl
inside_cons n (ban ns) s = refl

-- What is left of a text in each state.
abbrev After : List ℕ → Type 0
After s = (s ≡ []) ⊎ ((t : Text) × (38 ∷ text t [] ≡ s))

abbrev Lits : List ℕ → Type 0
Lits s = (c : Basic) × (u : List ℕ) × (inside c (41 ∷ u) ≡ s) × After u

abbrev NegEnd : List ℕ → Type 0
NegEnd s = ((u : List ℕ) × (41 ∷ u ≡ s) × After u) ⊎ ((u : List ℕ) × (124 ∷ u ≡ s) × Lits u)

abbrev Left : State → List ℕ → Type 0
Left Start s = (t : Text) × (text t [] ≡ s)
Left Literal s = Lits s
Left Negated s = (n : Number) × (u : List ℕ) × (80 ∷ numeral n u ≡ s) × NegEnd u
Left NegFirst s = (n : Number) × (u : List ℕ) × (numeral n u ≡ s) × NegEnd u
Left NegMore s = (ds : Digits) × (u : List ℕ) × (digits ds u ≡ s) × NegEnd u
Left PosFirst s = (n : Number) × (u : List ℕ) × (numeral n (41 ∷ u) ≡ s) × After u
Left PosMore s = (ds : Digits) × (u : List ℕ) × (digits ds (41 ∷ u) ≡ s) × After u
Left Done s = After s

-- a state's test came out one way or the other
test : (t : Bool) (r : State) (o : Option State) (f : State → Bool) → on (cond t (Some r) o) false f ≡ true → ((t ≡ true) × (f r ≡ true)) ⊎ ((t ≡ false) × (on o false f ≡ true))
test true r o f h = inl (refl, h)
test false r o f h = inr (refl, h)

is : (b k : ℕ) (s : List ℕ) → eqb b k ≡ true → k ∷ s ≡ b ∷ s
is b k s e = ap (λ x. x ∷ s) (sym (eqb-true b k e))

-- Building each state's rest from the next one's.
whole : (s : List ℕ) → Lits s → Left Start (40 ∷ s)
whole s (c, u, e, inl n) = (last c, ap (λ x. 40 ∷ x) (subst (λ x. inside c (41 ∷ x) ≡ s) n e))
whole s (c, u, e, inr (t, n)) = (join c t, ap (λ x. 40 ∷ x) (subst (λ x. inside c (41 ∷ x) ≡ s) (sym n) e))

negative : (s : List ℕ) → Left Negated s → Lits (126 ∷ s)
negative s (n, u, e, inl (w, f, a)) = (ban (one n), w, ap (λ x. 126 ∷ x) (subst (λ x. 80 ∷ numeral n x ≡ s) (sym f) e), a)
negative s (n, u, e, inr (w, f, (c, x, g, a))) = (cons_neg n c, x, inside_cons n c (41 ∷ x) ∙ ap (λ y. 126 ∷ y) (ap (λ y. 80 ∷ numeral n (124 ∷ y)) g ∙ (ap (λ y. 80 ∷ numeral n y) f ∙ e)), a)

positive : (s : List ℕ) → Left PosFirst s → Lits (80 ∷ s)
positive s (n, u, e, a) = (fact n, u, ap (λ x. 80 ∷ x) e, a)

pub sound : (q : State) (s : List ℕ) → accepts q s ≡ true → Left q s
sound Start [] h = absurd (false≢true h)
sound Start (b ∷ bs) h =
    ⊎_elim (λ p. subst (λ x. Left Start x) (is b 40 bs p.0) (whole bs (sound Literal bs p.1))) (λ p. absurd (false≢true p.1))
    (test (eqb b 40) Literal None (λ r. accepts r bs) h)
sound Literal [] h = absurd (false≢true h)
sound Literal (b ∷ bs) h =
    ⊎_elim (λ p. subst Lits (is b 126 bs p.0) (negative bs (sound Negated bs p.1)))
    (λ p. ⊎_elim (λ q. subst Lits (is b 80 bs q.0) (positive bs (sound PosFirst bs q.1))) (λ q. absurd (false≢true q.1))
    (test (eqb b 80) PosFirst None (λ r. accepts r bs) p.1))
    (test (eqb b 126) Negated (cond (eqb b 80) (Some PosFirst) None) (λ r. accepts r bs) h)
sound Negated [] h = absurd (false≢true h)
sound Negated (b ∷ bs) h =
    ⊎_elim (λ p. let l = sound NegFirst bs p.1 in (l.0, l.1, ap (λ x. 80 ∷ x) l.2 ∙ is b 80 bs p.0, l.3)) (λ p. absurd (false≢true p.1))
    (test (eqb b 80) NegFirst None (λ r. accepts r bs) h)
sound NegFirst [] h = absurd (false≢true h)
sound NegFirst (b ∷ bs) h =
    ⊎_elim (λ p. let l = sound NegMore bs p.1 in (number b p.0 l.0, l.1, ap (λ x. b ∷ x) l.2, l.3)) (λ p. absurd (false≢true p.1))
    (test (first_digit b) NegMore None (λ r. accepts r bs) h)
sound NegMore [] h = absurd (false≢true h)
sound NegMore (b ∷ bs) h =
    ⊎_elim (λ p. let l = sound NegMore bs p.1 in (then b p.0 l.0, l.1, ap (λ x. b ∷ x) l.2, l.3))
    (λ p. ⊎_elim (λ q. (end, b ∷ bs, refl, inr (bs, is b 124 bs q.0, sound Literal bs q.1)))
    (λ q. ⊎_elim (λ z. (end, b ∷ bs, refl, inl (bs, is b 41 bs z.0, sound Done bs z.1))) (λ z. absurd (false≢true z.1))
    (test (eqb b 41) Done None (λ r. accepts r bs) q.1))
    (test (eqb b 124) Literal (cond (eqb b 41) (Some Done) None) (λ r. accepts r bs) p.1))
    (test (digit b) NegMore (cond (eqb b 124) (Some Literal) (cond (eqb b 41) (Some Done) None)) (λ r. accepts r bs) h)
sound PosFirst [] h = absurd (false≢true h)
sound PosFirst (b ∷ bs) h =
    ⊎_elim (λ p. let l = sound PosMore bs p.1 in (number b p.0 l.0, l.1, ap (λ x. b ∷ x) l.2, l.3)) (λ p. absurd (false≢true p.1))
    (test (first_digit b) PosMore None (λ r. accepts r bs) h)
sound PosMore [] h = absurd (false≢true h)
sound PosMore (b ∷ bs) h =
    ⊎_elim (λ p. let l = sound PosMore bs p.1 in (then b p.0 l.0, l.1, ap (λ x. b ∷ x) l.2, l.3))
    (λ p. ⊎_elim (λ q. (end, bs, is b 41 bs q.0, sound Done bs q.1)) (λ q. absurd (false≢true q.1))
    (test (eqb b 41) Done None (λ r. accepts r bs) p.1))
    (test (digit b) PosMore (cond (eqb b 41) (Some Done) None) (λ r. accepts r bs) h)
sound Done [] h = inl refl
sound Done (b ∷ bs) h =
    ⊎_elim (λ p. let l = sound Start bs p.1 in inr (l.0, ap (λ x. 38 ∷ x) l.1 ∙ is b 38 bs p.0)) (λ p. absurd (false≢true p.1))
    (test (eqb b 38) Start None (λ r. accepts r bs) h)

-- A text of the grammar is accepted.
pub accepted : (t : Text) (s : List ℕ) → Spells t s → accepts Start s ≡ true
accepted t s e = ap (accepts Start) (sym e) ∙ texts accepts false (λ q b u. refl) t []

pub outside : (s : List ℕ) → accepts Start s ≡ false → Outside s
outside s h t e = true≢false (sym (accepted t s e) ∙ h)

-- What completes a text from each state.
close : State → List ℕ
close Start = 40 ∷ 80 ∷ 49 ∷ 41 ∷ []
close Literal = 80 ∷ 49 ∷ 41 ∷ []
close Negated = 80 ∷ 49 ∷ 41 ∷ []
close NegFirst = 49 ∷ 41 ∷ []
close NegMore = 41 ∷ []
close PosFirst = 49 ∷ 41 ∷ []
close PosMore = 41 ∷ []
close Done = []

closes : (q : State) → accepts q (close q) ≡ true
unfolding close
closes Start = refl
closes Literal = refl
closes Negated = refl
closes NegFirst = refl
closes NegMore = refl
closes PosFirst = refl
closes PosMore = refl
closes Done = refl

-- All that is read leads to some state.
lands : (q : State) (s : List ℕ) → (r : State) × ((u : List ℕ) → accepts q (take (reach q s) s ++ u) ≡ accepts r u)
lands q [] = (q, λ u. refl)
lands q (b ∷ bs) = go (next q b) refl (λ r. lands r bs)
  where
    go : (o : Option State) → next q b ≡ o → ((r : State) → (p : State) × ((u : List ℕ) → accepts r (take (reach r bs) bs ++ u) ≡ accepts p u)) → (p : State) × ((u : List ℕ) → accepts q (take (on o 0 (λ r. suc (reach r bs))) (b ∷ bs) ++ u) ≡ accepts p u)
    go None e f = (q, λ u. refl)
    go (Some r) e f = ((f r).0, λ u. ap (λ o. on o false (λ p. accepts p (take (reach r bs) bs ++ u))) e ∙ (f r).1 u)

reach_within : (q : State) (s : List ℕ) → reach q s ≤ length s
reach_within q [] = omega arith
reach_within q (b ∷ bs) = go (next q b) (λ r. reach_within r bs)
  where
    go : (o : Option State) → ((r : State) → reach r bs ≤ length bs) → on o 0 (λ r. suc (reach r bs)) ≤ suc (length bs)
    go None f = omega arith
    go (Some r) f = omega (arith, f r)

-- No more than what is read begins an accepted text.
bounded : (q : State) (s : List ℕ) (w : ℕ) (u : List ℕ) → w ≤ length s → accepts q (take w s ++ u) ≡ true → w ≤ reach q s
bounded q s zero u l h = omega arith
bounded q [] (suc w) u l h = absurd (omega arith)
bounded q (b ∷ bs) (suc w) u l h = go (next q b) h (λ r. bounded r bs w u (omega arith))
  where
    go : (o : Option State) → on o false (λ r. accepts r (take w bs ++ u)) ≡ true → ((r : State) → accepts r (take w bs ++ u) ≡ true → w ≤ reach r bs) → suc w ≤ on o 0 (λ r. suc (reach r bs))
    go None e f = absurd (false≢true e)
    go (Some r) e f = omega (arith, f r e)

pub longest : (s : List ℕ) → Longest s (reach Start s)
longest s =
    let l = lands Start s in
    let t = sound Start (take (reach Start s) s ++ close l.0) (l.1 (close l.0) ∙ closes l.0) in
    record { within = reach_within Start s; viable = (t.0, close l.0, t.1); longest = λ w h v. bounded Start s w v.1 h (accepted v.0 (take w s ++ v.1) v.2) }

pub only : (s : List ℕ) (v w : ℕ) → Longest s v → Longest s w → v ≡ w
only s v w l k = omega (arith, l.longest w k.within k.viable, k.longest v l.within l.viable)
