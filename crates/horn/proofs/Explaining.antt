-- The explanation of a condition in force, and that it has no other.
-- Assumes nothing.
use Rattle.std.proofs.Common.{◌≡◌, ℕ, zero, suc, ◌<◌, ◌≤◌, true, false, eqb, ltb, ◌⊎◌, ◌↔◌, List, [], ◌∷◌, map, Some, Option, sym, refl, ap, ◌∙◌, subst, inl, inr, ⊎_elim, arith}
use Rattle.std.specs.List.{slice_get, AllZip, AllByRecursion}
use Rattle.std.proofs.ByRecursion.{All-weaker}
use Rattle.std.proofs.lemmas.Bool.{and_parts, and_from, or_cases, or_left, or_right, both_ways, cases_order, eqb-true, eq-eqb, lt-ltb, ltb-true}
use Rattle.horn.specs.Sheets.{all_of, any_of, Clause, Sheet, Lawful, gives, clause_at, body_of}
use Rattle.horn.specs.Pebblings.{Shortest}
use Rattle.horn.specs.Levels.{in_force, rank, explains, chosen, chosen_body, reaches, needed, ordered, explanation, Before, Sorted}
use Rattle.horn.specs.Explanations.{Shorter, Supports, Chosen, Needs, itself, through, Precedes, InOrder, Explanation}
use Rattle.horn.specs.Explanations
use Rattle.horn.proofs.Tests.{all_true, all_from, any_at, all_nth, none_some}
use Rattle.horn.proofs.Levels.{all_both, level_at, levels_stop, level_condition, gives_outcome, outcome_gives}
use Rattle.horn.proofs.Explained.{First, first_is, explains_some, mem, all_by_mem, Good, good_ordered, ordered_holds, ordered_has, reaches_self, reaches_in_force, needed_body, body_in_force}
use Rattle.horn.proofs.Entailment.{in_force_has, in_force_is, ranked}

shortest_rank : (s : Sheet) → Lawful s → (p d : ℕ) → Shortest s p d → d ≡ rank s p
shortest_rank s w p d h =
    let ns = h.pebbling.0 in
    let r = ranked s w p (ns, h.pebbling.1) in
    omega (arith, h.least r.pebbling.0 r.pebbling.1, r.pebbling.2, r.least ns h.pebbling.1, h.pebbling.2)

shortest_in_force : (s : Sheet) → Lawful s → (p d : ℕ) → Shortest s p d → in_force s p ≡ true
shortest_in_force s w p d h = in_force_has s w p (h.pebbling.0, h.pebbling.1)

rank_shortest : (s : Sheet) → Lawful s → (p : ℕ) → in_force s p ≡ true → Shortest s p (rank s p)
rank_shortest s w p h = ranked s w p (in_force_is s w p h)

shorter_rank : (s : Sheet) → Lawful s → (p b : ℕ) → Shorter s b p → rank s b < rank s p
shorter_rank s w p b h = omega (arith, h.less, shortest_rank s w b h.b_length h.b_shortest, shortest_rank s w p h.p_length h.p_shortest)

rank_shorter : (s : Sheet) → Lawful s → (p b : ℕ) → in_force s p ≡ true → rank s b < rank s p → Shorter s b p
rank_shorter s w p b h l = record { b_length = rank s b; p_length = rank s p; b_shortest = rank_shortest s w b (body_in_force s p b h l); p_shortest = rank_shortest s w p h; less = l }

supports_explains : (s : Sheet) → Lawful s → (p : ℕ) (c : Clause) → Supports s p c → explains s p c ≡ true
supports_explains s w p c h = and_from _ _ (outcome_gives c p h.gives) (all_from (λ b. ltb (rank s b) (rank s p)) c.body (All-weaker (λ b. Shorter s b p) (λ b. ltb (rank s b) (rank s p) ≡ true) (λ b k. lt-ltb _ _ (shorter_rank s w p b k)) c.body h.shorter))

explains_supports : (s : Sheet) → Lawful s → (p : ℕ) (c : Clause) → in_force s p ≡ true → explains s p c ≡ true → Supports s p c
explains_supports s w p c h e =
    let r = and_parts (gives c p) (all_of (λ b. ltb (rank s b) (rank s p)) c.body) e in
    record { gives = gives_outcome c p r.0; shorter = All-weaker (λ b. ltb (rank s b) (rank s p) ≡ true) (λ b. Shorter s b p) (λ b k. rank_shorter s w p b h (ltb-true (rank s b) (rank s p) k)) c.body (all_true (λ b. ltb (rank s b) (rank s p)) c.body r.1) }

pub is_chosen : (s : Sheet) → Lawful s → (p : ℕ) → in_force s p ≡ true → Chosen s p (chosen s p)
is_chosen s w p h = record { clause = r.it; numbers = ap (clause_at s) r.number ∙ r.is_at; supports = explains_supports s w p r.it h r.passes; lowest = low }
  where
    r : First (explains s p) s.clauses
    r = first_is (explains s p) s.clauses (explains_some s p h)

    low : (m : ℕ) (c : Clause) → m < chosen s p → clause_at s m ≡ Some c → Supports s p c → ⊥
    low zero c l e k = none_some e
    low (suc m) c l e k = both_ways _ (r.lowest m c (omega (arith, r.number)) e) (supports_explains s w p c k)

chosen_in_force : (s : Sheet) → Lawful s → (p n : ℕ) → Chosen s p n → in_force s p ≡ true
chosen_in_force s w p n c = levels_stop s w (suc s.top) p (level_at s s.top p n c.clause c.numbers c.supports.gives (all_from (in_force s) c.clause.body (All-weaker (λ b. Shorter s b p) (λ b. in_force s b ≡ true) (λ b k. shortest_in_force s w b k.b_length k.b_shortest) c.clause.body c.supports.shorter)))

pub only_chosen : (s : Sheet) → Lawful s → (p n : ℕ) → Chosen s p n → n ≡ chosen s p
only_chosen s w p n c =
    let d = is_chosen s w p (chosen_in_force s w p n c) in
    ⊎_elim (λ e. e) (λ (o : (n < chosen s p) ⊎ (chosen s p < n)). ⊎_elim (λ (l : n < chosen s p). absurd (d.lowest n c.clause l c.numbers c.supports)) (λ (l : chosen s p < n). absurd (c.lowest (chosen s p) d.clause l d.numbers d.supports)) o) (cases_order n (chosen s p))

-- what a condition needs
pub needs_needed : (s : Sheet) → Lawful s → (q : ℕ) → in_force s q ≡ true → (p : ℕ) → Needs s q p → needed s q p ≡ true
needs_needed s w q h p itself = reaches_self s s.top q
needs_needed s w q h b (through p n i k c e) = all_nth (λ x. needed s q x ≡ true) (chosen_body s p) i b (ap (λ (o : Option Clause). slice_get (body_of o) i) (ap (clause_at s) (sym (only_chosen s w p n c)) ∙ c.numbers) ∙ e) (needed_body s q p h (needs_needed s w q h p k))

pub reaches_needs : (s : Sheet) → Lawful s → (q : ℕ) → in_force s q ≡ true → (k x p : ℕ) → in_force s x ≡ true → Needs s q x → reaches s k x p ≡ true → Needs s q p
reaches_needs s w q h zero x p f m r = subst (Needs s q) (eqb-true x p r) m
reaches_needs s w q h (suc k) x p f m r = ⊎_elim (λ (g : eqb x p ≡ true). subst (Needs s q) (eqb-true x p g) m) (down (λ b. reaches_needs s w q h k b p)) (or_cases (eqb x p) (any_of (λ b. reaches s k b p) (chosen_body s x)) r)
  where
    down : ((b : ℕ) → in_force s b ≡ true → Needs s q b → reaches s k b p ≡ true → Needs s q p) → any_of (λ b. reaches s k b p) (chosen_body s x) ≡ true → Needs s q p
    down ih g =
        let a = any_at (λ b. reaches s k b p) (chosen_body s x) g in
        let c = is_chosen s w x f in
        let e : slice_get c.clause.body a.0 ≡ Some a.1 = sym (ap (λ (o : Option Clause). slice_get (body_of o) a.0) c.numbers) ∙ a.2 in
        let t = all_nth (λ b. Shorter s b x) c.clause.body a.0 a.1 e c.supports.shorter in
        ih a.1 (shortest_in_force s w a.1 t.b_length t.b_shortest) (through x (chosen s x) a.0 m c e) a.3

-- lists in order
pub all_mem : (P : ℕ → Type 0) (L : List ℕ) (p : ℕ) → AllByRecursion P L → mem L p ≡ true → P p
all_mem P L p h m = let a = any_at (λ x. eqb x p) L m in subst P (eqb-true a.1 p a.3) (all_nth P L a.0 a.1 a.2 h)

mem_here : (x : ℕ) (L : List ℕ) → mem (x ∷ L) x ≡ true
mem_here x L = or_left (eqb x x) (mem L x) (eq-eqb x x refl)

before_once : (s : Sheet) (p r : ℕ) → Before s p r → Before s r p → ⊥
before_once s p r (inl a) (inl b) = omega arith
before_once s p r (inl a) (inr b) = omega arith
before_once s p r (inr a) (inl b) = omega arith
before_once s p r (inr a) (inr b) = omega arith

sorted_one : (s : Sheet) (L M : List ℕ) → Sorted s L → Sorted s M → ((p : ℕ) → mem L p ≡ true → mem M p ≡ true) → ((p : ℕ) → mem M p ≡ true → mem L p ≡ true) → L ≡ M
sorted_one s [] [] a b f g = refl
sorted_one s [] (y ∷ M) a b f g = absurd (both_ways false refl (g y (mem_here y M)))
sorted_one s (x ∷ L) [] a b f g = absurd (both_ways false refl (f x (mem_here x L)))
sorted_one s (x ∷ L) (y ∷ M) a b f g = rw (heads, sorted_one s L M a.1 b.1 (λ p m. ⊎_elim (λ (e : eqb y p ≡ true). absurd (apart_l p m (eqb-true y p e))) (λ k. k) (or_cases (eqb y p) (mem M p) (f p (or_right (eqb x p) (mem L p) m)))) (λ p m. ⊎_elim (λ (e : eqb x p ≡ true). absurd (apart_m p m (eqb-true x p e))) (λ k. k) (or_cases (eqb x p) (mem L p) (g p (or_right (eqb y p) (mem M p) m))))) refl
  where
    heads : x ≡ y
    heads = ⊎_elim (λ (e : eqb y x ≡ true). sym (eqb-true y x e)) (λ (m : mem M x ≡ true). ⊎_elim (λ (e : eqb x y ≡ true). eqb-true x y e) (λ (k : mem L y ≡ true). absurd (before_once s x y (all_mem (Before s x) L y a.0 k) (all_mem (Before s y) M x b.0 m))) (or_cases (eqb x y) (mem L y) (g y (mem_here y M)))) (or_cases (eqb y x) (mem M x) (f x (mem_here x L)))

    apart_l : (p : ℕ) → mem L p ≡ true → y ≡ p → ⊥
    apart_l p m e = let k : Before s x x = subst (Before s x) (sym e ∙ sym heads) (all_mem (Before s x) L p a.0 m) in before_once s x x k k

    apart_m : (p : ℕ) → mem M p ≡ true → x ≡ p → ⊥
    apart_m p m e = let k : Before s y y = subst (Before s y) (sym e ∙ heads) (all_mem (Before s y) M p b.0 m) in before_once s y y k k

precedes : (s : Sheet) → Lawful s → (p r : ℕ) → in_force s p ≡ true → in_force s r ≡ true → Before s p r → Precedes s p r
precedes s w p r a b h = record { p_length = rank s p; r_length = rank s r; p_shortest = rank_shortest s w p a; r_shortest = rank_shortest s w r b; before = h }

precedes_before : (s : Sheet) → Lawful s → (p r : ℕ) → Precedes s p r → Before s p r
precedes_before s w p r h =
    let a = shortest_rank s w p h.p_length h.p_shortest in
    let b = shortest_rank s w r h.r_length h.r_shortest in
    ⊎_elim (λ (k : h.p_length < h.r_length). inl (omega arith)) (λ (k : (h.p_length ≡ h.r_length) × (p < r)). inr (omega arith, k.1)) h.before

sorted_order : (s : Sheet) → Lawful s → (L : List ℕ) → AllByRecursion (λ p. in_force s p ≡ true) L → Sorted s L → InOrder s L
sorted_order s w [] f h = tt
sorted_order s w (p ∷ L) f h = (all_both (λ r. in_force s r ≡ true) (Before s p) (Precedes s p) (λ r. precedes s w p r f.0) L f.1 h.0, sorted_order s w L f.1 h.1)

order_sorted : (s : Sheet) → Lawful s → (L : List ℕ) → InOrder s L → Sorted s L
order_sorted s w [] h = tt
order_sorted s w (p ∷ L) h = (All-weaker (Precedes s p) (Before s p) (precedes_before s w p) L h.0, order_sorted s w L h.1)

each_chosen : (s : Sheet) → Lawful s → (L : List ℕ) → AllByRecursion (λ p. in_force s p ≡ true) L → AllZip (Chosen s) L (map (chosen s) L)
each_chosen s w [] f = tt
each_chosen s w (p ∷ L) f = (is_chosen s w p f.0, each_chosen s w L f.1)

each_only : (s : Sheet) → Lawful s → (L ns : List ℕ) → AllZip (Chosen s) L ns → ns ≡ map (chosen s) L
each_only s w [] [] h = refl
each_only s w [] (n ∷ ns) h = absurd h
each_only s w (p ∷ L) [] h = absurd h
each_only s w (p ∷ L) (n ∷ ns) h = rw (only_chosen s w p n h.0, each_only s w L ns h.1) refl

ordered_needs : (s : Sheet) → Lawful s → (q : ℕ) → in_force s q ≡ true → (p : ℕ) → (mem (ordered s q (rank s q)) p ≡ true) ↔ Needs s q p
ordered_needs s w q h p = (λ m. reaches_needs s w q h s.top q p h itself (ordered_holds s q (rank s q) p m).0, λ n. back (needs_needed s w q h p n))
  where
    back : needed s q p ≡ true → mem (ordered s q (rank s q)) p ≡ true
    back k =
        let r = reaches_in_force s s.top q p h k in
        ordered_has s q (rank s q) p (level_condition s w s.top p r.0) k (⊎_elim (λ (e : q ≡ p). subst (λ (x : ℕ). rank s x ≤ rank s q) e (omega arith)) (λ (l : rank s p < rank s q). omega arith) r.1)

pub explaining : Explanations.Explaining
explaining s w q f = (record { conditions = L; needs = ordered_needs s w q h; order = sorted_order s w L forces g.sorted; steps = each_chosen s w L forces }, only)
  where
    h : in_force s q ≡ true
    h = in_force_has s w q f

    L : List ℕ
    L = ordered s q (rank s q)

    g : Good s L
    g = good_ordered s w q h (rank s q)

    forces : AllByRecursion (λ p. in_force s p ≡ true) L
    forces = all_by_mem (λ p. in_force s p ≡ true) L (λ p m. (reaches_in_force s s.top q p h (ordered_holds s q (rank s q) p m).0).0)

    only : (ns : List ℕ) → Explanation s q ns → ns ≡ explanation s q
    only ns x = each_only s w x.conditions ns x.steps ∙ ap (map (chosen s)) (sorted_one s x.conditions L (order_sorted s w x.conditions x.order) g.sorted (λ p m. (ordered_needs s w q h p).1 ((x.needs p).0 m)) (λ p m. (x.needs p).1 ((ordered_needs s w q h p).0 m)))
