-- Pebblings in the graph of a sheet are those of lists of steps.
-- Assumes nothing.
use Rattle.std.proofs.Common.{◌≡◌, ℕ, zero, suc, ◌≤◌, max, Bool, true, false, List, [], ◌∷◌, map, Some, None, sym, refl, ap, ◌∙◌, subst, arith}
use Rattle.std.specs.List.{slice_get, AllByRecursion}
use Rattle.std.proofs.ByRecursion.{All-weaker}
use Rattle.std.specs.Option.{option_map}
use Rattle.std.proofs.lemmas.Bool.{both_ways}
use Rattle.std.proofs.lemmas.Option.{slice_get-map}
use Rattle.horn.specs.Sheets.{all_of, Clause, Sheet, Lawful, clause_at}
use Rattle.horn.specs.Pebblings.{InForce, Broken}
use Rattle.horn.specs.Levels.{level, rank}
use Rattle.horn.specs.Graph.{Node, truth, falsity, condition, Edge, of_fact, of_rule, of_ban, Member, Sources, Pebbled, start, move, AllPebbled, none, more, PebbledFromTrue}
use Rattle.horn.specs.Graph
use Rattle.horn.proofs.Tests.{all_true, all_from, all_by_nth, all_nth, some_inj, none_some}
use Rattle.horn.proofs.Levels.{level_clause, level_mono, level_at, levels_stop, gives_outcome, rank_below, rank_level}
use Rattle.horn.proofs.Entailment.{in_force_has, in_force_is, contradicted}

-- From a level to the graph.

nth_unmap : {X Y : Type 0} (f : X → Y) (xs : List X) (j : ℕ) (y : Y) → slice_get (map f xs) j ≡ Some y → (x : X) × (slice_get xs j ≡ Some x) × (y ≡ f x)
nth_unmap f [] j y e = absurd (none_some e)
nth_unmap f (x ∷ xs) zero y e = (x, refl, sym (some_inj e))
nth_unmap f (x ∷ xs) (suc j) y e = nth_unmap f xs j y e

-- the clause with a number is one
same_clause : (s : Sheet) (i : ℕ) (c d : Clause) → clause_at s i ≡ Some c → clause_at s i ≡ Some d → d ≡ c
same_clause s i c d e f = some_inj (sym f ∙ e)

no_place : (ps : List ℕ) (j p : ℕ) → ps ≡ [] → slice_get ps j ≡ Some p → ⊥
no_place ps j p e h = none_some (sym (ap (λ (x : List ℕ). slice_get x j) e) ∙ h)

-- the source of the edges of a fact
fact_sources : (s : Sheet) (i q : ℕ) (c : Clause) → clause_at s i ≡ Some c → c.body ≡ [] → c.outcome ≡ Some q → Sources (Edge s) i (condition q) (truth ∷ [])
fact_sources s i q c e b o p = (λ h. there h.0 h.1, back p)
  where
    there : (j : ℕ) → slice_get (truth ∷ []) j ≡ Some p → Edge s p i (condition q)
    there zero k = subst (λ (x : Node). Edge s x i (condition q)) (some_inj k) (of_fact c e b o)
    there (suc j) k = absurd (none_some k)

    back : (p : Node) → Edge s p i (condition q) → Member p (truth ∷ [])
    back p (of_fact d f a b) = (0, refl)
    back p (of_rule {p = x} d j f a b') = absurd (no_place d.body j x (ap (λ (z : Clause). z.body) (same_clause s i c d e f) ∙ b) a)

-- the sources of the edges of a rule
rule_sources : (s : Sheet) (i q : ℕ) (c : Clause) → clause_at s i ≡ Some c → (c.body ≡ [] → ⊥) → c.outcome ≡ Some q → Sources (Edge s) i (condition q) (map condition c.body)
rule_sources s i q c e b o p = (λ h. there h.0 (nth_unmap condition c.body h.0 p h.1), back p)
  where
    there : (j : ℕ) → (x : ℕ) × (slice_get c.body j ≡ Some x) × (p ≡ condition x) → Edge s p i (condition q)
    there j r = subst (λ (x : Node). Edge s x i (condition q)) (sym r.2) (of_rule c j e r.1 o)

    back : (p : Node) → Edge s p i (condition q) → Member p (map condition c.body)
    back p (of_fact d f a b') = absurd (b (ap (λ (z : Clause). z.body) (sym (same_clause s i c d e f)) ∙ a))
    back p (of_rule {p = x} d j f a b') = (j, slice_get-map condition c.body j ∙ ap (option_map condition) (sym (ap (λ (z : Clause). slice_get z.body j) (same_clause s i c d e f)) ∙ a))

-- the sources of the edges of a ban
ban_sources : (s : Sheet) (i : ℕ) (c : Clause) → clause_at s i ≡ Some c → c.outcome ≡ None → Sources (Edge s) i falsity (map condition c.body)
ban_sources s i c e o p = (λ h. there h.0 (nth_unmap condition c.body h.0 p h.1), back p)
  where
    there : (j : ℕ) → (x : ℕ) × (slice_get c.body j ≡ Some x) × (p ≡ condition x) → Edge s p i falsity
    there j r = subst (λ (x : Node). Edge s x i falsity) (sym r.2) (of_ban c j e r.1 o)

    back : (p : Node) → Edge s p i falsity → Member p (map condition c.body)
    back p (of_ban {p = x} d j f a b') = (j, slice_get-map condition c.body j ∙ ap (option_map condition) (sym (ap (λ (z : Clause). slice_get z.body j) (same_clause s i c d e f)) ∙ a))

-- a pebbling of length at most k
abbrev Within : Sheet → Node → ℕ → Type 0
Within s n k = (d : ℕ) × PebbledFromTrue s n d × (d ≤ k)

abbrev AllWithin : Sheet → List Node → ℕ → Type 0
AllWithin s ns k = (d : ℕ) × AllPebbled (Edge s) (λ m. m ≡ truth) ns d × (d ≤ k)

all_within : (s : Sheet) (k : ℕ) (ps : List ℕ) → AllByRecursion (λ p. Within s (condition p) k) ps → AllWithin s (map condition ps) k
all_within s k [] h = (0, none, omega arith)
all_within s k (p ∷ ps) h = let r = all_within s k ps h.1 in (max h.0.0 r.0, more h.0.1 r.1, omega (arith, h.0.2, r.2))

abbrev is_truth : Node → Bool
is_truth truth = true
is_truth falsity = false
is_truth (condition q) = false

-- no edge leads to true
not_true : (s : Sheet) (i : ℕ) (p n : Node) → Edge s p i n → n ≡ truth → ⊥
not_true s i p n (of_fact {q = q} c e b o) h = both_ways false refl (ap is_truth h)
not_true s i p n (of_rule {q = q} c j e b o) h = both_ways false refl (ap is_truth h)
not_true s i p n (of_ban c j e b o) h = both_ways false refl (ap is_truth h)

moved : (s : Sheet) (k i : ℕ) (n p : Node) (ns : List Node) → Edge s p i n → Sources (Edge s) i n ns → AllWithin s ns k → Within s n (suc k)
moved s k i n p ns e h a = (suc a.0, move (not_true s i p n e) i p e ns h a.1, omega (arith, a.2))

fired : (s : Sheet) (k i q : ℕ) (c : Clause) (ps : List ℕ) → c.body ≡ ps → clause_at s i ≡ Some c → c.outcome ≡ Some q → AllByRecursion (λ p. Within s (condition p) k) ps → Within s (condition q) (suc k)
fired s k i q c [] b e o h = moved s k i (condition q) truth (truth ∷ []) (of_fact c e b o) (fact_sources s i q c e b o) (max 0 0, more (start refl) none, omega arith)
fired s k i q c (p ∷ ps) b e o h = moved s k i (condition q) (condition p) (map condition c.body) (of_rule c 0 e (ap (λ (x : List ℕ). slice_get x 0) b) o) (rule_sources s i q c e full o) (rw b (all_within s k (p ∷ ps) h))
  where
    full : c.body ≡ [] → ⊥
    full x = no_place c.body 0 p x (ap (λ (y : List ℕ). slice_get y 0) b)

level_pebbled : (s : Sheet) (k q : ℕ) → level s k q ≡ true → Within s (condition q) k
level_pebbled s zero q h = absurd (both_ways false refl h)
level_pebbled s (suc k) q h =
    let r = level_clause s k q h in
    fired s k (suc r.0) q r.1 r.1.body refl r.2 (gives_outcome r.1 q r.3) (All-weaker (λ p. level s k p ≡ true) (λ p. Within s (condition p) k) (level_pebbled s k) r.1.body (all_true (level s k) r.1.body r.4))

-- From the graph to a level.

-- what a pebbling of length d says of its node
abbrev Says : Sheet → ℕ → Node → Type 0
Says s d truth = Unit {0}
Says s d falsity = (n : ℕ) × Broken s n
Says s d (condition q) = level s d q ≡ true

says_later : (s : Sheet) (d e : ℕ) → d ≤ e → (n : Node) → Says s d n → Says s e n
says_later s d e l truth h = tt
says_later s d e l falsity h = h
says_later s d e l (condition q) h = level_mono s d e q l h

body_said : (s : Sheet) (d i : ℕ) (q : Node) (ps : List Node) → Sources (Edge s) i q ps → AllByRecursion (Says s d) ps → (c : Clause) → ((j p : ℕ) → slice_get c.body j ≡ Some p → Edge s (condition p) i q) → AllByRecursion (λ p. level s d p ≡ true) c.body
body_said s d i q ps h a c edge = all_by_nth (λ p. level s d p ≡ true) c.body (λ j p e. let m = (h (condition p)).1 (edge j p e) in all_nth (Says s d) ps m.0 (condition p) m.1 a)

move_says : (s : Sheet) → Lawful s → (d i : ℕ) (p q : Node) (ps : List Node) → Edge s p i q → Sources (Edge s) i q ps → AllByRecursion (Says s d) ps → Says s (suc d) q
move_says s w d i p q ps (of_fact {q = x} c e b o) h a = level_at s d x i c e o (ap (all_of (level s d)) b)
move_says s w d i p q ps (of_rule {q = x} c j e b o) h a = level_at s d x i c e o (all_from (level s d) c.body (body_said s d i (condition x) ps h a c (λ k r n. of_rule c k e n o)))
move_says s w d i p q ps (of_ban c j e b o) h a = (i, record { clause = c; numbers = e; ban = o; in_force = All-weaker (λ r. level s d r ≡ true) (InForce s) (λ r f. in_force_is s w r (levels_stop s w d r f)) c.body (body_said s d i falsity ps h a c (λ k r n. of_ban c k e n o)) })

-- induction over pebblings: P holds of the nodes in X at length 0, is kept by longer lengths, and by each move
module _ {V : Type 0} (E : V → ℕ → V → Type 0) (X : V → Type 0) (P : ℕ → V → Type 0) (base : (q : V) → X q → P 0 q) (later : (d e : ℕ) → d ≤ e → (q : V) → P d q → P e q) (step : (d i : ℕ) (p q : V) (ps : List V) → E p i q → Sources E i q ps → AllByRecursion (P d) ps → P (suc d) q) where
  mutual
    pub pebbled_ind : (q : V) (d : ℕ) → Pebbled E X q d → P d q
    pebbled_ind q d (start e) = base q e
    pebbled_ind q d (move {d = k} no_start i p e ps h a) = step k i p q ps e h (all_pebbled_ind ps k a)

    pub all_pebbled_ind : (qs : List V) (d : ℕ) → AllPebbled E X qs d → AllByRecursion (P d) qs
    all_pebbled_ind qs d none = tt
    all_pebbled_ind qs d (more {p = p} {ps = ps} {d = k} {e = e} a r) = (later k (max k e) (omega arith) p (pebbled_ind p k a), All-weaker (P e) (P (max k e)) (later e (max k e) (omega arith)) ps (all_pebbled_ind ps e r))

says : (s : Sheet) → Lawful s → (n : Node) (d : ℕ) → PebbledFromTrue s n d → Says s d n
says s w = pebbled_ind (Edge s) (λ m. m ≡ truth) (Says s) (λ q e. subst (Says s 0) (sym e) tt) (says_later s) (move_says s w)

pub graph_in_force : Graph.GraphInForce
graph_in_force s w q = (λ f. let r = level_pebbled s s.top q (in_force_has s w q f) in (r.0, r.1), λ r. in_force_is s w q (levels_stop s w r.0 q (says s w (condition q) r.0 r.1)))

pub graph_broken : Graph.GraphBroken
graph_broken s w = (λ b. there b.0 b.1 b.1.clause.body refl, λ r. says s w falsity r.0 r.1)
  where
    there : (n : ℕ) (b : Broken s n) (ps : List ℕ) → b.clause.body ≡ ps → (d : ℕ) × PebbledFromTrue s falsity d
    there n b [] e = absurd (at s.top n b e)
      where
        at : (k n : ℕ) (b : Broken s n) → b.clause.body ≡ [] → ⊥
        at k zero b e = none_some b.numbers
        at k (suc n) b e = (all_nth (Rattle.horn.specs.Sheets.LawfulClause s) s.clauses n b.clause b.numbers w).something e b.ban
    there n b (p ∷ ps) e =
        let c = b.clause in
        let r = all_within s s.top c.body (All-weaker (InForce s) (λ p. Within s (condition p) s.top) (λ x f. level_pebbled s s.top x (in_force_has s w x f)) c.body b.in_force) in
        let g : Edge s (condition p) n falsity = of_ban c 0 b.numbers (ap (λ (x : List ℕ). slice_get x 0) e) b.ban in
        (suc r.0, move (not_true s n (condition p) falsity g) n (condition p) g (map condition c.body) (ban_sources s n c b.numbers b.ban) r.1)

pub graph_contradicted : Graph.GraphContradicted
graph_contradicted s w = (λ h. (graph_broken s w).0 ((contradicted s w).0 h), λ h. (contradicted s w).1 ((graph_broken s w).1 h))

pub graph_ranked : Graph.GraphRanked
graph_ranked s w q f =
    let l : level s (rank s q) q ≡ true = rank_level s q (in_force_has s w q f) in
    let r = level_pebbled s (rank s q) q l in
    let e : r.0 ≡ rank s q = omega (arith, r.2, least r.0 r.1) in
    (subst (λ (d : ℕ). PebbledFromTrue s (condition q) d) e r.1, least)
  where
    least : (d : ℕ) → PebbledFromTrue s (condition q) d → rank s q ≤ d
    least d p = rank_below s d q (says s w (condition q) d p)
