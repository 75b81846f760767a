-- The places where the clauses of a text start.
use Rattle.std.proofs.Common.{◌≡◌, ℕ, zero, suc, ◌+◌, ◌<◌, ◌≤◌, true, false, eqb, ltb, List, [], ◌∷◌, length, get_or, drop, Some, None, Option, sym, refl, ap, ◌∙◌, subst, ⊎_elim, arith, length-drop, ltb-false, ltb-true}
use Rattle.std.specs.List.{slice_get}
use Rattle.std.proofs.lemmas.List.{drop-drop}
use Rattle.std.proofs.lemmas.Option.{slice_get-get_or, slice_get_past}
use Rattle.std.proofs.lemmas.Bool.{cases_Bool}
use Rattle.horn.specs.Sheets.{Clause, clause_at}
use Rattle.text.specs.Reading.{clause_in, clauses_in, starts_in, sheet_in, Opened}

pub same_length : (i : ℕ) (s : List ℕ) → length (starts_in i s) ≡ length (clauses_in s)
same_length i [] = refl
same_length i (b ∷ bs) = ⊎_elim (λ t. rw t (ap suc (same_length (i + 1) bs))) (λ t. rw t (same_length (i + 1) bs)) (cases_Bool (eqb b 40))

pub few_clauses : (s : List ℕ) → length (clauses_in s) ≤ length s
few_clauses [] = omega arith
few_clauses (b ∷ bs) = ⊎_elim (λ t. rw t (omega (arith, few_clauses bs))) (λ t. rw t (omega (arith, few_clauses bs))) (cases_Bool (eqb b 40))

-- the clause that starts at an optional place of s
abbrev Starts : List ℕ → Option ℕ → Option Clause → Type 0
Starts s None c = c ≡ None
Starts s (Some p) c = (p < length s) × (c ≡ Some (clause_in (drop (p + 1) s)))

one_more : (s u : List ℕ) (i : ℕ) → i < length s → u ≡ drop (i + 1) s → ((k : ℕ) → Starts s (slice_get (starts_in (i + 1) u) k) (slice_get (clauses_in u) k)) → (k : ℕ) → Starts s (slice_get (i ∷ starts_in (i + 1) u) k) (slice_get (clause_in u ∷ clauses_in u) k)
one_more s u i l e f zero = (l, ap (λ x. Some (clause_in x)) e)
one_more s u i l e f (suc k) = f k

starts : (s u : List ℕ) (i : ℕ) → u ≡ drop i s → (k : ℕ) → Starts s (slice_get (starts_in i u) k) (slice_get (clauses_in u) k)
starts s [] i e k = refl
starts s (b ∷ bs) i e k =
    let rest : bs ≡ drop (i + 1) s = ap (drop 1) e ∙ drop-drop 1 i s in
    let l : i < length s = omega (arith, ap length e, length-drop i s) in
    ⊎_elim (λ t. rw t (one_more s bs i l rest (starts s bs (i + 1) rest) k)) (λ t. rw t (starts s bs (i + 1) rest k)) (cases_Bool (eqb b 40))

opened_at : (s : List ℕ) (i : ℕ) (o : Option ℕ) (c : Option Clause) → Starts s o c → ((k : ℕ) → clause_at (sheet_in k s) i ≡ c) → Opened s i o
opened_at s i None c h e = λ k. e k ∙ h
opened_at s i (Some p) c h e = record { within = h.0; clause = λ k. e k ∙ h.1 }

-- the place that is kept for clause i, in a list that counts from 0
opened : (s : List ℕ) (n : ℕ) (o : Option ℕ) → slice_get (starts_in 0 s) n ≡ o → Opened s (suc n) o
opened s n o e = opened_at s (suc n) o (slice_get (clauses_in s) n) (subst (λ x. Starts s x (slice_get (clauses_in s) n)) e (starts s s 0 refl n)) (λ k. refl)

module _ (s xs : List ℕ) (kept : xs ≡ starts_in 0 s) (i n : ℕ) (e : i ≡ suc n) where
  pub kept_none : false ≡ ltb n (length xs) → Opened s i None
  kept_none past = rw e (opened s n None (sym (ap (λ ys. slice_get ys n) kept) ∙ slice_get_past xs n (ltb-false n (length xs) (sym past))))

  pub kept_some : (p : ℕ) → true ≡ ltb n (length xs) → p ≡ get_or xs n p → Opened s i (Some p)
  kept_some p within f = rw e (opened s n (Some p) (sym (ap (λ ys. slice_get ys n) kept) ∙ (slice_get-get_or xs n p (ltb-true n (length xs) (sym within)) ∙ ap Some (sym f))))
