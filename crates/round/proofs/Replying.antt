-- The accepted answers fit what the calls answer.
use Rattle.std.proofs.Common.{◌≡◌, ℕ, ◌<◌, ◌≤◌, Bool, true, cond, List, [], ◌∷◌, ◌++◌, length, take, refl, ap, ◌∙◌, ap₂, inr, ⊎_elim, arith}
use Rattle.std.proofs.lemmas.List.{take_at}
use Rattle.std.proofs.lemmas.Bool.{both_ways}
use Rattle.horn.specs.Sheets.{Sheet, literals}
use Rattle.horn.specs.Levels.{in_force, how_many}
use Rattle.horn.specs.Bans.{discharged}
use Rattle.horn.specs.Lawfulness.{satisfiable}
use Rattle.round.specs.Answers.{Answer, ok, refused, Opens, Asks, Rolls, words_for, roll_words, up_to}
use Rattle.round.specs.Calls.{Standing, after, explain}
use Rattle.round.specs.Ranks.{Ranks, ranked}
use Rattle.round.proofs.Meaning.{in_force_ranked}
use Rattle.round.proofs.Rolls.{how_many_same, roll_same, length_words}

pub opens_ok : (s : Sheet) (a b d : ℕ) → length s.clauses ≤ 2000 → literals s.clauses ≤ 8000 → satisfiable s ≡ true → a ≡ length s.clauses → b ≡ s.top → d ≡ discharged s → Opens s (ok (a ∷ (b ∷ (d ∷ []))) [])
opens_ok s a b d few short sat ea eb ed =
    inr (⊎_elim (λ h. omega arith) (λ h. omega arith), inr (λ e. both_ways (satisfiable s) e sat, λ i. ok (ea i ∷ (eb i ∷ (ed i ∷ []))) []))

pub asks_ok : (s : Sheet) (p : ℕ) (b : Bool) → 0 < p → p ≤ s.top → b ≡ in_force s p → Asks s p (ok (cond b 1 0 ∷ []) [])
asks_ok s p b low high e = inr (⊎_elim (λ h. omega arith) (λ h. omega arith), ap (λ (x : Bool). ok (cond x 1 0 ∷ []) []) e)

module _ (s : Sheet) (table : List ℕ) (r : Ranks s table) where
  pub count_in_force : how_many (ranked table) s.top ≡ how_many (in_force s) s.top
  count_in_force = how_many_same (ranked table) (in_force s) s.top (λ p l _. in_force_ranked s table r p l) s.top (omega arith)

  pub roll_in_force : roll_words (ranked table) s.top ≡ roll_words (in_force s) s.top
  roll_in_force = roll_same (ranked table) (in_force s) s.top (in_force_ranked s table r)

pub rolls_ok : (s : Sheet) (n m : ℕ) (after rest : List ℕ) → words_for s.top ≤ m → n ≡ how_many (in_force s) s.top → after ≡ roll_words (in_force s) s.top ++ rest → Rolls s m (ok (n ∷ []) (take (words_for s.top) after))
rolls_ok s n m after rest space en ea =
    let w : ℕ = words_for s.top in
    let written : take w after ≡ roll_words (in_force s) s.top = ap (take w) ea ∙ take_at (roll_words (in_force s) s.top) rest w (length_words (up_to s.top (in_force s)) w) in
    inr (λ h. omega arith, ap₂ (λ (x : ℕ) (ws : List ℕ). ok (x ∷ []) ws) en written)

-- an explain leaves what stands, whatever it answers
pub explain_leaves : (st : Standing) (p n : ℕ) (a : Answer) → after st (explain p n) a ≡ st
explain_leaves st p n (ok ns written) = refl
explain_leaves st p n (refused k named) = refl
