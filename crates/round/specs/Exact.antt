-- What the answers of a round say of choices.
use Rattle.std.specs.Prelude.{◌≡◌, ℕ, ◌-◌, ◌/◌, ◌%◌, ◌^◌, ◌≤◌, true, ◌↔◌, List, [], ◌∷◌, slice_index}
use Rattle.horn.specs.Sheets.{Sheet, Choice, Lawful, Satisfies, IsTooLarge}
use Rattle.horn.specs.Lawfulness.{satisfiable}
use Rattle.horn.specs.Bans.{LowestBroken}
use Rattle.round.specs.Answers.{Answer, ok, refused, Opens, Asks, Rolls}

abbrev pub Unsatisfiable : Sheet → Type 0
Unsatisfiable s = (v : Choice s) → Satisfies s v → ⊥

-- every choice that satisfies the sheet holds the condition
abbrev pub Entails : Sheet → ℕ → Type 0
Entails s q = (v : Choice s) → Satisfies s v → v.holds q ≡ true

-- the answer turns the call back as contradictory
abbrev pub Contradicts : Answer → Type 0
Contradicts (ok ns w) = ⊥
Contradicts (refused n b) = n ≡ 8

-- Past its size check an opening is turned back as contradictory exactly when no choice satisfies the sheet, and then it names the lowest broken ban.
pub record OpeningExact : Type 0 where
  pub contradicts : (s : Sheet) → Lawful s → (a : Answer) → Opens s a → (IsTooLarge s → ⊥) → Contradicts a ↔ Unsatisfiable s
  pub names : (s : Sheet) → Lawful s → (b : ℕ) → Opens s (refused 8 (b ∷ [])) → LowestBroken s b

-- the bit of condition q in the words of a roll
abbrev pub bit_of : List ℕ → ℕ → ℕ
bit_of words q = slice_index words ((q - 1) / 32) / 2 ^ ((q - 1) % 32) % 2

-- Of clauses that some choice satisfies, as a round's are, an ask answers 1 and a roll sets the bit exactly where every satisfying choice holds the condition.
pub record ReportsExact : Type 0 where
  pub asks : (s : Sheet) → Lawful s → satisfiable s ≡ true → (p n : ℕ) → Asks s p (ok (n ∷ []) []) → (n ≡ 1) ↔ Entails s p
  pub rolls : (s : Sheet) → Lawful s → satisfiable s ≡ true → (n : ℕ) (ns words : List ℕ) → Rolls s n (ok ns words)
      → (q : ℕ) → 1 ≤ q → q ≤ s.top → (bit_of words q ≡ 1) ↔ Entails s q
