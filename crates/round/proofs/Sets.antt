-- Rows after a write.
use Rattle.std.proofs.Common.{◌≡◌, ℕ, ◌<◌, ◌⊎◌, List, length, set, ap, ◌∙◌, inl, inr, get_or-set_other, get_or-set_same}
use Rattle.round.specs.Rows.{at}

pub at_same : (xs : List ℕ) (i v j : ℕ) → i < length xs → j ≡ i → at (set xs i v) j ≡ v
at_same xs i v j h e = ap (at (set xs i v)) e ∙ get_or-set_same xs i v 0 h

pub at_other : (xs : List ℕ) (i v j : ℕ) → (j ≡ i → ⊥) → at (set xs i v) j ≡ at xs j
at_other xs i v j h = get_or-set_other xs i j v 0 h

-- cases, the fact first, so that its parts are known where the cases are read
pub split : {A B C : Type 0} → A ⊎ B → (A → C) → (B → C) → C
split (inl a) f g = f a
split (inr b) f g = g b
