-- The reader's states, and what it finds. proofs/Machine.antt and proofs/Sound.antt show that this is the grammar.
use Rattle.std.specs.Prelude.{ℕ, suc, Bool, true, false, cond, List, [], ◌∷◌, Some, None, Option, ◌==◌}
use Rattle.text.specs.declared.states.State.{State}
use Rattle.text.specs.declared.states.State.TheVariants.{Start, Literal, Negated, NegFirst, NegMore, PosFirst, PosMore, Done}
use Rattle.text.specs.Grammar.{digit, first_digit}

-- the state after one byte more; none where no text of the grammar goes on so
abbrev pub next : State → ℕ → Option State
next Start b = cond (b == 40) (Some Literal) None
next Literal b = cond (b == 126) (Some Negated) (cond (b == 80) (Some PosFirst) None)
next Negated b = cond (b == 80) (Some NegFirst) None
next NegFirst b = cond (first_digit b) (Some NegMore) None
next NegMore b = cond (digit b) (Some NegMore) (cond (b == 124) (Some Literal) (cond (b == 41) (Some Done) None))
next PosFirst b = cond (first_digit b) (Some PosMore) None
next PosMore b = cond (digit b) (Some PosMore) (cond (b == 41) (Some Done) None)
next Done b = cond (b == 38) (Some Start) None

abbrev pub on : {Y : Type 0} → Option State → Y → (State → Y) → Y
on None y f = y
on (Some q) y f = f q

-- how many bytes are read from a state before there is none
abbrev pub reach : State → List ℕ → ℕ
reach q [] = 0
reach q (b ∷ bs) = on (next q b) 0 (λ r. suc (reach r bs))

abbrev pub final : State → Bool
final Start = false
final Literal = false
final Negated = false
final NegFirst = false
final NegMore = false
final PosFirst = false
final PosMore = false
final Done = true

-- whether all of them are read, and the last state is Done
abbrev pub accepts : State → List ℕ → Bool
accepts q [] = final q
accepts q (b ∷ bs) = on (next q b) false (λ r. accepts r bs)
