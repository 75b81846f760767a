-- The reader's states and the grammar are one.
use Rattle.std.proofs.Common.{◌≡◌, ℕ, List, ◌∷◌, refl, ◌∙◌}
use Rattle.text.specs.declared.states.State.{State}
use Rattle.text.specs.declared.states.State.TheVariants.{Start, Literal, Negated, NegFirst, NegMore, PosFirst, PosMore, Done}
use Rattle.text.specs.Grammar.{Digits, end, then, Number, number, NegLits, one, more, Basic, fact, rule, ban, Text, last, join, digits, numeral, neg_lits, inside, text}
use Rattle.text.specs.States.{next, on}

-- Complete: every text of the grammar is read. F is anything that goes on from state to state as the reader does.
module _ {Y : Type 0} (F : State → List ℕ → Y) (stop : Y) (goes : (q : State) (b : ℕ) (s : List ℕ) → F q (b ∷ s) ≡ on (next q b) stop (λ r. F r s)) where
  neg_digits : (ds : Digits) (s : List ℕ) → F NegMore (digits ds s) ≡ F NegMore s
  neg_digits end s = refl
  neg_digits (then b d ds) s = goes NegMore b (digits ds s) ∙ rw d (neg_digits ds s)

  pos_digits : (ds : Digits) (s : List ℕ) → F PosMore (digits ds s) ≡ F PosMore s
  pos_digits end s = refl
  pos_digits (then b d ds) s = goes PosMore b (digits ds s) ∙ rw d (pos_digits ds s)

  neg_number : (n : Number) (s : List ℕ) → F NegFirst (numeral n s) ≡ F NegMore s
  neg_number (number b d ds) s = goes NegFirst b (digits ds s) ∙ rw d (neg_digits ds s)

  pos_number : (n : Number) (s : List ℕ) → F PosFirst (numeral n s) ≡ F PosMore s
  pos_number (number b d ds) s = goes PosFirst b (digits ds s) ∙ rw d (pos_digits ds s)

  negs : (ns : NegLits) (s : List ℕ) → F Literal (neg_lits ns s) ≡ F NegMore s
  negs (one n) s = goes Literal 126 _ ∙ (goes Negated 80 _ ∙ neg_number n s)
  negs (more n ns) s = goes Literal 126 _ ∙ (goes Negated 80 _ ∙ (neg_number n _ ∙ (goes NegMore 124 _ ∙ negs ns s)))

  insides : (c : Basic) (s : List ℕ) → F Literal (inside c (41 ∷ s)) ≡ F Done s
  insides (fact n) s = goes Literal 80 _ ∙ (pos_number n _ ∙ goes PosMore 41 s)
  insides (rule ns n) s = negs ns _ ∙ (goes NegMore 124 _ ∙ (goes Literal 80 _ ∙ (pos_number n _ ∙ goes PosMore 41 s)))
  insides (ban ns) s = negs ns _ ∙ goes NegMore 41 s

  pub texts : (t : Text) (s : List ℕ) → F Start (text t s) ≡ F Done s
  texts (last c) s = goes Start 40 _ ∙ insides c s
  texts (join c t) s = goes Start 40 _ ∙ (insides c _ ∙ (goes Done 38 _ ∙ texts t s))
