-- The worked run.
use Rattle.std.proofs.Common.{◌⊎◌, refl, inl, inr, arith}
use Rattle.std.proofs.lemmas.Bool.{true≢false, false≢true}
use Rattle.round.specs.Examples.{WorkedRun}

neither : {P Q : Type 0} → (P → ⊥) → (Q → ⊥) → P ⊎ Q → ⊥
neither p q (inl x) = p x
neither p q (inr x) = q x

-- an answer and those after it
answered : {A B : Type 0} → A → B → A × B
answered a rest = (a, rest)

pub worked_run : WorkedRun
worked_run = record {
  opening = inr (neither (λ h. omega arith) (λ h. omega arith), inr (true≢false, refl));
  run =
      answered (inr (neither (λ h. omega arith) (λ h. omega arith), inr ((λ h. omega arith), inr (true≢false, refl))))
      (answered (inr (neither (λ h. omega arith) (λ h. omega arith), inr ((λ h. omega arith), inl (refl, refl))))
      (answered (inl (inr (omega arith), refl))
      (answered (inr (neither (λ h. omega arith) (λ h. omega arith), inr (true≢false, inr ((λ h. omega arith), refl))))
      (answered (inr (neither (λ h. omega arith) (λ h. omega arith), inr (true≢false, inl (omega arith, refl))))
      (answered (inr (neither (λ h. omega arith) (λ h. omega arith), inl (refl, refl)))
      (answered (inr ((λ h. omega arith), refl))
      (answered (inl (omega arith, refl))
      (answered (inr ((λ h. omega arith), refl))
      (answered (inr (neither (λ h. omega arith) (λ h. omega arith), inr ((λ h. omega arith), inr (false≢true, refl))))
      (answered (inr ((λ h. omega arith), refl))
      (answered (inr (neither (λ h. omega arith) (λ h. omega arith), inr ((λ h. omega arith), inr (true≢false, refl))))
      (answered (inr (neither (λ h. omega arith) (λ h. omega arith), inr ((λ h. omega arith), inl (refl, refl))))
      (answered (inl (inr (omega arith), refl))
      (answered (inr (neither (λ h. omega arith) (λ h. omega arith), refl))
      (answered (inl (inr (omega arith), refl))
      (answered (inr (neither (λ h. omega arith) (λ h. omega arith), refl)) tt))))))))))))))));
  left = refl;
}
