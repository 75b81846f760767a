-- Texts to try, with what judging answers.
use Rattle.std.specs.Prelude.{Ok, Err, codes}
use Rattle.text.specs.declared.verdict.Fault.TheVariants.{Outside, TooGreat, Repeated}
use Rattle.text.specs.Verdicts.{Judged}

pub record WorkedTexts : Type 0 where
  pub empty : Judged (codes "") (Err (Outside 0))
  pub zero : Judged (codes "(P0)") (Err (Outside 2))
  pub too_great : Judged (codes "(P1001)") (Err (TooGreat 1))
  pub greatest : Judged (codes "(P1000)") (Ok (record { clauses = 1; conditions = 1000; literals = 1 }))
  pub repeated : Judged (codes "(~P2|~P2)") (Err (Repeated 6))
  pub order : Judged (codes "(P1|~P2)") (Err (Outside 3))
  pub own_outcome : Judged (codes "(~P1|P1)") (Ok (record { clauses = 1; conditions = 1; literals = 2 }))
  pub unfinished : Judged (codes "(P1)&") (Err (Outside 5))
  pub leading_zero : Judged (codes "(P01001)") (Err (Outside 2))
