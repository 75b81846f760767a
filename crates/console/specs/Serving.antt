-- What the parts of the program do, in the terms of Session.
use Rattle.std.specs.Prelude.{◌≡◌, ℕ, List, ◌++◌}
use Rattle.std.specs.List.{AllByRecursion}
use Rattle.console.specs.Records.{Record, all_bytes, Fitting}
use Rattle.console.specs.Session.{State, Session, at_first}

-- Up to the rest the input was read as records; these printed the text and left the state.
pub record SoFar (input rest out : List ℕ) (st : State) : Type 0 where
  pub records : List Record
  pub fitting : AllByRecursion Fitting records
  pub whole : input ≡ all_bytes records ++ rest
  pub session : Session at_first records out st
