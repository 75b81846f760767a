use Rattle.std.proofs.Common.{refl, arith}
use Rattle.horn.proofs.Lawfulness.{lawful_tested}
use Rattle.text.specs.Reading.{sheet_in}
use Rattle.text.proofs.InPlace.{small, counted, meant_good, meant_refused}
use Rattle.text.proofs.Starts.{few_clauses}
use Rattle.text.proofs.Lawfulness.{low, lawful}
use Rattle.text.proofs.in_place.TextSheet.new.Goals as goal

pub starts_of-requires-clause-counted : goal.starts_of-requires-clause-counted
starts_of-requires-clause-counted c = counted c.args.text.now _ _ _ c.in-Ok.ensures.1

pub invariant_of-result : goal.invariant_of-result
invariant_of-result c =
    let j = c.in-Ok.ensures in
    let s = c.args.text.now in
    record {
      short = j.0;
      small = small s _ _ _ j.1;
      placed = c.in_ok-starts-in-Ok.ensures;
      low = low s _ _ _ j.1;
      few = omega (arith, j.0, few_clauses s);
      proper = (lawful_tested (sheet_in _ s)).1 (lawful s _ _ _ j.1);
    }

pub returns-in_ok-starts-in-Ok : goal.returns-in_ok-starts-in-Ok
returns-in_ok-starts-in-Ok c = let j = c.in-Ok.ensures in (j, meant_good c.args.text.now _ _ _ j.1 j.0)

pub returns-in-Err : goal.returns-in-Err
returns-in-Err c = (c.judge-verdict.ensures, meant_refused c.args.text.now _ c.judge-verdict.result c.in-Err.field-0 c.in-Err.is c.judge-verdict.ensures refl)
