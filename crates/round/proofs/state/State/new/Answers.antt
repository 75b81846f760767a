use Rattle.std.proofs.Common.{refl, ap, ◌∙◌, List, ℕ}
use Rattle.round.specs.Rows.{at}
use Rattle.round.proofs.Zeros.{zeros_at}
use Rattle.round.proofs.Openings.{good_empty}
use Rattle.round.proofs.state.State.new.Goals as goal

pub returns : goal.returns
returns c =
    let e = good_empty _ c.in_ok-tables.ensures (record {
      usable = record { mark_room = c.in_ok-marks.ensures.capacity };
      opened = refl;
      marks = c.in_ok-marks.ensures.items;
      unranked = λ p. ap (λ (xs : List ℕ). at xs p) c.in_ok-rank.ensures.ok ∙ zeros_at 1001 p;
    }) in
    record { sheet = (e.0, e.1); start = (e.2, e.3) }
