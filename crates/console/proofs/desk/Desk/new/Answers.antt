use Rattle.text.specs.InPlace.{text_sheet}
use Rattle.console.proofs.EmptyText.{nothing_meant}
use Rattle.console.proofs.desk.Desk.new.Goals as goal

pub returns : goal.returns
returns c =
    let n = nothing_meant (text_sheet c.in_ok-network.network) c.in_ok-network.ensures.1 in
    let s = nothing_meant (text_sheet c.in_ok-show.show) c.in_ok-show.ensures.1 in
    let r = c.in_ok-round.ensures.sheet in
    λ i. record { of_network = n i; of_show = s i; of_round = r i }
