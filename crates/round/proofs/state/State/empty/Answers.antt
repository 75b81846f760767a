use Rattle.std.proofs.Common.{refl, arith}
use Rattle.round.proofs.state.State.empty.Goals as goal

pub returns : goal.returns
returns c = record {
  tables = c.clear.ensures;
  bare = record {
    usable = record { mark_room = omega (arith, c.clear-2.ensures.capacity, c.requires.usable.mark_room) };
    opened = refl;
    marks = c.clear-2.ensures.items;
    unranked = c.unrank.ensures;
  };
}
