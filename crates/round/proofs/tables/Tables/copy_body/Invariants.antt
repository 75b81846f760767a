use Rattle.std.proofs.Common.{◌≡◌, ◌+◌, ◌-◌, ◌≤◌, take, Some, vec_len}
use Rattle.std.specs.Option.{option_map}
use Rattle.round.specs.Writing.{unfinished}
use Rattle.round.specs.Held.{held_rows, held_sheet, body_at}
use Rattle.round.proofs.tables.Tables.copy_body.Given as goal

abbrev pub invariant-loop-j : goal.invariant-loop-j
invariant-loop-j g l = record {
  sheet : held_sheet l.self ≡ held_sheet l.initial.self;
  body : Some (unfinished (held_rows l.self)) ≡ option_map (take (l.j - 1)) (body_at (g.S.Source.sheet l.source) l.i);
  clauses : vec_len l.self.outcomes ≡ vec_len l.initial.self.outcomes;
  places : vec_len l.self.places ≡ vec_len l.initial.self.places + (l.j - 1);
  near : l.j ≤ l.n + 1;
}
