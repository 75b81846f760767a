-- What holds of ranks that are being computed.
use Rattle.std.specs.Prelude.{◌≡◌, ℕ, length, vec_items}
use Rattle.round.specs.Rows.{Rows}
use Rattle.round.specs.Steps.{Queued, Counted}
use Rattle.round.specs.declared.propagation.levels.Levels.{Levels}

-- Between two steps: the queue is worked on from `head` up to `end` at the rank `level`; the clauses below m are started; of
-- the conditions in the queue, those below `head` are done, those from `next` on wait, and of p the places from `cursor` on
-- are done.
pub record Between (t : Rows) (m : ℕ) (w : Levels) (head end level next p cursor : ℕ) : Type 0 where
  pub size : length w.reached.rank.value ≡ 1001
  pub queued : Queued t w.reached.rank.value (vec_items w.reached.queue) head end (length (vec_items w.reached.queue)) level
  pub counted : Counted t m w.reached.rank.value (vec_items w.reached.queue) w.open.value head next (length (vec_items w.reached.queue)) level p cursor
