-- A record as the program holds it, its text a part of the input.
use Rattle.std.specs.Prelude.{◌≡◌, ◌≢◌, ℕ, ◌<◌, List, ◌++◌, length, Some, None, Option}
use Rattle.std.specs.Borrow.{Bor}
use Rattle.console.specs.declared.records.Record.{Record as Held}
use Rattle.console.specs.declared.records.Record.TheVariants.{Network, Show, Opening, Asking}
use Rattle.console.specs.Records.{Record, network, show, opening, asking, two_bytes, bytes_of, Fitting, NoRecord}

abbrev pub meaning : Held → Record
meaning (Network t) = network t.now
meaning (Show t) = show t.now
meaning Opening = opening
meaning (Asking n) = asking n

-- no length and text of so many bytes begin here
abbrev pub NoText : List ℕ → Type 0
NoText bs = (t tail : List ℕ) → length t < 65536 → bs ≢ two_bytes (length t) ++ t ++ tail

-- The first record of the input and what follows it; none where no record begins.
abbrev pub Taken : List ℕ → Option (Held × Bor (List ℕ)) → Type 0
Taken input None = NoRecord input
Taken input (Some p) = Fitting (meaning p.0) × (input ≡ bytes_of (meaning p.0) ++ p.1.now)
