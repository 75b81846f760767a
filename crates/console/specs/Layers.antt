-- Where the program's refusals come from, in the terms of Lines.
use Rattle.console.specs.declared.lines.Layer.{Layer as Held}
use Rattle.console.specs.declared.lines.Layer.TheVariants.{Record, Text, Round}
use Rattle.console.specs.Lines.{Layer, in_record, in_text, in_round}

abbrev pub layer_of : Held → Layer
layer_of Record = in_record
layer_of Text = in_text
layer_of Round = in_round
