use Rattle.horn.proofs.Graph.{graph_broken}
use Rattle.horn.proofs.theorems.graph_broken_stands.Goals as goal

pub returns : goal.returns
returns c = graph_broken
