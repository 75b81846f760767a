use Rattle.horn.proofs.Graph.{graph_in_force}
use Rattle.horn.proofs.theorems.graph_in_force_stands.Goals as goal

pub returns : goal.returns
returns c = graph_in_force
