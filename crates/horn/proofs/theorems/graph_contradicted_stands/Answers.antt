use Rattle.horn.proofs.Graph.{graph_contradicted}
use Rattle.horn.proofs.theorems.graph_contradicted_stands.Goals as goal

pub returns : goal.returns
returns c = graph_contradicted
