use Rattle.horn.proofs.Graph.{graph_ranked}
use Rattle.horn.proofs.theorems.graph_ranked_stands.Goals as goal

pub returns : goal.returns
returns c = graph_ranked
