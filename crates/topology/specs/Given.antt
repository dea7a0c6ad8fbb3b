-- What a call of a refiner only reads (document 01, "The graph and its numbers"): the graph in rows, the vertex weights, and the refiner's own settings.
use Rattle.std.specs.Prelude.{List, ℕ}
use Rattle.topology.specs.Graph.{Graph, in_rows}

pub record GivenWith (Settings : Type 0) : Type 0 where
  pub starts : List ℕ
  pub neighbours : List ℕ
  pub arcs : List ℕ
  pub weights : List ℕ
  pub settings : Settings

abbrev pub graph_of : {Settings : Type 0} → GivenWith Settings → Graph
graph_of p = in_rows p.starts p.neighbours p.arcs

-- what is given by a lent graph, its vertex weights and the settings
abbrev pub given : {Settings : Type 0} → Graph → List ℕ → Settings → GivenWith Settings
given g weights settings = record { starts = g.starts; neighbours = g.neighbours; arcs = g.weights; weights = weights; settings = settings }
