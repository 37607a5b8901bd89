-- Which cells are on a cycle of links. Source: this project's own.
use Rattle.std.specs.Prelude.{◌↔◌, Bool, IsTrue}
use Rattle.cell_addr.specs.declared.place.Place.{Place}
use Rattle.dep_graph.specs.Needs.{Links, OnCycle}
use Rattle.dep_graph.specs.declared.node.Node.TheVariants.{Cell}

-- the test tells of each place whether needs lead from its cell back to it
abbrev pub TellsCycles : Links → (Place → Bool) → Type 0
TellsCycles links test = (p : Place) → IsTrue (test p) ↔ OnCycle links (Cell p)
