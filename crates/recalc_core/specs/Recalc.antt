-- What kept values, marks and kept summaries stand for. Source: this project's own.
use Rattle.std.specs.Prelude.{ℕ, ◌++◌, ◌∷◌, [], if◌then◌else◌, List}
use Rattle.dep_graph.specs.Nodes.{has}
use Rattle.dep_graph.specs.declared.node.Node.{Node}
use Rattle.range_table.specs.Ranges.{table_of}
use Rattle.recalc_core.specs.Kept.{Kept}
use Rattle.recalc_core.specs.declared.recalc.Recalc.{Recalc}
use Rattle.recalc_core.specs.internal.KeptValues.{kept_by}
use Rattle.recalc_core.specs.internal.Marks.{marked_by}

-- the value that is kept of each node
abbrev pub kept_in : Recalc → Kept
kept_in r = kept_by r.kept

-- the marks, in the order in which they came
abbrev pub marks_in : Recalc → List Node
marks_in r = marked_by r.marks

-- the marks after one more node is marked: each stands once
abbrev pub with_mark : Node → List Node → List Node
with_mark a marks = if has a marks then marks else marks ++ a ∷ []

-- how many cells were merged for summaries
abbrev pub merged_in : Recalc → ℕ
merged_in r = (table_of r.ranges).merged
