use Rattle.std.proofs.Common.{◌≡◌, ◌++◌, map}
use Rattle.formula_tree.specs.declared.link.Link.TheVariants as links
use Rattle.session_questions.proofs.links.push_cells.Given as goal

abbrev pub invariant-cells : goal.invariant-cells
invariant-cells l = l.list.items ++ map links.Cell l.place-iterator ≡ l.fn.list.items ++ map links.Cell l.fn.cells.keys
