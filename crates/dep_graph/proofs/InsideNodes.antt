-- Nodes within the limits of a sheet stay within them. Serves the law that says so of a graph.
use Rattle.std.proofs.Common.{◌≡◌, subst, Some}
use Rattle.shift_core.specs.Form.{form_of}
use Rattle.shift_core.specs.Sound.{IsSound}
use Rattle.shift_core.specs.Tables.{block_after, place_after}
use Rattle.shift_core.specs.Wholes.{whole_after}
use Rattle.shift_core.specs.declared.shift.Shift.{Shift}
use Rattle.shift_core.proofs.BlockLaws.{block_moved_inside}
use Rattle.shift_core.proofs.PlaceLaws.{place_moved_inside}
use Rattle.shift_core.proofs.WholeMoves.{whole_moved_inside}
use Rattle.std.proofs.lemmas.Option.{same_Some}
use Rattle.dep_graph.specs.Laws.{IsNodeInside, LinksStayInside}
use Rattle.dep_graph.specs.Shifted.{node_after}
use Rattle.dep_graph.specs.declared.node.Node.{Node}
use Rattle.dep_graph.specs.declared.node.Node.TheVariants.{Cell, Name, Range, Whole}
use Rattle.dep_graph.proofs.UnbentNodes.{mapped}

-- a node stays within the limits
node_stays_inside : (s : Shift) (a after : Node) → IsSound s → IsNodeInside a → node_after s a ≡ Some after → IsNodeInside after
node_stays_inside s (Cell p) after sound inside goes =
    let (q, to, is) = mapped Cell (place_after s p) after goes in
    subst IsNodeInside is (place_moved_inside (form_of s) p q sound inside to)
node_stays_inside s (Name scope word) after sound inside goes = subst IsNodeInside (same_Some (Name scope word) after goes) inside
node_stays_inside s (Range b) after sound inside goes =
    let (c, to, is) = mapped Range (block_after s b) after goes in
    subst IsNodeInside is (block_moved_inside (form_of s) b c sound inside to)
node_stays_inside s (Whole w) after sound inside goes =
    let (v, to, is) = mapped Whole (whole_after s w) after goes in
    subst IsNodeInside is (whole_moved_inside (form_of s) w v sound inside to)

-- and so do the ends of links
pub links_inside : LinksStayInside
links_inside s old new sound inside shifted a b link =
    let (x, y, from, x_to, y_to) = (shifted a b).0 link in
    let (x_in, y_in) = inside x y from in
    (node_stays_inside s x a sound x_in x_to, node_stays_inside s y b sound y_in y_to)
