use Rattle.std.proofs.Common.{◌≤◌, ◌+◌, arith}
use Rattle.dep_graph.specs.Nodes.{items_of}
use Rattle.session_values.proofs.MovedNodes.{block_added, next_row, no_row}
use Rattle.session_values.proofs.listing.add_places.Goals as goal

pub rows-init : goal.rows-init
rows-init c = no_row c.args.area (items_of c.args.nodes.now)

pub rows-preserved : goal.rows-preserved
rows-preserved c = next_row c.args.area c.rows.row (items_of c.args.nodes.now) (items_of c.rows.nodes) (items_of c.add_row.new.nodes) c.rows.invariant c.in_ok-add_row.ensures

pub returns : goal.returns
returns c =
    let past : c.args.area.bottom + 1 ≤ c.rows.row = c.rows-test.false in
    block_added c.args.area c.rows.row (items_of c.args.nodes.now) (items_of c.rows.nodes) (omega (arith, past)) c.rows.invariant
