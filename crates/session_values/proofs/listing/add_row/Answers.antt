use Rattle.std.proofs.Common.{◌≤◌, ◌<◌, ◌+◌, refl, arith}
use Rattle.dep_graph.specs.Nodes.{items_of}
use Rattle.session_values.proofs.MovedNodes.{no_place, place_added, row_added}
use Rattle.session_values.proofs.listing.add_row.Goals as goal

pub cols-init : goal.cols-init
cols-init c = no_place c.args.area c.args.row (items_of c.args.nodes.now)

pub cols-preserved : goal.cols-preserved
cols-preserved c =
    let before : c.cols.col < c.args.area.right + 1 = c.cols-test.true in
    place_added c.args.area c.args.row (record { sheet = c.args.area.sheet; row = c.args.row; col = c.cols.col }) (items_of c.args.nodes.now) (items_of c.cols.nodes) (items_of c.push.new.self) refl refl
    c.requires.row.0 c.requires.row.1 c.cols.auto.col (omega (arith, before)) c.cols.invariant c.in_ok-push.ensures.ok

pub returns : goal.returns
returns c =
    let past : c.args.area.right + 1 ≤ c.cols.col = c.cols-test.false in
    row_added c.args.area c.args.row c.cols.col (items_of c.args.nodes.now) (items_of c.cols.nodes) (omega (arith, past)) c.cols.invariant
