use Rattle.std.proofs.Common.{arith}
use Rattle.stable_lines.specs.Sheets.{table_of}
use Rattle.grid_store.proofs.RunPlaces.{on_run, place_on}
use Rattle.grid_store.proofs.view.View.place_on.Goals as goal

pub overflow_add-result : goal.overflow_add-result
overflow_add-result _ c =
    let t = table_of c.args.self.now.rows.now c.args.key.sheet in
    let on = (on_run t c.args.lines c.args.key.row c.requires.lines c.requires.row.0 c.requires.row.1).1 in
    omega (arith, on, t.narrow)

pub overflow_add-result-2 : goal.overflow_add-result-2
overflow_add-result-2 _ c =
    let t = table_of c.args.self.now.cols.now c.args.key.sheet in
    let on = (on_run t c.args.cols c.args.key.col c.requires.cols c.requires.col.0 c.requires.col.1).1 in
    omega (arith, on, t.narrow)

pub overflow_cast-result : goal.overflow_cast-result
overflow_cast-result _ c =
    let t = table_of c.args.self.now.rows.now c.args.key.sheet in
    let on = (on_run t c.args.lines c.args.key.row c.requires.lines c.requires.row.0 c.requires.row.1).1 in
    omega (arith, on, t.narrow)

pub overflow_cast-result-2 : goal.overflow_cast-result-2
overflow_cast-result-2 _ c =
    let t = table_of c.args.self.now.cols.now c.args.key.sheet in
    let on = (on_run t c.args.cols c.args.key.col c.requires.cols c.requires.col.0 c.requires.col.1).1 in
    omega (arith, on, t.narrow)

pub returns : goal.returns
returns _ c =
    let g = c.args.self.now in
    let r = c.requires in
    place_on g.rows.now g.cols.now c.args.lines c.args.cols c.args.key r.lines r.row.0 r.row.1 r.cols r.col.0 r.col.1
