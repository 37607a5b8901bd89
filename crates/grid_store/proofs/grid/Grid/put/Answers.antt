use Rattle.std.proofs.Common.{◌≡◌, ◌∙◌, sym, ap, is_some, None}
use Rattle.std.proofs.lemmas.Bool.{both_ways}
use Rattle.std.proofs.lemmas.Result.{IfOk-weaker, on_ok_weaker}
use Rattle.std.specs.FinMap as map
use Rattle.grid_store.specs.Grid.{cells_of}
use Rattle.grid_store.proofs.TurnedKeys.{ok_unless}
use Rattle.grid_store.proofs.Views.{get-seen_at, seen-insert, standing_inserted}
use Rattle.grid_store.proofs.grid.Grid.put.Goals as goal

pub invariant_of-self : goal.invariant_of-self
invariant_of-self _ c =
    let g = c.args.self.now in record {
      rows_limit = g.rows_limit;
      cols_limit = g.cols_limit;
      standing = standing_inserted g.rows g.cols c.insert.result g.cells.entries c.insert.new.self.entries c.args.at c.in-Some.key c.args.cell (sym c.in-Some.ensures)
          (on_ok_weaker c.insert.result (λ u. u.0) c.insert.ensures.updates) c.insert.ensures.err g.standing;
    }

pub returns-clause-before : goal.returns-clause-before
returns-clause-before _ c =
    let g = c.args.self.now in
    IfOk-weaker c.insert.result _ _ (λ before h. h ∙ sym (get-seen_at g.rows g.cols g.cells.entries c.args.at c.in-Some.key (sym c.in-Some.ensures))) c.insert.ensures.old

pub returns-clause-ok : goal.returns-clause-ok
returns-clause-ok _ c =
    let g = c.args.self.now in
    on_ok_weaker c.insert.result (λ u. seen-insert g.rows g.cols g.cells.entries c.insert.new.self.entries c.args.at c.in-Some.key c.args.cell (sym c.in-Some.ensures) u.0) c.insert.ensures.updates

pub returns-clause-filled : goal.returns-clause-filled
returns-clause-filled _ c = λ some.
    let g = c.args.self.now in
    ok_unless c.insert.result c.insert.ensures.absent (λ absent.
    let none : map.get (cells_of g) c.args.at ≡ None = get-seen_at g.rows g.cols g.cells.entries c.args.at c.in-Some.key (sym c.in-Some.ensures) ∙ absent in
    both_ways _ (ap is_some none) some)
