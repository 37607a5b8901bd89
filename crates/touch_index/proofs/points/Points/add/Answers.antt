use Rattle.cell_addr.specs.declared.axis.Axis.TheVariants.{Cols, Rows}
use Rattle.touch_index.specs.internal.Points.{point_along}
use Rattle.touch_index.proofs.Found.{points_grow, same_set, set_grows}
use Rattle.touch_index.proofs.points.Points.add.Goals as goal

pub returns-in_err-insert-2-clause-grown : goal.returns-in_err-insert-2-clause-grown
returns-in_err-insert-2-clause-grown c at n h =
    let old = c.args.self.now in
    points_grow old.by_rows old.by_cols c.insert.new.self c.insert-2.new.self (point_along Rows at n) (point_along Cols at n)
    (λ p. set_grows old.by_rows c.insert.new.self _ p c.in_ok-insert.ensures.updates)
    (λ p. same_set old.by_cols c.insert-2.new.self p c.in_err-insert-2.ensures.err) h

pub returns-clause-grown : goal.returns-clause-grown
returns-clause-grown c at n h =
    let old = c.args.self.now in
    points_grow old.by_rows old.by_cols c.insert.new.self c.insert-2.new.self (point_along Rows at n) (point_along Cols at n)
    (λ p. set_grows old.by_rows c.insert.new.self _ p c.in_ok-insert.ensures.updates)
    (λ p. set_grows old.by_cols c.insert-2.new.self _ p c.in_ok-insert-2.ensures.updates) h
