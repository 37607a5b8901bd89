use Rattle.std.proofs.lemmas.Bool.{and_parts}
use Rattle.touch_index.proofs.points.Points.along.Goals as goal

pub returns-in-Rows : goal.returns-in-Rows
returns-in-Rows c = rw c.in-Rows.is (λ spot n h. (and_parts _ _ h).0)

pub returns-in-Cols : goal.returns-in-Cols
returns-in-Cols c = rw c.in-Cols.is (λ spot n h. (and_parts _ _ h).1)
