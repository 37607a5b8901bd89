use Rattle.std.proofs.Common.{◌≡◌, ◌∙◌, sym, Some, arith}
use Rattle.stable_lines.specs.Runs.{image}
use Rattle.stable_lines.proofs.table.LineTable.position.Goals as goal

pub overflow_cast-result : goal.overflow_cast-result
overflow_cast-result c =
    let t = c.args.self.now in
    let found : image t.positions.items c.args.line ≡ Some c.in-Some.position = t.read_back c.args.line ∙ sym c.in-Some.ensures in
    let short = t.within c.in-Some.position c.args.line ((t.inverse c.in-Some.position c.args.line).1 found) in
    omega (arith, t.narrow)
