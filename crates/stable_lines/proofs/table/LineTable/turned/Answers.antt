use Rattle.std.proofs.lemmas.Result.{IfOk-weaker}
use Rattle.stable_lines.specs.Lines.{AreSame}
use Rattle.stable_lines.specs.internal.Turned.{IsTurned}
use Rattle.stable_lines.proofs.TableLevels.{same_turned}
use Rattle.stable_lines.proofs.table.LineTable.turned.Goals as goal

pub returns-then-near-gt-NEAR-2 : goal.returns-then-near-gt-NEAR-2
returns-then-near-gt-NEAR-2 c =
    let t = c.args.self.now in
    let table = c.in_ok-table.table in
    IfOk-weaker c.deepened.result (λ new. AreSame new table) (IsTurned c.args.turn t) (λ new same. same_turned c.args.turn t table new c.in_ok-table.ensures same) c.deepened.ensures
