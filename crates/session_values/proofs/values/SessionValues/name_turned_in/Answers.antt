use Rattle.std.proofs.Common.{sym, subst, Option}
use Rattle.kept_book.specs.Kept.{name_change}
use Rattle.kept_values.specs.declared.values.Values.{Values}
use Rattle.session_values.specs.Naming.{MarksTurn}
use Rattle.session_values.proofs.Named.{nothing_turns}
use Rattle.session_values.proofs.values.SessionValues.name_turned_in.Goals as goal

pub returns-then-is_no_sheet-clause-marks : goal.returns-then-is_no_sheet-clause-marks
returns-then-is_no_sheet-clause-marks c =
    let key = (name_change c.args.name.now).0 in
    let s = c.args.session.now in
    subst (λ (o : Option Values). MarksTurn key c.args.turn s c.args.self.now.values o) (sym c.forget.ensures) (nothing_turns key c.args.turn s c.args.self.now.values).1
