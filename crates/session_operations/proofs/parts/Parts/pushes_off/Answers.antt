use Rattle.shift_core.specs.declared.edit.Edit.TheVariants.{Insert}
use Rattle.shift_core.specs.declared.form.Form.TheVariants.{Lines}
use Rattle.grid_store.specs.Grid.{cells_of}
use Rattle.kept_book.specs.Frame.{numbered_at}
use Rattle.kept_book.specs.Kept.{at_of}
use Rattle.session_operations.proofs.Pushed.{pushed}
use Rattle.session_operations.proofs.parts.Parts.pushes_off.Goals as goal

pub returns : goal.returns
returns c =
    let b = c.args.self.now.session.book in
    pushed c.args.s.now (Lines c.args.sheet c.args.axis (Insert c.args.at c.args.count)) (numbered_at (at_of b) b.lazy.line.cursor) (cells_of b.grid) c.pushed_off.result c.requires tt c.pushed_off.ensures
