-- Which operation a call is that is asked about beforehand. Source: this project's own.
use Rattle.book_model.specs.Operation.{Operation, set, clear, structural, add_sheet, rename_sheet, clear_sheet, add_name, change_name, remove_name, copy, cut, paste, begin, commit, undo, redo}
use Rattle.book_engine.specs.declared.cause.Change.{Change}
use Rattle.book_engine.specs.declared.cause.Change.TheVariants as change

abbrev pub operation_of : Change → Operation
operation_of (change.Set at text) = set at text.now
operation_of (change.Clear area) = clear area
operation_of (change.Structural s) = structural s
operation_of (change.AddSheet name) = add_sheet name.now
operation_of (change.RenameSheet sheet name) = rename_sheet sheet name.now
operation_of (change.ClearSheet sheet) = clear_sheet sheet
operation_of (change.AddName name scope text) = add_name name.now scope text.now
operation_of (change.ChangeName name scope text) = change_name name.now scope text.now
operation_of (change.RemoveName name scope) = remove_name name.now scope
operation_of (change.Copy area) = copy area
operation_of (change.Cut area) = cut area
operation_of (change.Paste at) = paste at
operation_of change.Begin = begin
operation_of change.Commit = commit
operation_of change.Undo = undo
operation_of change.Redo = redo
