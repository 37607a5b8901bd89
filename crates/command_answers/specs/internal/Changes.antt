-- Which commands are changes that answer nothing, and of what.
use Rattle.std.specs.Prelude.{⊤}
use Rattle.script_lang.specs.declared.commands.Command.{Command}
use Rattle.script_lang.specs.declared.commands.Command.TheVariants as command

-- the command is a change that answers nothing
abbrev pub IsChange : Command → Type 0
IsChange (command.AddSheet name) = ⊥
IsChange (command.Value at) = ⊥
IsChange (command.Formula at) = ⊥
IsChange (command.Content at) = ⊥
IsChange (command.Precedents at) = ⊥
IsChange (command.Dependents at) = ⊥
IsChange (command.NameValue name sheet) = ⊥
IsChange (command.Try sheet text) = ⊥
IsChange (command.Version version) = ⊥
IsChange _ = ⊤

-- of cells, or of what waits to be pasted
abbrev pub IsOnCells : Command → Type 0
IsOnCells (command.Set at text) = ⊤
IsOnCells (command.Clear area) = ⊤
IsOnCells (command.Copy area) = ⊤
IsOnCells (command.Cut area) = ⊤
IsOnCells (command.Paste at) = ⊤
IsOnCells (command.MoveBlock area at) = ⊤
IsOnCells _ = ⊥

-- of the rows or the columns of a sheet
abbrev pub IsOnLines : Command → Type 0
IsOnLines (command.InsertRows sheet at count) = ⊤
IsOnLines (command.DeleteRows sheet at count) = ⊤
IsOnLines (command.InsertCols sheet at count) = ⊤
IsOnLines (command.DeleteCols sheet at count) = ⊤
IsOnLines (command.MoveRows sheet from count before) = ⊤
IsOnLines (command.MoveCols sheet from count before) = ⊤
IsOnLines _ = ⊥

-- of a sheet as a whole, or of a name
abbrev pub IsOnNames : Command → Type 0
IsOnNames (command.DropSheet sheet) = ⊤
IsOnNames (command.RenameSheet sheet name) = ⊤
IsOnNames (command.ClearSheet sheet) = ⊤
IsOnNames (command.AddName name scope text) = ⊤
IsOnNames (command.ChangeName name scope text) = ⊤
IsOnNames (command.RemoveName name scope) = ⊤
IsOnNames _ = ⊥

-- of no cell, sheet or name by itself: a batch, the computation of values, or a step that is undone or done again
abbrev pub IsOfSteps : Command → Type 0
IsOfSteps command.Begin = ⊤
IsOfSteps command.Commit = ⊤
IsOfSteps command.Suspend = ⊤
IsOfSteps command.Resume = ⊤
IsOfSteps command.Undo = ⊤
IsOfSteps command.Redo = ⊤
IsOfSteps _ = ⊥
