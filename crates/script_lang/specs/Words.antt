-- The table of commands: each command's word, the fields behind it, and the command that they make. Source: this project's own.
use Rattle.std.specs.Prelude.{ℕ, List, [], ◌∷◌, Option, bytes_eq, codes}
use Rattle.std.specs.List.{find}
use Rattle.script_lang.specs.declared.arguments.Arguments.{Arguments}
use Rattle.script_lang.specs.declared.commands.Command.{Command}
use Rattle.script_lang.specs.declared.commands.Command.TheVariants as command
use Rattle.script_lang.specs.declared.word.Word.{Word}
use Rattle.script_lang.specs.declared.word.Word.TheVariants as word
use Rattle.script_lang.specs.declared.word.TheConstants.Word.{ALL}
use Rattle.script_lang.specs.declared.word.FieldKind.{FieldKind}
use Rattle.script_lang.specs.declared.word.FieldKind.TheVariants.{Place, Block, Sheet, Scope, Row, Column, Count, RowBefore, ColumnBefore, Name, Text, Version}

-- the line of a word: how it is written, what fields follow it, and the command that these make
abbrev pub line : Word → List ℕ × List FieldKind × (Arguments → Command)
line word.Set = (codes "set", Place ∷ Text ∷ [], λ a. command.Set a.place a.text)
line word.Clear = (codes "clear", Block ∷ [], λ a. command.Clear a.block)
line word.InsertRows = (codes "insert-rows", Sheet ∷ Row ∷ Count ∷ [], λ a. command.InsertRows a.sheet a.line a.count)
line word.DeleteRows = (codes "delete-rows", Sheet ∷ Row ∷ Count ∷ [], λ a. command.DeleteRows a.sheet a.line a.count)
line word.InsertCols = (codes "insert-cols", Sheet ∷ Column ∷ Count ∷ [], λ a. command.InsertCols a.sheet a.line a.count)
line word.DeleteCols = (codes "delete-cols", Sheet ∷ Column ∷ Count ∷ [], λ a. command.DeleteCols a.sheet a.line a.count)
line word.MoveRows = (codes "move-rows", Sheet ∷ Row ∷ Count ∷ RowBefore ∷ [], λ a. command.MoveRows a.sheet a.line a.count a.before)
line word.MoveCols = (codes "move-cols", Sheet ∷ Column ∷ Count ∷ ColumnBefore ∷ [], λ a. command.MoveCols a.sheet a.line a.count a.before)
line word.AddSheet = (codes "add-sheet", Name ∷ [], λ a. command.AddSheet a.name)
line word.DropSheet = (codes "drop-sheet", Sheet ∷ [], λ a. command.DropSheet a.sheet)
line word.RenameSheet = (codes "rename-sheet", Sheet ∷ Name ∷ [], λ a. command.RenameSheet a.sheet a.name)
line word.ClearSheet = (codes "clear-sheet", Sheet ∷ [], λ a. command.ClearSheet a.sheet)
line word.AddName = (codes "add-name", Name ∷ Scope ∷ Text ∷ [], λ a. command.AddName a.name a.sheet a.text)
line word.ChangeName = (codes "change-name", Name ∷ Scope ∷ Text ∷ [], λ a. command.ChangeName a.name a.sheet a.text)
line word.RemoveName = (codes "remove-name", Name ∷ Scope ∷ [], λ a. command.RemoveName a.name a.sheet)
line word.Copy = (codes "copy", Block ∷ [], λ a. command.Copy a.block)
line word.Cut = (codes "cut", Block ∷ [], λ a. command.Cut a.block)
line word.Paste = (codes "paste", Place ∷ [], λ a. command.Paste a.place)
line word.MoveBlock = (codes "move-block", Block ∷ Place ∷ [], λ a. command.MoveBlock a.block a.place)
line word.Begin = (codes "begin", [], λ _. command.Begin)
line word.Commit = (codes "commit", [], λ _. command.Commit)
line word.Suspend = (codes "suspend", [], λ _. command.Suspend)
line word.Resume = (codes "resume", [], λ _. command.Resume)
line word.Undo = (codes "undo", [], λ _. command.Undo)
line word.Redo = (codes "redo", [], λ _. command.Redo)
line word.Value = (codes "value", Place ∷ [], λ a. command.Value a.place)
line word.Formula = (codes "formula", Place ∷ [], λ a. command.Formula a.place)
line word.Content = (codes "content", Place ∷ [], λ a. command.Content a.place)
line word.Precedents = (codes "precedents", Place ∷ [], λ a. command.Precedents a.place)
line word.Dependents = (codes "dependents", Place ∷ [], λ a. command.Dependents a.place)
line word.NameValue = (codes "name-value", Name ∷ Sheet ∷ [], λ a. command.NameValue a.name a.sheet)
line word.Try = (codes "try", Sheet ∷ Text ∷ [], λ a. command.Try a.sheet a.text)
line word.Version = (codes "version", Version ∷ [], λ a. command.Version a.version)

-- the word that is written so, in exactly these letters
abbrev pub word_named : List ℕ → Option Word
word_named text = find (λ w. bytes_eq (line w).0 text) ALL
