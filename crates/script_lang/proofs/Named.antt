-- Each word is found as it is written, one case for each. Serves the law of the table.
use Rattle.std.proofs.Common.{refl}
use Rattle.script_lang.specs.Laws.{WordsAreNamed}
use Rattle.script_lang.specs.declared.word.Word.TheVariants as word

pub words_are_named : WordsAreNamed
words_are_named word.Set = refl
words_are_named word.Clear = refl
words_are_named word.InsertRows = refl
words_are_named word.DeleteRows = refl
words_are_named word.InsertCols = refl
words_are_named word.DeleteCols = refl
words_are_named word.MoveRows = refl
words_are_named word.MoveCols = refl
words_are_named word.AddSheet = refl
words_are_named word.DropSheet = refl
words_are_named word.RenameSheet = refl
words_are_named word.ClearSheet = refl
words_are_named word.AddName = refl
words_are_named word.ChangeName = refl
words_are_named word.RemoveName = refl
words_are_named word.Copy = refl
words_are_named word.Cut = refl
words_are_named word.Paste = refl
words_are_named word.MoveBlock = refl
words_are_named word.Begin = refl
words_are_named word.Commit = refl
words_are_named word.Suspend = refl
words_are_named word.Resume = refl
words_are_named word.Undo = refl
words_are_named word.Redo = refl
words_are_named word.Value = refl
words_are_named word.Formula = refl
words_are_named word.Content = refl
words_are_named word.Precedents = refl
words_are_named word.Dependents = refl
words_are_named word.NameValue = refl
words_are_named word.Try = refl
words_are_named word.Version = refl
