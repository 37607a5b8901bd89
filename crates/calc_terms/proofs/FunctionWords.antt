-- The list of the words of functions is that of the functions there are. Serves the law of words.
use Rattle.std.proofs.Common.{◌≡◌, refl, true}
use Rattle.std.specs.List.{list_all}
use Rattle.custom_fn.specs.Word.{is_function_word}
use Rattle.custom_fn.specs.declared.words.TheConstants.{FUNCTION_WORDS}
use Rattle.func_math.specs.declared.function.MathFn.TheVariants as math
use Rattle.func_logic.specs.declared.function.LogicFn.TheVariants as logic
use Rattle.func_text.specs.declared.function.TextFn.TheVariants as text
use Rattle.func_look.specs.declared.function.LookFn.TheVariants as look
use Rattle.func_date.specs.declared.function.DateFn.TheVariants as date
use Rattle.calc_terms.specs.Laws.{has_word}
use Rattle.calc_terms.specs.Words.{function_named, word_of}
use Rattle.calc_terms.specs.declared.function.ChoiceFn.TheVariants.{If, IfError, IfNa, Choose}
use Rattle.calc_terms.specs.declared.function.PlaceFn.TheVariants.{Row, Column, Rows, Columns}
use Rattle.calc_terms.specs.declared.function.DataFn.TheVariants as kind
use Rattle.calc_terms.specs.declared.function.Function.{Function}
use Rattle.calc_terms.specs.declared.function.Function.TheVariants as function

pub each-names : list_all (λ word. has_word word.now (function_named word.now)) FUNCTION_WORDS ≡ true
unfolding function_named
each-names = refl

pub each-listed : (f : Function) → is_function_word (word_of f) ≡ true
unfolding is_function_word
each-listed (function.Choice If) = refl
each-listed (function.Choice IfError) = refl
each-listed (function.Choice IfNa) = refl
each-listed (function.Choice Choose) = refl
each-listed (function.Place Row) = refl
each-listed (function.Place Column) = refl
each-listed (function.Place Rows) = refl
each-listed (function.Place Columns) = refl
each-listed (function.Data (kind.Math math.Sum)) = refl
each-listed (function.Data (kind.Math math.Average)) = refl
each-listed (function.Data (kind.Math math.Min)) = refl
each-listed (function.Data (kind.Math math.Max)) = refl
each-listed (function.Data (kind.Math math.Count)) = refl
each-listed (function.Data (kind.Math math.CountA)) = refl
each-listed (function.Data (kind.Math math.CountBlank)) = refl
each-listed (function.Data (kind.Math math.Product)) = refl
each-listed (function.Data (kind.Math math.SumIf)) = refl
each-listed (function.Data (kind.Math math.CountIf)) = refl
each-listed (function.Data (kind.Math math.Abs)) = refl
each-listed (function.Data (kind.Math math.Sign)) = refl
each-listed (function.Data (kind.Math math.Int)) = refl
each-listed (function.Data (kind.Math math.Trunc)) = refl
each-listed (function.Data (kind.Math math.Round)) = refl
each-listed (function.Data (kind.Math math.RoundUp)) = refl
each-listed (function.Data (kind.Math math.RoundDown)) = refl
each-listed (function.Data (kind.Math math.Mod)) = refl
each-listed (function.Data (kind.Math math.Quotient)) = refl
each-listed (function.Data (kind.Math math.Power)) = refl
each-listed (function.Data (kind.Math math.IsEven)) = refl
each-listed (function.Data (kind.Math math.IsOdd)) = refl
each-listed (function.Data (kind.Logic logic.And)) = refl
each-listed (function.Data (kind.Logic logic.Or)) = refl
each-listed (function.Data (kind.Logic logic.Xor)) = refl
each-listed (function.Data (kind.Logic logic.Not)) = refl
each-listed (function.Data (kind.Logic logic.True)) = refl
each-listed (function.Data (kind.Logic logic.False)) = refl
each-listed (function.Data (kind.Logic logic.Na)) = refl
each-listed (function.Data (kind.Logic logic.IsError)) = refl
each-listed (function.Data (kind.Logic logic.IsErr)) = refl
each-listed (function.Data (kind.Logic logic.IsNa)) = refl
each-listed (function.Data (kind.Logic logic.IsNumber)) = refl
each-listed (function.Data (kind.Logic logic.IsText)) = refl
each-listed (function.Data (kind.Logic logic.IsLogical)) = refl
each-listed (function.Data (kind.Logic logic.IsBlank)) = refl
each-listed (function.Data (kind.Text text.Len)) = refl
each-listed (function.Data (kind.Text text.Left)) = refl
each-listed (function.Data (kind.Text text.Right)) = refl
each-listed (function.Data (kind.Text text.Mid)) = refl
each-listed (function.Data (kind.Text text.Concatenate)) = refl
each-listed (function.Data (kind.Text text.Trim)) = refl
each-listed (function.Data (kind.Text text.Rept)) = refl
each-listed (function.Data (kind.Text text.Exact)) = refl
each-listed (function.Data (kind.Text text.Find)) = refl
each-listed (function.Data (kind.Text text.Substitute)) = refl
each-listed (function.Data (kind.Text text.Value)) = refl
each-listed (function.Data (kind.Look look.Match)) = refl
each-listed (function.Data (kind.Look look.VLookup)) = refl
each-listed (function.Data (kind.Look look.HLookup)) = refl
each-listed (function.Data (kind.Look look.Index)) = refl
each-listed (function.Data (kind.Look look.Choose)) = refl
each-listed (function.Data (kind.Date date.Date)) = refl
each-listed (function.Data (kind.Date date.Year)) = refl
each-listed (function.Data (kind.Date date.Month)) = refl
each-listed (function.Data (kind.Date date.Day)) = refl
each-listed (function.Data (kind.Date date.Weekday)) = refl
each-listed (function.Data (kind.Date date.Days)) = refl
each-listed (function.Data (kind.Date date.EDate)) = refl
each-listed (function.Data (kind.Date date.EoMonth)) = refl
each-listed (function.Data (kind.Date date.Today)) = refl
