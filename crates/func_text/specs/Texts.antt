-- The functions of texts, one line each. Source: OpenFormula; each line's file has what is this project's
-- own.
use Rattle.std.specs.Prelude.{ℕ, List, bytes_eq}
use Rattle.fix_num.specs.Text.{number_of}
use Rattle.cell_value.specs.declared.argument.Arg.{Arg}
use Rattle.cell_value.specs.declared.scalar.Scalar.{Scalar}
use Rattle.cell_value.specs.declared.scalar.Scalar.TheVariants.{Truth}
use Rattle.cell_value.specs.Scalar.{read_number}
use Rattle.func_args.specs.Answers.{number_value, then_value}
use Rattle.func_text.specs.declared.function.TextFn.{TextFn}
use Rattle.func_text.specs.declared.function.TextFn.TheVariants.{Len, Left, Right, Mid, Concatenate, Trim, Rept, Exact, Find, Substitute, Value}
use Rattle.func_text.specs.Arguments.{one_text, two_texts}
use Rattle.func_text.specs.Find.{find_value}
use Rattle.func_text.specs.Join.{concatenate_value, rept_value}
use Rattle.func_text.specs.Parts.{left_value, len_value, mid_value, right_value}
use Rattle.func_text.specs.Substitute.{substitute_value}
use Rattle.func_text.specs.Trim.{trim_value}

-- EXACT(T, T): the same bytes
abbrev pub exact_value : List Arg → Scalar
exact_value args = then_value (two_texts args) (λ p. Truth (bytes_eq p.0 p.1))

-- the number that a text spells, or #VALUE!
abbrev pub read_value : List ℕ → Scalar
read_value t = number_value (read_number (number_of t))

-- VALUE(T)
abbrev pub value_value : List Arg → Scalar
value_value args = then_value (one_text args) read_value

-- the value of each function
abbrev pub texts_value : TextFn → List Arg → Scalar
texts_value Len args = len_value args
texts_value Left args = left_value args
texts_value Right args = right_value args
texts_value Mid args = mid_value args
texts_value Concatenate args = concatenate_value args
texts_value Trim args = trim_value args
texts_value Rept args = rept_value args
texts_value Exact args = exact_value args
texts_value Find args = find_value args
texts_value Substitute args = substitute_value args
texts_value Value args = value_value args
