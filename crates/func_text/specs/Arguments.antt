-- Texts among the arguments of a function, and texts as its value. A text is the list of its bytes, and
-- `chars` its characters, which are Unicode scalar values. Source: OpenFormula's conversion to Text;
-- that a block isn't one text is this project's own.
use Rattle.std.specs.Prelude.{ℕ, ℤ, pos, List, [], ◌∷◌, Result, Ok, Err, encode_utf8_all}
use Rattle.cell_value.specs.declared.argument.Arg.{Arg}
use Rattle.cell_value.specs.declared.argument.Arg.TheVariants.{One, Many}
use Rattle.cell_value.specs.declared.fault.FaultKind.{FaultKind}
use Rattle.cell_value.specs.declared.fault.FaultKind.TheVariants.{Na, Value}
use Rattle.cell_value.specs.declared.scalar.Scalar.{Scalar}
use Rattle.cell_value.specs.declared.scalar.Scalar.TheVariants.{Fault}
use Rattle.cell_value.specs.Scalar.{made_text, shown_text}
use Rattle.func_args.specs.Answers.{and_then}
use Rattle.func_args.specs.Arguments.{whole}

-- a text: what a person sees of the value
abbrev pub text : Arg → Result (List ℕ) FaultKind
text (One (Fault fault)) = Err fault
text (One x) = Ok (shown_text x)
text (Many _) = Err Value

-- T
abbrev pub one_text : List Arg → Result (List ℕ) FaultKind
one_text (a ∷ []) = text a
one_text _ = Err Na

-- T, T
abbrev pub two_texts : List Arg → Result (List ℕ × List ℕ) FaultKind
two_texts (a ∷ b ∷ []) = and_then (text a) (λ s. and_then (text b) (λ t. Ok (s, t)))
two_texts _ = Err Na

-- T [, N], where the count is 1 if it is absent
abbrev pub text_and_count : List Arg → Result (List ℕ × ℤ) FaultKind
text_and_count (a ∷ []) = and_then (text a) (λ t. Ok (t, pos 1))
text_and_count (a ∷ b ∷ []) = and_then (text a) (λ t. and_then (whole b) (λ n. Ok (t, n)))
text_and_count _ = Err Na

-- the text of these characters as a value: where it has more than 32,768 bytes, #VALUE!
abbrev pub made : List ℕ → Scalar
made characters = made_text (encode_utf8_all characters)
