-- FIND, and where a text occurs in another. Source: OpenFormula; that the text of no characters is found
-- at once, also after the last character, is this project's own.
use Rattle.std.specs.Prelude.{ℕ, suc, ◌+◌, ◌-◌, Bool, ◌||◌, if◌then◌else◌, ℤ, pos, unsigned_abs, int_lt, nat_eq, List, [], ◌∷◌, Option, Some, None, chars, drop, length}
use Rattle.std.specs.List.{starts_with}
use Rattle.std.specs.Option.{option_map}
use Rattle.cell_value.specs.declared.argument.Arg.{Arg}
use Rattle.cell_value.specs.declared.fault.FaultKind.TheVariants.{Na, Value}
use Rattle.cell_value.specs.declared.scalar.Scalar.{Scalar}
use Rattle.cell_value.specs.declared.scalar.Scalar.TheVariants.{Fault}
use Rattle.func_args.specs.Answers.{counted, number_value, then_value}
use Rattle.func_args.specs.Arguments.{whole}
use Rattle.func_text.specs.Arguments.{text}

-- the characters begin with those that are sought; letters in another case are others
abbrev pub begins : List ℕ → List ℕ → Bool
begins sought cs = starts_with nat_eq cs sought

-- the place, from 0, where the first occurrence begins
abbrev pub first_place : List ℕ → List ℕ → Option ℕ
first_place sought [] = if begins sought [] then Some 0 else None
first_place sought (c ∷ cs) = if begins sought (c ∷ cs) then Some 0 else option_map suc (first_place sought cs)

-- the position of what was found so many characters after this position; of nothing #VALUE!
abbrev pub position : ℕ → Option ℕ → Scalar
position start (Some at) = number_value (counted (at + start))
position start None = Fault Value

-- the position of the first occurrence at or after this position, which may be the one after the last character
abbrev pub found : List ℕ → List ℕ → ℤ → Scalar
found sought within start =
    if int_lt start (pos 1) || int_lt (pos (length (chars within) + 1)) start then Fault Value
    else position (unsigned_abs start) (first_place (chars sought) (drop (unsigned_abs start - 1) (chars within)))

-- FIND(T, T [, N])
abbrev pub find_value : List Arg → Scalar
find_value (a ∷ b ∷ []) = then_value (text a) (λ sought. then_value (text b) (λ within. found sought within (pos 1)))
find_value (a ∷ b ∷ c ∷ []) = then_value (text a) (λ sought. then_value (text b) (λ within. then_value (whole c) (λ start. found sought within start)))
find_value _ = Fault Na
