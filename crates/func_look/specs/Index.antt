-- INDEX, and places in a block by numbers from 1. Source: OpenFormula; that a row or column of 0 is no
-- place is this project's own.
use Rattle.std.specs.Prelude.{ℕ, ◌-◌, ◌==◌, if◌then◌else◌, ℤ, pos, unsigned_abs, int_lt, List, [], ◌∷◌, Result, Ok, Err}
use Rattle.cell_value.specs.declared.argument.Arg.{Arg}
use Rattle.cell_value.specs.declared.fault.FaultKind.{FaultKind}
use Rattle.cell_value.specs.declared.fault.FaultKind.TheVariants.{Na, Ref, Value}
use Rattle.cell_value.specs.declared.scalar.Scalar.{Scalar}
use Rattle.cell_value.specs.Cells.{Cells, value_at}
use Rattle.func_args.specs.Answers.{and_then}
use Rattle.func_args.specs.Arguments.{block, whole}

-- the place from 0 of a number from 1, of so many: below 1 #VALUE!, beyond #REF!
abbrev pub place_of : ℤ → ℕ → Result ℕ FaultKind
place_of number size =
    if int_lt number (pos 1) then Err Value
    else if int_lt (pos size) number then Err Ref
    else Ok (unsigned_abs number - 1)

-- the value in a row and a column, both from 1; the row is tested first
abbrev pub indexed : Cells → ℤ → ℤ → Result Scalar FaultKind
indexed cells row col = and_then (place_of row cells.rows) (λ r. and_then (place_of col cells.cols) (λ c. Ok (value_at cells r c)))

-- INDEX(R, N [, N]): with one number the position in a block of one row, else the row of column 1
abbrev pub index_value : List Arg → Result Scalar FaultKind
index_value (a ∷ b ∷ []) =
    and_then (block a) (λ cells. and_then (whole b) (λ n. if cells.rows == 1 then indexed cells (pos 1) n else indexed cells n (pos 1)))
index_value (a ∷ b ∷ c ∷ []) = and_then (block a) (λ cells. and_then (whole b) (λ row. and_then (whole c) (λ col. indexed cells row col)))
index_value _ = Err Na
