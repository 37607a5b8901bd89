-- What holds of values over a structural operation. Source: this project's own.
use Rattle.std.specs.Prelude.{◌≡◌, Bool, true, ℕ, ℤ, List}
use Rattle.cell_value.specs.declared.scalar.Scalar.TheVariants.{Empty}
use Rattle.custom_fn.specs.declared.rule.Rule.{Rule}
use Rattle.shift_core.specs.Sound.{IsSound}
use Rattle.shift_core.specs.declared.shift.Shift.{Shift}
use Rattle.book_values.specs.Values.{value_of}
use Rattle.book_values.specs.Workbook.{Node, Workbook}
use Rattle.carried_values.specs.Over.{shown_from}
use Rattle.carried_books.specs.Moved.{AreCarried, node_before}

-- nodes that are carried along show what they showed before, and a cell that was put in shows nothing
abbrev pub MovedValuesStay : Type 0
MovedValuesStay =
    (s : Shift) (before after : Workbook) (customs : List (List ℕ × Rule)) (today : ℤ) (inside : Node → Bool) →
    IsSound s → AreCarried s before after (λ a. inside a ≡ true) → (a : Node) → inside a ≡ true →
    value_of after customs today a ≡ shown_from Empty (value_of before customs today) (node_before s a)
