-- Look-ups as they are worked out, item after item.
use Rattle.std.specs.Prelude.{ℕ, ◌*◌, Bool, if◌then◌else◌, List, [], ◌∷◌, Option, Some, slice_index_or}
use Rattle.std.specs.Option.{option_map_or}
use Rattle.std.specs.declared.cmp.Ordering.{Ordering}
use Rattle.std.specs.Ordering.{is_eq, is_lt, is_gt, is_le, is_ge}
use Rattle.cell_value.specs.declared.scalar.Scalar.{Scalar}
use Rattle.cell_value.specs.declared.scalar.Scalar.TheVariants.{Empty}
use Rattle.func_args.specs.Kinds.{order_in_kind}
use Rattle.func_look.specs.Lookups.{values_from}
use Rattle.func_look.specs.declared.taken.Line.{Line}
use Rattle.func_look.specs.declared.taken.Mode.{Mode}
use Rattle.func_look.specs.declared.taken.Mode.TheVariants.{Exact, Rising, Falling}

-- the values of a line of cells
abbrev pub line_values : List Scalar → Line → List Scalar
line_values values l = values_from (λ i. slice_index_or values (i * l.step) Empty) 0 l.count

-- an item that compares so is taken, as long as no better one follows
abbrev pub takes : Mode → Ordering → Bool
takes Exact order = is_eq order
takes Rising order = is_le order
takes Falling order = is_ge order

-- the look-up ends at an item that compares so
abbrev pub is_end : Mode → Ordering → Bool
is_end Exact order = is_eq order
is_end Rising order = is_gt order
is_end Falling order = is_lt order

-- what is taken after an item at this place that compares so
abbrev pub taken_at : Mode → Option ℕ → ℕ → Ordering → Option ℕ
taken_at mode last at order = if takes mode order then Some at else last

-- the look-up through items with their places, after this one was taken
unfoldable pub search : Mode → Scalar → Option ℕ → List (ℕ × Scalar) → Option ℕ
search mode x last [] = last
search mode x last (item ∷ items) =
    option_map_or (λ order. if is_end mode order then taken_at mode last item.0 order else search mode x (taken_at mode last item.0 order) items) (order_in_kind item.1 x) (search mode x last items)
