-- Which item of a list a look-up takes. Source: OpenFormula's look-ups; what stands in a list that isn't
-- sorted is this project's own.
use Rattle.std.specs.Prelude.{ℕ, suc, pos, Bool, if◌then◌else◌, List, [], ◌∷◌, Option, Some, None, is_some}
use Rattle.std.specs.List.{position_from}
use Rattle.std.specs.Option.{option_map, option_or}
use Rattle.std.specs.declared.cmp.Ordering.{Ordering}
use Rattle.std.specs.Ordering.{is_some_and, is_eq, is_lt, is_gt}
use Rattle.cell_value.specs.declared.scalar.Scalar.{Scalar}
use Rattle.cell_value.specs.declared.scalar.Scalar.TheVariants.{Empty, Number}
use Rattle.func_args.specs.Kinds.{order_in_kind}
use Rattle.func_look.specs.declared.taken.Mode.{Mode}
use Rattle.func_look.specs.declared.taken.Mode.TheVariants.{Exact, Rising, Falling}

-- an empty value is looked up as 0
abbrev pub sought : Scalar → Scalar
sought Empty = Number (pos 0)
sought x = x

-- the item is of x's kind and compares so with it
abbrev pub compares : (Ordering → Bool) → Scalar → Scalar → Bool
compares test x item = is_some_and test (order_in_kind item x)

-- the item is of x's kind, and no fault
abbrev pub is_of_kind : Scalar → Scalar → Bool
is_of_kind x item = is_some (order_in_kind item x)

-- the place of the last item that passes, from 0
abbrev pub last_position : (Scalar → Bool) → List Scalar → Option ℕ
last_position p [] = None
last_position p (item ∷ items) = option_or (option_map suc (last_position p items)) (if p item then Some 0 else None)

-- the items before the first one that passes, or all where none does
abbrev pub before_first : (Scalar → Bool) → List Scalar → List Scalar
before_first p [] = []
before_first p (item ∷ items) = if p item then [] else item ∷ before_first p items

-- the last item of x's kind before the first one that compares so, or of all where none does
abbrev pub last_before : (Ordering → Bool) → Scalar → List Scalar → Option ℕ
last_before test x items = last_position (is_of_kind x) (before_first (compares test x) items)

-- the place of the item that a look-up takes, from 0. Exact takes the first item that is equal; rising
-- the last one of x's kind before the first one that is greater, and falling before the first one that
-- is less
abbrev pub taken : Mode → Scalar → List Scalar → Option ℕ
taken Exact x items = position_from (compares is_eq x) 0 items
taken Rising x items = last_before is_gt x items
taken Falling x items = last_before is_lt x items
