-- Summaries of cells and of arguments, one after another: for `list_summary` and `area_summary`.
use Rattle.std.proofs.Common.{◌≡◌, ◌∙◌, sym, ap, refl, ℕ, ◌+◌, ◌<◌, ℤ, false, List, [], ◌∷◌, ◌++◌, Option, Some, None, Ok, length, map, take, get_or, add-zero, zero-add, eqb}
use Rattle.std.proofs.Math.IntN.{+ℤ_idl, +ℤ_idr}
use Rattle.std.proofs.lemmas.List.{take_more, map-append, flat_map_more}
use Rattle.std.specs.List.{flat_map}
use Rattle.std.specs.Option.{option_or}
use Rattle.cell_value.specs.declared.area.Filled.{Filled}
use Rattle.cell_value.specs.declared.argument.Arg.{Arg}
use Rattle.cell_value.specs.declared.fault.FaultKind.{FaultKind}
use Rattle.cell_value.specs.declared.scalar.Scalar.{Scalar}
use Rattle.cell_value.specs.declared.scalar.Scalar.TheVariants.{Empty}
use Rattle.cell_value.specs.declared.summary.Summary.{Summary}
use Rattle.cell_value.specs.Filled.{spread}
use Rattle.cell_value.specs.Summary.{summary_of, joined, alone, no_values, lesser, greater}
use Rattle.cell_value.proofs.Summaries.{summary_of-append}
use Rattle.func_args.specs.Lists.{listed, list_summary}
use Rattle.func_args.proofs.Walk.{value_of, of_filled}

lesser-None : (a : Option ℤ) → lesser a None ≡ a
lesser-None None = refl
lesser-None (Some a) = refl

greater-None : (a : Option ℤ) → greater a None ≡ a
greater-None None = refl
greater-None (Some a) = refl

option_or-None : (a : Option FaultKind) → option_or a None ≡ a
option_or-None None = refl
option_or-None (Some a) = refl

-- nothing more changes no summary
joined_none : (s : Summary) → joined s no_values ≡ s
joined_none s = λ i. record {
  count = add-zero s.count i;
  sum = +ℤ_idr s.sum i;
  least = lesser-None s.least i;
  greatest = greater-None s.greatest i;
  fault = option_or-None s.fault i;
}

none_joined : (s : Summary) → joined no_values s ≡ s
none_joined s = λ i. record {
  count = zero-add s.count i;
  sum = +ℤ_idl s.sum i;
  least = s.least;
  greatest = s.greatest;
  fault = s.fault;
}

-- one value more
pub summary_push : (xs : List Scalar) (x : Scalar) → summary_of (xs ++ x ∷ []) ≡ joined (summary_of xs) (alone x)
unfolding summary_of
summary_push xs x = summary_of-append xs (x ∷ []) ∙ ap (joined (summary_of xs)) (joined_none (alone x))

-- empty cells count for nothing
pub summary-filled : (from size : ℕ) (cells : List Filled) → summary_of (spread from size cells) ≡ summary_of (map value_of cells)
unfolding summary_of
summary-filled from size cells = of_filled summary_of (λ xs. none_joined (summary_of xs)) (λ x xs ys e. ap (joined (alone x)) e) from size cells

-- one filled cell more
pub summary_more : (cells : List Filled) (i : ℕ) (d : Filled) → i < length cells
    → summary_of (map value_of (take (i + 1) cells)) ≡ joined (summary_of (map value_of (take i cells))) (alone (get_or cells i d).value)
summary_more cells i d h =
    ap (λ xs. summary_of (map value_of xs)) (take_more cells i d h)
    ∙ ap summary_of (map-append value_of (take i cells) (get_or cells i d ∷ []))
    ∙ summary_push (map value_of (take i cells)) (get_or cells i d).value

-- one argument more
pub arguments_more : (args : List Arg) (i : ℕ) (d : Arg) → i < length args
    → summary_of (flat_map listed (take (i + 1) args)) ≡ joined (summary_of (flat_map listed (take i args))) (summary_of (listed (get_or args i d)))
arguments_more args i d h =
    ap (λ xs. summary_of (flat_map listed xs)) (take_more args i d h)
    ∙ ap summary_of (sym (flat_map_more listed [] (take i args) (get_or args i d)))
    ∙ summary_of-append (flat_map listed (take i args)) (listed (get_or args i d))

-- the summary of an argument that is one value
pub summary_one : (x : Scalar) → summary_of (x ∷ []) ≡ alone x
unfolding summary_of
summary_one x = joined_none (alone x)

-- a list of at least one argument
pub list_summary-some : (args : List Arg) → eqb (length args) 0 ≡ false → list_summary args ≡ Ok (summary_of (flat_map listed args))
list_summary-some [] h = cc
list_summary-some (a ∷ args) h = refl

-- the summary of nothing
pub summary_none : summary_of [] ≡ no_values
unfolding summary_of
summary_none = refl

-- an empty cell in front
pub summary_skip : (xs : List Scalar) → summary_of (Empty ∷ xs) ≡ summary_of xs
unfolding summary_of
summary_skip xs = none_joined (summary_of xs)

-- the same value in front
pub summary_follows : (x : Scalar) (xs ys : List Scalar) → summary_of xs ≡ summary_of ys → summary_of (x ∷ xs) ≡ summary_of (x ∷ ys)
unfolding summary_of
summary_follows x xs ys e = ap (joined (alone x)) e
