-- What functions take of their arguments. Serves the calls.
use Rattle.std.proofs.Common.{◌≡◌, ◌∙◌, sym, ap, refl, arith, ℕ, ◌+◌, ◌<◌, eqb, ℤ, Bool, true, false, if◌then◌else◌, List, [], ◌∷◌, ◌++◌, map, length, get_or, drop, take, append_assoc, Result}
use Rattle.std.specs.List.{flat_map}
use Rattle.formula_tree.proofs.Once.{drop-item}
use Rattle.cell_addr.specs.declared.place.Place.{Place}
use Rattle.cell_addr.specs.declared.place.Block.{Block}
use Rattle.cell_value.specs.declared.fault.FaultKind.{FaultKind}
use Rattle.cell_value.specs.declared.fault.FaultKind.TheVariants.{Na}
use Rattle.cell_value.specs.declared.scalar.Scalar.TheVariants.{Fault}
use Rattle.calc_terms.specs.Places.{place_value}
use Rattle.calc_terms.specs.declared.function.PlaceFn.{PlaceFn}
use Rattle.calc_terms.specs.declared.function.PlaceFn.TheVariants.{Row, Column, Rows, Columns}
use Rattle.cell_value.specs.declared.argument.Arg.{Arg}
use Rattle.cell_value.specs.declared.argument.Arg.TheVariants.{One}
use Rattle.func_args.specs.Answers.{and_then, number_value}
use Rattle.func_args.specs.Lists.{list_summary, listed}
use Rattle.func_args.proofs.Summaries.{list_summary-some, summary_one}
use Rattle.std.proofs.lemmas.List.{length-map, take_more, map-append, flat_map_more}
use Rattle.std.proofs.lemmas.List.Sums.{sum_by-append}
use Rattle.cell_value.proofs.Summaries.{summary_of-append}
use Rattle.cell_value.specs.Scalar.{to_number}
use Rattle.cell_value.specs.Summary.{alone, joined, summary_of}
use Rattle.cell_value.specs.declared.scalar.Scalar.{Scalar}
use Rattle.cell_value.specs.declared.summary.Summary.{Summary}
use Rattle.calc_terms.specs.Calls.{data_value}
use Rattle.calc_terms.specs.Words.{takes_block}
use Rattle.calc_terms.specs.declared.argument.Argument.TheVariants as argument
use Rattle.calc_terms.specs.declared.function.DataFn.TheVariants as kind
use Rattle.calc_terms.specs.declared.reference.Reference.TheVariants as reference
use Rattle.calc_eval.specs.internal.Steps.{sizes}
use Rattle.func_math.specs.Functions.{of_summary}
use Rattle.func_math.specs.Functions as math
use Rattle.func_math.specs.Math.{math_value}
use Rattle.func_math.specs.Sums.{summary_answer}
use Rattle.func_math.specs.declared.function.MathFn.{MathFn}
use Rattle.func_math.specs.declared.function.MathFn.TheVariants.{Sum, Average, Min, Max, Count}
use Rattle.calc_terms.specs.References.{argument_cells, argument_size, argument_value, data_arguments, reference_cells}
use Rattle.calc_terms.specs.World.{World}
use Rattle.calc_terms.specs.declared.argument.Argument.{Argument}

-- one argument more, as a function takes it
pub next_data : (w : World) (takes : ℕ → Bool) (args : List Argument) (i : ℕ) (a : Argument) (done : List Arg) (made : Arg) (all : List Arg) → i < length args → a ≡ get_or args i a
    → made ≡ (if takes i then argument_cells w a else One (argument_value w a)) → done ++ data_arguments w takes i (drop i args) ≡ all
    → (done ++ made ∷ []) ++ data_arguments w takes (i + 1) (drop (i + 1) args) ≡ all
next_data w takes args i a done made all h e is so_far =
    append_assoc done (made ∷ []) (data_arguments w takes (i + 1) (drop (i + 1) args))
    ∙ ap (λ x. done ++ x ∷ data_arguments w takes (i + 1) (drop (i + 1) args)) is
    ∙ ap (λ xs. done ++ data_arguments w takes i xs) (sym (drop-item args i a h e))
    ∙ so_far

-- where all arguments are lists
all_lists : (w : World) (at : ℕ) (args : List Argument) → data_arguments w (λ _. true) at args ≡ map (argument_cells w) args
all_lists w at [] = refl
all_lists w at (a ∷ args) = ap (λ xs. argument_cells w a ∷ xs) (all_lists w (at + 1) args)

pub summary_lists : (w : World) (f : MathFn) (args : List Argument) → of_summary f ≡ true → data_arguments w (math.takes_block f) 0 args ≡ map (argument_cells w) args
summary_lists w Sum args h = all_lists w 0 args
summary_lists w Average args h = all_lists w 0 args
summary_lists w Min args h = all_lists w 0 args
summary_lists w Max args h = all_lists w 0 args
summary_lists w Count args h = all_lists w 0 args
summary_lists w _ args h = cc

-- the value of such a function rests on the summary
pub summary_math : (f : MathFn) (args : List Arg) → of_summary f ≡ true → math_value f args ≡ number_value (and_then (list_summary args) (summary_answer f))
summary_math Sum args h = refl
summary_math Average args h = refl
summary_math Min args h = refl
summary_math Max args h = refl
summary_math Count args h = refl
summary_math _ args h = cc

-- more than one place is asked of none of the functions of places
pub many_places : (f : PlaceFn) (home : Place) (a b : Result Block FaultKind) (rest : List (Result Block FaultKind)) → place_value f home (a ∷ b ∷ rest) ≡ Fault Na
unfolding place_value
many_places Row home a b rest = refl
many_places Column home a b rest = refl
many_places Rows home a b rest = refl
many_places Columns home a b rest = refl

pub summary_data : (w : World) (f : MathFn) (today : ℤ) (args : List Argument) → of_summary f ≡ true
    → data_value (kind.Math f) today (data_arguments w (takes_block (kind.Math f)) 0 args) ≡ math_value f (map (argument_cells w) args)
unfolding data_value
summary_data w f today args h = ap (math_value f) (summary_lists w f args h)

-- the summary that a list of at least one argument has gives the value
pub summarized_value : (w : World) (f : MathFn) (args : List Argument) (summary : Summary) (value : Scalar) → of_summary f ≡ true → eqb (length args) 0 ≡ false
    → summary ≡ summary_of (flat_map listed (map (argument_cells w) args)) → value ≡ number_value (summary_answer f summary) → value ≡ math_value f (map (argument_cells w) args)
summarized_value w f args summary value h some is gives =
    let more : eqb (length (map (argument_cells w) args)) 0 ≡ false = ap (λ n. eqb n 0) (length-map args (argument_cells w)) ∙ some in
    gives
    ∙ ap (λ s. number_value (summary_answer f s)) is
    ∙ sym (ap (λ r. number_value (and_then r (summary_answer f))) (list_summary-some (map (argument_cells w) args) more))
    ∙ sym (summary_math f (map (argument_cells w) args) h)

-- one argument more in a summary
pub next_summary : (w : World) (args : List Argument) (i : ℕ) (a : Argument) → i < length args → a ≡ get_or args i a
    → summary_of (flat_map listed (map (argument_cells w) (take (i + 1) args)))
    ≡ joined (summary_of (flat_map listed (map (argument_cells w) (take i args)))) (summary_of (listed (argument_cells w a)))
next_summary w args i a h e =
    ap (λ xs. summary_of (flat_map listed (map (argument_cells w) xs))) (take_more args i a h ∙ ap (λ x. take i args ++ x ∷ []) (sym e))
    ∙ ap (λ xs. summary_of (flat_map listed xs)) (map-append (argument_cells w) (take i args) (a ∷ []))
    ∙ ap summary_of (sym (flat_map_more listed [] (map (argument_cells w) (take i args)) (argument_cells w a)))
    ∙ summary_of-append (flat_map listed (map (argument_cells w) (take i args))) (listed (argument_cells w a))

pub next_sizes : (w : World) (args : List Argument) (i : ℕ) (a : Argument) → i < length args → a ≡ get_or args i a → sizes w (drop i args) ≡ argument_size w a + sizes w (drop (i + 1) args)
next_sizes w args i a h e = ap (sizes w) (drop-item args i a h e) ∙ sum_by-append (argument_size w) (a ∷ []) (drop (i + 1) args) ∙ ap (λ n. n + sizes w (drop (i + 1) args)) (omega arith)

-- one argument's summary
pub cell_summary : (w : World) (p : Place) (x : Scalar) (s : Summary) → s ≡ alone x → x ≡ w.shown p → s ≡ summary_of (reference_cells w (reference.Cell p)).values
cell_summary w p x s is shows = is ∙ ap alone shows ∙ sym (summary_one (w.shown p))

pub value_summary : (w : World) (x : Scalar) (s : Summary) → s ≡ alone (number_value (to_number x)) → s ≡ summary_of (listed (argument_cells w (argument.Value x)))
value_summary w x s is = is ∙ sym (summary_one (number_value (to_number x)))
