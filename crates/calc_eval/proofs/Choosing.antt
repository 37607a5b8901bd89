-- What a function that chooses makes of arguments that aren't all worked out. Serves the walk.
use Rattle.std.proofs.Common.{◌≡◌, ◌∙◌, sym, ap, subst, refl, ℕ, suc, List, [], ◌∷◌, map, length, Some, None, option_map}
use Rattle.std.specs.Prelude.{slice_get}
use Rattle.std.proofs.lemmas.List.{length-map}
use Rattle.std.proofs.lemmas.Option.{slice_get-map}
use Rattle.cell_value.specs.declared.fault.FaultKind.TheVariants as fault
use Rattle.cell_value.specs.declared.scalar.Scalar.{Scalar}
use Rattle.cell_value.specs.declared.scalar.Scalar.TheVariants.{Fault}
use Rattle.calc_terms.specs.Choices.{choice_value, Decides, picked, value_or_fault}
use Rattle.calc_terms.specs.References.{argument_value}
use Rattle.calc_terms.specs.World.{World}
use Rattle.calc_terms.specs.declared.argument.Argument.{Argument}
use Rattle.calc_terms.specs.declared.choice.Choice.{Choice}
use Rattle.calc_terms.specs.declared.choice.Choice.TheVariants as choice
use Rattle.calc_terms.specs.declared.function.ChoiceFn.{ChoiceFn}
use Rattle.calc_terms.specs.declared.function.ChoiceFn.TheVariants.{If, IfError, IfNa, Choose}

-- without arguments
pub none_chosen : (f : ChoiceFn) → choice_value f [] ≡ Fault fault.Na
unfolding choice_value
none_chosen If = refl
none_chosen IfError = refl
none_chosen IfNa = refl
none_chosen Choose = refl

module _ {A : Type 0} (f : ChoiceFn) (value : A → Scalar) where
  pub nothing_there : (args : List A) → slice_get args 0 ≡ None → choice_value f (map value args) ≡ Fault fault.Na
  nothing_there [] h = none_chosen f
  nothing_there (a ∷ args) h = absurd (cc)

  -- what is picked is the function's value
  pub is_picked : (args : List A) (first : A) (made : Choice) → slice_get args 0 ≡ Some first → Decides f (value first) (length args) made
      → choice_value f (map value args) ≡ picked made (map value args)
  is_picked [] first made h decides = absurd (cc)
  is_picked (a ∷ args) first made h decides =
      let same : a ≡ first = cc in
      sym (subst (λ x. Decides f (value x) (suc (length args)) made) (sym same) decides (map value args) (ap suc (length-map args value)))

-- what is picked is the function's value, over a world that is left as it was
pub choice_picked : (f : ChoiceFn) (w u : World) (args : List Argument) (first : Argument) (x : Scalar) (made : Choice) (n : ℕ) → u ≡ w → slice_get args 0 ≡ Some first → x ≡ argument_value u first → n ≡ length args
    → Decides f x n made → choice_value f (map (argument_value w) args) ≡ picked made (map (argument_value w) args)
choice_picked f w u args first x made n same h is count decides =
    is_picked f (argument_value w) args first made h
    (subst (λ k. Decides f (argument_value w first) k made) count (subst (λ y. Decides f y n made) (is ∙ ap (λ v. argument_value v first) same) decides))

pub chosen_value : (w u : World) (args : List Argument) (place : ℕ) (chosen : Argument) → u ≡ w → slice_get args place ≡ Some chosen → picked (choice.At place) (map (argument_value w) args) ≡ argument_value u chosen
chosen_value w u args place chosen same h =
    ap value_or_fault (slice_get-map (argument_value w) args place ∙ ap (option_map (argument_value w)) h) ∙ ap (λ v. argument_value v chosen) (sym same)

pub none_picked : (w : World) (args : List Argument) (place : ℕ) → slice_get args place ≡ None → picked (choice.At place) (map (argument_value w) args) ≡ Fault fault.Value
none_picked w args place h = ap value_or_fault (slice_get-map (argument_value w) args place ∙ ap (option_map (argument_value w)) h)
