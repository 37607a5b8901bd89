-- The arguments of a call, one after another. Serves the walk.
use Rattle.std.proofs.Common.{◌≡◌, ◌∙◌, sym, ap, refl, arith, ℕ, zero, suc, ◌+◌, ◌<◌, true, false, List, [], ◌∷◌, ◌++◌, map, length, get_or, drop, Option, Some, None, option_map, append_assoc, Global}
use Rattle.std.specs.Prelude.{slice_get}
use Rattle.std.specs.declared.rc.Rc.{Rc}
use Rattle.std.proofs.lemmas.List.Sums.{sum_by-append}
use Rattle.custom_fn.specs.declared.rule.Rule.{Rule}
use Rattle.formula_tree.specs.Arguments.{trees}
use Rattle.formula_tree.specs.Reference.{base_of, corner_at, sheet_of}
use Rattle.formula_tree.specs.Term.{Terms, each_corner_all}
use Rattle.formula_tree.specs.declared.node.Node.{Node}
use Rattle.formula_tree.specs.declared.node.TreeList.{TreeList}
use Rattle.formula_tree.specs.declared.reference.Corner.{Corner}
use Rattle.formula_tree.specs.declared.reference.Home.{Home}
use Rattle.formula_tree.proofs.Once.{drop-item}
use Rattle.formula_tree.proofs.RelativeNodes.{relatives, relative_list-trees}
use Rattle.calc_terms.specs.Cost.{asked_cost, cost, cost_all}
use Rattle.calc_terms.specs.Meaning.{evaluated, meaning}
use Rattle.calc_terms.specs.References.{argument_of, argument_size, reference_of}
use Rattle.calc_terms.specs.World.{World}
use Rattle.calc_terms.specs.declared.argument.Argument.{Argument}
use Rattle.calc_eval.specs.internal.Steps.{cost_at, sizes, term_at, terms_at}

-- the terms of shared trees in a formula at a home
abbrev pub all_at : Home → List (Rc Node Global) → Terms Corner
all_at home items = each_corner_all (corner_at (base_of home)) (relatives items)

pub terms_at-trees : (home : Home) (list : TreeList) (items : List (Rc Node Global)) → items ≡ trees list → terms_at home list ≡ all_at home items
terms_at-trees home list items is = ap (each_corner_all (corner_at (base_of home))) (relative_list-trees list ∙ ap relatives (sym is))

module _ (w : World) (customs : List (List ℕ × Rule)) (home : Home) where
  -- what an argument becomes
  abbrev pub one : Rc Node Global → Argument
  one item = argument_of (reference_of w (sheet_of home) (term_at home item.value)) (meaning w customs home (term_at home item.value))

  pub all_are : (items : List (Rc Node Global)) → evaluated w customs home (all_at home items) ≡ map one items
  all_are [] = refl
  all_are (item ∷ items) = ap (λ args. one item ∷ args) (all_are items)

  pub found : (items : List (Rc Node Global)) (place : ℕ) (item : Rc Node Global) → slice_get items place ≡ Some item
      → slice_get (evaluated w customs home (all_at home items)) place ≡ Some (one item)
  found [] place item h = absurd (cc)
  found (x ∷ items) zero item h = ap (option_map one) h
  found (x ∷ items) (suc place) item h = found items place item h

  pub none : (items : List (Rc Node Global)) (place : ℕ) → slice_get items place ≡ None → slice_get (evaluated w customs home (all_at home items)) place ≡ None
  none [] place h = refl
  none (x ∷ items) zero h = absurd (cc)
  none (x ∷ items) (suc place) h = none items place h

  pub found_cost : (items : List (Rc Node Global)) (place : ℕ) (item : Rc Node Global) → slice_get items place ≡ Some item
      → cost_at w (sheet_of home) (all_at home items) place ≡ cost w (sheet_of home) (term_at home item.value)
  found_cost [] place item h = absurd (cc)
  found_cost (x ∷ items) zero item h = ap (option_cost) h
    where
      option_cost : Option (Rc Node Global) → ℕ
      option_cost (Some y) = cost w (sheet_of home) (term_at home y.value)
      option_cost None = 0
  found_cost (x ∷ items) (suc place) item h = found_cost items place item h

  pub as_many : (items : List (Rc Node Global)) → length (evaluated w customs home (all_at home items)) ≡ length items
  as_many [] = refl
  as_many (x ∷ items) = ap suc (as_many items)

  -- one argument more
  pub next_argument : (items : List (Rc Node Global)) (i : ℕ) (item : Rc Node Global) (done : List Argument) (made : Argument) (all : List Argument) → i < length items → item ≡ get_or items i item
      → made ≡ one item → done ++ evaluated w customs home (all_at home (drop i items)) ≡ all
      → (done ++ made ∷ []) ++ evaluated w customs home (all_at home (drop (i + 1) items)) ≡ all
  next_argument items i item done made all h e is so_far =
      append_assoc done (made ∷ []) (evaluated w customs home (all_at home (drop (i + 1) items)))
      ∙ ap (λ x. done ++ x ∷ evaluated w customs home (all_at home (drop (i + 1) items))) is
      ∙ ap (λ xs. done ++ evaluated w customs home (all_at home xs)) (sym (drop-item items i item h e))
      ∙ so_far

  pub next_cost : (items : List (Rc Node Global)) (i : ℕ) (item : Rc Node Global) → i < length items → item ≡ get_or items i item
      → cost_all w (sheet_of home) false (all_at home (drop i items)) ≡ cost w (sheet_of home) (term_at home item.value) + cost_all w (sheet_of home) false (all_at home (drop (i + 1) items))
  next_cost items i item h e = ap (λ xs. cost_all w (sheet_of home) false (all_at home xs)) (drop-item items i item h e)

  pub next_asked : (items : List (Rc Node Global)) (i : ℕ) (item : Rc Node Global) → i < length items → item ≡ get_or items i item
      → cost_all w (sheet_of home) true (all_at home (drop i items)) ≡ asked_cost w (sheet_of home) true (term_at home item.value) + cost_all w (sheet_of home) true (all_at home (drop (i + 1) items))
  next_asked items i item h e = ap (λ xs. cost_all w (sheet_of home) true (all_at home xs)) (drop-item items i item h e)

pub sizes-push : (w : World) (args : List Argument) (made : Argument) → sizes w (args ++ made ∷ []) ≡ sizes w args + argument_size w made
sizes-push w args made = sum_by-append (argument_size w) args (made ∷ []) ∙ ap (λ n. sizes w args + n) (omega arith)
