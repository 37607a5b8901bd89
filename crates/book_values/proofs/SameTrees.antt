-- Workbooks whose cells and names hold the same show the same. Serves the laws.
use Rattle.std.proofs.Common.{◌≡◌, ◌∙◌, sym, ap, refl, ℕ, ℤ, cond, List, Option, Some, None, is_some, option_map, option_and_then}
use Rattle.std.specs.FinMap.{get}
use Rattle.std.specs.List.{list_any}
use Rattle.std.specs.Cmp.{both_ways}
use Rattle.cell_value.specs.declared.scalar.Scalar.{Scalar}
use Rattle.custom_fn.specs.declared.rule.Rule.{Rule}
use Rattle.formula_tree.specs.Links.{names_in}
use Rattle.formula_tree.specs.Reference.{sheet_of}
use Rattle.formula_tree.specs.Term.{Term}
use Rattle.formula_tree.specs.declared.reference.Corner.{Corner}
use Rattle.calc_terms.specs.World.{World}
use Rattle.value_network.specs.Network.{LeadsTo, at_once, after, cyclic}
use Rattle.book_values.proofs.Networks.{cycles_return, nothing_else_unfolds, values_unfold}
use Rattle.book_values.specs.Laws.{AreAlike, ValuesAlike}
use Rattle.book_values.specs.Names.{Key, found, is_found, key_of, tree_in}
use Rattle.book_values.specs.Values.{content_value, name_value, named_as, network, value_of, world_of, worked_out}
use Rattle.book_values.specs.Workbook.{Node, Workbook, content_tree, home_of, needs, tree_at, tree_needs}
use Rattle.book_values.specs.Workbook as nodes

module _ (b c : Workbook) (alike : AreAlike b c) where
  pub found_same : (word : List ℕ) (sheet : ℕ) → found b.names word sheet ≡ found c.names word sheet
  found_same word sheet =
      ap (λ o. cond (is_some o) (Some (key_of (Some sheet) word)) (cond (is_some (tree_in b.names (key_of None word))) (Some (key_of None word)) None)) (alike.trees (key_of (Some sheet) word))
      ∙ ap (λ o. cond (is_some (tree_in c.names (key_of (Some sheet) word))) (Some (key_of (Some sheet) word)) (cond (is_some o) (Some (key_of None word)) None)) (alike.trees (key_of None word))

  named_same : (shown : Node → Scalar) (key : Key) → named_as b.names shown key ≡ named_as c.names shown key
  named_same shown key = ap (option_map (λ t. record { value = shown (nodes.name key); tree = t })) (alike.trees key)

  word_same : (shown : Node → Scalar) (word : List ℕ) (sheet : ℕ)
      → option_and_then (named_as b.names shown) (found b.names word sheet) ≡ option_and_then (named_as c.names shown) (found c.names word sheet)
  word_same shown word sheet =
      ap (option_and_then (named_as b.names shown)) (found_same word sheet)
      ∙ (λ i. option_and_then (λ key. named_same shown key i) (found c.names word sheet))

  world_same : (today : ℤ) (shown : Node → Scalar) → world_of b.names today shown ≡ world_of c.names today shown
  world_same today shown = λ i. record { shown = λ p. shown (nodes.place p); named = λ word sheet. word_same shown word sheet i; today = today }

  tree_same : (a : Node) → tree_at b a ≡ tree_at c a
  tree_same (nodes.place p) = ap (λ cells. content_tree (get cells p)) alike.cells
  tree_same (nodes.name key) = alike.trees key

  tree_needs_same : (sheet : ℕ) (o : Option (Term Corner)) (d : Node) → tree_needs b.names sheet o d ≡ tree_needs c.names sheet o d
  tree_needs_same sheet None d = refl
  tree_needs_same sheet (Some t) (nodes.place p) = refl
  tree_needs_same sheet (Some t) (nodes.name key) = λ i. list_any (λ word. is_found (found_same word sheet i) key) (names_in t)

  needs_same : (a d : Node) → needs b a d ≡ needs c a d
  needs_same a d =
      ap (λ o. tree_needs b.names (sheet_of (home_of a)) o d) (tree_same a)
      ∙ tree_needs_same (sheet_of (home_of a)) (tree_at c a) d

  module _ (customs : List (List ℕ × Rule)) (today : ℤ) where
    goes : {a d : Node} → LeadsTo (network b customs today) a d → LeadsTo (network c customs today) a d
    goes (at_once {a = a} {b = d} h) = at_once (sym (needs_same a d) ∙ h)
    goes (after {a = a} {b = d} h rest) = after (sym (needs_same a d) ∙ h) (goes rest)

    comes : {a d : Node} → LeadsTo (network c customs today) a d → LeadsTo (network b customs today) a d
    comes (at_once {a = a} {b = d} h) = at_once (needs_same a d ∙ h)
    comes (after {a = a} {b = d} h rest) = after (needs_same a d ∙ h) (comes rest)

    cyclic_same : (a : Node) → cyclic (network b customs today) a ≡ cyclic (network c customs today) a
    cyclic_same a = both_ways (cyclic (network b customs today) a) (cyclic (network c customs today) a)
        (λ h. (cycles_return c customs today a).1 (goes ((cycles_return b customs today a).0 h)))
        (λ h. (cycles_return b customs today a).1 (comes ((cycles_return c customs today a).0 h)))

    worked_same : (w : World) (a : Node) → worked_out b w customs a ≡ worked_out c w customs a
    worked_same w (nodes.place p) = ap (λ cells. content_value w customs (home_of (nodes.place p)) (get cells p)) alike.cells
    worked_same w (nodes.name key) = ap (name_value w customs (home_of (nodes.name key))) (alike.trees key)

    here : (a : Node) → value_of b customs today a ≡ cond (cyclic (network c customs today) a) (network b customs today).cycle (worked_out c (world_of c.names today (value_of b customs today)) customs a)
    here a =
        values_unfold b customs today a
        ∙ (λ i. cond (cyclic_same a i) (network b customs today).cycle (worked_out b (world_same today (value_of b customs today) i) customs a))
        ∙ ap (cond (cyclic (network c customs today) a) (network b customs today).cycle) (worked_same (world_of c.names today (value_of b customs today)) a)

    value_same : (a : Node) → value_of b customs today a ≡ value_of c customs today a
    value_same = nothing_else_unfolds c customs today (value_of b customs today) here

pub values_alike : ValuesAlike
values_alike b c alike = (λ customs today a. value_same b c alike customs today a, λ today shown. world_same b c alike today shown)
