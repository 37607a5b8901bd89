-- The cells whose formulas mention a place, among the nodes that use it. Serves the dependents of a cell.
use Rattle.std.proofs.Common.{◌≡◌, ◌∙◌, sym, ap, subst, refl, ℕ, ◌+◌, ◌<◌, ◌||◌, Bool, true, false, cond, List, ◌∷◌, [], length, get_or, map, take, Option, Some, None}
use Rattle.std.proofs.lemmas.List.Folds.{list_any_more}
use Rattle.std.specs.BTreeMap.{is_at}
use Rattle.std.specs.FinMap as fin
use Rattle.std.specs.FinMap.{get}
use Rattle.std.specs.List.{cons_option, filter_map, list_any}
use Rattle.std.specs.List.Sorted.{IsStrictlySortedBy}
use Rattle.std.specs.Ordering.{eq_by_cmp}
use Rattle.cell_addr.specs.Order.{place_cmp}
use Rattle.cell_addr.specs.Place.{same_place}
use Rattle.cell_addr.specs.declared.place.Place.{Place}
use Rattle.cell_addr.proofs.Places.{place_cmp-IsTotalOrder, place_cmp-IsAntisymmetric}
use Rattle.cell_addr.proofs.SamePlaces.{same_place-equal, same_place-self}
use Rattle.book_values.specs.Book.{Book as Contents, Content, number, truth, text, formula, unreadable}
use Rattle.formula_tree.specs.declared.link.Link.TheVariants as links
use Rattle.calc_terms.specs.Needs.{mentions}
use Rattle.dep_graph.specs.Nodes.{has, same_node}
use Rattle.dep_graph.specs.declared.node.Node.{Node}
use Rattle.dep_graph.specs.declared.node.Node.TheVariants.{Cell, Name, Range, Whole}
use Rattle.shift_core.proofs.CarriedEntries.{eq_by_cmp-decides}
use Rattle.book_values.specs.Workbook.{Workbook, content_tree}
use Rattle.book_model.specs.Answers.{cell_needing}
use Rattle.session_operations.specs.Users.{mentions_at}
use Rattle.session_operations.specs.Values as values
use Rattle.session_questions.specs.internal.Links.{content_mentions, place_in}
use Rattle.session_questions.specs.internal.Names.{passes}
use Rattle.session_questions.proofs.SortedKeys.{kept, kept_are}

or-comm : (a b : Bool) → (a || b) ≡ (b || a)
or-comm true true = refl
or-comm true false = refl
or-comm false true = refl
or-comm false false = refl

-- one item more was gone through
pub any-next : {X : Type 0} (test : X → Bool) (xs : List X) (i : ℕ) (d : X) (here old new : Bool) → i < length xs → here ≡ test (get_or xs i d) → old ≡ list_any test (take i xs) → new ≡ (here || old) → new ≡ list_any test (take (i + 1) xs)
any-next test xs i d here old new low is was got =
    got ∙ or-comm here old ∙ (λ j. was j || is j) ∙ sym (list_any_more test xs i d low)

-- the node is the cell at the place
pub is-cell : (q : Place) (a : Node) → passes (λ p. eq_by_cmp place_cmp p q) (place_in a) ≡ same_node (Cell q) a
is-cell q (Cell p) = by (eq_by_cmp place_cmp p q) (same_place q p) refl refl
  where
    by : (s t : Bool) → eq_by_cmp place_cmp p q ≡ s → same_place q p ≡ t → s ≡ t
    by true true is other = refl
    by false false is other = refl
    by true false is other = sym (subst (λ r. same_place q r ≡ true) (sym ((eq_by_cmp-decides place_cmp-IsTotalOrder place_cmp-IsAntisymmetric p q).0 is)) (same_place-self q)) ∙ other
    by false true is other = sym is ∙ (eq_by_cmp-decides place_cmp-IsTotalOrder place_cmp-IsAntisymmetric p q).1 (sym (same_place-equal q p other))
is-cell q (Name scope word) = refl
is-cell q (Range b) = refl
is-cell q (Whole w) = refl

-- a content is a formula that mentions the place exactly where its tree does
content-mentions : (at : Place) (o : Option Content) → values.passes (λ t. mentions t at) (content_tree o) ≡ passes (content_mentions at) o
content-mentions at None = refl
content-mentions at (Some (number m)) = refl
content-mentions at (Some (truth b)) = refl
content-mentions at (Some (text w)) = refl
content-mentions at (Some (unreadable w)) = refl
content-mentions at (Some (formula t)) = refl

-- the cells among the nodes that use a place are those whose formulas mention it
pub cell-mentions : (b : Workbook) (words : List (List ℕ)) (at : Place) (nodes : List Node) → ((a : Node) → has a nodes ≡ mentions_at b words at a) → (q : Place) → has (Cell q) nodes ≡ passes (content_mentions at) (get b.cells q)
cell-mentions b words at nodes users q = users (Cell q) ∙ content-mentions at (get b.cells q)

-- cells with formulas that mention a place as links
needing-links : (at : Place) (es : List (Place × Content)) → filter_map (cell_needing at) es ≡ map links.Cell (kept (content_mentions at) es)
needing-links at [] = refl
needing-links at ((p, number m) ∷ es) = needing-links at es
needing-links at ((p, truth b) ∷ es) = needing-links at es
needing-links at ((p, text w) ∷ es) = needing-links at es
needing-links at ((p, unreadable w) ∷ es) = needing-links at es
needing-links at ((p, formula t) ∷ es) = go (mentions t at) (needing-links at es)
  where
    go : (b : Bool) → filter_map (cell_needing at) es ≡ map links.Cell (kept (content_mentions at) es)
        → cons_option (cond b (Some (links.Cell p)) None) (filter_map (cell_needing at) es) ≡ map links.Cell (cond b (p ∷ kept (content_mentions at) es) (kept (content_mentions at) es))
    go true h = ap (λ l. links.Cell p ∷ l) h
    go false h = h

-- places in order that are those of the cells whose formulas mention a place
pub cells-listed : (at : Place) (contents : Contents) (ps : List Place) → IsStrictlySortedBy place_cmp ps → ((q : Place) → list_any (is_at (place_cmp q)) ps ≡ passes (content_mentions at) (get contents q))
    → map links.Cell ps ≡ filter_map (cell_needing at) (fin.entries contents)
cells-listed at contents ps up h = sym (needing-links at (fin.entries contents) ∙ ap (map links.Cell) (kept_are place_cmp-IsTotalOrder place_cmp-IsAntisymmetric (content_mentions at) contents ps up h))
