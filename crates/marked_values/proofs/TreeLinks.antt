-- The links of a tree, and its references. Serves the laws on links.
use Rattle.std.proofs.Common.{◌≡◌, ◌∙◌, sym, ap, refl, subst, ℕ, Bool, true, false, cond, ◌&&◌, ◌||◌, List, [], ◌++◌, Option, Some, None, ◌⊎◌, ⊎_elim}
use Rattle.std.specs.Prelude.{⊤}
use Rattle.std.specs.FinMap as map
use Rattle.std.specs.List.{list_any}
use Rattle.std.proofs.lemmas.Bool.{false≢true, or_cases}
use Rattle.std.proofs.lemmas.List.Folds.{list_any-append}
use Rattle.cell_addr.proofs.SamePlaces.{same_block-equal, same_place-equal, same_whole-decides}
use Rattle.cell_addr.specs.Place.{IsBlockInside, IsInside}
use Rattle.cell_addr.specs.Whole.{IsWholeInside}
use Rattle.cell_addr.specs.declared.axis.Axis.{Axis}
use Rattle.formula_tree.specs.Links.{is_place_word, links_in, links_in_all, same_link}
use Rattle.formula_tree.specs.Reference.{block_of}
use Rattle.formula_tree.specs.Term.{Term, Terms, number, text, truth, fault, cell, area, whole, prefix, percent, binary, call, paren, no_terms, term, is_reference}
use Rattle.formula_tree.specs.Term as terms
use Rattle.formula_tree.specs.Whole.{whole_between}
use Rattle.formula_tree.specs.declared.link.Link.{Link}
use Rattle.formula_tree.specs.declared.link.Link.TheVariants as links
use Rattle.formula_tree.specs.declared.reference.Corner.{Corner}
use Rattle.shift_core.proofs.Axes.{ends_inside}
use Rattle.tree_rewrite.specs.References.{EachReference, EachReferenceOfAll, FitsSheets, IsAreaInside, IsReferenceInside}
use Rattle.tree_rewrite.proofs.EachReferences.{EachReference-map}
use Rattle.book_values.specs.Book.{Content}
use Rattle.book_values.specs.Names.{Names}
use Rattle.book_values.specs.Workbook as book
use Rattle.book_values.specs.Workbook.{Workbook, content_tree, tree_at}
use Rattle.dep_graph.specs.Laws.{IsNodeInside}
use Rattle.dep_graph.specs.declared.node.Node.{Node}
use Rattle.dep_graph.specs.declared.node.Node.TheVariants.{Cell, Name, Range, Whole}
use Rattle.recalc_core.specs.Links.{IsLinkOf}
use Rattle.recalc_core.specs.Nodes.{node_at}
use Rattle.recalc_core.proofs.Bridge.{none_some, same_some}
use Rattle.marked_values.specs.Marks.{IsBookInside}

-- the link to a block, or to a whole range
abbrev pub link_between : Option Axis → Corner → Corner → Link
link_between None c d = links.Area (block_of c d)
link_between (Some axis) c d = links.Whole (whole_between axis c d)

-- what holds of each reference of a tree holds of each link that passes a test
module _ (P : Link → Type 0) (test : Link → Bool) where
  abbrev Passing : Type 0
  Passing = (l : Link) × (test l ≡ true) × P l

  one_link : (l : Link) → P l → (test l || false) ≡ true → Passing
  one_link l holds h = ⊎_elim (λ (is : test l ≡ true). (l, is, holds)) (λ (none : false ≡ true). absurd (false≢true none)) (or_cases (test l) false h)

  either : (xs ys : List Link) → list_any test (xs ++ ys) ≡ true → (list_any test xs ≡ true) ⊎ (list_any test ys ≡ true)
  either xs ys h = or_cases (list_any test xs) (list_any test ys) (sym (list_any-append test xs ys) ∙ h)

  counted : (skip : Bool) (xs : List Link) → list_any test (cond skip [] xs) ≡ true → list_any test xs ≡ true
  counted true xs h = absurd (false≢true h)
  counted false xs h = h

  mutual
    pub passing_link : (t : Term Corner) → EachReference (λ c. P (links.Cell c.at)) (λ lines c d. P (link_between lines c d)) t → list_any test (links_in t) ≡ true → Passing
    passing_link (cell c) each h = one_link (links.Cell c.at) each h
    passing_link (area c d) each h = one_link (links.Area (block_of c d)) each h
    passing_link (whole axis c d) each h = one_link (links.Whole (whole_between axis c d)) each h
    passing_link (prefix s t) each h = passing_link t each h
    passing_link (percent t) each h = passing_link t each h
    passing_link (binary o l r) each h = ⊎_elim (passing_link l each.0) (passing_link r each.1) (either (links_in l) (links_in r) h)
    passing_link (call w ts) each h = passing_of_all (is_place_word w) ts each h
    passing_link (paren t) each h = passing_link t each h
    passing_link (number m) each h = absurd (false≢true h)
    passing_link (text s) each h = absurd (false≢true h)
    passing_link (truth b) each h = absurd (false≢true h)
    passing_link (fault k) each h = absurd (false≢true h)
    passing_link (terms.name w) each h = absurd (false≢true h)

    passing_of_all : (skip : Bool) (ts : Terms Corner) → EachReferenceOfAll (λ c. P (links.Cell c.at)) (λ lines c d. P (link_between lines c d)) ts → list_any test (links_in_all skip ts) ≡ true → Passing
    passing_of_all skip no_terms each h = absurd (false≢true h)
    passing_of_all skip (term t ts) each h = ⊎_elim
        (λ here. passing_link t each.0 (counted (skip && is_reference t) (links_in t) here))
        (λ later. passing_of_all skip ts each.1 later)
        (either (cond (skip && is_reference t) [] (links_in t)) (links_in_all skip ts) h)

-- ---- links within the limits

abbrev pub IsLinkInside : Link → Type 0
IsLinkInside (links.Cell p) = IsInside p
IsLinkInside (links.Area b) = IsBlockInside b
IsLinkInside (links.Whole w) = IsWholeInside w
IsLinkInside (links.Name scope word) = ⊤

same_inside : (l m : Link) → same_link l m ≡ true → IsLinkInside m → IsLinkInside l
same_inside (links.Cell p) (links.Cell q) h i = subst IsInside (sym (same_place-equal p q h)) i
same_inside (links.Cell p) (links.Area b) h i = absurd (false≢true h)
same_inside (links.Cell p) (links.Whole w) h i = absurd (false≢true h)
same_inside (links.Cell p) (links.Name s w) h i = absurd (false≢true h)
same_inside (links.Area b) (links.Area c) h i = subst IsBlockInside (sym (same_block-equal b c h)) i
same_inside (links.Area b) (links.Cell q) h i = absurd (false≢true h)
same_inside (links.Area b) (links.Whole w) h i = absurd (false≢true h)
same_inside (links.Area b) (links.Name s w) h i = absurd (false≢true h)
same_inside (links.Whole v) (links.Whole w) h i = subst IsWholeInside (sym ((same_whole-decides v w).0 h)) i
same_inside (links.Whole v) (links.Cell q) h i = absurd (false≢true h)
same_inside (links.Whole v) (links.Area b) h i = absurd (false≢true h)
same_inside (links.Whole v) (links.Name s w) h i = absurd (false≢true h)
same_inside (links.Name s w) m h i = tt

area_inside : (lines : Option Axis) (c d : Corner) → IsAreaInside lines c d → IsLinkInside (link_between lines c d)
area_inside None c d i = i
area_inside (Some axis) c d i = ends_inside axis (block_of c d) i

pub passing_inside : (test : Link → Bool) (t : Term Corner) → FitsSheets t → list_any test (links_in t) ≡ true → (l : Link) × (test l ≡ true) × IsLinkInside l
passing_inside test t fits h =
    passing_link IsLinkInside test t
    (EachReference-map IsReferenceInside (λ c. IsInside c.at) IsAreaInside (λ lines c d. IsLinkInside (link_between lines c d)) (λ c i. i) area_inside t fits) h

pub link_inside : (t : Term Corner) (l : Link) → FitsSheets t → list_any (same_link l) (links_in t) ≡ true → IsLinkInside l
link_inside t l fits h = let (m, same, inside) = passing_inside (same_link l) t fits h in same_inside l m same inside

-- what a formula within the limits is linked to lies there
pub linked_inside : (words : List (List ℕ)) (names : Names) (sheet : ℕ) (t : Term Corner) (d : Node) → FitsSheets t → IsLinkOf words names sheet t d → IsNodeInside d
linked_inside words names sheet t (Cell p) fits h = link_inside t (links.Cell p) fits h
linked_inside words names sheet t (Range b) fits h = link_inside t (links.Area b) fits h
linked_inside words names sheet t (Whole w) fits h = link_inside t (links.Whole w) fits h
linked_inside words names sheet t (Name scope word) fits h = tt

-- and so does a node that has a formula
pub cell_filled : (b : Workbook) (words : List (List ℕ)) → IsBookInside b → (a : Node) (x : book.Node) (t : Term Corner) → node_at words a ≡ Some x → tree_at b x ≡ Some t → IsNodeInside a
cell_filled b words inside (Cell p) x t at is = by (map.get b.cells p) refl
  where
    tree : content_tree (map.get b.cells p) ≡ Some t
    tree = ap (tree_at b) (same_some (book.place p) x at) ∙ is

    by : (o : Option Content) → map.get b.cells p ≡ o → IsInside p
    by None e = absurd (none_some t (sym (ap content_tree e) ∙ tree))
    by (Some k) e = inside.cells p k e
cell_filled b words inside (Name scope word) x t at is = tt
cell_filled b words inside (Range block) x t at is = absurd (none_some x at)
cell_filled b words inside (Whole w) x t at is = absurd (none_some x at)
