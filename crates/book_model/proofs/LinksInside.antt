-- What formulas of a sound session mention, and the cells whose formulas mention a place, stand within the limits of a
-- sheet. Serves the law on links.
use Rattle.std.proofs.Common.{◌≡◌, sym, subst, refl, ℕ, Bool, true, false, ◌&&◌, if◌then◌else◌, List, [], ◌∷◌, ◌++◌, Option, Some, None, IsSome, option_map}
use Rattle.std.specs.List.{All, cons_option, filter_map, list_any}
use Rattle.std.specs.FinMap as map
use Rattle.std.specs.FinMap.{get-entries}
use Rattle.std.proofs.lemmas.List.Elements.{All-nil, All-cons, All-head, All-tail, All-append, All-weaker, All-from_recursion}
use Rattle.cell_addr.proofs.Wholes.{whole_block-inside}
use Rattle.cell_addr.specs.Place.{IsBlockInside, IsInside}
use Rattle.cell_addr.specs.Whole.{IsWholeInside, whole_of}
use Rattle.cell_addr.specs.declared.axis.Axis.{Axis}
use Rattle.cell_addr.specs.declared.axis.Axis.TheVariants.{Rows, Cols}
use Rattle.cell_addr.specs.declared.place.Block.{Block}
use Rattle.cell_addr.specs.declared.place.Place.{Place}
use Rattle.book_values.specs.Book.{Content, number, text, truth, formula, unreadable}
use Rattle.formula_tree.specs.Links.{is_place_word, once_after, same_link}
use Rattle.formula_tree.specs.Mentions.{mentions_in, mentions_in_all}
use Rattle.formula_tree.specs.Proper.{AreProper, IsProper}
use Rattle.formula_tree.specs.Term.{Term, Terms, no_terms, term, is_reference}
use Rattle.formula_tree.specs.Term as terms
use Rattle.formula_tree.specs.declared.link.Link.{Link}
use Rattle.formula_tree.specs.declared.link.Link.TheVariants as links
use Rattle.formula_tree.specs.declared.mention.Mention.{Mention}
use Rattle.formula_tree.specs.declared.mention.Mention.TheVariants as mention
use Rattle.formula_tree.specs.declared.reference.Corner.{Corner}
use Rattle.shift_core.proofs.MovedMaps.{each_place}
use Rattle.tree_rewrite.proofs.Levels.{proper-block}
use Rattle.calc_terms.specs.Needs.{mentions}
use Rattle.book_values.specs.Names.{Key, Names, found}
use Rattle.book_values.specs.Workbook.{content_tree}
use Rattle.book_model.specs.Answers.{by_capitals, cell_needing, dependents_of, link_of, links_of, name_link, name_needing, precedents_of}
use Rattle.book_model.specs.Sound.{IsContentOf, IsLinkInside, IsSound}
use Rattle.book_model.specs.Workbook.{State, Workbook}

-- a mention within the limits of a sheet
abbrev IsMentionInside : Mention → Type 0
IsMentionInside (mention.Cell p) = IsInside p
IsMentionInside (mention.Area b) = IsBlockInside b
IsMentionInside (mention.Whole w) = IsWholeInside w
IsMentionInside (mention.Name w) = Unit {0}

-- all rows, or all columns, of a block that is inside are
whole-inside : (axis : Axis) (b : Block) → IsBlockInside b → IsWholeInside (whole_of axis b)
whole-inside Rows b i = (i.0, i.1)
whole-inside Cols b i = (i.2, i.3)

one : (m : Mention) → IsMentionInside m → All IsMentionInside (m ∷ [])
one m i = All-cons IsMentionInside m [] i (All-nil IsMentionInside)

all-unless : (b : Bool) (ms : List Mention) → All IsMentionInside ms → All IsMentionInside (if b then [] else ms)
all-unless true ms a = All-nil IsMentionInside
all-unless false ms a = a

mutual
  tree_inside : (t : Term Corner) → IsProper t → All IsMentionInside (mentions_in t)
  tree_inside (terms.number m) p = All-nil IsMentionInside
  tree_inside (terms.text w) p = All-nil IsMentionInside
  tree_inside (terms.truth b) p = All-nil IsMentionInside
  tree_inside (terms.fault f) p = All-nil IsMentionInside
  tree_inside (terms.cell c) p = one (mention.Cell c.at) p
  tree_inside (terms.area c d) p = one _ (proper-block c d p.0 p.1 p.2)
  tree_inside (terms.whole axis c d) p = one _ (whole-inside axis _ (proper-block c d p.0 p.1 p.2))
  tree_inside (terms.name w) p = one (mention.Name w) tt
  tree_inside (terms.prefix s t) p = tree_inside t p.1
  tree_inside (terms.percent t) p = tree_inside t p.1
  tree_inside (terms.binary o l r) p = All-append IsMentionInside (mentions_in l) (mentions_in r) (tree_inside l p.2) (tree_inside r p.3)
  tree_inside (terms.call w ts) p = trees_inside (is_place_word w) ts p.1
  tree_inside (terms.paren t) p = tree_inside t p

  trees_inside : (skip : Bool) (ts : Terms Corner) → AreProper ts → All IsMentionInside (mentions_in_all skip ts)
  trees_inside skip no_terms p = All-nil IsMentionInside
  trees_inside skip (term t ts) p =
      All-append IsMentionInside (if skip && is_reference t then [] else mentions_in t) (mentions_in_all skip ts)
      (all-unless (skip && is_reference t) (mentions_in t) (tree_inside t p.0)) (trees_inside skip ts p.1)

-- each item once
all-once : {X : Type 0} (P : X → Type 0) (same : X → X → Bool) (done xs : List X) → All P done → All P xs → All P (once_after same done xs)
all-once P same done [] d a = d
all-once P same done (x ∷ xs) d a = all-once P same (if list_any (same x) done then done else done ++ x ∷ []) xs (of (list_any (same x) done)) (All-tail P x xs a)
  where
    of : (b : Bool) → All P (if b then done else done ++ x ∷ [])
    of true = d
    of false = All-append P done (x ∷ []) d (All-cons P x [] (All-head P x xs a) (All-nil P))

given-or : {Y : Type 0} (Q : Y → Type 0) (r : Option Y) (ys : List Y) → ((y : Y) → r ≡ Some y → Q y) → All Q ys → All Q (cons_option r ys)
given-or Q None ys q a = a
given-or Q (Some y) ys q a = All-cons Q y ys (q y refl) a

-- what is given of items
all-given : {X Y : Type 0} (Q : Y → Type 0) (h : X → Option Y) (xs : List X) → All (λ x. (y : Y) → h x ≡ Some y → Q y) xs → All Q (filter_map h xs)
all-given Q h [] a = All-nil Q
all-given {X} {Y} Q h (x ∷ xs) a =
    given-or Q (h x) (filter_map h xs) (All-head (λ x. (y : Y) → h x ≡ Some y → Q y) x xs a)
    (all-given Q h xs (All-tail (λ x. (y : Y) → h x ≡ Some y → Q y) x xs a))

name-inside : (r : Option Key) (l : Link) → option_map name_link r ≡ Some l → IsLinkInside l
name-inside None l e = cc
name-inside (Some k) l e = subst (λ o. inside_if o) e tt
  where
    inside_if : Option Link → Type 0
    inside_if None = Unit {0}
    inside_if (Some l) = IsLinkInside l

link-inside : (names : Names) (sheet : ℕ) (m : Mention) → IsMentionInside m → (l : Link) → link_of names sheet m ≡ Some l → IsLinkInside l
link-inside names sheet (mention.Cell p) i l e = subst (λ o. of o) e i
  where
    of : Option Link → Type 0
    of None = Unit {0}
    of (Some l) = IsLinkInside l
link-inside names sheet (mention.Area b) i l e = subst (λ o. of o) e i
  where
    of : Option Link → Type 0
    of None = Unit {0}
    of (Some l) = IsLinkInside l
link-inside names sheet (mention.Whole w) i l e = subst (λ o. of o) e (whole_block-inside w i)
  where
    of : Option Link → Type 0
    of None = Unit {0}
    of (Some l) = IsLinkInside l
link-inside names sheet (mention.Name w) i l e = name-inside (found names w sheet) l e

-- the tree of a content of a sound book
tree_links : (b : Workbook) (names : Names) (sheet : ℕ) (r : Option Content) → ((c : Content) → r ≡ Some c → IsContentOf b c) → All IsLinkInside (links_of names sheet (content_tree r))
tree_links b names sheet None h = All-nil IsLinkInside
tree_links b names sheet (Some (number m)) h = All-nil IsLinkInside
tree_links b names sheet (Some (text w)) h = All-nil IsLinkInside
tree_links b names sheet (Some (truth t)) h = All-nil IsLinkInside
tree_links b names sheet (Some (unreadable w)) h = All-nil IsLinkInside
tree_links b names sheet (Some (formula t)) h =
    let mentioned = tree_inside t (h (formula t) refl).0 in
    all-once IsLinkInside same_link [] (filter_map (link_of names sheet) (mentions_in t)) (All-nil IsLinkInside)
    (all-given IsLinkInside (link_of names sheet) (mentions_in t) (All-weaker IsMentionInside _ (λ m i. link-inside names sheet m i) (mentions_in t) mentioned))

pub precedents_inside : (d : State) (at : Place) → IsSound d → All IsLinkInside (precedents_of d at)
precedents_inside d at s = tree_links d.book (map.entries d.book.names) at.sheet (map.get d.book.cells at) (λ c e. (s.book.cells at c e).2)

-- a cell that needs a place
cell-inside : (at : Place) (e : Place × Content) → IsInside e.0 → (l : Link) → cell_needing at e ≡ Some l → IsLinkInside l
cell-inside at (p, number m) i l e = cc
cell-inside at (p, text w) i l e = cc
cell-inside at (p, truth t) i l e = cc
cell-inside at (p, unreadable w) i l e = cc
cell-inside at (p, formula t) i l e = of (mentions t at) e
  where
    inside_if : Option Link → Type 0
    inside_if None = Unit {0}
    inside_if (Some l) = IsLinkInside l

    of : (b : Bool) → (if b then Some (links.Cell p) else None) ≡ Some l → IsLinkInside l
    of true h = subst (λ o. inside_if o) h i
    of false h = cc

named-inside : (at : Place) (e : Key × Term Corner) (l : Link) → name_needing at e ≡ Some l → IsLinkInside l
named-inside at (key, t) l e = of (mentions t at) e
  where
    inside_if : Option Link → Type 0
    inside_if None = Unit {0}
    inside_if (Some l) = IsLinkInside l

    of : (b : Bool) → (if b then Some (name_link key) else None) ≡ Some l → IsLinkInside l
    of true h = subst (λ o. inside_if o) h tt
    of false h = cc

all-always : {X : Type 0} (P : X → Type 0) → ((x : X) → P x) → (xs : List X) → All P xs
all-always P h [] = All-nil P
all-always P h (x ∷ xs) = All-cons P x xs (h x) (all-always P h xs)

pub dependents_inside : (d : State) (at : Place) → IsSound d → All IsLinkInside (dependents_of d at)
dependents_inside d at s =
    let cells = map.entries d.book.cells in
    let names = by_capitals (map.entries d.book.names) in
    All-append IsLinkInside (filter_map (cell_needing at) cells) (filter_map (name_needing at) names)
    (all-given IsLinkInside (cell_needing at) cells
    (All-weaker (λ e. IsInside e.0) _ (λ e i. cell-inside at e i) cells
    (All-from_recursion (λ e. IsInside e.0) cells (each_place IsInside cells (λ q some. filled q (map.get d.book.cells q) refl (subst IsSome (sym (get-entries d.book.cells q)) some))))))
    (all-given IsLinkInside (name_needing at) names (all-always _ (λ e. named-inside at e) names))
  where
    filled : (q : Place) (r : Option Content) → map.get d.book.cells q ≡ r → IsSome r → IsInside q
    filled q (Some c) e some = (s.book.cells q c e).0
    filled q None e some = cc
