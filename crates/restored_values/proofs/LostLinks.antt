-- A formula that is linked to what an operation loses has a lost reference after it. Serves the laws.
use Rattle.std.proofs.Common.{◌≡◌, ◌∙◌, sym, ap, ap₂, refl, Bool, true, false, cond, ◌&&◌, ◌||◌, List, [], ◌++◌, Option, Some, None, option_map, ◌⊎◌, ⊎_elim}
use Rattle.std.specs.List.{list_any}
use Rattle.std.proofs.lemmas.Bool.{false≢true, or_cases, or_left, or_right}
use Rattle.std.proofs.lemmas.List.Folds.{list_any-append}
use Rattle.std.proofs.lemmas.Option.{none-some}
use Rattle.cell_addr.specs.Whole.{whole_block}
use Rattle.cell_addr.specs.declared.axis.Axis.{Axis}
use Rattle.cell_addr.specs.declared.place.Block.{Block}
use Rattle.cell_addr.specs.declared.place.Place.{Place}
use Rattle.cell_addr.specs.declared.whole.Whole as ranges
use Rattle.formula_tree.specs.Links.{is_place_word, links_in, links_in_all, same_link}
use Rattle.formula_tree.specs.Reference.{base_of, block_of, corner_at}
use Rattle.formula_tree.specs.StandsFor.{at_home}
use Rattle.formula_tree.specs.Term.{Term, Terms, number, text, truth, fault, cell, area, whole, prefix, percent, binary, call, paren, no_terms, term, is_reference, each_corner_all, mapped_all}
use Rattle.formula_tree.specs.Term as terms
use Rattle.formula_tree.specs.Whole.{whole_between}
use Rattle.formula_tree.specs.declared.link.Link.{Link}
use Rattle.formula_tree.specs.declared.link.Link.TheVariants as links
use Rattle.formula_tree.specs.declared.reference.Corner.{Corner}
use Rattle.formula_tree.specs.declared.reference.Home.{Home}
use Rattle.formula_tree.specs.declared.reference.Ref.{Ref}
use Rattle.shift_core.specs.Tables.{block_after, place_after}
use Rattle.shift_core.specs.Wholes.{whole_after}
use Rattle.shift_core.specs.declared.shift.Shift.{Shift}
use Rattle.tree_rewrite.specs.Rewritten.{area_after, area_at, cell_at, rewritten}
use Rattle.dep_graph.specs.declared.node.Node.TheVariants.{Cell, Name, Range, Whole}
use Rattle.marked_values.proofs.MovedTrees.{HasLink, link_after, same_area, same_cell, same_range}
use Rattle.restored_values.specs.Suspects.{LostAnywhere, LostAreSeen, any_has_lost, has_lost}

-- a formula has a lost reference wherever it stands
module _ (home : Home) where
  mutual
    anywhere : (t : Term Ref) → has_lost (at_home home t) ≡ has_lost t
    anywhere (prefix sign t) = anywhere t
    anywhere (percent t) = anywhere t
    anywhere (binary o x y) = ap₂ (λ m n. m || n) (anywhere x) (anywhere y)
    anywhere (call w ts) = all_anywhere ts
    anywhere (paren t) = anywhere t
    anywhere (cell r) = refl
    anywhere (area r q) = refl
    anywhere (whole axis r q) = refl
    anywhere (number m) = refl
    anywhere (text w) = refl
    anywhere (truth b) = refl
    anywhere (fault k) = refl
    anywhere (terms.name w) = refl

    all_anywhere : (ts : Terms Ref) → any_has_lost (each_corner_all (corner_at (base_of home)) ts) ≡ any_has_lost ts
    all_anywhere no_terms = refl
    all_anywhere (term t ts) = ap₂ (λ m n. m || n) (anywhere t) (all_anywhere ts)

pub lost_anywhere : LostAnywhere
lost_anywhere home t = anywhere home t

-- what is nowhere is a fault
cell_lost : (c : Corner) (o : Option Place) → option_map links.Cell o ≡ None → has_lost (cell_at c o) ≡ true
cell_lost c None e = refl
cell_lost c (Some p) e = absurd (none-some (links.Cell p) (sym e))

area_lost : (c d : Corner) (o : Option Block) → option_map links.Area o ≡ None → has_lost (area_at None c d o) ≡ true
area_lost c d None e = refl
area_lost c d (Some b) e = absurd (none-some (links.Area b) (sym e))

whole_lost : (axis : Axis) (c d : Corner) (o : Option ranges.Whole) → option_map links.Whole o ≡ None → has_lost (area_at (Some axis) c d (option_map whole_block o)) ≡ true
whole_lost axis c d None e = refl
whole_lost axis c d (Some w) e = absurd (none-some (links.Whole w) (sym e))

module _ (s : Shift) (l : Link) (own : (k : Link) → same_link l k ≡ true → k ≡ l) (lost : link_after s l ≡ None) where
  here : (k : Link) → (same_link l k || false) ≡ true → link_after s k ≡ None
  here k h = ⊎_elim
      (λ (is : same_link l k ≡ true). ap (link_after s) (own k is) ∙ lost)
      (λ (none : false ≡ true). absurd (false≢true none))
      (or_cases (same_link l k) false h)

  either : (xs ys : List Link) → HasLink l (xs ++ ys) → (HasLink l xs) ⊎ (HasLink l ys)
  either xs ys h = or_cases (list_any (same_link l) xs) (list_any (same_link l) ys) (sym (list_any-append (same_link l) xs ys) ∙ h)

  counted : (skip : Bool) (xs : List Link) → HasLink l (cond skip [] xs) → HasLink l xs
  counted true xs h = absurd (false≢true h)
  counted false xs h = h

  mutual
    pub shows : (t : Term Corner) → HasLink l (links_in t) → has_lost (rewritten s t) ≡ true
    shows (cell c) h = cell_lost c (place_after s c.at) (here (links.Cell c.at) h)
    shows (area c d) h = area_lost c d (block_after s (block_of c d)) (here (links.Area (block_of c d)) h)
    shows (whole axis c d) h = let w = whole_between axis c d in whole_lost axis c d (whole_after s w) (here (links.Whole w) h)
    shows (prefix sign t) h = shows t h
    shows (percent t) h = shows t h
    shows (binary o x y) h = ⊎_elim
        (λ (first : HasLink l (links_in x)). or_left (has_lost (rewritten s x)) (has_lost (rewritten s y)) (shows x first))
        (λ (second : HasLink l (links_in y)). or_right (has_lost (rewritten s x)) (has_lost (rewritten s y)) (shows y second))
        (either (links_in x) (links_in y) h)
    shows (call w ts) h = any_shows (is_place_word w) ts h
    shows (paren t) h = shows t h
    shows (number m) h = absurd (false≢true h)
    shows (text w) h = absurd (false≢true h)
    shows (truth b) h = absurd (false≢true h)
    shows (fault k) h = absurd (false≢true h)
    shows (terms.name w) h = absurd (false≢true h)

    any_shows : (skip : Bool) (ts : Terms Corner) → HasLink l (links_in_all skip ts)
        → any_has_lost (mapped_all (λ c. cell_at c (place_after s c.at)) (λ lines c d. area_at lines c d (area_after s lines (block_of c d))) ts) ≡ true
    any_shows skip no_terms h = absurd (false≢true h)
    any_shows skip (term t ts) h = ⊎_elim
        (λ (first : HasLink l (cond (skip && is_reference t) [] (links_in t))). or_left (has_lost (rewritten s t)) _ (shows t (counted (skip && is_reference t) (links_in t) first)))
        (λ (rest : HasLink l (links_in_all skip ts)). or_right (has_lost (rewritten s t)) _ (any_shows skip ts rest))
        (either (cond (skip && is_reference t) [] (links_in t)) (links_in_all skip ts) h)

pub lost_are_seen : LostAreSeen
lost_are_seen s words names sheet t (Cell p) h none = shows s (links.Cell p) (same_cell p) (lost_place (place_after s p) none) t h
  where
    lost_place : (o : Option Place) → option_map Cell o ≡ None → option_map links.Cell o ≡ None
    lost_place None e = refl
    lost_place (Some q) e = absurd (none-some (Cell q) (sym e))
lost_are_seen s words names sheet t (Range block) h none = shows s (links.Area block) (same_area block) (lost_block (block_after s block) none) t h
  where
    lost_block : (o : Option Block) → option_map Range o ≡ None → option_map links.Area o ≡ None
    lost_block None e = refl
    lost_block (Some b) e = absurd (none-some (Range b) (sym e))
lost_are_seen s words names sheet t (Whole w) h none = shows s (links.Whole w) (same_range w) (lost_whole (whole_after s w) none) t h
  where
    lost_whole : (o : Option ranges.Whole) → option_map Whole o ≡ None → option_map links.Whole o ≡ None
    lost_whole None e = refl
    lost_whole (Some v) e = absurd (none-some (Whole v) (sym e))
lost_are_seen s words names sheet t (Name scope word) h none = absurd (none-some (Name scope word) (sym none))
