-- Lost references over an operation: what had lost one has still, and what is linked to nothing that the operation loses loses none.
-- Serves what takes values along.
use Rattle.std.proofs.Common.{◌≡◌, ap₂, refl, true, false, ◌||◌, Option, Some, None, option_map, ⊎_elim}
use Rattle.std.specs.Prelude.{⊤}
use Rattle.std.proofs.lemmas.Bool.{false≢true, or_cases, or_left, or_right}
use Rattle.cell_addr.specs.Whole.{whole_block}
use Rattle.cell_addr.specs.declared.axis.Axis.{Axis}
use Rattle.cell_addr.specs.declared.place.Block.{Block}
use Rattle.cell_addr.specs.declared.place.Place.{Place}
use Rattle.cell_addr.specs.declared.whole.Whole.{Whole}
use Rattle.formula_tree.specs.Reference.{block_of}
use Rattle.formula_tree.specs.Term.{Term, Terms, number, text, truth, fault, cell, area, whole, prefix, percent, binary, call, paren, no_terms, term, mapped_all}
use Rattle.formula_tree.specs.Term as terms
use Rattle.formula_tree.specs.Whole.{whole_between}
use Rattle.formula_tree.specs.declared.link.Link.{Link}
use Rattle.formula_tree.specs.declared.link.Link.TheVariants as links
use Rattle.formula_tree.specs.declared.reference.Corner.{Corner}
use Rattle.shift_core.specs.Tables.{block_after, place_after}
use Rattle.shift_core.specs.Wholes.{whole_after}
use Rattle.shift_core.specs.declared.shift.Shift.{Shift}
use Rattle.tree_rewrite.specs.References.{EachReference, EachReferenceOfAll}
use Rattle.tree_rewrite.specs.Rewritten.{area_after, area_at, cell_at, rewritten}
use Rattle.marked_values.proofs.TreeLinks.{link_between}
use Rattle.restored_values.specs.Suspects.{any_has_lost, has_lost}

cell_there : (c : Corner) (o : Option Place) → ¬ (o ≡ None) → has_lost (cell_at c o) ≡ false
cell_there c None stays = absurd (stays refl)
cell_there c (Some p) stays = refl

area_there : (c d : Corner) (o : Option Block) → ¬ (o ≡ None) → has_lost (area_at None c d o) ≡ false
area_there c d None stays = absurd (stays refl)
area_there c d (Some b) stays = refl

whole_there : (axis : Axis) (c d : Corner) (o : Option Whole) → ¬ (o ≡ None) → has_lost (area_at (Some axis) c d (option_map whole_block o)) ≡ false
whole_there axis c d None stays = absurd (stays refl)
whole_there axis c d (Some w) stays = refl

module _ (s : Shift) where
  -- the operation doesn't lose what the link leads to
  abbrev pub IsThere : Link → Type 0
  IsThere (links.Cell p) = ¬ (place_after s p ≡ None)
  IsThere (links.Area d) = ¬ (block_after s d ≡ None)
  IsThere (links.Whole w) = ¬ (whole_after s w ≡ None)
  IsThere (links.Name scope word) = ⊤

  abbrev IsCellThere : Corner → Type 0
  IsCellThere c = IsThere (links.Cell c.at)

  abbrev IsAreaThere : Option Axis → Corner → Corner → Type 0
  IsAreaThere lines c d = IsThere (link_between lines c d)

  abbrev all_rewritten : Terms Corner → Terms Corner
  all_rewritten = mapped_all (λ c. cell_at c (place_after s c.at)) (λ lines c d. area_at lines c d (area_after s lines (block_of c d)))

  mutual
    pub lost_same : (t : Term Corner) → EachReference IsCellThere IsAreaThere t → has_lost (rewritten s t) ≡ has_lost t
    lost_same (cell c) there = cell_there c (place_after s c.at) there
    lost_same (area c d) there = area_there c d (block_after s (block_of c d)) there
    lost_same (whole axis c d) there = whole_there axis c d (whole_after s (whole_between axis c d)) there
    lost_same (prefix sign t) there = lost_same t there
    lost_same (percent t) there = lost_same t there
    lost_same (binary o l r) there = ap₂ (λ m n. m || n) (lost_same l there.0) (lost_same r there.1)
    lost_same (call w ts) there = any_lost_same ts there
    lost_same (paren t) there = lost_same t there
    lost_same (number m) there = refl
    lost_same (text w) there = refl
    lost_same (truth b) there = refl
    lost_same (fault k) there = refl
    lost_same (terms.name w) there = refl

    any_lost_same : (ts : Terms Corner) → EachReferenceOfAll IsCellThere IsAreaThere ts → any_has_lost (all_rewritten ts) ≡ any_has_lost ts
    any_lost_same no_terms there = refl
    any_lost_same (term t ts) there = ap₂ (λ m n. m || n) (lost_same t there.0) (any_lost_same ts there.1)

  mutual
    pub lost_stays : (t : Term Corner) → has_lost t ≡ true → has_lost (rewritten s t) ≡ true
    lost_stays (cell c) h = absurd (false≢true h)
    lost_stays (area c d) h = absurd (false≢true h)
    lost_stays (whole axis c d) h = absurd (false≢true h)
    lost_stays (prefix sign t) h = lost_stays t h
    lost_stays (percent t) h = lost_stays t h
    lost_stays (binary o l r) h = ⊎_elim
        (λ (first : has_lost l ≡ true). or_left (has_lost (rewritten s l)) (has_lost (rewritten s r)) (lost_stays l first))
        (λ (second : has_lost r ≡ true). or_right (has_lost (rewritten s l)) (has_lost (rewritten s r)) (lost_stays r second))
        (or_cases (has_lost l) (has_lost r) h)
    lost_stays (call w ts) h = any_lost_stays ts h
    lost_stays (paren t) h = lost_stays t h
    lost_stays (number m) h = absurd (false≢true h)
    lost_stays (text w) h = absurd (false≢true h)
    lost_stays (truth b) h = absurd (false≢true h)
    lost_stays (fault k) h = h
    lost_stays (terms.name w) h = absurd (false≢true h)

    any_lost_stays : (ts : Terms Corner) → any_has_lost ts ≡ true → any_has_lost (all_rewritten ts) ≡ true
    any_lost_stays no_terms h = absurd (false≢true h)
    any_lost_stays (term t ts) h = ⊎_elim
        (λ (first : has_lost t ≡ true). or_left (has_lost (rewritten s t)) (any_has_lost (all_rewritten ts)) (lost_stays t first))
        (λ (rest : any_has_lost ts ≡ true). or_right (has_lost (rewritten s t)) (any_has_lost (all_rewritten ts)) (any_lost_stays ts rest))
        (or_cases (has_lost t) (any_has_lost ts) h)
