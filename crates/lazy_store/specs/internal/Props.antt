-- What has one proof at most, so that it may be kept with a store: that an operation can be done, that trees fit a
-- sheet, and that formulas go along a line.
use denote.Struct.Props as logic
use mathlib.Core.HLevel.{collapsible→set}
use mathlib.Core.Sum.{⊎_set}
use Rattle.std.proofs.Common.{◌≡◌, ◌∙◌, sym, ap, refl, arith, ℕ, List, [], pos, ◌⊎◌, inl, inr, Bool, true, false}
use Rattle.std.proofs.Props.{props}
use Rattle.std.specs.HashMap.{HashMap}
use Rattle.std.specs.Prelude.{Option, Some, None, unsigned_abs}
use Rattle.cell_addr.specs.declared.place.Place.{Place}
use Rattle.formula_tree.specs.Reference.{IsHomeInside, is_fixed}
use Rattle.formula_tree.specs.Term as tree
use Rattle.formula_tree.specs.Term.{EachCorner, EachCornerOfAll, Term, Terms, each_corner}
use Rattle.formula_tree.specs.declared.reference.Corner.{Corner}
use Rattle.formula_tree.specs.declared.reference.Home.{Home}
use Rattle.formula_tree.specs.declared.reference.Home.TheVariants as homes
use Rattle.formula_tree.specs.declared.reference.Part.{Part}
use Rattle.formula_tree.specs.declared.reference.Part.TheVariants.{Rel, Abs}
use Rattle.formula_tree.specs.declared.reference.Ref.{Ref}
use Rattle.formula_tree.specs.declared.reference.SheetPart.{SheetPart}
use Rattle.formula_tree.specs.declared.reference.SheetPart.TheVariants.{Own, Id}
use Rattle.formula_tree.specs.internal.Code.{code}
use Rattle.formula_tree.proofs.Decoded.{code-equal}
use Rattle.formula_tree.proofs.EachCorner.{each_corner-back}
use Rattle.shift_core.specs.Lines.{IsApart}
use Rattle.shift_core.specs.Sound.{IsSound}
use Rattle.shift_core.specs.declared.shift.Shift.{Shift}
use Rattle.shift_core.specs.declared.shift.Shift.TheVariants.{InsertRows, DeleteRows, InsertCols, DeleteCols, MoveRows, MoveCols, MoveBlock, DropSheet}
use Rattle.shift_line.specs.Track.{Track}
use Rattle.tree_rewrite.specs.References.{EachReferenceOfAll, FitsSheets, IsAreaInside, IsReferenceInside}
use Rattle.lazy_store.specs.Holders.{AreCoherent}
use Rattle.lazy_store.specs.Kept.{IsCoherent, IsSavedAt, IsSoundLine, Kept}
use Rattle.lazy_store.specs.Standing.{IsFit, IsSavedOver, Standing}
use Rattle.lazy_store.specs.declared.holder.Holder.{Holder}

-- one of two that exclude each other
either-prop : {A B : Type 0} → IsProp A → IsProp B → (A → B → ⊥) → IsProp (A ⊎ B)
either-prop a b apart (inl x) (inl y) = ap inl (a x y)
either-prop a b apart (inl x) (inr y) = absurd (apart x y)
either-prop a b apart (inr x) (inl y) = absurd (apart y x)
either-prop a b apart (inr x) (inr y) = ap inr (b x y)

is_apart-prop : (start count before : ℕ) → IsProp (IsApart start count before)
is_apart-prop start count before = either-prop (Prim.hlevel logic.props) (Prim.hlevel logic.props) (λ below above. omega (arith, below, above))

pub is_sound-prop : (s : Shift) → IsProp (IsSound s)
is_sound-prop (InsertRows sheet start count) = Prim.hlevel logic.props
is_sound-prop (DeleteRows sheet start count) = Prim.hlevel logic.props
is_sound-prop (InsertCols sheet start count) = Prim.hlevel logic.props
is_sound-prop (DeleteCols sheet start count) = Prim.hlevel logic.props
is_sound-prop (MoveRows sheet start count before) = Prim.hlevel (is_apart-prop, logic.props)
is_sound-prop (MoveCols sheet start count before) = Prim.hlevel (is_apart-prop, logic.props)
is_sound-prop (MoveBlock source to) = Prim.hlevel logic.props
is_sound-prop (DropSheet sheet) = Prim.hlevel logic.props

pub is_sound_line-prop : (line : Track) → IsProp (IsSoundLine line)
is_sound_line-prop line = Prim.hlevel (is_sound-prop, logic.props)

mutual
  fits-prop : (t : Term Corner) → IsProp (FitsSheets t)
  fits-prop (tree.number m) = Prim.hlevel logic.props
  fits-prop (tree.text w) = Prim.hlevel logic.props
  fits-prop (tree.truth b) = Prim.hlevel logic.props
  fits-prop (tree.fault f) = Prim.hlevel logic.props
  fits-prop (tree.cell c) = Prim.hlevel logic.props
  fits-prop (tree.area c d) = Prim.hlevel logic.props
  fits-prop (tree.whole axis c d) = Prim.hlevel logic.props
  fits-prop (tree.name w) = Prim.hlevel logic.props
  fits-prop (tree.prefix s t) = fits-prop t
  fits-prop (tree.percent t) = fits-prop t
  fits-prop (tree.binary o l r) = let h = fits-prop l in let i = fits-prop r in Prim.hlevel (h, i, logic.props)
  fits-prop (tree.call w ts) = all_fit-prop ts
  fits-prop (tree.paren t) = fits-prop t

  all_fit-prop : (ts : Terms Corner) → IsProp (EachReferenceOfAll IsReferenceInside IsAreaInside ts)
  all_fit-prop tree.no_terms = Prim.hlevel logic.props
  all_fit-prop (tree.term t ts) = let h = fits-prop t in let i = all_fit-prop ts in Prim.hlevel (h, i, logic.props)

home_inside-prop : (home : Home) → IsProp (IsHomeInside home)
home_inside-prop (homes.Cell p) = Prim.hlevel logic.props
home_inside-prop (homes.Name sheet) = Prim.hlevel logic.props

pub is_fit-prop : (x : Standing) → IsProp (IsFit x)
is_fit-prop x = Prim.hlevel (fits-prop, home_inside-prop, logic.props)

-- shared trees are a set, as their codes are
relative-set : IsSet (Term Ref)
relative-set = collapsible→set (λ t u p. code-equal t u (ap (λ x. code x []) p)) (λ t u p q. ap (code-equal t u) (codes (code t []) (code u []) (ap (λ x. code x []) p) (ap (λ x. code x []) q)))
  where
    codes : IsSet (List ℕ)
    codes = Prim.hlevel logic.props

-- a corner as a reference that says all of it, and back
abbrev part_as : Bool → ℕ → Part
part_as true line = Abs line
part_as false line = Rel (pos line)

abbrev line_as : Part → ℕ
line_as (Abs line) = line
line_as (Rel by) = unsigned_abs by

abbrev sheet_as : SheetPart → ℕ
sheet_as Own = 0
sheet_as (Id sheet) = sheet

abbrev as_reference : Corner → Ref
as_reference c = record { sheet = Id c.at.sheet; row = part_as c.row_fixed c.at.row; col = part_as c.col_fixed c.at.col }

abbrev as_corner : Ref → Corner
as_corner r = record {
  at = record { sheet = sheet_as r.sheet; row = line_as r.row; col = line_as r.col };
  row_fixed = is_fixed r.row;
  col_fixed = is_fixed r.col;
}

corner-back : (c : Corner) → as_corner (as_reference c) ≡ c
corner-back c = go c.at c.row_fixed c.col_fixed
  where
    go : (p : Place) (row col : Bool) → as_corner (as_reference (record { at = p; row_fixed = row; col_fixed = col })) ≡ record { at = p; row_fixed = row; col_fixed = col }
    go p true true = refl
    go p true false = refl
    go p false true = refl
    go p false false = refl

mutual
  corners-back : (t : Term Corner) → EachCorner (λ c. as_corner (as_reference c) ≡ c) t
  corners-back (tree.number m) = tt
  corners-back (tree.text w) = tt
  corners-back (tree.truth b) = tt
  corners-back (tree.fault f) = tt
  corners-back (tree.cell c) = corner-back c
  corners-back (tree.area c d) = (corner-back c, corner-back d)
  corners-back (tree.whole axis c d) = (corner-back c, corner-back d)
  corners-back (tree.name w) = tt
  corners-back (tree.prefix s t) = corners-back t
  corners-back (tree.percent t) = corners-back t
  corners-back (tree.binary o l r) = (corners-back l, corners-back r)
  corners-back (tree.call w ts) = all_corners-back ts
  corners-back (tree.paren t) = corners-back t

  all_corners-back : (ts : Terms Corner) → EachCornerOfAll (λ c. as_corner (as_reference c) ≡ c) ts
  all_corners-back tree.no_terms = tt
  all_corners-back (tree.term t ts) = (corners-back t, all_corners-back ts)

-- trees of places are a set too, as they are read back from shared ones
absolute-set : IsSet (Term Corner)
absolute-set = collapsible→set (λ t u p. sym (back t) ∙ ap from (ap to p) ∙ back u) (λ t u p q. ap (λ r. sym (back t) ∙ ap from r ∙ back u) (relative-set (to t) (to u) (ap to p) (ap to q)))
  where
    to : Term Corner → Term Ref
    to t = each_corner as_reference t

    from : Term Ref → Term Corner
    from t = each_corner as_corner t

    back : (t : Term Corner) → from (to t) ≡ t
    back t = each_corner-back as_reference as_corner t (corners-back t)

home-set : IsSet Home
home-set = Prim.hlevel (⊎_set, logic.props)

pub standing-set : IsSet Standing
standing-set = Prim.hlevel (home-set, absolute-set, logic.props)

is_saved_over-prop : (s : Shift) (x : Standing) (saved : Option (Term Ref)) → IsProp (IsSavedOver s x saved)
is_saved_over-prop s x None = Prim.hlevel (absolute-set, logic.props)
is_saved_over-prop s x (Some t) = Prim.hlevel (absolute-set, logic.props)

is_saved_at-prop : (line : Track) (k : ℕ) (x : Standing) (saved : Option (Term Ref)) → IsProp (IsSavedAt line k x saved)
is_saved_at-prop line k x saved = Prim.hlevel (is_saved_over-prop, props)

is_coherent-prop : (line : Track) (h : Kept) → IsProp (IsCoherent line h)
is_coherent-prop line h = Prim.hlevel (is_saved_at-prop, is_fit-prop, standing-set, relative-set, props)

pub are_coherent-prop : {S : Type 0} (line : Track) (holders : HashMap ℕ Holder S) → IsProp (AreCoherent line holders)
are_coherent-prop line holders = Prim.hlevel (is_coherent-prop, logic.props)
