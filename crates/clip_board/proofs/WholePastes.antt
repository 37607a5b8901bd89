-- Pasted blocks and whole ranges, as they are seen from where they are pasted. Serves pasted formulas.
use Rattle.std.proofs.Common.{◌≡◌, ◌∙◌, sym, ap, subst, refl, ℕ, Bool, ◌&&◌, List, Option, Some, None}
use Rattle.cell_addr.specs.declared.axis.Axis.{Axis}
use Rattle.cell_addr.specs.declared.axis.Axis.TheVariants.{Rows, Cols}
use Rattle.cell_addr.specs.declared.place.Place.{Place}
use Rattle.cell_value.specs.declared.fault.FaultKind.TheVariants as faults
use Rattle.formula_tree.specs.Grammar.{first_of, last_of, placed}
use Rattle.formula_tree.specs.Reference.{base_of, corner_at, ref_from}
use Rattle.formula_tree.specs.StandsFor.{from_home}
use Rattle.formula_tree.specs.Term.{Term, fault, shaped}
use Rattle.formula_tree.specs.Whole.{first_ref, last_ref}
use Rattle.formula_tree.specs.declared.address.Address.{Address}
use Rattle.formula_tree.specs.declared.reference.Corner.{Corner}
use Rattle.formula_tree.specs.declared.reference.Home.{Home}
use Rattle.formula_tree.specs.declared.reference.Part.{Part}
use Rattle.formula_tree.specs.declared.reference.Ref.{Ref}
use Rattle.formula_tree.specs.declared.reference.SheetPart.{SheetPart}
use Rattle.tree_rewrite.specs.Pasted.{address_pasted, is_inside, sheet_if, sheet_pasted, shaped_on}
use Rattle.tree_rewrite.specs.Shaped.{AreShaped, part_along}
use Rattle.clip_board.specs.internal.Moved.{area_moved}

-- the corners of what two references become, in order, as they are seen from there
abbrev pub first_seen : Place → Place → ℕ → Ref → Ref → Ref
first_seen from to sheet r q = ref_from to (placed sheet (first_of (address_pasted from to (corner_at from r)) (address_pasted from to (corner_at from q))))

abbrev pub last_seen : Place → Place → ℕ → Ref → Ref → Ref
last_seen from to sheet r q = ref_from to (placed sheet (last_of (address_pasted from to (corner_at from r)) (address_pasted from to (corner_at from q))))

-- the lines across a whole range have a `$` and stay, so these are the first and the last cell of one again
shaped-along : (axis : Axis) (from to : Place) (sheet : ℕ) (s t : SheetPart) (first last : Part)
    → AreShaped (Some axis) (first_seen from to sheet (first_ref axis s first) (last_ref axis t last)) (last_seen from to sheet (first_ref axis s first) (last_ref axis t last))
shaped-along Rows from to sheet s t first last = (refl, refl)
shaped-along Cols from to sheet s t first last = (refl, refl)

pub shaped-seen : (lines : Option Axis) (from to : Place) (sheet : ℕ) (r q : Ref) → AreShaped lines r q → AreShaped lines (first_seen from to sheet r q) (last_seen from to sheet r q)
shaped-seen None from to sheet r q h = tt
shaped-seen (Some axis) from to sheet r q h =
    let P : Ref → Ref → Type 0 = λ x y. AreShaped (Some axis) (first_seen from to sheet x y) (last_seen from to sheet x y) in
    let first = first_ref axis r.sheet (part_along axis r) in
    subst (λ x. P x q) (sym h.0) (subst (P first) (sym h.1) (shaped-along axis from to sheet r.sheet r.sheet (part_along axis r) (part_along axis q)))

-- a block, or a whole range, is seen by its corners
pub seen-shaped : (lines : Option Axis) (to : Home) (c d : Corner) → from_home to (shaped lines c d) ≡ shaped lines (ref_from (base_of to) c) (ref_from (base_of to) d)
seen-shaped None to c d = refl
seen-shaped (Some axis) to c d = refl

-- what a reference becomes, as the program has it
address-by : (from to : Place) (r : Ref) (top : Corner) (a : Address) → top ≡ corner_at from r → a ≡ address_pasted from to top → a ≡ address_pasted from to (corner_at from r)
address-by from to r top a e h = h ∙ ap (address_pasted from to) e

module _ (from to : Place) (r q : Ref) (top bottom : Corner) (a b : Address) (e : top ≡ corner_at from r) (f : bottom ≡ corner_at from q) (h : a ≡ address_pasted from to top) (k : b ≡ address_pasted from to bottom) where
  pub first-by : (sheet : ℕ) (low : Address) (new : Ref) → low ≡ first_of a b → new ≡ ref_from to (placed sheet low) → new ≡ first_seen from to sheet r q
  first-by sheet low new is seen =
      seen
      ∙ ap (λ x. ref_from to (placed sheet x)) is
      ∙ ap (λ x. ref_from to (placed sheet (first_of x b))) (address-by from to r top a e h)
      ∙ ap (λ x. ref_from to (placed sheet (first_of (address_pasted from to (corner_at from r)) x))) (address-by from to q bottom b f k)

  pub last-by : (sheet : ℕ) (high : Address) (new : Ref) → high ≡ last_of a b → new ≡ ref_from to (placed sheet high) → new ≡ last_seen from to sheet r q
  last-by sheet high new is seen =
      seen
      ∙ ap (λ x. ref_from to (placed sheet x)) is
      ∙ ap (λ x. ref_from to (placed sheet (last_of x b))) (address-by from to r top a e h)
      ∙ ap (λ x. ref_from to (placed sheet (last_of (address_pasted from to (corner_at from r)) x))) (address-by from to q bottom b f k)

  -- the sheet that they come to
  pub sheet-by : (sheets : List (ℕ × List ℕ)) (fits : Bool) (result o : Option ℕ) → result ≡ sheet_if sheets (sheet_pasted from to top.at.sheet) fits → fits ≡ (is_inside a && is_inside b) → result ≡ o
      → sheet_if sheets (sheet_pasted from to (corner_at from r).at.sheet) (is_inside (address_pasted from to (corner_at from r)) && is_inside (address_pasted from to (corner_at from q))) ≡ o
  sheet-by sheets fits result o is inside goes =
      let both : fits ≡ (is_inside (address_pasted from to (corner_at from r)) && is_inside (address_pasted from to (corner_at from q))) =
      inside ∙ ap (λ x. is_inside x && is_inside b) (address-by from to r top a e h) ∙ ap (λ x. is_inside (address_pasted from to (corner_at from r)) && is_inside x) (address-by from to q bottom b f k) in
      sym (is ∙ ap (λ x. sheet_if sheets (sheet_pasted from to x.at.sheet) fits) e ∙ ap (sheet_if sheets (sheet_pasted from to (corner_at from r).at.sheet)) both) ∙ goes

module _ (sheets : List (ℕ × List ℕ)) (from to : Home) (lines : Option Axis) (r q : Ref) where
  abbrev sheet_of : Option ℕ
  sheet_of =
      sheet_if sheets (sheet_pasted (base_of from) (base_of to) (corner_at (base_of from) r).at.sheet)
      (is_inside (address_pasted (base_of from) (base_of to) (corner_at (base_of from) r)) && is_inside (address_pasted (base_of from) (base_of to) (corner_at (base_of from) q)))

  abbrev between : Option ℕ → Term Ref
  between o = from_home to (shaped_on lines o (address_pasted (base_of from) (base_of to) (corner_at (base_of from) r)) (address_pasted (base_of from) (base_of to) (corner_at (base_of from) q)))

  pub area-goes : (sheet : ℕ) → sheet_of ≡ Some sheet → area_moved sheets from to lines r q ≡ shaped lines (first_seen (base_of from) (base_of to) sheet r q) (last_seen (base_of from) (base_of to) sheet r q)
  area-goes sheet is = ap between is ∙ seen-shaped lines to _ _

  pub area-lost : sheet_of ≡ None → area_moved sheets from to lines r q ≡ fault faults.Ref
  area-lost is = ap between is
