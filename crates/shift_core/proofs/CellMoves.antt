-- What a move of cells does to a place: carried along, overwritten or left. Serves the laws on places.
use Rattle.std.proofs.Common.{◌≡◌, ◌⊎◌, inl, inr, Bool, true, false, cond, Some, None, arith, refl, ◌∙◌, ap}
use Rattle.std.proofs.lemmas.Bool.Decides.{nat_tests}
use Rattle.cell_addr.specs.declared.place.Place.{Place}
use Rattle.cell_addr.specs.declared.place.Block.{Block}
use Rattle.cell_addr.specs.Place.{IsInside, IsBlockInside, Covers, covers}
use Rattle.shift_core.specs.declared.form.Form.TheVariants.{Cells}
use Rattle.shift_core.specs.Tables.{place_moved, place_returned}
use Rattle.shift_core.specs.Carried.{carried_place, destination, first_place}

pub same_place : (p q : Place) → p.sheet ≡ q.sheet → p.row ≡ q.row → p.col ≡ q.col → p ≡ q
same_place p q sheets rows cols = grind arith

-- the test and the fact say the same
pub Covers-from_covers : (b : Block) (p : Place) → covers b p ≡ true → Covers b p
Covers-from_covers b p h = grind (arith, nat_tests)

pub covers-from_Covers : (b : Block) (p : Place) → Covers b p → covers b p ≡ true
covers-from_Covers b p c = grind (arith, nat_tests)

-- the destination covers what is carried there
pub carried_covered : (source : Block) (to p : Place) → Covers source p → Covers (destination source to) (carried_place source to p)
carried_covered source to p c = (refl, omega arith, omega arith, omega arith, omega arith)

-- a place that is carried to the destination is carried back to where it was
pub carried_returns : (source : Block) (to p : Place) → Covers source p → carried_place (destination source to) (first_place source) (carried_place source to p) ≡ p
carried_returns source to p c = same_place _ _ c.0 (omega arith) (omega arith)

-- the source covers what is carried back there
pub returned_covered : (source : Block) (to q : Place) → IsBlockInside source → Covers (destination source to) q → Covers source (carried_place (destination source to) (first_place source) q)
returned_covered source to q i c = (refl, omega arith, omega arith, omega arith, omega arith)

pub returned_goes : (source : Block) (to q : Place) → Covers (destination source to) q → carried_place source to (carried_place (destination source to) (first_place source) q) ≡ q
returned_goes source to q c = same_place _ _ c.0 (omega arith) (omega arith)

-- the first where `a`, lost where else `b`, else the second
pub cases_chosen : {A : Type 0} (a b : Bool) (x p q : A) → cond a (Some x) (cond b None (Some p)) ≡ Some q → ((a ≡ true) × (q ≡ x)) ⊎ ((a ≡ false) × (b ≡ false) × (q ≡ p))
cases_chosen true b x p q h = inl (refl, cc)
cases_chosen false true x p q h = cc
cases_chosen false false x p q h = inr (refl, refl, cc)

pub chosen_first : {A : Type 0} (a b : Bool) (x p : A) → a ≡ true → cond a (Some x) (cond b None (Some p)) ≡ Some x
chosen_first a b x p t = rw t refl

pub chosen_second : {A : Type 0} (a b : Bool) (x p : A) → a ≡ false → b ≡ false → cond a (Some x) (cond b None (Some p)) ≡ Some p
chosen_second a b x p f g = rw (f, g) refl

pub move_cells_returns : (source : Block) (to p q : Place) → place_moved (Cells source to) p ≡ Some q → place_returned (Cells source to) q ≡ Some p
move_cells_returns source to p q h =
    elim (cases_chosen (covers source p) (covers (destination source to) p) (carried_place source to p) p q h) [
      | inl w ↦
          let c = Covers-from_covers source p w.0 in
          rw w.1 (
          chosen_first _ (covers source (carried_place source to p)) _ _ (covers-from_Covers (destination source to) (carried_place source to p) (carried_covered source to p c))
          ∙ ap (λ x. Some x) (carried_returns source to p c)
          )
      | inr w ↦ rw w.2 (chosen_second (covers (destination source to) p) (covers source p) _ p w.1 w.0)
    ]

pub move_cells_goes : (source : Block) (to p q : Place) → IsBlockInside source → place_returned (Cells source to) q ≡ Some p → place_moved (Cells source to) p ≡ Some q
move_cells_goes source to p q i h =
    elim (cases_chosen (covers (destination source to) q) (covers source q) (carried_place (destination source to) (first_place source) q) q p h) [
      | inl w ↦
          let c = Covers-from_covers (destination source to) q w.0 in
          rw w.1 (
          chosen_first _ (covers (destination source to) (carried_place (destination source to) (first_place source) q)) _ _ (covers-from_Covers source (carried_place (destination source to) (first_place source) q) (returned_covered source to q i c))
          ∙ ap (λ x. Some x) (returned_goes source to q c)
          )
      | inr w ↦ rw w.2 (chosen_second (covers source q) (covers (destination source to) q) _ q w.1 w.0)
    ]

-- what an inside block covers is inside
pub Covers_inside : (b : Block) (p : Place) → IsBlockInside b → Covers b p → IsInside p
Covers_inside b p i c = (omega arith, omega arith)

pub move_cells_inside : (source : Block) (to p q : Place) → IsBlockInside (destination source to) → IsInside p → place_moved (Cells source to) p ≡ Some q → IsInside q
move_cells_inside source to p q d i h =
    elim (cases_chosen (covers source p) (covers (destination source to) p) (carried_place source to p) p q h) [
      | inl w ↦ rw w.1 (Covers_inside (destination source to) (carried_place source to p) d (carried_covered source to p (Covers-from_covers source p w.0)))
      | inr w ↦ rw w.2 i
    ]

pub unmove_cells_inside : (source : Block) (to p q : Place) → IsBlockInside source → IsInside q → place_returned (Cells source to) q ≡ Some p → IsInside p
unmove_cells_inside source to p q d i h =
    elim (cases_chosen (covers (destination source to) q) (covers source q) (carried_place (destination source to) (first_place source) q) q p h) [
      | inl w ↦ rw w.1 (Covers_inside source (carried_place (destination source to) (first_place source) q) d (returned_covered source to q d (Covers-from_covers (destination source to) q w.0)))
      | inr w ↦ rw w.2 i
    ]
