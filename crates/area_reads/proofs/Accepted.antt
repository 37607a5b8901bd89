-- Each filled place of a block can be asked for where the block can. Serves reads of areas.
use Rattle.std.proofs.Common.{◌≡◌, ◌∙◌, sym, ap, refl, arith, Bool, true, false, cond, not, Some, None}
use Rattle.std.proofs.lemmas.Bool.Decides.{nat_tests}
use Rattle.std.proofs.lemmas.Option.{none-some}
use Rattle.cell_addr.specs.Place.{covers}
use Rattle.cell_addr.specs.declared.place.Block.{Block}
use Rattle.cell_addr.specs.declared.place.Place.{Place}
use Rattle.book_model.specs.Refusals.{at_block, at_place, first_cause, is_block_outside, is_outside}
use Rattle.book_model.specs.Workbook.{State, has_sheet}
use Rattle.book_model.specs.declared.refusal.Refusal.TheVariants.{NoSheet, Outside}

on_sheet : (area : Block) (p : Place) → covers area p ≡ true → area.sheet ≡ p.sheet
on_sheet area p covered = grind (arith, nat_tests)

within : (area : Block) (p : Place) → covers area p ≡ true → is_block_outside area ≡ false → is_outside p ≡ false
within area p covered inside = grind (arith, nat_tests)

-- a place of a block
pub at_accepted : (area : Block) (d : State) (p : Place) → first_cause (at_block d area) ≡ None → covers area p ≡ true → first_cause (at_place d p) ≡ None
at_accepted area d p none covered = go (not (has_sheet d.book area.sheet)) (is_block_outside area) refl refl none
  where
    go : (b c : Bool) → not (has_sheet d.book area.sheet) ≡ b → is_block_outside area ≡ c → cond b (Some NoSheet) (cond c (Some Outside) None) ≡ None → first_cause (at_place d p) ≡ None
    go true c lacks out none = absurd (none-some NoSheet (sym none))
    go false true lacks out none = absurd (none-some Outside (sym none))
    go false false lacks out none =
        ap (λ s. cond (not (has_sheet d.book s)) (Some NoSheet) (cond (is_outside p) (Some Outside) None)) (sym (on_sheet area p covered))
        ∙ ap (λ b. cond b (Some NoSheet) (cond (is_outside p) (Some Outside) None)) lacks
        ∙ ap (λ c. cond c (Some Outside) None) (within area p covered out)
