-- A block that an operation neither bends nor cuts nor tears keeps its size and its offsets. Serves the law.
use Rattle.std.proofs.Common.{◌≡◌, ◌∙◌, sym, ap, refl, subst, arith, ◌⊎◌, inl, inr, ◌-◌, true, Option, Some, MatchOption}
use Rattle.std.specs.Prelude.{⊤}
use Rattle.std.proofs.lemmas.Bool.{and_left, and_parts}
use Rattle.std.proofs.lemmas.Bool.{cases_eq}
use Rattle.std.proofs.lemmas.Option.{same_Some}
use Rattle.cell_addr.specs.declared.place.Block.{Block}
use Rattle.cell_addr.specs.declared.place.Place.{Place}
use Rattle.cell_addr.specs.Place.{Covers, IsBlockInside, covers}
use Rattle.shift_core.specs.Bent.{BendsBlock, CutsBlock, HaveOtherSizes, MeetsDisplaced}
use Rattle.shift_core.specs.Carried.{carried_block, carried_place, contains, destination, first_place, last_place}
use Rattle.shift_core.specs.Form.{form_of}
use Rattle.shift_core.specs.Sound.{IsSoundForm}
use Rattle.shift_core.specs.Tables.{block_moved, place_moved}
use Rattle.shift_core.specs.declared.form.Form.{Form}
use Rattle.shift_core.specs.declared.form.Form.TheVariants.{Cells, Lines, Sheet}
use Rattle.shift_core.proofs.BlockLaws.{block_moved_inside}
use Rattle.shift_core.proofs.CellMoves.{Covers-from_covers, chosen_first, chosen_second, covers-from_Covers}
use Rattle.shift_core.proofs.UnbentBlocks.{unbent_keeps}
use Rattle.carried_terms.specs.Following.{IsWholeIn}
use Rattle.carried_terms.specs.Laws.{KeptBlocksFollow}

-- what isn't bent has the same size
not_other : (f : Form) (b c : Block) → ¬ BendsBlock f b → block_moved f b ≡ Some c → ¬ HaveOtherSizes b c
not_other f b c still h other =
    let P : Option Block → Type 0 = λ o. MatchOption o ⊤ (λ x. HaveOtherSizes b x ⊎ MeetsDisplaced f b) in still (subst P (sym h) (inl other))

same_rows : (b c : Block) → ¬ HaveOtherSizes b c → b.bottom - b.top ≡ c.bottom - c.top
same_rows b c same = elim (cases_eq (b.bottom - b.top) (c.bottom - c.top)) [ inl e ↦ e | inr n ↦ absurd (same (inl n)) ]

same_cols : (b c : Block) → ¬ HaveOtherSizes b c → b.right - b.left ≡ c.right - c.left
same_cols b c same = elim (cases_eq (b.right - b.left) (c.right - c.left)) [ inl e ↦ e | inr n ↦ absurd (same (inr n)) ]

same_spot : (p q : Place) → p.sheet ≡ q.sheet → p.row ≡ q.row → p.col ≡ q.col → p ≡ q
same_spot p q sheets rows cols = λ i. record { sheet = sheets i; row = rows i; col = cols i }

-- cells that are taken along keep their offsets in every block among them
offset_along : (source : Block) (to : Place) (b : Block) (p : Place) → contains source b ≡ true → Covers b p → carried_place source to p ≡ carried_place b (first_place (carried_block source to b)) p
offset_along source to b p h c =
    let w = and_parts (covers source (first_place b)) (covers source (last_place b)) h in
    let first = Covers-from_covers source (first_place b) w.0 in
    same_spot _ _ refl (omega arith) (omega arith)

within : (source b : Block) (p : Place) → contains source b ≡ true → Covers b p → Covers source p
within source b p h c =
    let w = and_parts (covers source (first_place b)) (covers source (last_place b)) h in
    let first = Covers-from_covers source (first_place b) w.0 in
    let last = Covers-from_covers source (last_place b) w.1 in
    (first.0 ∙ c.0, omega arith, omega arith, omega arith, omega arith)

stays_put : (b : Block) (p : Place) → Covers b p → carried_place b (first_place b) p ≡ p
stays_put b p c = same_spot _ _ c.0 (omega arith) (omega arith)

first_covered : (b : Block) → IsBlockInside b → Covers b (first_place b)
first_covered b i = (refl, omega arith, omega arith, omega arith, omega arith)

cells_keep : (source : Block) (to : Place) (b c : Block) (p : Place) → IsBlockInside b → IsWholeIn (Cells source to) b → block_moved (Cells source to) b ≡ Some c → Covers b p
    → place_moved (Cells source to) p ≡ Some (carried_place b (first_place c) p)
cells_keep source to b c p i (inl all) h on =
    let gone : carried_block source to b ≡ c = same_Some _ _ (sym (chosen_first (contains source b) (contains (destination source to) b) (carried_block source to b) b all) ∙ h) in
    chosen_first (covers source p) (covers (destination source to) p) (carried_place source to p) p (covers-from_Covers source p (within source b p all on))
    ∙ ap (λ q. Some q) (offset_along source to b p all on ∙ ap (λ d. carried_place b (first_place d) p) gone)
cells_keep source to b c p i (inr apart) h on =
    let first = apart (first_place b) (first_covered b i) in
    let here : b ≡ c = same_Some _ _ (sym (chosen_second (contains source b) (contains (destination source to) b) (carried_block source to b) b
    (and_left (covers source (first_place b)) (covers source (last_place b)) first.0) (and_left (covers (destination source to) (first_place b)) (covers (destination source to) (last_place b)) first.1)) ∙ h) in
    let mine = apart p on in
    chosen_second (covers source p) (covers (destination source to) p) (carried_place source to p) p mine.0 mine.1
    ∙ ap (λ q. Some q) (sym (stays_put b p on) ∙ ap (λ d. carried_place b (first_place d) p) here)

offsets_kept : (f : Form) (b c : Block) → IsSoundForm f → IsBlockInside b → ¬ BendsBlock f b → ¬ CutsBlock f b → IsWholeIn f b → block_moved f b ≡ Some c → (p : Place) → Covers b p
    → place_moved f p ≡ Some (carried_place b (first_place c) p)
offsets_kept (Cells source to) b c sound i still whole torn h p on = cells_keep source to b c p i torn h on
offsets_kept (Lines sheet axis edit) b c sound i still whole torn h p on = unbent_keeps (Lines sheet axis edit) b c p sound tt i still whole h on
offsets_kept (Sheet sheet) b c sound i still whole torn h p on = unbent_keeps (Sheet sheet) b c p sound tt i still whole h on

-- a place of a block of the same size, and the one with its offset in the other block
there : (b c : Block) (p : Place) → IsBlockInside b → IsBlockInside c → b.bottom - b.top ≡ c.bottom - c.top → b.right - b.left ≡ c.right - c.left → Covers b p → Covers c (carried_place b (first_place c) p)
there b c p i j rows cols on = (refl, omega arith, omega arith, omega arith, omega arith)

and_back : (b c : Block) (q : Place) → Covers c q → carried_place b (first_place c) (carried_place c (first_place b) q) ≡ q
and_back b c q on = same_spot _ _ on.0 (omega arith) (omega arith)

pub kept_follow : KeptBlocksFollow
kept_follow s b c sound i still whole torn h =
    let f = form_of s in
    let j = block_moved_inside f b c sound i h in
    let same = not_other f b c still h in
    let rows = same_rows b c same in
    let cols = same_cols b c same in
    let offsets = offsets_kept f b c sound i still whole torn h in
    record {
      heights = omega arith;
      widths = omega arith;
      offsets = offsets;
      places = record {
        forth = λ p on. inr (carried_place b (first_place c) p, offsets p on, there b c p i j rows cols on);
        back = λ q on.
            let p = carried_place c (first_place b) q in
            let here = there c b q j i (sym rows) (sym cols) on in
            inr (p, offsets p here ∙ ap (λ z. Some z) (and_back b c q on), here);
      };
    }
