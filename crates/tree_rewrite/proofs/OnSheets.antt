-- Where references come from: each is on the sheet that it was on, or came along with moved cells. Serves the law
-- on sheets.
use Rattle.std.proofs.Common.{◌≡◌, ◌≢◌, ◌⊎◌, inl, inr, ◌∙◌, sym, ap, subst, refl, arith, ℕ, ◌==◌, Bool, true, false, cond, Option, Some, None, option_map}
use Rattle.std.proofs.lemmas.Bool.{and_parts}
use Rattle.std.proofs.lemmas.Bool.Decides.{nat_tests}
use Rattle.std.proofs.lemmas.Option.{same_Some}
use Rattle.cell_addr.specs.declared.axis.Axis.{Axis}
use Rattle.cell_addr.specs.declared.axis.Span.{Span}
use Rattle.cell_addr.specs.declared.place.Place.{Place}
use Rattle.cell_addr.specs.declared.place.Block.{Block}
use Rattle.cell_addr.specs.declared.whole.Whole.{Whole}
use Rattle.cell_addr.specs.Axis.{line_of, with_line, span_of, with_span, limit_of}
use Rattle.cell_addr.specs.Place.{covers}
use Rattle.cell_addr.specs.Whole.{lines_of, sheet_block, whole_block, whole_of}
use Rattle.formula_tree.specs.Reference.{block_of}
use Rattle.formula_tree.specs.Term.{Term, number, text, truth, fault, cell, area, whole, name, prefix, percent, binary, call, paren, Terms, no_terms, term, shaped}
use Rattle.formula_tree.specs.declared.reference.Corner.{Corner}
use Rattle.shift_core.specs.Carried.{contains, first_place, last_place, carried_place, carried_block, destination}
use Rattle.shift_core.specs.Form.{form_of}
use Rattle.shift_core.specs.Lines.{line_after, line_before}
use Rattle.shift_core.specs.Spans.{span_after, span_before}
use Rattle.shift_core.specs.Tables.{place_moved, place_returned, block_moved, block_returned}
use Rattle.shift_core.specs.Wholes.{runs_across, whole_moved, whole_returned, whole_after, whole_before}
use Rattle.shift_core.specs.declared.form.Form.{Form}
use Rattle.shift_core.specs.declared.form.Form.TheVariants.{Lines, Cells, Sheet}
use Rattle.shift_core.specs.declared.shift.Shift.{Shift}
use Rattle.shift_core.proofs.Axes.{sheet-with_line, sheet-with_span}
use Rattle.shift_core.proofs.CellMoves.{cases_chosen, Covers-from_covers}
use Rattle.tree_rewrite.specs.Rewritten.{cell_at, area_at, rewritten}
use Rattle.tree_rewrite.specs.Sheets.{HasSheet, SomeHasSheet, LeadsOnForm, Leads}
use Rattle.tree_rewrite.specs.declared.direction.Direction.{Direction}
use Rattle.tree_rewrite.specs.declared.direction.Direction.TheVariants.{Forward, Backward}
use Rattle.tree_rewrite.specs.internal.Passage.{place_in, area_in, tree_in, all_in}

-- from the first sheet to the second one in a direction
abbrev pub LeadsIn : Direction → Shift → ℕ → ℕ → Type 0
LeadsIn Forward s here there = Leads s here there
LeadsIn Backward s here there = Leads s there here

line-sheet : (b : Bool) (axis : Axis) (r : Option ℕ) (p q : Place) → cond b (option_map (λ line. with_line axis line p) r) (Some p) ≡ Some q → q.sheet ≡ p.sheet
line-sheet false axis r p q h = ap (λ x. x.sheet) (sym (same_Some _ _ h))
line-sheet true axis None p q h = absurd (cc)
line-sheet true axis (Some line) p q h = ap (λ x. x.sheet) (sym (same_Some _ _ h)) ∙ sheet-with_line axis line p

span-sheet : (b : Bool) (axis : Axis) (r : Option Span) (c d : Block) → cond b (option_map (λ span. with_span axis span c) r) (Some c) ≡ Some d → d.sheet ≡ c.sheet
span-sheet false axis r c d h = ap (λ x. x.sheet) (sym (same_Some _ _ h))
span-sheet true axis None c d h = absurd (cc)
span-sheet true axis (Some span) c d h = ap (λ x. x.sheet) (sym (same_Some _ _ h)) ∙ sheet-with_span axis span c

dropped-place : (b : Bool) (p q : Place) (sheet : ℕ) → (p.sheet == sheet) ≡ b → cond b None (Some p) ≡ Some q → (q.sheet ≡ p.sheet) × (p.sheet ≢ sheet)
dropped-place true p q sheet t h = absurd (cc)
dropped-place false p q sheet t h = (ap (λ x. x.sheet) (sym (same_Some _ _ h)), grind (arith, nat_tests))

dropped-block : (b : Bool) (c d : Block) (sheet : ℕ) → (c.sheet == sheet) ≡ b → cond b None (Some c) ≡ Some d → (d.sheet ≡ c.sheet) × (c.sheet ≢ sheet)
dropped-block true c d sheet t h = absurd (cc)
dropped-block false c d sheet t h = (ap (λ x. x.sheet) (sym (same_Some _ _ h)), grind (arith, nat_tests))

pub place-leads : (f : Form) (p q : Place) → place_moved f p ≡ Some q → LeadsOnForm f p.sheet q.sheet
place-leads (Lines sheet axis edit) p q h = line-sheet (p.sheet == sheet) axis (line_after (limit_of axis) edit (line_of axis p)) p q h
place-leads (Cells source to) p q h =
    elim (cases_chosen (covers source p) (covers (destination source to) p) (carried_place source to p) p q h) [
      | inl w ↦ inr (sym (Covers-from_covers source p w.0).0, ap (λ x. x.sheet) w.1)
      | inr w ↦ inl (ap (λ x. x.sheet) w.2)
    ]
place-leads (Sheet sheet) p q h = dropped-place (p.sheet == sheet) p q sheet refl h

place-leads_back : (f : Form) (p q : Place) → place_returned f p ≡ Some q → LeadsOnForm f q.sheet p.sheet
place-leads_back (Lines sheet axis edit) p q h = sym (line-sheet (p.sheet == sheet) axis (line_before (limit_of axis) edit (line_of axis p)) p q h)
place-leads_back (Cells source to) p q h =
    elim (cases_chosen (covers (destination source to) p) (covers source p) (carried_place (destination source to) (first_place source) p) p q h) [
      | inl w ↦ inr (ap (λ x. x.sheet) w.1, sym (Covers-from_covers (destination source to) p w.0).0)
      | inr w ↦ inl (ap (λ x. x.sheet) (sym w.2))
    ]
place-leads_back (Sheet sheet) p q h = let w = dropped-place (p.sheet == sheet) p q sheet refl h in (sym w.0, λ e. w.1 (sym w.0 ∙ e))

block-leads : (f : Form) (c d : Block) → block_moved f c ≡ Some d → LeadsOnForm f c.sheet d.sheet
block-leads (Lines sheet axis edit) c d h = span-sheet (c.sheet == sheet) axis (span_after (limit_of axis) edit (span_of axis c)) c d h
block-leads (Cells source to) c d h =
    elim (cases_chosen (contains source c) (contains (destination source to) c) (carried_block source to c) c d h) [
      | inl w ↦ inr (
        sym (Covers-from_covers source (first_place c) (and_parts (covers source (first_place c)) (covers source (last_place c)) w.0).0).0,
        ap (λ x. x.sheet) w.1,
      )
      | inr w ↦ inl (ap (λ x. x.sheet) w.2)
    ]
block-leads (Sheet sheet) c d h = dropped-block (c.sheet == sheet) c d sheet refl h

-- the first where `b`, else the second
either-block : (b : Bool) (x y d : Block) → cond b (Some x) (Some y) ≡ Some d → ((b ≡ true) × (d ≡ x)) ⊎ (d ≡ y)
either-block true x y d h = inl (refl, cc)
either-block false x y d h = inr (cc)

block-leads_back : (f : Form) (c d : Block) → block_returned f c ≡ Some d → LeadsOnForm f d.sheet c.sheet
block-leads_back (Lines sheet axis edit) c d h = sym (span-sheet (c.sheet == sheet) axis (span_before (limit_of axis) edit (span_of axis c)) c d h)
block-leads_back (Cells source to) c d h =
    elim (either-block (contains (destination source to) c) (carried_block (destination source to) (first_place source) c) c d h) [
      | inl w ↦ inr (
        ap (λ x. x.sheet) w.1,
        sym (Covers-from_covers (destination source to) (first_place c) (and_parts (covers (destination source to) (first_place c)) (covers (destination source to) (last_place c)) w.0).0).0,
      )
      | inr w ↦ inl (ap (λ x. x.sheet) (sym w))
    ]
block-leads_back (Sheet sheet) c d h = let w = dropped-block (c.sheet == sheet) c d sheet refl h in (sym w.0, λ e. w.1 (sym w.0 ∙ e))

place_in-leads : (d : Direction) (s : Shift) (p q : Place) → place_in d s p ≡ Some q → LeadsIn d s p.sheet q.sheet
place_in-leads Forward s p q h = place-leads (form_of s) p q h
place_in-leads Backward s p q h = place-leads_back (form_of s) p q h

-- a whole range is on the sheet of its block, and comes where its block does
whole-sheet : (w : Whole) → (whole_block w).sheet ≡ w.sheet
whole-sheet w = sheet-with_span w.axis (lines_of w) (sheet_block w.sheet)

crossed-leads : (f : Form) (w : Whole) → runs_across f w ≡ true → LeadsOnForm f w.sheet w.sheet
crossed-leads (Lines sheet axis edit) w a = refl
crossed-leads (Cells source to) w a = absurd (cc)
crossed-leads (Sheet sheet) w a = absurd (cc)

module _ (f : Form) (P : ℕ → ℕ → Type 0) (w : Whole) (own : runs_across f w ≡ true → P w.sheet w.sheet) where
  of-block : (r : Option Block) (v : Whole) → ((c : Block) → r ≡ Some c → P (whole_block w).sheet c.sheet) → option_map (whole_of w.axis) r ≡ Some v → P w.sheet v.sheet
  of-block None v h e = absurd (cc)
  of-block (Some c) v h e = subst (λ n. P n v.sheet) (whole-sheet w) (subst (P (whole_block w).sheet) (ap (λ x. x.sheet) (same_Some _ _ e)) (h c refl))

  whole-comes : (a : Bool) (r : Option Block) (v : Whole) → runs_across f w ≡ a → ((c : Block) → r ≡ Some c → P (whole_block w).sheet c.sheet)
      → cond a (Some w) (option_map (whole_of w.axis) r) ≡ Some v → P w.sheet v.sheet
  whole-comes true r v e h k = subst (P w.sheet) (ap (λ x. x.sheet) (same_Some _ _ k)) (own e)
  whole-comes false r v e h k = of-block r v h k

whole-leads : (f : Form) (w v : Whole) → whole_moved f w ≡ Some v → LeadsOnForm f w.sheet v.sheet
whole-leads f w v h = whole-comes f (LeadsOnForm f) w (crossed-leads f w) (runs_across f w) (block_moved f (whole_block w)) v refl (λ c e. block-leads f (whole_block w) c e) h

whole-leads_back : (f : Form) (w v : Whole) → whole_returned f w ≡ Some v → LeadsOnForm f v.sheet w.sheet
whole-leads_back f w v h =
    whole-comes f (λ here there. LeadsOnForm f there here) w (crossed-leads f w) (runs_across f w) (block_returned f (whole_block w)) v refl (λ c e. block-leads_back f (whole_block w) c e) h

as-block : (P : ℕ → Type 0) (r : Option Whole) (c : Block) → ((v : Whole) → r ≡ Some v → P v.sheet) → option_map whole_block r ≡ Some c → P c.sheet
as-block P None c h e = absurd (cc)
as-block P (Some v) c h e = subst P (sym (whole-sheet v) ∙ ap (λ x. x.sheet) (same_Some _ _ e)) (h v refl)

area_in-leads : (d : Direction) (s : Shift) (lines : Option Axis) (b c : Block) → area_in d s lines b ≡ Some c → LeadsIn d s b.sheet c.sheet
area_in-leads Forward s None b c h = block-leads (form_of s) b c h
area_in-leads Backward s None b c h = block-leads_back (form_of s) b c h
area_in-leads Forward s (Some axis) b c h = as-block (LeadsOnForm (form_of s) b.sheet) (whole_after s (whole_of axis b)) c (λ v e. whole-leads (form_of s) (whole_of axis b) v e) h
area_in-leads Backward s (Some axis) b c h =
    as-block (λ n. LeadsOnForm (form_of s) n b.sheet) (whole_before s (whole_of axis b)) c (λ v e. whole-leads_back (form_of s) (whole_of axis b) v e) h

-- a sheet of the tree leads to this one
abbrev ComesTo : Direction → Shift → ℕ → Term Corner → Type 0
ComesTo d s n t = (m : ℕ) × HasSheet m t × LeadsIn d s m n

abbrev SomeComesTo : Direction → Shift → ℕ → Terms Corner → Type 0
SomeComesTo d s n ts = (m : ℕ) × SomeHasSheet m ts × LeadsIn d s m n

cell_at-sheet : (d : Direction) (s : Shift) (n : ℕ) (c : Corner) (r : Option Place) → place_in d s c.at ≡ r → HasSheet n (cell_at c r) → ComesTo d s n (cell c)
cell_at-sheet d s n c (Some q) e h = (c.at.sheet, refl, subst (LeadsIn d s c.at.sheet) h (place_in-leads d s c.at q e))
cell_at-sheet d s n c None e h = absurd h

block-sheet : (n : ℕ) (b : Block) → ((first_place b).sheet ≡ n) ⊎ ((last_place b).sheet ≡ n) → b.sheet ≡ n
block-sheet n b (inl e) = e
block-sheet n b (inr e) = e

area_at-sheet : (d : Direction) (s : Shift) (n : ℕ) (lines : Option Axis) (c e : Corner) (r : Option Block) → area_in d s lines (block_of c e) ≡ r → HasSheet n (area_at lines c e r)
    → ComesTo d s n (shaped lines c e)
area_at-sheet d s n None c e (Some b) f h = (c.at.sheet, inl refl, subst (LeadsIn d s c.at.sheet) (block-sheet n b h) (area_in-leads d s None (block_of c e) b f))
area_at-sheet d s n (Some axis) c e (Some b) f h = (c.at.sheet, inl refl, subst (LeadsIn d s c.at.sheet) (block-sheet n b h) (area_in-leads d s (Some axis) (block_of c e) b f))
area_at-sheet d s n lines c e None f h = absurd h

left-comes : (d : Direction) (s : Shift) (n : ℕ) (l r : Term Corner) → ComesTo d s n l → (m : ℕ) × (HasSheet m l ⊎ HasSheet m r) × LeadsIn d s m n
left-comes d s n l r w = (w.0, inl w.1, w.2)

right-comes : (d : Direction) (s : Shift) (n : ℕ) (l r : Term Corner) → ComesTo d s n r → (m : ℕ) × (HasSheet m l ⊎ HasSheet m r) × LeadsIn d s m n
right-comes d s n l r w = (w.0, inr w.1, w.2)

first-comes : (d : Direction) (s : Shift) (n : ℕ) (t : Term Corner) (ts : Terms Corner) → ComesTo d s n t → SomeComesTo d s n (term t ts)
first-comes d s n t ts w = (w.0, inl w.1, w.2)

others-come : (d : Direction) (s : Shift) (n : ℕ) (t : Term Corner) (ts : Terms Corner) → SomeComesTo d s n ts → SomeComesTo d s n (term t ts)
others-come d s n t ts w = (w.0, inr w.1, w.2)

mutual
  pub tree_in-sheet : (d : Direction) (s : Shift) (n : ℕ) (t : Term Corner) → HasSheet n (tree_in d s t) → ComesTo d s n t
  tree_in-sheet d s n (number m) h = absurd h
  tree_in-sheet d s n (text w) h = absurd h
  tree_in-sheet d s n (truth b) h = absurd h
  tree_in-sheet d s n (fault k) h = absurd h
  tree_in-sheet d s n (cell c) h = cell_at-sheet d s n c (place_in d s c.at) refl h
  tree_in-sheet d s n (area c e) h = area_at-sheet d s n None c e (area_in d s None (block_of c e)) refl h
  tree_in-sheet d s n (whole axis c e) h = area_at-sheet d s n (Some axis) c e (area_in d s (Some axis) (block_of c e)) refl h
  tree_in-sheet d s n (name w) h = absurd h
  tree_in-sheet d s n (prefix o t) h = tree_in-sheet d s n t h
  tree_in-sheet d s n (percent t) h = tree_in-sheet d s n t h
  tree_in-sheet d s n (binary o l r) (inl h) = left-comes d s n l r (tree_in-sheet d s n l h)
  tree_in-sheet d s n (binary o l r) (inr h) = right-comes d s n l r (tree_in-sheet d s n r h)
  tree_in-sheet d s n (call w ts) h = all_in-sheet d s n ts h
  tree_in-sheet d s n (paren t) h = tree_in-sheet d s n t h

  all_in-sheet : (d : Direction) (s : Shift) (n : ℕ) (ts : Terms Corner)
      → SomeHasSheet n (all_in d s ts) → SomeComesTo d s n ts
  all_in-sheet d s n no_terms h = absurd h
  all_in-sheet d s n (term t ts) (inl h) = first-comes d s n t ts (tree_in-sheet d s n t h)
  all_in-sheet d s n (term t ts) (inr h) = others-come d s n t ts (all_in-sheet d s n ts h)

-- where a sheet of the tree after an operation comes from
pub rewritten-sheet : (s : Shift) (t : Term Corner) (n : ℕ) → HasSheet n (rewritten s t) → (before : ℕ) × HasSheet before t × Leads s before n
rewritten-sheet s t n h = tree_in-sheet Forward s n t h
