-- What an operation that isn't refused is: a structural one is sound. Serves the laws of sessions, and the engine.
use Rattle.std.proofs.Common.{◌≡◌, ◌∙◌, ◌++◌, sym, ap, refl, arith, inl, inr, ℕ, ◌≤◌, ◌<◌, ◌+◌, ◌==◌, ◌&&◌, ◌||◌, nat_lt, Bool, true, false, cond, not, List, [], ◌∷◌, Option, Some, None}
use Rattle.std.specs.Prelude.{nat_le, ◌⊎◌, ⊤}
use Rattle.std.proofs.lemmas.Bool.{cases_lt}
use Rattle.std.proofs.lemmas.Bool.Decides.{nat_tests}
use Rattle.cell_addr.specs.Axis.{limit_of}
use Rattle.cell_addr.specs.Place.{IsInside, IsBlockInside, same_block}
use Rattle.cell_addr.specs.declared.place.Place.{Place}
use Rattle.cell_addr.specs.declared.place.Block.{Block}
use Rattle.shift_core.specs.Carried.{destination}
use Rattle.shift_core.specs.Lines.{IsSoundEdit}
use Rattle.shift_core.specs.Sound.{IsSoundForm}
use Rattle.shift_core.specs.declared.edit.Edit.{Edit}
use Rattle.shift_core.specs.declared.edit.Edit.TheVariants as edit
use Rattle.shift_core.specs.declared.form.Form.{Form}
use Rattle.shift_core.specs.declared.form.Form.TheVariants as form
use Rattle.book_model.specs.Workbook.{State, has_sheet}
use Rattle.book_model.specs.Refusals.{Cause, first_cause, is_outside, is_block_outside, of_edit, of_form}
use Rattle.book_model.specs.declared.refusal.Refusal.{Refusal}
use Rattle.book_model.specs.declared.refusal.Refusal.TheVariants.{NoSheet}
use Rattle.book_model.proofs.ShiftedBooks.{LeadsToKnown}

-- none of the causes holds
abbrev pub NoneHold : List Cause → Type 0
NoneHold [] = ⊤
NoneHold (c ∷ cs) = (c.0 ≡ false) × NoneHold cs

none_first : (b : Bool) (r : Refusal) (found : Option Refusal) → cond b (Some r) found ≡ None → (b ≡ false) × (found ≡ None)
none_first true r found e = cc
none_first false r found e = (refl, e)

-- where no cause is found, none holds
pub none_hold : (cs : List Cause) → first_cause cs ≡ None → NoneHold cs
none_hold [] e = tt
none_hold (c ∷ cs) e = let h = none_first c.0 c.1 (first_cause cs) e in (h.0, none_hold cs h.1)

-- nor any of two parts
pub none_in : (cs ds : List Cause) → first_cause (cs ++ ds) ≡ None → (first_cause cs ≡ None) × (first_cause ds ≡ None)
none_in [] ds e = (refl, e)
none_in (c ∷ cs) ds e =
    let h = none_first c.0 c.1 (first_cause (cs ++ ds)) e in
    let k = none_in cs ds h.1 in
    (ap (λ b. cond b (Some c.1) (first_cause cs)) h.0 ∙ k.0, k.1)

pub is_known : (b : Bool) → not b ≡ false → b ≡ true
is_known true e = refl
is_known false e = cc

both_known : (b c : Bool) → not (b && c) ≡ false → c ≡ true
both_known true c e = is_known c e
both_known false c e = cc

pub is_inside : (p : Place) → is_outside p ≡ false → IsInside p
is_inside p e = grind (arith, nat_tests)

pub is_block_inside : (b : Block) → is_block_outside b ≡ false → IsBlockInside b
is_block_inside b e = grind (arith, nat_tests)

same_is : (b c : Block) → b ≡ c → same_block b c ≡ true
same_is b c e = rw (sym e) (itself b)
  where
    itself : (b : Block) → same_block b b ≡ true
    itself b = grind (arith, nat_tests)

neither : (b c : Bool) → b || c ≡ false → (b ≡ false) × (c ≡ false)
neither true c e = cc
neither false c e = (refl, e)

sound_edit : (d : State) (f : Form) (change : Edit) (limit : ℕ) → first_cause (of_edit d f change limit) ≡ None → IsSoundEdit limit change
sound_edit d f (edit.Insert at count) limit e =
    let h = none_hold (of_edit d f (edit.Insert at count) limit) e in
    (positive count h.0, below limit at h.1.0)
  where
    positive : (n : ℕ) → (n == 0) ≡ false → 0 < n
    positive n h = grind (arith, nat_tests)

    below : (n m : ℕ) → nat_le n m ≡ false → m < n
    below n m h = grind (arith, nat_tests)
sound_edit d f (edit.Delete at count) limit e =
    let h = none_hold (of_edit d f (edit.Delete at count) limit) e in
    (positive count h.0, within limit (at + count) h.1.0)
  where
    positive : (n : ℕ) → (n == 0) ≡ false → 0 < n
    positive n h = grind (arith, nat_tests)

    within : (n m : ℕ) → nat_lt n m ≡ false → m ≤ n
    within n m h = grind (arith, nat_tests)
sound_edit d f (edit.Move from count before) limit e =
    let h = none_hold (of_edit d f (edit.Move from count before) limit) e in
    let both = neither (nat_lt limit (from + count)) (nat_lt limit before) h.1.0 in
    (positive count h.0, within limit (from + count) both.0, within limit before both.1, outside from count before h.1.1.0)
  where
    positive : (n : ℕ) → (n == 0) ≡ false → 0 < n
    positive n h = grind (arith, nat_tests)

    within : (n m : ℕ) → nat_lt n m ≡ false → m ≤ n
    within n m h = grind (arith, nat_tests)

    outside : (from count before : ℕ) → nat_le from before && nat_le before (from + count) ≡ false → (before < from) ⊎ (from + count < before)
    outside from count before h = elim (cases_lt before from) [ inl l ↦ inl l | inr l ↦ inr (grind (arith, nat_tests)) ]

-- a structural operation for which no cause holds is sound
pub sound_form : (d : State) (f : Form) → first_cause (of_form d f) ≡ None → IsSoundForm f × LeadsToKnown f d.book
sound_form d (form.Lines sheet axis change) e = (sound_edit d (form.Lines sheet axis change) change (limit_of axis) (none_first (not (has_sheet d.book sheet)) NoSheet (first_cause (of_edit d (form.Lines sheet axis change) change (limit_of axis))) e).1, tt)
sound_form d (form.Cells source to) e =
    let h = none_hold (of_form d (form.Cells source to)) e in
    let both = neither (is_block_outside source) (is_block_outside (destination source to)) h.1.0 in
    ((is_block_inside source both.0, is_block_inside (destination source to) both.1, λ same. let t = same_is source (destination source to) same in let f = h.1.1.0 in cc), both_known (has_sheet d.book source.sheet) (has_sheet d.book to.sheet) h.0)
sound_form d (form.Sheet sheet) e = (tt, tt)
