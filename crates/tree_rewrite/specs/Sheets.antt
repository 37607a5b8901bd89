-- The sheets of a tree's references, and where a structural operation may take references from one sheet to
-- another. Source: this project's own.
use Rattle.std.specs.Prelude.{◌≡◌, ◌≢◌, ◌⊎◌, ℕ}
use Rattle.formula_tree.specs.Term.{Term, cell, area, whole, prefix, percent, binary, call, paren, Terms, no_terms, term}
use Rattle.formula_tree.specs.declared.reference.Corner.{Corner}
use Rattle.shift_core.specs.Form.{form_of}
use Rattle.shift_core.specs.declared.form.Form.{Form}
use Rattle.shift_core.specs.declared.form.Form.TheVariants.{Lines, Cells, Sheet}
use Rattle.shift_core.specs.declared.shift.Shift.{Shift}

abbrev mutual
  -- a reference of the tree is on the sheet, or a corner of a block or of a whole range
  pub HasSheet : ℕ → Term Corner → Type 0
  HasSheet sheet (cell c) = c.at.sheet ≡ sheet
  HasSheet sheet (area c d) = (c.at.sheet ≡ sheet) ⊎ (d.at.sheet ≡ sheet)
  HasSheet sheet (whole axis c d) = (c.at.sheet ≡ sheet) ⊎ (d.at.sheet ≡ sheet)
  HasSheet sheet (prefix s t) = HasSheet sheet t
  HasSheet sheet (percent t) = HasSheet sheet t
  HasSheet sheet (binary o l r) = HasSheet sheet l ⊎ HasSheet sheet r
  HasSheet sheet (call w ts) = SomeHasSheet sheet ts
  HasSheet sheet (paren t) = HasSheet sheet t
  HasSheet sheet t = ⊥

  pub SomeHasSheet : ℕ → Terms Corner → Type 0
  SomeHasSheet sheet no_terms = ⊥
  SomeHasSheet sheet (term t ts) = HasSheet sheet t ⊎ SomeHasSheet sheet ts

-- what was on the first sheet may be on the second one after an operation of the form: a reference stays on its
-- sheet, or follows a moved block of cells to another one; of a dropped sheet none is left
abbrev pub LeadsOnForm : Form → ℕ → ℕ → Type 0
LeadsOnForm (Lines sheet axis edit) before after = after ≡ before
LeadsOnForm (Cells source to) before after = (after ≡ before) ⊎ ((before ≡ source.sheet) × (after ≡ to.sheet))
LeadsOnForm (Sheet sheet) before after = (after ≡ before) × (before ≢ sheet)

-- the same of an operation
abbrev pub Leads : Shift → ℕ → ℕ → Type 0
Leads s before after = LeadsOnForm (form_of s) before after
