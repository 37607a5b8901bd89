-- What goes along with a formula. Source: this project's own.
use Rattle.std.specs.Prelude.{◌≡◌, ⊤, ℕ, Bool, true, false, ◌&&◌, ◌||◌, List, codes, bytes_eq, Option, Some, None}
use Rattle.cell_addr.specs.declared.axis.Axis.{Axis}
use Rattle.cell_addr.specs.declared.place.Block.{Block}
use Rattle.cell_addr.specs.declared.place.Place.{Place}
use Rattle.cell_addr.specs.Place.{Covers, height, width}
use Rattle.cell_addr.specs.Whole.{whole_block, whole_of}
use Rattle.cell_value.specs.declared.scalar.Scalar.{Scalar}
use Rattle.formula_tree.specs.Links.{is_place_word}
use Rattle.formula_tree.specs.Reference.{block_of, sheet_of}
use Rattle.formula_tree.specs.Term.{Term, cell, area, whole, name, prefix, percent, binary, call, paren, Terms, no_terms, term, is_reference}
use Rattle.formula_tree.specs.declared.reference.Corner.{Corner}
use Rattle.formula_tree.specs.declared.reference.Home.{Home}
use Rattle.shift_core.specs.Carried.{carried_place, first_place}
use Rattle.tree_rewrite.specs.Rewritten.{placed_by}
use Rattle.calc_terms.specs.Cells.{cells_in, fits}
use Rattle.calc_terms.specs.References.{own_reference}
use Rattle.calc_terms.specs.World.{Named, World}
use Rattle.calc_terms.specs.declared.reference.Reference.{Reference}
use Rattle.calc_terms.specs.declared.reference.Reference.TheVariants as reference

-- a formula goes from one home to another: rules say where places go, and blocks and whole ranges, and worlds what is
-- shown before and after
pub record Passage : Type 0 where
  pub place : Place → Option Place
  pub area : Option Axis → Block → Option Block
  pub old : World
  pub new : World
  pub from : Home
  pub to : Home

-- the formula's tree after the passage
abbrev pub passed : Passage → Term Corner → Term Corner
passed x = placed_by x.place x.area

-- the block that functions see: that of a whole range reaches from one end of the sheet to the other
abbrev pub seen_block : Option Axis → Block → Block
seen_block None b = b
seen_block (Some axis) b = whole_block (whole_of axis b)

-- two cells, or blocks of as many rows and columns
abbrev pub SizesAgree : Reference → Reference → Type 0
SizesAgree (reference.Cell p) (reference.Cell q) = ⊤
SizesAgree (reference.Area b) (reference.Area c) = (height b ≡ height c) × (width b ≡ width c)
SizesAgree _ _ = ⊥

-- they show the same before and after
abbrev pub CellsAgree : Passage → Reference → Reference → Type 0
CellsAgree x (reference.Cell p) (reference.Cell q) = x.old.shown p ≡ x.new.shown q
CellsAgree x (reference.Area b) (reference.Area c) = cells_in x.old.shown b ≡ cells_in x.new.shown c
CellsAgree x _ _ = ⊥

-- both stand for no reference, or for two that agree
abbrev pub ReferencesAgree : Passage → Option Reference → Option Reference → Type 0
ReferencesAgree x (Some r) (Some q) = CellsAgree x r q
ReferencesAgree x None None = ⊤
ReferencesAgree x _ _ = ⊥

-- a word finds no name before and after, or names of one value that stand for references that agree
abbrev pub NamesAgree : Passage → Option Named → Option Named → Type 0
NamesAgree x (Some m) (Some n) = (m.value ≡ n.value) × ReferencesAgree x (own_reference m.tree) (own_reference n.tree)
NamesAgree x None None = ⊤
NamesAgree x _ _ = ⊥

-- a reference isn't lost, and where it goes agrees with it
abbrev pub CellGoes : Passage → (Reference → Reference → Type 0) → Corner → Type 0
CellGoes x Agree c = (q : Place) × (x.place c.at ≡ Some q) × Agree (reference.Cell c.at) (reference.Cell q)

-- likewise a block, or the block of a whole range; it lies within the limits of a sheet where it did before
abbrev pub AreaGoes : Passage → (Reference → Reference → Type 0) → Option Axis → Corner → Corner → Type 0
AreaGoes x Agree lines c d =
    (b : Block) × (x.area lines (block_of c d) ≡ Some b) × (fits (seen_block lines (block_of c d)) ≡ fits (seen_block lines b))
    × Agree (reference.Area (seen_block lines (block_of c d))) (reference.Area (seen_block lines b))

-- a tree that is a reference keeps its size
abbrev pub SizeGoes : Passage → Term Corner → Type 0
SizeGoes x (cell c) = CellGoes x SizesAgree c
SizeGoes x (area c d) = AreaGoes x SizesAgree None c d
SizeGoes x (whole axis c d) = AreaGoes x SizesAgree (Some axis) c d
SizeGoes x t = ⊤

-- the word of a function that asks where a cell stands
abbrev pub asks_where : List ℕ → Bool
asks_where w = bytes_eq w (codes "ROW") || bytes_eq w (codes "COLUMN")

abbrev mutual
  -- all that a formula's tree refers to goes along: each reference, block and whole range shows the same where it is
  -- then, each word finds what it found, and nothing asks where a cell stands. Of an argument of ROWS or COLUMNS that is
  -- a reference, a block or a whole range the size alone counts
  pub GoesAlong : Passage → Term Corner → Type 0
  GoesAlong x (cell c) = CellGoes x (CellsAgree x) c
  GoesAlong x (area c d) = AreaGoes x (CellsAgree x) None c d
  GoesAlong x (whole axis c d) = AreaGoes x (CellsAgree x) (Some axis) c d
  GoesAlong x (name word) = NamesAgree x (x.old.named word (sheet_of x.from)) (x.new.named word (sheet_of x.to))
  GoesAlong x (prefix s t) = GoesAlong x t
  GoesAlong x (percent t) = GoesAlong x t
  GoesAlong x (binary o l r) = GoesAlong x l × GoesAlong x r
  GoesAlong x (call word ts) = (asks_where word ≡ false) × AllGoAlong x (is_place_word word) ts
  GoesAlong x (paren t) = GoesAlong x t
  GoesAlong x t = ⊤

  -- so do the arguments of a call, where those that are references are asked for their sizes or not
  pub AllGoAlong : Passage → Bool → Terms Corner → Type 0
  AllGoAlong x sized no_terms = ⊤
  AllGoAlong x sized (term t ts) =
      ((sized && is_reference t) ≡ true → SizeGoes x t) × ((sized && is_reference t) ≡ false → GoesAlong x t)
      × AllGoAlong x sized ts

-- each place of the first block shows what the place with the same offset in the second one does
abbrev pub ShowsAlong : (Place → Scalar) → (Place → Scalar) → Block → Block → Type 0
ShowsAlong v w b c = (p : Place) → Covers b p → v p ≡ w (carried_place b (first_place c) p)
