-- The references, blocks and whole ranges of a tree. Source: this project's own.
use Rattle.std.specs.Prelude.{Option, Some, None}
use Rattle.cell_addr.specs.declared.axis.Axis.{Axis}
use Rattle.cell_addr.specs.Place.{IsInside, IsBlockInside}
use Rattle.formula_tree.specs.Reference.{block_of}
use Rattle.formula_tree.specs.Term.{Term, cell, area, whole, prefix, percent, binary, call, paren, Terms, no_terms, term}
use Rattle.formula_tree.specs.declared.reference.Corner.{Corner}

abbrev mutual
  -- each reference of the tree passes a test, and each block, or whole range along an axis, another one
  pub EachReference : {R : Type 0} → (R → Type 0) → (Option Axis → R → R → Type 0) → Term R → Type 0
  EachReference P Q (cell r) = P r
  EachReference P Q (area r q) = Q None r q
  EachReference P Q (whole axis r q) = Q (Some axis) r q
  EachReference P Q (prefix s t) = EachReference P Q t
  EachReference P Q (percent t) = EachReference P Q t
  EachReference P Q (binary o l r) = EachReference P Q l × EachReference P Q r
  EachReference P Q (call w ts) = EachReferenceOfAll P Q ts
  EachReference P Q (paren t) = EachReference P Q t
  EachReference P Q t = Unit {0}

  pub EachReferenceOfAll : {R : Type 0} → (R → Type 0) → (Option Axis → R → R → Type 0) → Terms R → Type 0
  EachReferenceOfAll P Q no_terms = Unit {0}
  EachReferenceOfAll P Q (term t ts) = EachReference P Q t × EachReferenceOfAll P Q ts

-- a reference within the limits of a sheet
abbrev pub IsReferenceInside : Corner → Type 0
IsReferenceInside c = IsInside c.at

-- a block within the limits of a sheet, its ends in order; a whole range as its block
abbrev pub IsAreaInside : Option Axis → Corner → Corner → Type 0
IsAreaInside lines c d = IsBlockInside (block_of c d)

-- each reference, each block and each whole range of the tree lies within the limits of a sheet
abbrev pub FitsSheets : Term Corner → Type 0
FitsSheets = EachReference IsReferenceInside IsAreaInside
