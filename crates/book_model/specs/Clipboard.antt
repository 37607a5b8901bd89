-- What waits to be pasted. Source: HyperFormula's guide for copies and cuts, and this project's own for the exact rules.
use Rattle.std.specs.FinMap as map
use Rattle.cell_addr.specs.Place.{covers}
use Rattle.cell_addr.specs.declared.place.Block.{Block}
use Rattle.book_values.specs.Book.{Book as Contents}

-- nothing, a copied block with what its cells held at the copy, or a cut block, which moves where it is pasted
pub data Clipboard : Type 0 where
  nothing : Clipboard
  copied : Block → Contents → Clipboard
  moving : Block → Clipboard

-- a block is copied from cells
abbrev pub copy_of : Block → Contents → Clipboard
copy_of area cells = copied area (map.retain_keys cells (covers area))

-- a pending cut ends, and a copy stays
abbrev pub without_cut : Clipboard → Clipboard
without_cut (moving area) = nothing
without_cut clip = clip
