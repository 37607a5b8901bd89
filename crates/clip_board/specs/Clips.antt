-- What waits to be pasted. Source: HyperFormula's guide for copies and cuts, and this project's own for when a cut ends.
use Rattle.std.specs.Prelude.{List}
use Rattle.cell_addr.specs.declared.place.Place.{Place}
use Rattle.clip_board.specs.declared.clip.Clip.{Clip}
use Rattle.clip_board.specs.declared.clip.Clip.TheVariants.{Nothing, Cut}
use Rattle.clip_board.specs.declared.clip.CopyItem.{CopyItem}
use Rattle.clip_board.specs.declared.clip.CopyList.{CopyList}

-- the places of a copy and what they held
abbrev pub items_of : CopyList → List (Place × CopyItem)
items_of l = l.list.items

-- a cut is ended, and a copy stays
abbrev pub without_cut : Clip → Clip
without_cut (Cut area) = Nothing
without_cut clip = clip
