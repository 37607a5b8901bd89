-- Which cells and blocks a structural operation touches: all others it carries along as they are. Source: this project's own.
use Rattle.std.specs.Prelude.{◌≡◌, ◌⊎◌, None, IsTrue}
use Rattle.cell_addr.specs.Place.{covers}
use Rattle.cell_addr.specs.declared.place.Block.{Block}
use Rattle.cell_addr.specs.declared.place.Place.{Place}
use Rattle.shift_core.specs.Bent.{BendsBlock, CutsBlock}
use Rattle.shift_core.specs.Carried.{contains}
use Rattle.shift_core.specs.Tables.{place_moved}
use Rattle.shift_core.specs.declared.form.Form.{Form}
use Rattle.shift_core.specs.declared.form.Form.TheVariants.{Cells}

-- the cell is one of those that are moved
abbrev pub TakesCell : Form → Place → Type 0
TakesCell (Cells source to) p = IsTrue (covers source p)
TakesCell _ p = ⊥

-- the whole block is among the cells that are moved
abbrev pub TakesBlock : Form → Block → Type 0
TakesBlock (Cells source to) b = IsTrue (contains source b)
TakesBlock _ b = ⊥

-- the cell is lost, or taken along with moved cells
abbrev pub TouchesCell : Form → Place → Type 0
TouchesCell f p = (place_moved f p ≡ None) ⊎ TakesCell f p

-- the block is lost, its size changes, lines in it are displaced, it is cut at the sheet's end, or taken along with moved cells
abbrev pub TouchesBlock : Form → Block → Type 0
TouchesBlock f b = BendsBlock f b ⊎ (CutsBlock f b ⊎ TakesBlock f b)
