-- What is left of a sheet's lists.
use Rattle.std.specs.Prelude.{◌≡◌, ℕ, List, Option, drop}
use Rattle.cell_addr.specs.Axis.{span_of}
use Rattle.cell_addr.specs.declared.axis.Axis.{Axis}
use Rattle.cell_addr.specs.declared.axis.Axis.TheVariants.{Rows, Cols}
use Rattle.cell_addr.specs.declared.place.Block.{Block}
use Rattle.cell_addr.specs.declared.place.Place.{Place}
use Rattle.cell_addr.specs.declared.place.TheConstants.{ROWS, COLS}
use Rattle.shift_core.specs.declared.shift.Shift.{Shift}
use Rattle.sheet_shifts.specs.Listed.{listed}
use Rattle.sheet_shifts.specs.Met.{col_edit, other, row_edit}
use Rattle.sheet_shifts.specs.declared.left.Left.{Left}
use Rattle.sheet_shifts.specs.internal.Going.{AreSoundEdits, CarriesEnds, TakesLine, Walks, is_left}

-- the sheet's lists from the index on are left
pub record IsLeft (run : List Shift) (sheet index : ℕ) (left : Left) : Type 0 where
  pub rows : left.rows.now ≡ listed (row_edit sheet) index (drop index run)
  pub cols : left.cols.now ≡ listed (col_edit sheet) index (drop index run)
  pub others : left.others.now ≡ listed (other sheet) index (drop index run)

-- the edits that are left are sound
abbrev pub AreSoundLeft : Left → Type 0
AreSoundLeft left = AreSoundEdits ROWS left.rows.now × AreSoundEdits COLS left.cols.now

-- the edits in front of the index take the place from here to there, and the rest is left
pub record WalksPlace (to : ℕ) (left : Left) (p q : Place) (rest : Left) : Type 0 where
  pub rows : Walks (TakesLine ROWS) to left.rows.now p.row q.row rest.rows.now
  pub cols : Walks (TakesLine COLS) to left.cols.now p.col q.col rest.cols.now
  pub sheet : q.sheet ≡ p.sheet
  pub others : rest.others.now ≡ left.others.now

-- they take the block, or the whole range as its block, from here to there, each giving it back
pub record WalksArea (lines : Option Axis) (to : ℕ) (left : Left) (b c : Block) (rest : Left) : Type 0 where
  pub rows : Walks (CarriesEnds (is_left lines Rows) ROWS) to left.rows.now (span_of Rows b) (span_of Rows c) rest.rows.now
  pub cols : Walks (CarriesEnds (is_left lines Cols) COLS) to left.cols.now (span_of Cols b) (span_of Cols c) rest.cols.now
  pub sheet : c.sheet ≡ b.sheet
  pub others : rest.others.now ≡ left.others.now
