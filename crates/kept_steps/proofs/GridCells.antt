-- The cells of a grid are on the sheets. Serves the steps of a session.
use Rattle.grid_store.proofs.KeyPlaces.{inside_key}
use Rattle.grid_store.proofs.Views.{key_of_seen}
use Rattle.grid_store.specs.Grid.{cells_of}
use Rattle.grid_store.specs.declared.cell.Cell.{Cell}
use Rattle.grid_store.specs.declared.grid.Grid.{Grid}
use Rattle.shift_core.specs.Maps.{AreInside}

pub grid-inside : (grid : Grid Cell) → AreInside (cells_of grid)
grid-inside grid p has = let key = key_of_seen grid.rows grid.cols grid.cells.entries p has in inside_key grid.rows grid.cols grid.rows_limit grid.cols_limit p key.0 key.1
