-- Cells that a call marks before it changes them.
use Rattle.std.specs.Prelude.{◌≡◌, true, Option, is_some}
use Rattle.std.specs.FinMap as fin
use Rattle.cell_addr.specs.Place.{covers}
use Rattle.cell_addr.specs.declared.place.Block.{Block}
use Rattle.cell_addr.specs.declared.place.Place.{Place}
use Rattle.kept_steps.specs.Session.{state_of}
use Rattle.kept_steps.specs.declared.session.Session.{Session}
use Rattle.session_values.specs.KeptValues.{Values}
use Rattle.session_values.specs.Touched.{IsMarkedIn}

-- each filled cell of a block is marked
abbrev pub AreFilledMarked : Block → Session → Option Values → Type 0
AreFilledMarked area s values = (p : Place) → covers area p ≡ true → is_some (fin.get (state_of s).book.cells p) ≡ true → IsMarkedIn values p
