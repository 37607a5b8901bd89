-- What the limits of a sheet are: the few facts that rest on their numbers.
use Rattle.std.proofs.Common.{◌≡◌, refl, arith, ◌+◌, ◌*◌, ◌^◌, ◌<◌}
use Rattle.cell_addr.specs.declared.place.TheConstants.{ROWS, COLS}

-- the columns are those of one letter, of two and of three
pub COLS-letters : COLS ≡ 26 + 26 * 26 + 26 * 26 * 26
COLS-letters = refl

-- a row's number has seven digits at most
pub ROWS-digits : ROWS < 10 ^ 7
ROWS-digits = omega arith

pub ROWS-positive : 0 < ROWS
ROWS-positive = omega arith

pub COLS-positive : 0 < COLS
COLS-positive = omega arith

pub ROWS-fits : ROWS < 2 ^ 31
ROWS-fits = omega arith

pub COLS-fits : COLS < 2 ^ 31
COLS-fits = omega arith
