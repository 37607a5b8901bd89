-- A list of commands of any size: a column of numbers, the sums from its top to each row, and rows put in and taken out
-- that are undone again. Source: this project's own.
use Rattle.std.specs.Prelude.{ℕ, zero, suc, ◌-◌, ◌*◌, ◌/◌, ◌%◌, List, [], ◌∷◌, ◌++◌, codes}
use Rattle.std.specs.Fmt.{decimal}
use Rattle.cell_addr.specs.Address.{spot_at}
use Rattle.cell_addr.specs.declared.spot.Spot.{Spot}
use Rattle.script_lang.specs.declared.commands.Command.{Command}
use Rattle.script_lang.specs.declared.commands.Command.TheVariants.{Set, InsertRows, DeleteRows, Undo, Value, Formula}

-- the cells of row i, counted from 1
abbrev pub in_a : ℕ → Spot
in_a i = spot_at (i - 1, 0)

abbrev pub in_b : ℕ → Spot
in_b i = spot_at (i - 1, 1)

-- row i gets a number, and the sum of all numbers down to it
abbrev pub row_commands : ℕ → List Command
row_commands i =
    Set (in_a i) (decimal (37 * i % 101))
    ∷ Set (in_b i) (codes "=SUM($A$1:A" ++ decimal i ++ codes ")")
    ∷ []

-- the last sum of n is asked for, and a step undone
abbrev pub asked : ℕ → List Command
asked n = Value (in_b n) ∷ Undo ∷ []

-- in a list of n rows a row is put in, and then one is taken out, both of which are undone
abbrev pub edit_commands : ℕ → ℕ → List Command
edit_commands n j = InsertRows (codes "Sheet1") (13 * j % n) 1 ∷ asked n ++ DeleteRows (codes "Sheet1") (13 * j % n) 1 ∷ asked n

-- the commands of 1, then those of 2, and so on up to n
unfoldable pub for_each : (ℕ → List Command) → ℕ → List Command
for_each f zero = []
for_each f (suc n) = for_each f n ++ f (suc n)

-- the list of size n
abbrev pub generated : ℕ → List Command
generated n = for_each row_commands n ++ for_each (edit_commands n) (n / 100) ++ Value (in_b n) ∷ Formula (in_b n) ∷ []
