-- The words of a table's names. Serves the tests of refusals, and links.
use Rattle.std.proofs.Common.{◌≡◌, ◌∙◌, sym, ℕ, List, Option, Some, None, is_some, refl, option_map}
use Rattle.std.proofs.lemmas.Option.{same_Some}
use Rattle.std.specs.Prelude.{slice_get}
use Rattle.cell_addr.specs.Text.{folded}
use Rattle.name_table.proofs.WordNumbers.{number-spelled, spelled-number}
use Rattle.name_table.specs.Words.{AreWords}
use Rattle.kept_book.specs.Frame.{Words}

-- a known word is in small letters
pub small-word : (words : Words) (w : List ℕ) (n : ℕ) → AreWords words → slice_get words n ≡ Some w → folded w ≡ w
small-word words w n h e = same_Some (folded w) w (sym (number-spelled words w n h (spelled-number words w n h e)) ∙ e)

pub is_some-read : {X Y : Type 0} (f : X → Y) (o : Option X) → is_some (option_map f o) ≡ is_some o
is_some-read f None = refl
is_some-read f (Some x) = refl
