-- The ids that a workbook and the parts of steps list, and sets to which ids are added.
use Rattle.std.specs.Prelude.{◌≡◌, ◌||◌, ◌++◌, ℕ, Bool, false, List, [], ◌∷◌, Option, Some, None, is_some, nat_eq, nat_le, unwrap_or}
use Rattle.std.specs.HashSet.{HashSet, contains}
use Rattle.std.specs.List.{flat_map, list_any}
use Rattle.std.specs.Option.{option_to_list}
use Rattle.cell_addr.specs.declared.place.Place.{Place}
use Rattle.grid_store.specs.Grid.{items_of}
use Rattle.grid_store.specs.declared.cell.Cell.{Cell}
use Rattle.lazy_store.specs.Store.{at_in, position_in}
use Rattle.lazy_store.specs.declared.lazy.Lazy.{Lazy}
use Rattle.kept_book.specs.Change.{Change}
use Rattle.kept_book.specs.Kept.{id_of}
use Rattle.kept_book.specs.declared.part.NameChange.{NameChange}
use Rattle.kept_book.specs.declared.part.Part.{Part}
use Rattle.kept_steps.specs.Fits.{changes_in}
use Rattle.kept_steps.specs.declared.entry.Entry.{Entry}
use Rattle.kept_book.specs.declared.passing.Side.{Side}
use Rattle.kept_book.specs.declared.passing.Side.TheVariants.{Before, After}

-- the id is one of these
abbrev pub has : List ℕ → ℕ → Bool
has xs id = list_any (nat_eq id) xs

-- a set has these ids too, and no other new one
abbrev pub Adds : {S : Type 0} → List ℕ → HashSet ℕ S → HashSet ℕ S → Type 0
Adds xs old new = (id : ℕ) → contains nat_eq new id ≡ (contains nat_eq old id || has xs id)

-- the formula of a cell with its place
abbrev pub id_in : Place × Cell → List ℕ
id_in e = option_to_list (id_of (Some e.1))

-- the formula that a name had before a change, or has after it
abbrev pub id_on : Side → NameChange → Option ℕ
id_on Before c = c.before
id_on After c = c.after

-- the cells that a part replaced, or those that it wrote
abbrev pub cells_on : Side → Part → List (Place × Cell)
cells_on Before p = items_of p.replaced
cells_on After p = items_of p.written

-- the formulas that a part lists on one side
abbrev pub ids_on : Side → Part → List ℕ
ids_on side p = flat_map id_in (cells_on side p) ++ flat_map (λ c. option_to_list (id_on side c)) p.names.items

-- and all parts of a step
abbrev pub ids_of_step : Side → Entry → List ℕ
ids_of_step side e = flat_map (ids_on side) e.parts.items

-- what the open batch replaced so far, where one is open
abbrev pub ids_open : Option Entry → List ℕ
ids_open None = []
ids_open (Some e) = ids_of_step Before e

-- the position before the first of some changes
abbrev pub first_from : List Change → Option ℕ
first_from [] = None
first_from (c ∷ cs) = Some c.from

-- the position before the first of all steps, the oldest step first; this one where there is none
abbrev pub rests_on : List Entry → ℕ → ℕ
rests_on [] p = p
rests_on (e ∷ es) p = unwrap_or (first_from (changes_in e)) (rests_on es p)

-- the position is from this one on
abbrev pub is_from : ℕ → Option ℕ → Bool
is_from k None = false
is_from k (Some p) = nat_le k p

-- a formula is kept as of the position or a later one, or it has a standing there
abbrev pub goes_on : Lazy → ℕ → ℕ → Bool
goes_on store k id = is_from k (position_in store id) || is_some (at_in store id k)
