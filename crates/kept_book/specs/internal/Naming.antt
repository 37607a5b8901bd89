-- What comes under an id as a name gets a tree, and what a change of one sheet says.
use Rattle.std.specs.Prelude.{◌≡◌, ℕ, ◌<◌, [], ◌∷◌, Option, Some, option_map}
use Rattle.std.specs.declared.alloc.Global.{Global}
use Rattle.std.specs.declared.rc.Rc.{Rc}
use Rattle.formula_tree.specs.Relative.{relative}
use Rattle.formula_tree.specs.declared.node.Node.{Node}
use Rattle.formula_tree.specs.declared.reference.Home.TheVariants as homes
use Rattle.lazy_store.specs.Kept.{fresh}
use Rattle.lazy_store.specs.Store.{kept_in}
use Rattle.lazy_store.specs.declared.lazy.Lazy.{Lazy}
use Rattle.book_values.specs.Workbook.{scope_sheet}
use Rattle.kept_book.specs.Change.{Change}
use Rattle.kept_book.specs.Kept.{sheet_change}
use Rattle.kept_book.specs.declared.part.SheetChange.{SheetChange}

-- under the next id comes the formula of a name, if it gets one, and all others stay
pub record Gives (n : ℕ) (scope : Option ℕ) (tree : Option (Rc Node Global)) (id : Option ℕ) (old new : Lazy) : Type 0 where
  pub given : id ≡ option_map (λ t. n) tree
  pub below : (k : ℕ) → k < n → kept_in new k ≡ kept_in old k
  pub here : (t : Rc Node Global) → tree ≡ Some t → kept_in new n ≡ Some (fresh old.line.cursor (homes.Name (scope_sheet scope)) (relative t.value))

-- a change at a position that lists one sheet alone
abbrev pub sheet_changed : ℕ → SheetChange → Change
sheet_changed position c = record { from = position; to = position; replaced = []; written = []; names = []; sheets = sheet_change c ∷ [] }
