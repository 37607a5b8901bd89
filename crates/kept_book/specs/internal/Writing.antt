-- Cells that are replaced and given something else, and formulas that come under new ids.
use Rattle.std.specs.Prelude.{◌≡◌, ℕ, ◌+◌, ◌==◌, ◌<◌, ◌≤◌, true, if◌then◌else◌, List, [], ◌∷◌, Option, Some, None, IsSome, option_map}
use Rattle.std.specs.FinMap as fin
use Rattle.std.specs.declared.alloc.Global.{Global}
use Rattle.std.specs.declared.rc.Rc.{Rc}
use Rattle.cell_addr.specs.Order.{place_cmp}
use Rattle.cell_addr.specs.Place.{IsInside}
use Rattle.cell_addr.specs.declared.place.Place.{Place}
use Rattle.formula_tree.specs.Relative.{relative}
use Rattle.formula_tree.specs.declared.node.Node.{Node}
use Rattle.formula_tree.specs.declared.reference.Home.TheVariants as homes
use Rattle.grid_store.specs.declared.cell.Cell.{Cell}
use Rattle.grid_store.specs.internal.Exchange.{is_among}
use Rattle.lazy_store.specs.Kept.{Kept, fresh}
use Rattle.lazy_store.specs.Store.{kept_in}
use Rattle.lazy_store.specs.declared.lazy.Lazy.{Lazy}
use Rattle.shift_core.specs.Maps.{PlaceMap}
use Rattle.tree_rewrite.specs.References.{FitsSheets}
use Rattle.kept_book.specs.Formula.{tree_at}

-- what is listed as replaced stands at its place, and what stands at a place that is given something is listed
pub record AreReplaced (m : PlaceMap Cell) (replaced : List (Place × Cell)) (given : List Place) : Type 0 where
  pub listed : (q : Place) → IsSome (fin.find place_cmp q replaced) → fin.find place_cmp q replaced ≡ fin.get m q
  pub there : (q : Place) → is_among given q ≡ true → fin.find place_cmp q replaced ≡ fin.get m q

-- the formula stands in a cell within the limits of a sheet, and so do all places of its tree
abbrev pub CanStand : Place × Rc Node Global → Type 0
CanStand f = IsInside f.0 × FitsSheets (tree_at f.0 f.1)

-- what comes under an id, of formulas under ids from the first one on
abbrev pub under_id : ℕ → List (Place × Rc Node Global) → ℕ → Option (Place × Rc Node Global)
under_id n [] id = None
under_id n (f ∷ fs) id = if id == n then Some f else under_id (n + 1) fs id

-- a formula that comes to a cell at the position
abbrev pub fresh_at : ℕ → Place × Rc Node Global → Kept
fresh_at position f = fresh position (homes.Cell f.0) (relative f.1.value)

-- formulas come under ids from the first one on, and all others stay
pub record Inserts (n : ℕ) (formulas : List (Place × Rc Node Global)) (old new : Lazy) : Type 0 where
  pub line : new.line ≡ old.line
  pub below : (id : ℕ) → id < n → kept_in new id ≡ kept_in old id
  pub from : (id : ℕ) → n ≤ id → kept_in new id ≡ option_map (fresh_at old.line.cursor) (under_id n formulas id)
