-- Formulas that are looked up in cells and names. Serves the reads.
use Rattle.std.proofs.Common.{◌≡◌, ◌∙◌, sym, ap, subst, refl, ℕ, Option, Some, None, option_map}
use Rattle.std.proofs.lemmas.Option.{none-some, same_Some}
use Rattle.std.specs.FinMap as fin
use Rattle.std.specs.Prelude.{IfSome, option_and_then}
use Rattle.std.specs.declared.alloc.Global.{Global}
use Rattle.std.specs.declared.rc.Rc.{Rc}
use Rattle.cell_addr.specs.declared.place.Place.{Place}
use Rattle.book_values.specs.Workbook.{content_tree, scope_sheet}
use Rattle.formula_tree.specs.Relative.{relative}
use Rattle.formula_tree.specs.StandsFor.{StandsFor, at_home}
use Rattle.formula_tree.specs.Term.{Term}
use Rattle.formula_tree.specs.declared.node.Node.{Node}
use Rattle.formula_tree.specs.declared.reference.Corner.{Corner}
use Rattle.formula_tree.specs.declared.reference.Home.{Home}
use Rattle.formula_tree.specs.declared.reference.Home.TheVariants as homes
use Rattle.grid_store.specs.declared.cell.Cell.{Cell}
use Rattle.grid_store.specs.declared.cell.Cell.TheVariants as cell
use Rattle.lazy_store.specs.Standing.{Standing}
use Rattle.shift_core.specs.Maps.{PlaceMap}
use Rattle.kept_book.specs.Formula.{tree_at, tree_in_scope}
use Rattle.kept_book.specs.Frame.{At, home_at, named_at, numbered_at, stood_at, stood_of, tree_named}
use Rattle.kept_book.specs.Kept.{id_of}
use Rattle.kept_book.specs.Stored.{AllStand, content_of, contents_of, tree_of}
use Rattle.kept_book.proofs.Contents.{get-contents}

-- a cell with an id holds the formula of it
pub id-cell : (r : Option Cell) (id : ℕ) → id_of r ≡ Some id → r ≡ Some (cell.Formula id)
id-cell None id e = absurd (none-some id e)
id-cell (Some (cell.Number m)) id e = absurd (none-some id e)
id-cell (Some (cell.Truth b)) id e = absurd (none-some id e)
id-cell (Some (cell.Text w)) id e = absurd (none-some id e)
id-cell (Some (cell.Formula n)) id e = ap (λ k. Some (cell.Formula k)) (same_Some n id e)
id-cell (Some (cell.Broken w)) id e = absurd (none-some id e)

home-stood : (h : Home) (t : Term Corner) (q : Place) → option_map (λ g. g.0) (stood_at h t) ≡ Some q → h ≡ homes.Cell q
home-stood (homes.Cell p) t q e = ap (λ r. homes.Cell r) (same_Some p q e)
home-stood (homes.Name sheet) t q e = absurd (none-some q e)

module _ (standings : At) (k : ℕ) (cells : PlaceMap Cell) (stand : AllStand (numbered_at standings k) cells) (q : Place) (id : ℕ) (here : fin.get cells q ≡ Some (cell.Formula id)) where
  -- the formula of a cell stands there
  pub cell-standing : (x : Standing) × (standings id k ≡ Some x) × (x.home ≡ homes.Cell q)
  cell-standing = go (standings id k) refl (stand q id here)
    where
      go : (r : Option Standing) → standings id k ≡ r → option_map (λ g. g.0) (option_and_then stood_of r) ≡ Some q → (x : Standing) × (standings id k ≡ Some x) × (x.home ≡ homes.Cell q)
      go None is e = absurd (none-some q e)
      go (Some x) is e = (x, is, home-stood x.home x.tree q e)

  -- and the tree that is read there is that of the cell's content
  pub formula-read : (t : Rc Node Global) → IfSome (standings id k) (λ x. StandsFor t x.home x.tree) → Some (tree_at q t) ≡ content_tree (fin.get (contents_of (numbered_at standings k) cells) q)
  formula-read t reads =
      let s = cell-standing in
      let stands : StandsFor t s.0.home s.0.tree = subst (λ r. IfSome r (λ x. StandsFor t x.home x.tree)) s.1 reads in
      let tree : tree_at q t ≡ s.0.tree = ap (λ h. at_home h (relative t.value)) (sym s.2) ∙ stands in
      let number : numbered_at standings k id ≡ Some (q, s.0.tree) = ap (option_and_then stood_of) s.1 ∙ ap (λ h. stood_at h s.0.tree) s.2 in
      ap Some tree ∙ sym (ap (λ r. Some (tree_of r)) number)
      ∙ sym (ap content_tree (get-contents (numbered_at standings k) cells q ∙ ap (option_map (content_of (numbered_at standings k))) here))

-- a cell without a formula has no tree
pub no-formula : (standings : At) (k : ℕ) (cells : PlaceMap Cell) (q : Place) → id_of (fin.get cells q) ≡ None → None ≡ content_tree (fin.get (contents_of (numbered_at standings k) cells) q)
no-formula standings k cells q none = go (fin.get cells q) none ∙ sym (ap content_tree (get-contents (numbered_at standings k) cells q))
  where
    go : (r : Option Cell) → id_of r ≡ None → None ≡ content_tree (option_map (content_of (numbered_at standings k)) r)
    go None e = refl
    go (Some (cell.Number m)) e = refl
    go (Some (cell.Truth b)) e = refl
    go (Some (cell.Text w)) e = refl
    go (Some (cell.Formula n)) e = absurd (none-some n (sym e))
    go (Some (cell.Broken w)) e = refl

-- the formula of a name stands at its home
pub name-standing : (standings : At) (k id : ℕ) (home : Home) → home_at standings k id ≡ Some home → (x : Standing) × (standings id k ≡ Some x) × (x.home ≡ home)
name-standing standings k id home at = go (standings id k) refl at
  where
    go : (r : Option Standing) → standings id k ≡ r → option_map (λ x. x.home) r ≡ Some home → (x : Standing) × (standings id k ≡ Some x) × (x.home ≡ home)
    go None is e = absurd (none-some home e)
    go (Some x) is e = (x, is, same_Some x.home home e)

-- and the tree that is read there is the name's
pub name-read : (standings : At) (k id : ℕ) (scope : Option ℕ) (t : Rc Node Global) → home_at standings k id ≡ Some (homes.Name (scope_sheet scope)) → IfSome (standings id k) (λ x. StandsFor t x.home x.tree)
    → tree_in_scope scope t ≡ named_at standings k id
name-read standings k id scope t at reads =
    let s = name-standing standings k id (homes.Name (scope_sheet scope)) at in
    let stands : StandsFor t s.0.home s.0.tree = subst (λ r. IfSome r (λ x. StandsFor t x.home x.tree)) s.1 reads in
    ap (λ h. at_home h (relative t.value)) (sym s.2) ∙ stands ∙ sym (ap tree_named s.1)

pub some-not : {X : Type 0} (r : Option X) (x : X) → r ≡ Some x → r ≡ None → ⊥
some-not r x is none = none-some x (sym none ∙ is)
