-- What stands at the nodes of a workbook as it is kept, and which of them words find. Serves who works out its values.
use Rattle.std.proofs.Common.{◌≡◌, ◌≢◌, ◌∙◌, sym, ap, subst, refl, ℕ, Bool, true, false, cond, ◌==◌, List, Option, Some, None, is_some, option_map, eqb-true, Result, Ok, Err}
use Rattle.std.proofs.lemmas.Option.{none-some, same_Some}
use Rattle.std.specs.FinMap as fin
use Rattle.std.specs.Option.{option_or}
use Rattle.std.specs.Prelude.{IfOk, slice_get, unwrap_or}
use Rattle.std.specs.declared.alloc.Global.{Global}
use Rattle.std.specs.declared.rc.Rc.{Rc}
use Rattle.cell_addr.specs.Text.{folded}
use Rattle.cell_addr.specs.declared.place.Place.{Place}
use Rattle.cell_addr.specs.declared.place.TheConstants.{NO_SHEET}
use Rattle.formula_tree.specs.declared.node.Node as tree
use Rattle.formula_tree.specs.declared.reference.Home.TheVariants as homes
use Rattle.grid_store.specs.declared.cell.Cell.{Cell}
use Rattle.grid_store.specs.declared.cell.Cell.TheVariants as cell
use Rattle.name_table.proofs.WordNumbers.{number-spelled}
use Rattle.name_table.specs.Scopes as table
use Rattle.name_table.specs.Words.{AreWords, number_in}
use Rattle.name_table.specs.declared.key.NameKey.{NameKey}
use Rattle.book_values.specs.Names.{found, key_of}
use Rattle.book_values.specs.Values.{content_value}
use Rattle.book_values.specs.Workbook as book
use Rattle.book_values.specs.Workbook.{Workbook, content_tree, home_of, scope_sheet}
use Rattle.dep_graph.specs.declared.node.Node.TheVariants as node
use Rattle.kept_book.proofs.FoundNames.{found-none, found-read, get-known, seen-id, tree_in-entries}
use Rattle.kept_book.proofs.NamesSeen.{number-spells}
use Rattle.kept_book.proofs.Staying.{word-there}
use Rattle.kept_book.specs.Formula.{tree_in_scope}
use Rattle.kept_book.specs.Frame.{At, IsNamed, Words, named_at, names_seen}
use Rattle.kept_book.specs.Kept.{id_of}
use Rattle.kept_book.specs.Numbered.{Numbered}
use Rattle.kept_book.specs.Stored.{content_of, tree_of}
use Rattle.recalc_core.specs.Given.{HasGiven, HasGivenAt, IsFound}
use Rattle.recalc_core.specs.Nodes.{AreNumbered, name_at, node_at, scope_at}
use Rattle.recalc_core.specs.declared.trees.NodeContent.TheVariants.{Formula, Nothing}
use Rattle.kept_steps.specs.internal.GivenCell.{given_plain}

-- ---- cells

-- where a content has no tree the cell holds no formula
pub no-id : (stands : Numbered) (r : Option Cell) → content_tree (option_map (content_of stands) r) ≡ None → id_of r ≡ None
no-id stands None e = refl
no-id stands (Some (cell.Number m)) e = refl
no-id stands (Some (cell.Truth b)) e = refl
no-id stands (Some (cell.Text w)) e = refl
no-id stands (Some (cell.Formula n)) e = absurd (none-some (tree_of (stands n)) (sym e))
no-id stands (Some (cell.Broken w)) e = refl

-- what a cell without a formula is given as is what it shows
pub plain-given : (b : Workbook) (stands : Numbered) (p : Place) (r : Option Cell) → fin.get b.cells p ≡ option_map (content_of stands) r → id_of r ≡ None → HasGiven b (book.place p) (given_plain r)
plain-given b stands p None is none = ap is_some is
plain-given b stands p (Some (cell.Number m)) is none = (ap is_some is, ap content_tree is, λ w customs. ap (content_value w customs (homes.Cell p)) is)
plain-given b stands p (Some (cell.Truth t)) is none = (ap is_some is, ap content_tree is, λ w customs. ap (content_value w customs (homes.Cell p)) is)
plain-given b stands p (Some (cell.Text t)) is none = (ap is_some is, ap content_tree is, λ w customs. ap (content_value w customs (homes.Cell p)) is)
plain-given b stands p (Some (cell.Formula n)) is none = absurd (none-some n (sym none))
plain-given b stands p (Some (cell.Broken t)) is none = (ap is_some is, ap content_tree is, λ w customs. ap (content_value w customs (homes.Cell p)) is)

-- what an answer is holds of it
pub on-ok : {X E : Type 0} (r : Result X E) (P : X → Type 0) (g : X) → P g → IfOk r (λ x. x ≡ g) → IfOk r P
on-ok (Ok x) P g p same = subst P (sym same) p
on-ok (Err e) P g p same = tt

-- ---- names

-- a scope is the one of its number
pub scope-back : (scope : Option ℕ) → scope ≢ Some NO_SHEET → scope_at (unwrap_or scope NO_SHEET) ≡ scope
scope-back None other = refl
scope-back (Some s) other = go (s == NO_SHEET) refl
  where
    go : (b : Bool) → (s == NO_SHEET) ≡ b → cond b None (Some s) ≡ Some s
    go true is = absurd (other (ap Some (eqb-true s NO_SHEET is)))
    go false is = refl

-- what is found stands in the table
found-there : (names : table.NameMap) (n sheet : ℕ) (f : Option ℕ × ℕ) → table.found names n sheet ≡ Some f → fin.get names (table.key_of f.0 n) ≡ Some f.1
found-there names n sheet f is = go (fin.get names (table.key_of (Some sheet) n)) (fin.get names (table.key_of None n)) refl refl is
  where
    go : (own whole : Option ℕ) → fin.get names (table.key_of (Some sheet) n) ≡ own → fin.get names (table.key_of None n) ≡ whole
        → option_or (option_map (λ id. (Some sheet, id)) own) (option_map (λ id. (None, id)) whole) ≡ Some f → fin.get names (table.key_of f.0 n) ≡ Some f.1
    go (Some id) whole there other e = subst (λ (g : Option ℕ × ℕ). fin.get names (table.key_of g.0 n) ≡ Some g.1) (same_Some (Some sheet, id) f e) there
    go None (Some id) there other e = subst (λ (g : Option ℕ × ℕ). fin.get names (table.key_of g.0 n) ≡ Some g.1) (same_Some (None, id) f e) other
    go None None there other e = absurd (none-some f e)

module _ (at : At) (k : ℕ) (words : Words) (h : AreWords words) (names : table.NameMap) (stand : (key : NameKey) (id : ℕ) → fin.get names key ≡ Some id → IsNamed at words k key id) (b : Workbook)
    (shown : b.names ≡ fin.entries (names_seen words (named_at at k) names)) where
  pub tree-known : (scope : Option ℕ) (n : ℕ) (w : List ℕ) → slice_get words n ≡ Some w
      → book.tree_at b (book.name (record { scope = scope; word = w })) ≡ option_map (named_at at k) (fin.get names (table.key_of scope n))
  tree-known scope n w spelt =
      ap (λ l. book.tree_at (record { cells = b.cells; names = l }) (book.name (record { scope = scope; word = w }))) shown
      ∙ tree_in-entries (names_seen words (named_at at k) names) (record { scope = scope; word = w })
      ∙ get-known words h (named_at at k) names scope n w spelt

  -- a tree that is read of a name is given
  pub name-given : (number n : ℕ) (t : Rc tree.Node Global) → option_map (tree_in_scope (scope_at number)) (Some t) ≡ option_map (named_at at k) (fin.get names (table.key_of (scope_at number) n))
      → HasGivenAt b (name_at number (slice_get words n)) (Formula t (homes.Name (scope_sheet (scope_at number))))
  name-given number n t is = go (fin.get names (table.key_of (scope_at number) n)) refl is
    where
      go : (r : Option ℕ) → fin.get names (table.key_of (scope_at number) n) ≡ r → Some (tree_in_scope (scope_at number) t) ≡ option_map (named_at at k) r
          → HasGivenAt b (name_at number (slice_get words n)) (Formula t (homes.Name (scope_sheet (scope_at number))))
      go None there e = absurd (none-some (tree_in_scope (scope_at number) t) (sym e))
      go (Some id) there e =
          let w = word-there words n (stand (table.key_of (scope_at number) n) id there).known in
          subst (λ o. HasGivenAt b (name_at number o) (Formula t (homes.Name (scope_sheet (scope_at number))))) (sym w.1)
          (refl, tree-known (scope_at number) n w.0 w.1 ∙ sym is)

  -- where none is read there is none
  pub no-name-given : (number n : ℕ) → None ≡ option_map (named_at at k) (fin.get names (table.key_of (scope_at number) n)) → HasGivenAt b (name_at number (slice_get words n)) Nothing
  no-name-given number n none = go (slice_get words n) refl
    where
      go : (r : Option (List ℕ)) → slice_get words n ≡ r → HasGivenAt b (name_at number r) Nothing
      go None is = refl
      go (Some w) is = ap is_some (tree-known (scope_at number) n w is ∙ sym none)

  -- the node of a known name
  node-known : (scope : Option ℕ) (n id : ℕ) (w : List ℕ) → fin.get names (table.key_of scope n) ≡ Some id → slice_get words n ≡ Some w
      → node_at words (node.Name (unwrap_or scope NO_SHEET) n) ≡ Some (book.name (record { scope = scope; word = w }))
  node-known scope n id w there spelt =
      ap (name_at (unwrap_or scope NO_SHEET)) spelt
      ∙ ap (λ s. Some (book.name (record { scope = s; word = w }))) (scope-back scope (stand (table.key_of scope n) id there).scoped)

  -- the node of the name that a word finds
  pub name-found : (text : List ℕ) (sheet n : ℕ) (f : Option ℕ × ℕ) → number_in words text ≡ Some n → table.found names n sheet ≡ Some f
      → IsFound b words text sheet (Some (node.Name (unwrap_or f.0 NO_SHEET) n))
  name-found text sheet n f number is = (
    key_of f.0 text,
    ap (λ l. found l text sheet) shown ∙ found-read words h (named_at at k) names text sheet n number ∙ ap (option_map (λ (g : Option ℕ × ℕ). key_of g.0 text)) is,
    node-known f.0 n f.1 (folded text) (found-there names n sheet f is) (number-spelled words text n h number),
  )

  -- where it finds none there is none
  pub none-found : (text : List ℕ) (sheet n : ℕ) → number_in words text ≡ Some n → table.found names n sheet ≡ None → IsFound b words text sheet None
  none-found text sheet n number is = ap (λ l. found l text sheet) shown ∙ found-read words h (named_at at k) names text sheet n number ∙ ap (option_map (λ (g : Option ℕ × ℕ). key_of g.0 text)) is

  pub none-known : (text : List ℕ) (sheet : ℕ) → number_in words text ≡ None → IsFound b words text sheet None
  none-known text sheet none = ap (λ l. found l text sheet) shown ∙ found-none words h (named_at at k) names text sheet none

  -- each name is a node
  pub numbered : AreNumbered words b.names
  numbered = record {
    once = h.1;
    all = λ key some.
        let seen = seen-id words h (named_at at k) names key (ap is_some (sym (tree_in-entries (names_seen words (named_at at k) names) key)) ∙ subst (λ l. is_some (book.tree_at (record { cells = b.cells; names = l }) (book.name key)) ≡ true) shown some) in
        (node.Name (unwrap_or key.scope NO_SHEET) seen.0, node-known key.scope seen.0 seen.2.0 key.word seen.2.1 (number-spells words key.word seen.0 h seen.1));
  }
