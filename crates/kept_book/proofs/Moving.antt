-- The workbook after a structural operation: formulas follow, those of dropped cells and names are gone. Serves structural
-- operations.
use Rattle.std.proofs.Common.{◌≡◌, ◌∙◌, sym, ap, subst, refl, ℕ, ◌+◌, Bool, true, false, cond, Option, Some, None, option_map}
use Rattle.std.proofs.lemmas.Option.{none-some, same_Some}
use Rattle.std.specs.FinMap as fin
use Rattle.std.specs.Prelude.{option_and_then}
use Rattle.cell_addr.specs.declared.place.Place.{Place}
use Rattle.formula_tree.specs.Term.{Term}
use Rattle.formula_tree.specs.declared.reference.Corner.{Corner}
use Rattle.formula_tree.specs.declared.reference.Home.{Home}
use Rattle.formula_tree.specs.declared.reference.Home.TheVariants as homes
use Rattle.lazy_store.specs.Standing.{Standing, after, rewritten_at}
use Rattle.name_table.specs.Scopes as table
use Rattle.name_table.specs.Words.{AreWords}
use Rattle.name_table.specs.declared.key.NameKey.{NameKey}
use Rattle.shift_core.specs.Form.{form_of}
use Rattle.shift_core.specs.Maps.{AreInside, moved_map}
use Rattle.shift_core.specs.Sound.{IsSound}
use Rattle.shift_core.specs.Tables.{place_after}
use Rattle.shift_core.specs.declared.form.Form.{Form}
use Rattle.shift_core.specs.declared.form.Form.TheVariants as form
use Rattle.shift_core.specs.declared.shift.Shift.{Shift}
use Rattle.tree_rewrite.specs.Rewritten.{home_after, rewritten}
use Rattle.book_values.specs.Names.{Key}
use Rattle.book_values.specs.Workbook.{scope_sheet}
use Rattle.book_model.proofs.NameMaps.{get-after}
use Rattle.book_model.specs.Changes.{rewritten_names, sheets_left, shifted, stays}
use Rattle.kept_book.specs.Change.{id_stays}
use Rattle.kept_book.specs.Frame.{At, Frame, IsNamed, Stands, Words, book_at, home_at, named_at, names_seen, numbered_at, stood_at, stood_of, tree_named}
use Rattle.kept_book.specs.Numbered.{Follows, stood_after}
use Rattle.kept_book.proofs.NamesSeen.{get-seen, number_of, same_names}
use Rattle.kept_book.proofs.ShiftedContents.{cells_inside, contents-shifted, stand-shifted}

stood-after : (s : Shift) (home : Home) (t : Term Corner) → option_and_then stood_of (after s (record { home = home; tree = t })) ≡ option_and_then (stood_after s) (stood_at home t)
stood-after s (homes.Cell p) t = go (place_after s p)
  where
    go : (r : Option Place) → option_and_then stood_of (option_map (rewritten_at s (record { home = homes.Cell p; tree = t })) (option_map (λ q. homes.Cell q) r)) ≡ option_map (λ q. (q, rewritten s t)) r
    go None = refl
    go (Some q) = refl
stood-after s (homes.Name sheet) t = refl

-- whether names of a scope stay depends on the scope alone
stays-scope : (f : Form) (k : NameKey) (q : Key) → k.scope ≡ q.scope → id_stays f k ≡ stays f q
stays-scope (form.Lines sheet axis edit) k q same = refl
stays-scope (form.Cells source to) k q same = refl
stays-scope (form.Sheet d) k q same = ap (λ a. stays (form.Sheet d) (record { scope = a; word = q.word })) same

module _ (s : Shift) (k : ℕ) (old new : At) (next : (id : ℕ) → new id (k + 1) ≡ option_and_then (after s) (old id k)) where
  -- formulas of cells follow
  pub follows : Follows s (numbered_at old k) (numbered_at new (k + 1))
  follows id = ap (option_and_then stood_of) (next id) ∙ go (old id k)
    where
      go : (r : Option Standing) → option_and_then stood_of (option_and_then (after s) r) ≡ option_and_then (stood_after s) (option_and_then stood_of r)
      go None = refl
      go (Some x) = stood-after s x.home x.tree

  -- formulas of names stay where they are, and follow
  name-next : (id sheet : ℕ) → home_at old k id ≡ Some (homes.Name sheet) → (x : Standing) × (old id k ≡ Some x) × (new id (k + 1) ≡ Some (rewritten_at s x (homes.Name sheet)))
  name-next id sheet at = go (old id k) refl at
    where
      go : (r : Option Standing) → old id k ≡ r → option_map (λ x. x.home) r ≡ Some (homes.Name sheet) → (x : Standing) × (old id k ≡ Some x) × (new id (k + 1) ≡ Some (rewritten_at s x (homes.Name sheet)))
      go None is e = absurd (none-some (homes.Name sheet) e)
      go (Some x) is e = (x, is, next id ∙ ap (option_and_then (after s)) is ∙ ap (λ h. option_map (rewritten_at s x) (home_after s h)) (same_Some x.home (homes.Name sheet) e))

  pub name-home : (id sheet : ℕ) → home_at old k id ≡ Some (homes.Name sheet) → home_at new (k + 1) id ≡ Some (homes.Name sheet)
  name-home id sheet at = ap (option_map (λ x. x.home)) (name-next id sheet at).2

  name-tree : (id sheet : ℕ) → home_at old k id ≡ Some (homes.Name sheet) → named_at new (k + 1) id ≡ rewritten s (named_at old k id)
  name-tree id sheet at = let n = name-next id sheet at in ap tree_named n.2 ∙ sym (ap (λ r. rewritten s (tree_named r)) n.1)

  module _ (words : Words) (h : AreWords words) (names left : table.NameMap) (gone : (key : NameKey) → fin.get left key ≡ cond (id_stays (form_of s) key) (fin.get names key) None)
      (stand : (key : NameKey) (id : ℕ) → fin.get names key ≡ Some id → IsNamed old words k key id) where
    seen-at : (q : Key) (n : ℕ) (b : Bool) (r : Option ℕ) → fin.get names (table.key_of q.scope n) ≡ r
        → option_map (named_at new (k + 1)) (cond b r None) ≡ option_map (rewritten s) (cond b (option_map (named_at old k) r) None)
    seen-at q n true None is = refl
    seen-at q n true (Some id) is = ap Some (name-tree id (scope_sheet q.scope) (stand (table.key_of q.scope n) id is).home)
    seen-at q n false r is = refl

    found-at : (q : Key) (r : Option ℕ) → option_map (named_at new (k + 1)) (option_and_then (λ n. fin.get left (table.key_of q.scope n)) r)
        ≡ option_map (rewritten s) (cond (stays (form_of s) q) (option_map (named_at old k) (option_and_then (λ n. fin.get names (table.key_of q.scope n)) r)) None)
    found-at q None = none (stays (form_of s) q)
      where
        none : (b : Bool) → ◌≡◌ {A = Option (Term Corner)} None (option_map (rewritten s) (cond b None None))
        none true = refl
        none false = refl
    found-at q (Some n) =
        ap (option_map (named_at new (k + 1))) (gone (table.key_of q.scope n))
        ∙ ap (λ b. option_map (named_at new (k + 1)) (cond b (fin.get names (table.key_of q.scope n)) None)) (stays-scope (form_of s) (table.key_of q.scope n) q refl)
        ∙ seen-at q n (stays (form_of s) q) (fin.get names (table.key_of q.scope n)) refl

    -- the names of the workbook after the operation
    pub names-shifted : names_seen words (named_at new (k + 1)) left ≡ rewritten_names s (fin.retain_keys (names_seen words (named_at old k) names) (stays (form_of s)))
    names-shifted = same_names _ _ (λ q.
        get-seen words h (named_at new (k + 1)) left q ∙ found-at q (number_of words q.word)
        ∙ ap (λ r. option_map (rewritten s) (cond (stays (form_of s) q) r None)) (sym (get-seen words h (named_at old k) names q))
        ∙ sym (get-after s (names_seen words (named_at old k) names) q))

    stays-named : (b : Bool) (r : Option ℕ) (id : ℕ) → cond b r None ≡ Some id → r ≡ Some id
    stays-named true r id e = e
    stays-named false r id e = absurd (none-some id e)

    pub names-stand : (key : NameKey) (id : ℕ) → fin.get left key ≡ Some id → IsNamed new words (k + 1) key id
    names-stand key id is =
        let was = stand key id (stays-named (id_stays (form_of s) key) (fin.get names key) id (sym (gone key) ∙ is)) in
        record { known = was.known; scoped = was.scoped; home = name-home id (scope_sheet key.scope) was.home }

module _ (s : Shift) (f g : Frame) (old new : At) (words : Words) (h : AreWords words) (next : (id : ℕ) → new id (f.position + 1) ≡ option_and_then (after s) (old id f.position))
    (sound : IsSound s) (inside : AreInside (book_at old words f).cells) (stand : Stands old words f) (position : g.position ≡ f.position + 1) (cells : g.cells ≡ moved_map s f.cells)
    (sheets : g.sheets ≡ sheets_left (form_of s) f.sheets) (gone : (key : NameKey) → fin.get g.names key ≡ cond (id_stays (form_of s) key) (fin.get f.names key) None) where
  abbrev moved : Frame
  moved = record { position = f.position + 1; cells = moved_map s f.cells; sheets = sheets_left (form_of s) f.sheets; names = g.names }

  is-moved : moved ≡ g
  is-moved i = record { position = sym position i; cells = sym cells i; sheets = sym sheets i; names = g.names }

  -- the workbook is the one after the operation
  pub moved-book : book_at new words g ≡ shifted s (book_at old words f)
  moved-book =
      let follow = follows s f.position old new next in
      let kept = cells_inside (numbered_at old f.position) f.cells inside in
      let contents = contents-shifted s (numbered_at old f.position) (numbered_at new (f.position + 1)) f.cells sound kept stand.cells follow in
      let names = names-shifted s f.position old new next words h f.names g.names gone stand.names in
      subst (λ x. book_at new words x ≡ shifted s (book_at old words f)) is-moved (λ i. record { sheets = sheets_left (form_of s) f.sheets; cells = contents i; names = names i })

  -- and its formulas stand at their cells and names
  pub moved-stands : Stands new words g
  moved-stands =
      let follow = follows s f.position old new next in
      let kept = cells_inside (numbered_at old f.position) f.cells inside in
      subst (Stands new words) is-moved (record {
        cells = stand-shifted s (numbered_at old f.position) (numbered_at new (f.position + 1)) f.cells sound kept stand.cells follow;
        names = names-stand s f.position old new next words h f.names g.names gone stand.names;
      })
