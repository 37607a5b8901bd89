-- The kept workbook after a name got a tree, or lost it. Serves the call that names a formula.
use Rattle.std.proofs.Common.{◌≡◌, ◌≢◌, ◌∙◌, sym, ap, subst, refl, ℕ, Bool, true, false, cond, List, [], ◌∷◌, Option, Some, None, option_map}
use Rattle.std.proofs.lemmas.Option.{none-some, same_Some}
use Rattle.std.specs.FinMap as fin
use Rattle.std.specs.Ordering.{eq_by_cmp}
use Rattle.std.specs.Prelude.{OnErr, Result, Ok, Err, option_and_then, slice_get}
use Rattle.std.specs.declared.alloc.Global.{Global}
use Rattle.std.specs.declared.rc.Rc.{Rc}
use Rattle.cell_addr.specs.Text.{folded}
use Rattle.cell_addr.specs.declared.place.Place.{Place}
use Rattle.cell_addr.specs.declared.place.TheConstants.{NO_SHEET}
use Rattle.formula_tree.specs.Relative.{relative}
use Rattle.formula_tree.specs.declared.node.Node.{Node}
use Rattle.formula_tree.specs.declared.reference.Home.TheVariants as homes
use Rattle.grid_store.specs.Grid.{cells_of, with_entries, without_places}
use Rattle.grid_store.specs.declared.cell.Cell.TheVariants as cell
use Rattle.grid_store.specs.declared.cell.Cell.{Cell}
use Rattle.grid_store.specs.declared.grid.Grid.{Grid}
use Rattle.lazy_store.specs.Kept.{at, standing_at}
use Rattle.lazy_store.specs.Standing.{Standing}
use Rattle.lazy_store.specs.Store.{at_in}
use Rattle.lazy_store.specs.declared.lazy.Lazy.{Lazy}
use Rattle.name_table.proofs.DraftedNames.{get-with_holder}
use Rattle.name_table.proofs.WordNumbers.{number-spelled}
use Rattle.name_table.specs.Listed.{listed}
use Rattle.name_table.specs.Named.{names_of, words_of}
use Rattle.name_table.specs.Scopes as table
use Rattle.name_table.specs.Words.{number_in, with_word}
use Rattle.name_table.specs.declared.key.NameKey.{NameKey}
use Rattle.name_table.specs.declared.names.Names.{Names}
use Rattle.shift_line.specs.Track.{shift_at, with_spare}
use Rattle.book_values.specs.Names.{key_of}
use Rattle.book_values.specs.Workbook.{scope_sheet}
use Rattle.book_model.specs.Changes.{with_name}
use Rattle.book_model.specs.Names.{with_tree}
use Rattle.kept_book.specs.Change.{AreKnown, Change, HaveSlots, Joins, names_with, places_of, sheets_with, with_id}
use Rattle.kept_book.specs.Formula.{tree_in_scope}
use Rattle.kept_book.specs.Frame.{Frame, IsNamed, Stands, book_at, home_at, named_at, names_seen, numbered_at, tree_named}
use Rattle.kept_book.specs.Ids.{AreBelow}
use Rattle.kept_book.specs.Kept.{IsMore, KeepsUpTo}
use Rattle.kept_book.specs.internal.Naming.{Gives}
use Rattle.kept_book.specs.internal.Writing.{AreReplaced}
use Rattle.kept_book.proofs.Inserted.{at-fresh, none-stands}
use Rattle.kept_book.proofs.Joining.{plain-joins}
use Rattle.kept_book.proofs.NamesLeft.{same_ids}
use Rattle.kept_book.proofs.NamesPut.{more-word, names-put}
use Rattle.kept_book.proofs.NamesSeen.{is_id_key}
use Rattle.kept_book.proofs.ShiftedBooks.{frame_with}
use Rattle.kept_book.proofs.Staying.{cells-stay, names-stay, same-number, same-there, stays-stand, there-within}

module _ (lazy lazy2 : Lazy) (grid : Grid Cell) (names names2 : Names) (n : ℕ) (scope : Option ℕ) (tree : Option (Rc Node Global)) (word : ℕ) (text : List ℕ) (id : Option ℕ)
    (stand : Stands (at_in lazy) (words_of names) (frame_with lazy grid names)) (fresh : AreBelow n lazy) (number : number_in (words_of names2) text ≡ Some word) (words : words_of names2 ≡ with_word text (words_of names))
    (sheets : listed names2 ≡ listed names) (put : names_of names2 ≡ with_id (table.key_of scope word) id (names_of names)) (gives : Gives n scope tree id lazy lazy2)
    (line : lazy2.line ≡ with_spare lazy2.line.spare lazy.line) where
  spelt : slice_get (words_of names2) word ≡ Some (folded text)
  spelt = number-spelled (words_of names2) text word names2.words.proper number

  more : IsMore (words_of names) (words_of names2)
  more = subst (IsMore (words_of names)) (sym words) (more-word text (words_of names))

  stays : (i j : ℕ) (x : Standing) → at_in lazy i j ≡ Some x → at_in lazy2 i j ≡ Some x
  stays i j x is = (λ t. option_and_then (λ h. at (line t) h j) (gives.below i (none-stands n lazy i j x fresh is) t)) ∙ is

  -- the formula of the name, where it gets one
  new-standing : (t : Rc Node Global) → tree ≡ Some t → at_in lazy2 n lazy.line.cursor ≡ Some (standing_at (homes.Name (scope_sheet scope)) (relative t.value))
  new-standing t is =
      ap (option_and_then (λ h. at lazy2.line h lazy.line.cursor)) (gives.here t is) ∙ at-fresh lazy2.line lazy.line.cursor (homes.Name (scope_sheet scope)) (relative t.value)

  new-tree : (r : Option (Rc Node Global)) → tree ≡ r → option_map (named_at (at_in lazy2) lazy.line.cursor) (option_map (λ t. n) r) ≡ option_map (tree_in_scope scope) r
  new-tree None is = refl
  new-tree (Some t) is = ap (λ s. Some (tree_named s)) (new-standing t is)

  position : lazy2.line.cursor ≡ lazy.line.cursor
  position = ap (λ t. t.cursor) line

  abbrev named : Frame
  named = record { position = lazy.line.cursor; cells = cells_of grid; sheets = listed names; names = with_id (table.key_of scope word) id (names_of names) }

  is-named : named ≡ frame_with lazy2 grid names2
  is-named i = record { position = sym position i; cells = cells_of grid; sheets = sym sheets i; names = sym put i }

  old-names : names_seen (words_of names2) (named_at (at_in lazy2) lazy.line.cursor) (names_of names) ≡ names_seen (words_of names) (named_at (at_in lazy) lazy.line.cursor) (names_of names)
  old-names = names-stay (words_of names) (words_of names2) names.words.proper names2.words.proper more (names_of names) (named_at (at_in lazy) lazy.line.cursor) (named_at (at_in lazy2) lazy.line.cursor)
      (λ key i is. (
        ap tree_named (same-there (frame_with lazy grid names) (at_in lazy) (at_in lazy2) (words_of names) (words_of names2) names.words.proper names2.words.proper more (λ j x h. stays j lazy.line.cursor x h) stand key i is),
        (stand.names key i is).known,
      ))

  old-cells : (q : Place) (i : ℕ) → fin.get (cells_of grid) q ≡ Some (cell.Formula i) → numbered_at (at_in lazy2) lazy.line.cursor i ≡ numbered_at (at_in lazy) lazy.line.cursor i
  old-cells = same-number (frame_with lazy grid names) (at_in lazy) (at_in lazy2) (words_of names) (words_of names2) names.words.proper names2.words.proper more (λ j x h. stays j lazy.line.cursor x h) stand

  -- it shows the name so
  pub named-book : book_at (at_in lazy2) (words_of names2) (frame_with lazy2 grid names2)
      ≡ with_name (key_of scope text) (option_map (tree_in_scope scope) tree) (book_at (at_in lazy) (words_of names) (frame_with lazy grid names))
  named-book =
      let contents = cells-stay (numbered_at (at_in lazy) lazy.line.cursor) (numbered_at (at_in lazy2) lazy.line.cursor) (cells_of grid) old-cells in
      let tree_is = ap (option_map (named_at (at_in lazy2) lazy.line.cursor)) gives.given ∙ new-tree tree refl in
      let seen =
      names-put (words_of names2) names2.words.proper (named_at (at_in lazy2) lazy.line.cursor) (names_of names) (table.key_of scope word) (folded text) spelt id
      ∙ (λ i. with_tree (key_of scope text) (tree_is i) (old-names i)) in
      ap (book_at (at_in lazy2) (words_of names2)) (sym is-named) ∙ (λ i. record { sheets = listed names; cells = contents i; names = seen i })

  home-there : (r : Option (Rc Node Global)) → tree ≡ r → (i : ℕ) → option_map (λ t. n) r ≡ Some i → home_at (at_in lazy2) lazy.line.cursor i ≡ Some (homes.Name (scope_sheet scope))
  home-there None is i e = absurd (none-some i e)
  home-there (Some t) is i e =
      ap (λ j. home_at (at_in lazy2) lazy.line.cursor j) (sym (same_Some n i e)) ∙ ap (option_map (λ x. x.home)) (new-standing t is)

  named-there : scope ≢ Some NO_SHEET → (key : NameKey) (i : ℕ) (b : Bool) → eq_by_cmp table.key_cmp key (table.key_of scope word) ≡ b → cond b id (fin.get (names_of names) key) ≡ Some i
      → IsNamed (at_in lazy2) (words_of names2) lazy.line.cursor key i
  named-there scoped key i true same e =
      subst (λ q. IsNamed (at_in lazy2) (words_of names2) lazy.line.cursor q i) (sym (is_id_key key (table.key_of scope word) same)) (record {
        known = there-within (words_of names2) word (folded text) spelt;
        scoped = scoped;
        home = home-there tree refl i (sym gives.given ∙ e);
      })
  named-there scoped key i false same e =
      (stays-stand (frame_with lazy grid names) (at_in lazy) (at_in lazy2) (words_of names) (words_of names2) names.words.proper names2.words.proper more (λ j x h. stays j lazy.line.cursor x h) stand).names key i e

  pub named-stands : scope ≢ Some NO_SHEET → Stands (at_in lazy2) (words_of names2) (frame_with lazy2 grid names2)
  named-stands scoped = subst (Stands (at_in lazy2) (words_of names2)) is-named (record {
    cells = (stays-stand (frame_with lazy grid names) (at_in lazy) (at_in lazy2) (words_of names) (words_of names2) names.words.proper names2.words.proper more (λ j x h. stays j lazy.line.cursor x h) stand).cells;
    names = λ key i e. named-there scoped key i (eq_by_cmp table.key_cmp key (table.key_of scope word)) refl (sym (get-with_holder (table.key_of scope word) id (names_of names) key) ∙ e);
  })

  pub named-keeps : KeepsUpTo lazy.line.cursor (shift_at lazy.line) (shift_at lazy2.line) (at_in lazy) (at_in lazy2) (words_of names) (words_of names2)
  named-keeps = record { below = λ j l. ap (λ t. shift_at t j) line; stays = λ i j x l is. stays i j x is; known = more }

  back-at : (before : Option ℕ) → before ≡ fin.get (names_of names) (table.key_of scope word) → with_id (table.key_of scope word) before (with_id (table.key_of scope word) id (names_of names)) ≡ names_of names
  back-at before was = same_ids _ _ (λ key.
      get-with_holder (table.key_of scope word) before (with_id (table.key_of scope word) id (names_of names)) key
      ∙ ap (cond (eq_by_cmp table.key_cmp key (table.key_of scope word)) before) (get-with_holder (table.key_of scope word) id (names_of names) key)
      ∙ go key (eq_by_cmp table.key_cmp key (table.key_of scope word)) refl)
    where
      go : (key : NameKey) (b : Bool) → eq_by_cmp table.key_cmp key (table.key_of scope word) ≡ b → cond b before (cond b id (fin.get (names_of names) key)) ≡ fin.get (names_of names) key
      go key true same = was ∙ ap (fin.get (names_of names)) (sym (is_id_key key (table.key_of scope word) same))
      go key false same = refl

  pub named-joins : (c : Change) (before : Option ℕ) → c.from ≡ lazy.line.cursor → c.to ≡ c.from → c.replaced ≡ [] → c.written ≡ [] → c.names ≡ (table.key_of scope word, (before, id)) ∷ [] → c.sheets ≡ []
      → before ≡ fin.get (names_of names) (table.key_of scope word) → Joins (shift_at lazy2.line) (words_of names2) c (frame_with lazy grid names) (frame_with lazy2 grid names2)
  named-joins c before start end no_replaced no_written listed_names no_sheets was =
      plain-joins (shift_at lazy2.line) (words_of names2) c (frame_with lazy grid names) (frame_with lazy2 grid names2) start end position
      (subst (λ l. AreReplaced (cells_of grid) l (places_of c.written)) (sym no_replaced) (subst (λ l. AreReplaced (cells_of grid) [] (places_of l)) (sym no_written) (record { listed = λ q some. cc; there = λ q among. cc })))
      (λ i. with_entries (sym no_written i) (without_places (places_of (sym no_replaced i)) (cells_of grid)))
      (sheets ∙ sym (ap (λ l. sheets_with (λ x. x.1) l (listed names)) no_sheets)) (ap (λ l. sheets_with (λ x. x.0) l (listed names2)) no_sheets ∙ sheets)
      (put ∙ sym (ap (λ l. names_with (λ x. x.1) l (names_of names)) listed_names))
      (ap (λ l. names_with (λ x. x.0) l (names_of names2)) listed_names ∙ ap (with_id (table.key_of scope word) before) put ∙ back-at before was)
      (subst (λ l. HaveSlots (λ x. x.0) l (listed names2)) (sym no_sheets) tt) (subst (λ l. HaveSlots (λ x. x.1) l (listed names)) (sym no_sheets) tt)
      (subst (AreKnown (words_of names2)) (sym listed_names) (there-within (words_of names2) word (folded text) spelt, tt))

-- what holds anyway holds on an error
pub on_err : {T E P : Type 0} (r : Result T E) → P → OnErr r P
on_err (Ok x) p = tt
on_err (Err e) p = p
