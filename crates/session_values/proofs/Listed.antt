-- Nodes that a structural operation touches, listed. Serves the list of them.
use Rattle.std.proofs.Common.{◌≡◌, ◌≤◌, ◌<◌, ◌+◌, ◌==◌, ◌∙◌, sym, ap, refl, subst, arith, eqb-true, eq-eqb, ltb-false, ltb-true, lt-ltb, nat_lt, length, length-append, ℕ, Bool, true, false, cond, ◌&&◌, ◌||◌, List, [], ◌∷◌, ◌++◌, map, Option, Some, None, is_some, option_map, ◌⊎◌, inl, inr, ⊎_elim}
use Rattle.std.specs.Prelude.{IsTrue, slice_get}
use Rattle.std.specs.FinMap as fin
use Rattle.std.specs.FinMap.{find, get-entries, get-retain_keys}
use Rattle.std.specs.Ordering.{eq_by_cmp}
use Rattle.std.proofs.lemmas.Cmp.{eq_by_cmp_equiv}
use Rattle.std.proofs.lemmas.Bool.{false≢true, or_cases, or_left, or_right}
use Rattle.std.proofs.lemmas.List.Folds.{list_any-append}
use Rattle.std.proofs.lemmas.Option.{none-some, same_Some, slice_get-get_or, slice_get_within}
use Rattle.std.specs.List.{list_any}
use Rattle.cell_addr.proofs.Places.{place_cmp-IsAntisymmetric, place_cmp-IsTotalOrder}
use Rattle.cell_addr.proofs.SamePlaces.{same_place-equal}
use Rattle.cell_addr.specs.Order.{place_cmp}
use Rattle.cell_addr.specs.Place.{covers, same_place}
use Rattle.cell_addr.specs.declared.place.Block.{Block}
use Rattle.cell_addr.specs.declared.place.Place.{Place}
use Rattle.cell_addr.specs.declared.whole.Whole.{Whole}
use Rattle.grid_store.specs.Grid.{cells_of, within}
use Rattle.grid_store.specs.declared.cell.Cell.{Cell}
use Rattle.shift_core.specs.Carried.{destination}
use Rattle.shift_core.specs.Form.{form_of}
use Rattle.shift_core.specs.Maps.{PlaceMap}
use Rattle.shift_core.specs.declared.form.Form.TheVariants.{Cells, Sheet}
use Rattle.shift_core.specs.declared.shift.Shift.{Shift}
use Rattle.book_model.proofs.Contents.{is_at}
use Rattle.book_values.specs.Workbook as book
use Rattle.book_values.specs.Workbook.{scope_sheet}
use Rattle.dep_graph.specs.Nodes.{has, same_node}
use Rattle.dep_graph.specs.declared.node.Node.{Node}
use Rattle.dep_graph.specs.declared.node.Node.TheVariants as node
use Rattle.dep_graph.specs.internal.Hashed.{own_node, same_nodes}
use Rattle.dep_graph.proofs.Places.{has-append_cases, has-append_left, has-append_right}
use Rattle.kept_book.proofs.Contents.{get-contents}
use Rattle.kept_book.specs.Change.{Change, places_of}
use Rattle.kept_book.specs.Frame.{numbered_at}
use Rattle.kept_book.specs.Kept.{at_of}
use Rattle.kept_book.specs.Stored.{content_of}
use Rattle.kept_steps.specs.Turned.{is_replaced, replaced_of}
use Rattle.kept_steps.specs.declared.session.Session.{Session}
use Rattle.recalc_core.specs.Laws.{AreKnown}
use Rattle.recalc_core.specs.Shifted.{drops_scope}
use Rattle.marked_values.specs.Shifts.{is_moved_in}
use Rattle.kept_values.specs.Shifted.{HasTouched, may_touch}
use Rattle.kept_values.proofs.Following.{same_tests}
use Rattle.session_values.specs.Following.{book_of, words_in}
use Rattle.session_values.specs.Shifting.{is_replaced_cell}
use Rattle.session_values.specs.internal.Listed.{ListsBelow, cell_node, filled_in, is_name_below, is_name_of, with_named}

-- ---- names of a sheet among nodes

and_none : (m : Bool) → (m && false) ≡ false
and_none true = refl
and_none false = refl

pub named_none : (sheet : ℕ) (a : Node) → has a [] ≡ (is_name_of sheet a && has a [])
named_none sheet a = sym (and_none (is_name_of sheet a))

-- ((l && m) || n) where n holds only where l does
and_or : (l m n : Bool) → (n ≡ true → l ≡ true) → ((l && m) || n) ≡ (l && (m || n))
and_or true m n h = refl
and_or false m true h = absurd (false≢true (h refl))
and_or false m false h = refl

-- a node of another kind adds none
and_other : (l m n : Bool) → (n ≡ true → l ≡ false) → (l && m) ≡ (l && (m || n))
and_other true true n h = refl
and_other true false true h = absurd (false≢true (sym (h refl)))
and_other true false false h = refl
and_other false m n h = refl

or_none : (m : Bool) → (m || false) ≡ m
or_none true = refl
or_none false = refl

pub has_last : (a x : Node) (xs : List Node) → has a (xs ++ x ∷ []) ≡ (has a xs || same_node a x)
has_last a x xs = list_any-append (same_node a) xs (x ∷ []) ∙ ap (λ t. has a xs || t) (or_none (same_node a x))

pub named_more : (sheet : ℕ) (x : Node) (front names : List Node) → ((a : Node) → has a names ≡ (is_name_of sheet a && has a front)) → (a : Node)
    → has a (with_named sheet x names) ≡ (is_name_of sheet a && has a (front ++ x ∷ []))
named_more sheet x front names so_far a = by (is_name_of sheet x) refl
  where
    by : (t : Bool) → is_name_of sheet x ≡ t → has a (with_named sheet x names) ≡ (is_name_of sheet a && has a (front ++ x ∷ []))
    by true e =
        ap (λ t. has a (cond t (names ++ x ∷ []) names)) e ∙ has_last a x names ∙ ap (λ t. t || same_node a x) (so_far a)
        ∙ and_or (is_name_of sheet a) (has a front) (same_node a x) (λ same. ap (is_name_of sheet) (same_nodes a x same) ∙ e)
        ∙ ap (λ t. is_name_of sheet a && t) (sym (has_last a x front))
    by false e =
        ap (λ t. has a (cond t (names ++ x ∷ []) names)) e ∙ so_far a
        ∙ and_other (is_name_of sheet a) (has a front) (same_node a x) (λ same. ap (is_name_of sheet) (same_nodes a x same) ∙ e)
        ∙ ap (λ t. is_name_of sheet a && t) (sym (has_last a x front))

-- ---- all names that a sheet can have

number_more : (w n m : ℕ) → m ≡ n + 1 → (nat_lt w n || (w == n)) ≡ nat_lt w m
number_more w n m e = same_tests (nat_lt w n || (w == n)) (nat_lt w m) forth back
  where
    forth : (nat_lt w n || (w == n)) ≡ true → nat_lt w m ≡ true
    forth h = ⊎_elim
        (λ (low : nat_lt w n ≡ true). let p : w < n = ltb-true w n low in lt-ltb w m (omega (arith, p, e)))
        (λ (same : (w == n) ≡ true). let p : w ≡ n = eqb-true w n same in lt-ltb w m (omega (arith, p, e)))
        (or_cases (nat_lt w n) (w == n) h)

    back : nat_lt w m ≡ true → (nat_lt w n || (w == n)) ≡ true
    back h = let p : w < m = ltb-true w m h in by (nat_lt w n) (w == n) refl refl p
      where
        by : (l k : Bool) → nat_lt w n ≡ l → (w == n) ≡ k → w < m → (l || k) ≡ true
        by true k low same p = refl
        by false true low same p = refl
        by false false low same p = let q : n ≤ w = ltb-false w n low in absurd (false≢true (sym same ∙ eq-eqb w n (omega (arith, p, q, e))))

same_and : (l m n : Bool) → ((l && m) || (l && n)) ≡ (l && (m || n))
same_and true m n = refl
same_and false m n = refl

pub below_more : (sheet words word : ℕ) (old new : List Node) → ListsBelow sheet words old → word ≡ length old → word < words → new ≡ old ++ node.Name sheet word ∷ [] → ListsBelow sheet words new
below_more sheet words word old new below is low listed = record {
  within = let e = longer in let n = below.within in omega (arith, e, is, low);
  all = λ a. ap (has a) listed ∙ has_last a (node.Name sheet word) old ∙ ap (λ t. t || same_node a (node.Name sheet word)) (below.all a) ∙ by a;
}
  where
    longer : length new ≡ length old + 1
    longer = ap length listed ∙ length-append old (node.Name sheet word ∷ [])

    by : (a : Node) → (is_name_below sheet (length old) a || same_node a (node.Name sheet word)) ≡ is_name_below sheet (length new) a
    by (node.Cell p) = refl
    by (node.Name scope number) =
        ap (λ n. (scope == sheet && nat_lt number (length old)) || (scope == sheet && number == n)) is
        ∙ same_and (scope == sheet) (nat_lt number (length old)) (number == length old)
        ∙ ap (λ t. scope == sheet && t) (number_more number (length old) (length new) longer)
    by (node.Range block) = refl
    by (node.Whole w) = refl

-- a word that has a number is one of the words
pub word_within : (words : List (List ℕ)) (n : ℕ) → is_some (slice_get words n) ≡ true → n < length words
word_within words n some = by (slice_get words n) refl some
  where
    by : (o : Option (List ℕ)) → slice_get words n ≡ o → is_some o ≡ true → n < length words
    by None e h = absurd (false≢true h)
    by (Some word) e h = slice_get_within words n word e

-- where the next one has none, they are all
pub below_all : (sheet : ℕ) (words : List (List ℕ)) (nodes : List Node) (n : ℕ) → ListsBelow sheet (length words) nodes → n ≡ length nodes → is_some (slice_get words n) ≡ false → (a : Node) → has a nodes ≡ is_name_below sheet (length words) a
below_all sheet words nodes n below is none a = below.all a ∙ ap (λ m. is_name_below sheet m a) (by (nat_lt n (length words)) refl)
  where
    by : (t : Bool) → nat_lt n (length words) ≡ t → length nodes ≡ length words
    by true low = absurd (false≢true (sym none ∙ ap is_some (slice_get-get_or words n [] (ltb-true n (length words) low))))
    by false high = let p : length words ≤ n = ltb-false n (length words) high in let q = below.within in omega (arith, p, q, is)

-- ---- filled cells of a block

some_mapped : {X Y : Type 0} (f : X → Y) (o : Option X) → is_some (option_map f o) ≡ is_some o
some_mapped f None = refl
some_mapped f (Some x) = refl

-- a place that has an entry is listed
cell_listed : (p : Place) (es : List (Place × Cell)) → is_some (find place_cmp p es) ≡ true → has (node.Cell p) (map cell_node es) ≡ true
cell_listed p [] some = absurd (false≢true some)
cell_listed p (e ∷ es) some = by (eq_by_cmp place_cmp p e.0) refl some (cell_listed p es)
  where
    by : (t : Bool) → eq_by_cmp place_cmp p e.0 ≡ t → is_some (cond t (Some e.1) (find place_cmp p es)) ≡ true
        → (is_some (find place_cmp p es) ≡ true → has (node.Cell p) (map cell_node es) ≡ true) → has (node.Cell p) (map cell_node (e ∷ es)) ≡ true
    by true is there later = or_left (same_node (node.Cell p) (cell_node e)) (has (node.Cell p) (map cell_node es)) (ap (λ q. same_node (node.Cell p) (node.Cell q)) (is_at e.0 p is) ∙ own_node (node.Cell p))
    by false is there later = or_right (same_node (node.Cell p) (cell_node e)) (has (node.Cell p) (map cell_node es)) (later there)

-- and a listed place has an entry
cell_there : (p : Place) (es : List (Place × Cell)) → has (node.Cell p) (map cell_node es) ≡ true → is_some (find place_cmp p es) ≡ true
cell_there p [] h = absurd (false≢true h)
cell_there p (e ∷ es) h = by (eq_by_cmp place_cmp p e.0) refl (cell_there p es)
  where
    by : (t : Bool) → eq_by_cmp place_cmp p e.0 ≡ t → (has (node.Cell p) (map cell_node es) ≡ true → is_some (find place_cmp p es) ≡ true) → is_some (find place_cmp p (e ∷ es)) ≡ true
    by true is later = ap (λ t. is_some (cond t (Some e.1) (find place_cmp p es))) is
    by false is later =
        ap (λ t. is_some (cond t (Some e.1) (find place_cmp p es))) is
        ∙ ⊎_elim
        (λ (same : same_place p e.0 ≡ true). absurd (false≢true (sym is ∙ subst (λ q. eq_by_cmp place_cmp p q ≡ true) (same_place-equal p e.0 same) ((eq_by_cmp_equiv place_cmp-IsTotalOrder).refl p))))
        (λ (rest : has (node.Cell p) (map cell_node es) ≡ true). later rest)
        (or_cases (same_place p e.0) (has (node.Cell p) (map cell_node es)) h)

-- the nodes of cells are cells
no_name : (scope word : ℕ) (es : List (Place × Cell)) → has (node.Name scope word) (map cell_node es) ≡ false
no_name scope word [] = refl
no_name scope word (e ∷ es) = no_name scope word es

no_range : (block : Block) (es : List (Place × Cell)) → has (node.Range block) (map cell_node es) ≡ false
no_range block [] = refl
no_range block (e ∷ es) = no_range block es

no_whole : (w : Whole) (es : List (Place × Cell)) → has (node.Whole w) (map cell_node es) ≡ false
no_whole w [] = refl
no_whole w (e ∷ es) = no_whole w es

pub cells_known : (words : List (List ℕ)) (es : List (Place × Cell)) → AreKnown words (map cell_node es)
cells_known words es (node.Cell p) h = (book.place p, refl)
cells_known words es (node.Name scope word) h = absurd (false≢true (sym (no_name scope word es) ∙ h))
cells_known words es (node.Range block) h = absurd (false≢true (sym (no_range block es) ∙ h))
cells_known words es (node.Whole w) h = absurd (false≢true (sym (no_whole w es) ∙ h))

-- cells that a step of one change lists as replaced
all_listed : (p : Place) (es : List (Place × Cell)) → has (node.Cell p) (map cell_node es) ≡ list_any (same_place p) (places_of es)
all_listed p [] = refl
all_listed p (e ∷ es) = ap (λ t. same_place p e.0 || t) (all_listed p es)

pub replaced_listed : (changes : List Change) (es : List (Place × Cell)) (p : Place) → replaced_of changes ≡ Some es → is_replaced changes p ≡ true → IsTrue (has (node.Cell p) (map cell_node es))
replaced_listed [] es p is h = absurd (none-some es is)
replaced_listed (c ∷ []) es p is h = all_listed p es ∙ ap (λ l. list_any (same_place p) (places_of l)) (sym (same_Some c.replaced es is)) ∙ sym (or_none (list_any (same_place p) (places_of c.replaced))) ∙ h
replaced_listed (c ∷ d ∷ cs) es p is h = absurd (none-some es is)

pub replaced_only : (changes : List Change) (es : List (Place × Cell)) → replaced_of changes ≡ Some es → (a : Node) → IsTrue (has a (map cell_node es)) → is_replaced_cell changes a ≡ true
replaced_only [] es is a h = absurd (none-some es is)
replaced_only (c ∷ []) es is (node.Cell p) h = or_none (list_any (same_place p) (places_of c.replaced)) ∙ ap (λ l. list_any (same_place p) (places_of l)) (same_Some c.replaced es is) ∙ sym (all_listed p es) ∙ h
replaced_only (c ∷ []) es is (node.Name scope word) h = absurd (false≢true (sym (no_name scope word es) ∙ h))
replaced_only (c ∷ []) es is (node.Range block) h = absurd (false≢true (sym (no_range block es) ∙ h))
replaced_only (c ∷ []) es is (node.Whole w) h = absurd (false≢true (sym (no_whole w es) ∙ h))
replaced_only (c ∷ d ∷ cs) es is a h = absurd (none-some es is)

module _ (s : Session) where
  -- a filled cell of a block is listed
  filled_listed : (area : Block) (p : Place) → covers area p ≡ true → is_some (fin.get (book_of s).cells p) ≡ true → IsTrue (has (node.Cell p) (filled_in s area))
  filled_listed area p on there = cell_listed p (fin.entries (within area cells)) (ap is_some (sym (get-entries (within area cells) p) ∙ inside) ∙ held)
    where
      cells : PlaceMap Cell
      cells = cells_of s.book.grid

      held : is_some (fin.get cells p) ≡ true
      held = sym (ap is_some (get-contents (numbered_at (at_of s.book) s.book.lazy.line.cursor) cells p) ∙ some_mapped (content_of (numbered_at (at_of s.book) s.book.lazy.line.cursor)) (fin.get cells p)) ∙ there

      inside : fin.get (within area cells) p ≡ fin.get cells p
      inside = get-retain_keys cells (covers area) p (λ q tied. ap (covers area) (sym (place_cmp-IsAntisymmetric p q tied))) ∙ ap (λ t. cond t (fin.get cells p) None) on

  -- and what is listed is a cell of the block
  listed_within : (area : Block) (p : Place) → IsTrue (has (node.Cell p) (filled_in s area)) → covers area p ≡ true
  listed_within area p h = by (covers area p) refl
    where
      cells : PlaceMap Cell
      cells = cells_of s.book.grid

      held : is_some (fin.get (within area cells) p) ≡ true
      held = ap is_some (get-entries (within area cells) p) ∙ cell_there p (fin.entries (within area cells)) h

      by : (t : Bool) → covers area p ≡ t → covers area p ≡ true
      by true on = on
      by false out = absurd (false≢true (sym (ap is_some (get-retain_keys cells (covers area) p (λ q tied. ap (covers area) (sym (place_cmp-IsAntisymmetric p q tied))) ∙ ap (λ t. cond t (fin.get cells p) None) out)) ∙ held))

  -- ---- what an operation touches

  pub cells_touched : (x : Shift) (source : Block) (to : Place) (nodes : List Node) → form_of x ≡ Cells source to → nodes ≡ filled_in s source ++ filled_in s (destination source to)
      → HasTouched x (book_of s) (words_in s) nodes
  cells_touched x source to nodes is listed = record {
    filled = λ p moved there. subst (λ ns. IsTrue (has (node.Cell p) ns)) (sym listed) (⊎_elim
        (λ (from : covers source p ≡ true). has-append_left (node.Cell p) (filled_in s source) (filled_in s (destination source to)) (filled_listed source p from there))
        (λ (onto : covers (destination source to) p ≡ true). has-append_right (node.Cell p) (filled_in s source) (filled_in s (destination source to)) (filled_listed (destination source to) p onto there))
        (or_cases (covers source p) (covers (destination source to) p) (ap (λ f. is_moved_in f p) (sym is) ∙ moved)));
    names = λ a key at drops there. absurd (false≢true (ap (λ f. drops_scope f (scope_sheet key.scope)) (sym is) ∙ drops));
  }

  pub cells_are_known : (one other : Block) (nodes : List Node) → nodes ≡ filled_in s one ++ filled_in s other → AreKnown (words_in s) nodes
  cells_are_known one other nodes listed a h = ⊎_elim
      (λ (first : has a (filled_in s one) ≡ true). cells_known (words_in s) (fin.entries (within one (cells_of s.book.grid))) a first)
      (λ (second : has a (filled_in s other) ≡ true). cells_known (words_in s) (fin.entries (within other (cells_of s.book.grid))) a second)
      (has-append_cases a (filled_in s one) (filled_in s other) (subst (λ ns. IsTrue (has a ns)) listed h))

  -- it may touch no other nodes
  pub cells_only : (x : Shift) (source : Block) (to : Place) (nodes : List Node) → form_of x ≡ Cells source to → nodes ≡ filled_in s source ++ filled_in s (destination source to)
      → (a : Node) → IsTrue (has a nodes) → may_touch x a ≡ true
  cells_only x source to nodes is listed a h = by a (has-append_cases a (filled_in s source) (filled_in s (destination source to)) (subst (λ ns. IsTrue (has a ns)) listed h))
    where
      by : (a : Node) → (has a (filled_in s source) ≡ true) ⊎ (has a (filled_in s (destination source to)) ≡ true) → may_touch x a ≡ true
      by (node.Cell p) (inl from) = ap (λ f. is_moved_in f p) is ∙ or_left (covers source p) (covers (destination source to) p) (listed_within source p from)
      by (node.Cell p) (inr onto) = ap (λ f. is_moved_in f p) is ∙ or_right (covers source p) (covers (destination source to) p) (listed_within (destination source to) p onto)
      by (node.Name scope word) (inl from) = absurd (false≢true (sym (no_name scope word (fin.entries (within source (cells_of s.book.grid)))) ∙ from))
      by (node.Name scope word) (inr onto) = absurd (false≢true (sym (no_name scope word (fin.entries (within (destination source to) (cells_of s.book.grid)))) ∙ onto))
      by (node.Range block) (inl from) = absurd (false≢true (sym (no_range block (fin.entries (within source (cells_of s.book.grid)))) ∙ from))
      by (node.Range block) (inr onto) = absurd (false≢true (sym (no_range block (fin.entries (within (destination source to) (cells_of s.book.grid)))) ∙ onto))
      by (node.Whole w) (inl from) = absurd (false≢true (sym (no_whole w (fin.entries (within source (cells_of s.book.grid)))) ∙ from))
      by (node.Whole w) (inr onto) = absurd (false≢true (sym (no_whole w (fin.entries (within (destination source to) (cells_of s.book.grid)))) ∙ onto))

pub names_only : (x : Shift) (sheet : ℕ) (nodes : List Node) → form_of x ≡ Sheet sheet → ((a : Node) → IsTrue (has a nodes) → is_name_of sheet a ≡ true) → (a : Node) → IsTrue (has a nodes) → may_touch x a ≡ true
names_only x sheet nodes is only a h = by a (only a h)
  where
    by : (a : Node) → is_name_of sheet a ≡ true → may_touch x a ≡ true
    by (node.Cell p) e = absurd (false≢true e)
    by (node.Name scope word) e = ap (λ f. drops_scope f scope) is ∙ e
    by (node.Range block) e = absurd (false≢true e)
    by (node.Whole w) e = absurd (false≢true e)
