-- The kept workbook after its list of sheets changed alone. Serves the calls that add and rename a sheet.
use Rattle.std.proofs.Common.{◌≡◌, ◌≢◌, ◌∙◌, sym, ap, subst, refl, arith, ℕ, zero, suc, ◌<◌, ◌≤◌, ◌==◌, true, false, eqb, cond, List, [], ◌∷◌, ◌++◌, length, map, Option, Some, None, option_map, IsSome}
use Rattle.std.proofs.lemmas.Bool.{eq-eqb, eqb-true, ne_eqb}
use Rattle.std.proofs.lemmas.List.Elements.{All-head, All-tail}
use Rattle.std.proofs.lemmas.Option.{same_Some}
use Rattle.std.specs.Option.{option_eq}
use Rattle.std.specs.Prelude.{insert, slice_get}
use Rattle.cell_addr.specs.Sheets.{AreSheets, name_in}
use Rattle.grid_store.specs.declared.cell.Cell.{Cell}
use Rattle.grid_store.specs.declared.grid.Grid.{Grid}
use Rattle.lazy_store.specs.Store.{at_in}
use Rattle.lazy_store.specs.declared.lazy.Lazy.{Lazy}
use Rattle.name_table.proofs.WordNumbers.{position-cons}
use Rattle.name_table.specs.Listed.{listed}
use Rattle.name_table.specs.Named.{KeepsNames, names_of, words_of}
use Rattle.name_table.proofs.SheetEntries.{Lacks, Sheet}
use Rattle.name_table.specs.SheetLists.{CanJoin, index_in, left_in, renamed_in}
use Rattle.name_table.specs.declared.names.Names.{Names}
use Rattle.shift_line.specs.Track.{shift_at}
use Rattle.kept_book.specs.Change.{HasSlot, Joins, with_slot}
use Rattle.kept_book.specs.Frame.{Stands}
use Rattle.kept_book.specs.Kept.{KeepsUpTo}
use Rattle.kept_book.specs.declared.part.SheetChange.{SheetChange}
use Rattle.kept_book.specs.internal.Naming.{sheet_changed}
use Rattle.kept_book.proofs.Joining.{plain-joins}
use Rattle.kept_book.proofs.SheetSlots.{index-left, inserted-joins, left-renamed, left-twice, renamed-same, same-left, slot-joins, slot-renamed}
use Rattle.kept_book.proofs.ShiftedBooks.{frame_with}

module _ (lazy : Lazy) (grid : Grid Cell) (names names2 : Names) (same : KeepsNames names names2) where
  pub sheets-stand : Stands (at_in lazy) (words_of names) (frame_with lazy grid names) → Stands (at_in lazy) (words_of names2) (frame_with lazy grid names2)
  sheets-stand stand =
      let named = subst (λ ns. Stands (at_in lazy) (words_of names) (record (frame_with lazy grid names) { names = ns })) (sym same.1) stand in
      let known = subst (λ ws. Stands (at_in lazy) ws (record (frame_with lazy grid names) { names = names_of names2 })) (sym same.0) named in
      record { cells = known.cells; names = known.names }

  pub sheets-keep : KeepsUpTo lazy.line.cursor (shift_at lazy.line) (shift_at lazy.line) (at_in lazy) (at_in lazy) (words_of names) (words_of names2)
  sheets-keep = record {
    below = λ j l. refl;
    stays = λ id j x l is. is;
    known = λ i w is. ap (λ ws. slice_get ws i) same.0 ∙ is;
  }

  pub sheets-join : (c : SheetChange) → with_slot c.id c.after (listed names) ≡ listed names2 → with_slot c.id c.before (listed names2) ≡ listed names
      → HasSlot c.id c.before (listed names2) → HasSlot c.id c.after (listed names)
      → Joins (shift_at lazy.line) (words_of names2) (sheet_changed lazy.line.cursor c) (frame_with lazy grid names) (frame_with lazy grid names2)
  sheets-join c put back returns repeats =
      plain-joins (shift_at lazy.line) (words_of names2) (sheet_changed lazy.line.cursor c) (frame_with lazy grid names) (frame_with lazy grid names2) refl refl refl
      (record { listed = λ q some. cc; there = λ q among. cc }) refl (sym put) back same.1 same.1 (returns, tt) (repeats, tt) tt

-- a sheet that is put in at the end
pub insert-end : {X : Type 0} (xs : List X) (x : X) → insert xs (length xs) x ≡ xs ++ x ∷ []
insert-end [] x = refl
insert-end (y ∷ xs) x = ap (λ l. y ∷ l) (insert-end xs x)

-- the sheet of a number stands at this place of the list, or behind it
abbrev pub StandsFrom : ℕ → ℕ → List (ℕ × List ℕ) → Type 0
StandsFrom id zero es = IsSome (name_in es id)
StandsFrom id (suc i) [] = IsSome {T = ℕ} None
StandsFrom id (suc i) (e ∷ es) = (e.0 ≢ id) × StandsFrom id i es

pub stands-within : (id i : ℕ) (es : List (ℕ × List ℕ)) → StandsFrom id i es → i < length es
stands-within id zero [] h = cc
stands-within id zero (e ∷ es) h = omega arith
stands-within id (suc i) [] h = cc
stands-within id (suc i) (e ∷ es) h = let less = stands-within id i es h.1 in omega (arith, less)

pub stands-behind : (id i : ℕ) (es : List (ℕ × List ℕ)) → StandsFrom id i es → option_map (λ s. s.0) (slice_get es i) ≢ Some id → StandsFrom id (suc i) es
stands-behind id zero [] h other = cc
stands-behind id zero (e ∷ es) h other =
    let differs : e.0 ≢ id = λ same. other (ap Some same) in
    (differs, subst (λ b. IsSome (cond b (Some e.1) (name_in es id))) (ne_eqb e.0 id differs) h)
stands-behind id (suc i) [] h other = cc
stands-behind id (suc i) (e ∷ es) h other = (h.0, stands-behind id i es h.1 other)

pub stands-here : (id i : ℕ) (es : List (ℕ × List ℕ)) → StandsFrom id i es → option_map (λ s. s.0) (slice_get es i) ≡ Some id → Some i ≡ index_in id es
stands-here id zero [] h is = cc
stands-here id zero (e ∷ es) h is =
    let same = same_Some e.0 id is in
    sym (position-cons (λ k. id == k) e.0 (map (λ s. s.0) es) ∙ ap (λ b. cond b (Some 0) (option_map suc (index_in id es))) (eq-eqb id e.0 (sym same)))
stands-here id (suc i) [] h is = cc
stands-here id (suc i) (e ∷ es) h is =
    sym (position-cons (λ k. id == k) e.0 (map (λ s. s.0) es) ∙ ap (λ b. cond b (Some 0) (option_map suc (index_in id es))) (ne_eqb id e.0 (λ same. h.0 (sym same)))
    ∙ ap (option_map suc) (sym (stands-here id i es h.1 is)))

pub same-number : (r : Option ℕ) (s : ℕ) → true ≡ option_eq eqb r (Some s) → r ≡ Some s
same-number None s e = cc
same-number (Some t) s e = ap Some (eqb-true t s (sym e))

pub other-number : (r : Option ℕ) (s : ℕ) → false ≡ option_eq eqb r (Some s) → r ≢ Some s
other-number r s e same = let both : false ≡ true = e ∙ ap (λ t. option_eq eqb t (Some s)) same ∙ eq-eqb s s refl in cc

-- nothing but the last sheet is taken out
left-pushed : (id : ℕ) (name : List ℕ) (es : List Sheet) → Lacks id es → left_in id (es ++ (id, name) ∷ []) ≡ es
left-pushed id name [] h = rw (eq-eqb id id refl) refl
left-pushed id name (e ∷ es) h = rw (ne_eqb e.0 id (All-head (λ s. s.0 ≢ id) e es h)) (ap (λ r. e ∷ r) (left-pushed id name es (All-tail (λ s. s.0 ≢ id) e es h)))

-- a sheet that comes to the end of the list
module _ (id index : ℕ) (name after : List ℕ) (es two : List Sheet) (joins : CanJoin id name es) (last : index ≡ length es) (so : after ≡ name) (is : two ≡ insert es index (id, name)) where
  without : left_in id es ≡ es
  without = same-left id es (λ k d l. (joins.1 k d l).0)

  pub added-list : two ≡ es ++ (id, name) ∷ []
  added-list = is ∙ ap (λ n. insert es n (id, name)) last ∙ insert-end es (id, name)

  pub added-put : with_slot id (Some (index, after)) es ≡ two
  added-put = ap (λ l. insert l index (id, after)) without ∙ ap (λ w. insert es index (id, w)) so ∙ sym is

  pub added-back : with_slot id None two ≡ es
  added-back = ap (left_in id) added-list ∙ left-pushed id name es (λ k d l. (joins.1 k d l).0)

  pub added-slot : HasSlot id (Some (index, after)) es
  added-slot = subst (λ l. CanJoin id after l × (index ≤ length l)) (sym without) (subst (λ w. CanJoin id w es) (sym so) joins, omega (arith, last))

-- a listed sheet that gets another name
module _ (id index : ℕ) (name before after : List ℕ) (es two : List Sheet) (proper : AreSheets es) (proper2 : AreSheets two) (at : Some index ≡ index_in id es) (named : Some before ≡ name_in es id)
    (so : after ≡ name) (is : two ≡ renamed_in id name es) where
  there : insert (left_in id es) index (id, name) ≡ two
  there = slot-renamed id index name es proper.0 (sym at) ∙ sym is

  left : left_in id two ≡ left_in id es
  left = ap (left_in id) is ∙ left-renamed id name es

  pub renamed-put : with_slot id (Some (index, after)) es ≡ two
  renamed-put = ap (λ w. insert (left_in id es) index (id, w)) so ∙ there

  pub renamed-back : with_slot id (Some (index, before)) two ≡ es
  renamed-back = ap (λ l. insert l index (id, before)) left ∙ slot-renamed id index before es proper.0 (sym at) ∙ renamed-same id before es proper.0 (sym named)

  pub renamed-returns : HasSlot id (Some (index, before)) two
  renamed-returns = subst (λ l. CanJoin id before l × (index ≤ length l)) (left-twice id es ∙ sym left) (slot-joins es (left_in id es) id index before proper refl (sym at) (sym named))

  pub renamed-repeats : HasSlot id (Some (index, after)) es
  renamed-repeats = (
    subst (λ w. CanJoin id w (left_in id es)) (sym so) (inserted-joins id index name (left_in id es) (subst AreSheets (sym there) proper2)),
    index-left id index es proper.0 (sym at),
  )
