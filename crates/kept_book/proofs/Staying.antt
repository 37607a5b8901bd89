-- What a frame shows stays where standings, words and the line up to it do. Serves all calls that change a workbook, and reads.
use Rattle.std.proofs.Common.{◌≡◌, ◌∙◌, sym, ap, refl, arith, ℕ, zero, suc, ◌<◌, List, [], ◌∷◌, length, Option, Some, None, option_map}
use Rattle.std.proofs.lemmas.Option.{none-some, same_Some}
use Rattle.std.specs.FinMap as fin
use Rattle.std.specs.Prelude.{option_and_then, slice_get}
use Rattle.cell_addr.specs.declared.place.Place.{Place}
use Rattle.formula_tree.specs.Term.{Term}
use Rattle.formula_tree.specs.declared.reference.Corner.{Corner}
use Rattle.formula_tree.specs.declared.reference.Home.{Home}
use Rattle.formula_tree.specs.declared.reference.Home.TheVariants as homes
use Rattle.grid_store.specs.declared.cell.Cell.{Cell}
use Rattle.grid_store.specs.declared.cell.Cell.TheVariants as cell
use Rattle.lazy_store.specs.Standing.{Standing}
use Rattle.name_table.specs.Scopes as table
use Rattle.name_table.specs.Words.{AreWords}
use Rattle.name_table.specs.declared.key.NameKey.{NameKey}
use Rattle.shift_core.specs.Maps.{PlaceMap}
use Rattle.book_values.specs.Names.{Key}
use Rattle.book_values.specs.Workbook.{scope_sheet}
use Rattle.kept_book.specs.Frame.{At, Frame, Stands, Words, book_at, home_at, named_at, names_seen, numbered_at, stood_of, tree_named}
use Rattle.kept_book.specs.Kept.{IsMore}
use Rattle.kept_book.specs.Numbered.{Numbered}
use Rattle.kept_book.specs.Stored.{StandsAt, contents_of}
use Rattle.kept_book.proofs.Contents.{content_same, get-contents, same_contents, stands_too}
use Rattle.kept_book.proofs.NamesSeen.{get-seen, number-spells, number_of, same_names, spelled-has}

-- each word within the list is there
pub word-there : (words : Words) (n : ℕ) → n < length words → (w : List ℕ) × (slice_get words n ≡ Some w)
word-there [] n l = absurd (omega arith)
word-there (w ∷ words) zero l = (w, refl)
word-there (w ∷ words) (suc n) l = word-there words n (omega arith)

pub there-within : (words : Words) (n : ℕ) (w : List ℕ) → slice_get words n ≡ Some w → n < length words
there-within [] n w e = absurd (none-some w e)
there-within (v ∷ words) zero w e = omega arith
there-within (v ∷ words) (suc n) w e = let less = there-within words n w e in omega (arith, less)

pub known-more : (words more : Words) (n : ℕ) → IsMore words more → n < length words → n < length more
known-more words more n known l = let w = word-there words n l in there-within more n w.0 (known n w.0 w.1)

-- names and their trees are the same where each tree is
module _ (words more : Words) (h : AreWords words) (hm : AreWords more) (known : IsMore words more) (names : table.NameMap) (one two : ℕ → Term Corner)
    (same : (key : NameKey) (id : ℕ) → fin.get names key ≡ Some id → (two id ≡ one id) × (key.word < length words)) where
  same-found : (key : NameKey) (r : Option ℕ) → fin.get names key ≡ r → option_map two r ≡ option_map one r
  same-found key None is = refl
  same-found key (Some id) is = ap Some (same key id is).0

  no-name : (q : Key) (n : ℕ) (r : Option ℕ) → fin.get names (table.key_of q.scope n) ≡ r → number_of words q.word ≡ None → slice_get more n ≡ Some q.word → option_map two r ≡ None
  no-name q n None is unknown spelt = refl
  no-name q n (Some id) is unknown spelt =
      let w = word-there words n (same (table.key_of q.scope n) id is).1 in
      let word : w.0 ≡ q.word = same_Some w.0 q.word (sym (known n w.0 w.1) ∙ spelt) in
      absurd (none-some n (sym unknown ∙ spelled-has words q.word n h (w.1 ∙ ap Some word)))

  at-name : (q : Key) (r t : Option ℕ) → number_of words q.word ≡ r → number_of more q.word ≡ t
      → option_map two (option_and_then (λ n. fin.get names (table.key_of q.scope n)) t) ≡ option_map one (option_and_then (λ n. fin.get names (table.key_of q.scope n)) r)
  at-name q None None is now = refl
  at-name q None (Some n) is now = no-name q n (fin.get names (table.key_of q.scope n)) refl is (number-spells more q.word n hm now)
  at-name q (Some n) t is now =
      let also : t ≡ Some n = sym now ∙ spelled-has more q.word n hm (known n q.word (number-spells words q.word n h is)) in
      ap (λ r. option_map two (option_and_then (λ n. fin.get names (table.key_of q.scope n)) r)) also ∙ same-found (table.key_of q.scope n) (fin.get names (table.key_of q.scope n)) refl

  pub names-stay : names_seen more two names ≡ names_seen words one names
  names-stay = same_names _ _ (λ q. get-seen more hm two names q ∙ at-name q (number_of words q.word) (number_of more q.word) refl refl ∙ sym (get-seen words h one names q))

-- contents are the same where each formula of a cell is
pub cells-stay : (one two : Numbered) (cells : PlaceMap Cell) → ((q : Place) (n : ℕ) → fin.get cells q ≡ Some (cell.Formula n) → two n ≡ one n) → contents_of two cells ≡ contents_of one cells
cells-stay one two cells same = same_contents _ _ (λ q. get-contents two cells q ∙ content_same one two (fin.get cells q) (same q) ∙ sym (get-contents one cells q))

-- standings up to a position stay
abbrev pub StaysAt : ℕ → At → At → Type 0
StaysAt k old new = (id : ℕ) (x : Standing) → old id k ≡ Some x → new id k ≡ Some x

module _ (f : Frame) (old new : At) (words more : Words) (h : AreWords words) (hm : AreWords more) (known : IsMore words more) (stays : StaysAt f.position old new) (stand : Stands old words f) where
  some-there : (n : ℕ) (q : Place) → StandsAt (numbered_at old f.position) n q → (x : Standing) × (old n f.position ≡ Some x)
  some-there n q at = go (old n f.position) refl at
    where
      go : (r : Option Standing) → old n f.position ≡ r → option_map (λ g. g.0) (option_and_then stood_of r) ≡ Some q → (x : Standing) × (old n f.position ≡ Some x)
      go None is e = absurd (none-some q e)
      go (Some x) is e = (x, is)

  pub same-number : (q : Place) (n : ℕ) → fin.get f.cells q ≡ Some (cell.Formula n) → numbered_at new f.position n ≡ numbered_at old f.position n
  same-number q n is =
      let x = some-there n q (stand.cells q n is) in
      ap (option_and_then stood_of) (stays n x.0 x.1 ∙ sym x.1)

  name-there : (n : ℕ) (home : Home) → home_at old f.position n ≡ Some home → (x : Standing) × (old n f.position ≡ Some x)
  name-there n home at = go (old n f.position) refl at
    where
      go : (r : Option Standing) → old n f.position ≡ r → option_map (λ x. x.home) r ≡ Some home → (x : Standing) × (old n f.position ≡ Some x)
      go None is e = absurd (none-some home e)
      go (Some x) is e = (x, is)

  pub same-there : (key : NameKey) (id : ℕ) → fin.get f.names key ≡ Some id → new id f.position ≡ old id f.position
  same-there key id is =
      let x = name-there id (homes.Name (scope_sheet key.scope)) (stand.names key id is).home in
      stays id x.0 x.1 ∙ sym x.1

  -- the workbook of the frame stays
  pub stays-book : book_at new more f ≡ book_at old words f
  stays-book =
      let contents = cells-stay (numbered_at old f.position) (numbered_at new f.position) f.cells same-number in
      let names = names-stay words more h hm known f.names (named_at old f.position) (named_at new f.position)
      (λ key id is. (ap tree_named (same-there key id is), (stand.names key id is).known)) in
      λ i. record { sheets = f.sheets; cells = contents i; names = names i }

  -- so do its formulas
  pub stays-stand : Stands new more f
  stays-stand = record {
    cells = λ q n is. stands_too (numbered_at old f.position) (numbered_at new f.position) n q (same-number q n is) (stand.cells q n is);
    names = λ key id is. record {
      known = known-more words more key.word known (stand.names key id is).known;
      scoped = (stand.names key id is).scoped;
      home = ap (option_map (λ x. x.home)) (same-there key id is) ∙ (stand.names key id is).home;
    };
  }
