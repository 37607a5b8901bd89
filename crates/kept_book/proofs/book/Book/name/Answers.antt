use Rattle.std.proofs.Common.{◌≡◌, ◌∙◌, ◌++◌, ◌∷◌, [], Some, sym, ap, subst, refl, map}
use Rattle.std.specs.FinMap as fin
use Rattle.std.specs.Prelude.{option_and_then}
use Rattle.grid_store.specs.Grid.{cells_of, items_of}
use Rattle.lazy_store.specs.Kept.{at}
use Rattle.lazy_store.specs.Store.{at_in}
use Rattle.name_table.specs.Listed.{listed}
use Rattle.name_table.specs.Named.{names_of, words_of}
use Rattle.name_table.specs.Scopes as table
use Rattle.name_table.specs.Words.{number_in, with_word}
use Rattle.shift_line.specs.Track.{shift_at}
use Rattle.kept_book.specs.Change.{Change, Joins, with_id}
use Rattle.kept_book.specs.Frame.{Stands, book_at}
use Rattle.kept_book.specs.Kept.{IsMore, name_change, sheet_change}
use Rattle.kept_book.proofs.NamedBooks.{named-book, named-joins, named-keeps, named-stands, on_err}
use Rattle.kept_book.proofs.NamesPut.{more-word}
use Rattle.kept_book.proofs.ShiftedBooks.{frame_with}
use Rattle.kept_book.proofs.book.Book.name.Goals as goal

-- what is known once the name has its id
module _ (c : goal.After-result-1) where
  number : number_in (words_of c.give.new.self.names) c.args.word.now ≡ Some c.in_ok-word.word
  number = subst (λ w. number_in w c.args.word.now ≡ Some c.in_ok-word.word) (sym c.give.ensures.words) c.in_ok-word.ensures.number

  words : words_of c.give.new.self.names ≡ with_word c.args.word.now (words_of c.args.self.now.names)
  words = c.give.ensures.words ∙ c.in_ok-word.ensures.ok

  sheets : listed c.give.new.self.names ≡ listed c.args.self.now.names
  sheets = c.give.ensures.sheets ∙ c.in_ok-word.ensures.sheets

  abbrev change : Change
  change = record {
    from = c.cursor-position.result;
    to = c.cursor-position.result;
    replaced = items_of c.in_ok-replaced.replaced;
    written = items_of c.in_ok-written.written;
    names = map name_change c.push_reserved.new.self.items;
    sheets = map sheet_change c.new-3.result.items;
  }

  put : names_of c.give.new.self.names ≡ with_id (table.key_of c.args.scope c.in_ok-word.word) c.in_ok-after.after (names_of c.args.self.now.names)
  put = c.in_ok-after.ensures.names ∙ ap (with_id (table.key_of c.args.scope c.in_ok-word.word) c.in_ok-after.after) c.in_ok-word.ensures.names

pub returns-clause-ok : goal.returns-clause-ok
returns-clause-ok c =
    let lazy2 = c.give.new.self.lazy in
    let names2 = c.give.new.self.names in
    ap (λ g. book_at (at_in lazy2) (words_of names2) (frame_with lazy2 g names2)) c.give.ensures.grid
    ∙ named-book c.args.self.now.lazy lazy2 c.args.self.now.grid c.args.self.now.names names2 c.args.self.now.next_id c.args.scope c.args.tree c.in_ok-word.word c.args.word.now c.in_ok-after.after c.requires.stand
    c.args.self.now.fresh (number c) (words c) (sheets c) (put c) c.in_ok-after.ensures.gives c.give.ensures.line

pub returns-clause-makes : goal.returns-clause-makes
returns-clause-makes c =
    let lazy = c.args.self.now.lazy in
    let lazy2 = c.give.new.self.lazy in
    let grid = c.args.self.now.grid in
    let names = c.args.self.now.names in
    let names2 = c.give.new.self.names in
    let key = table.key_of c.args.scope c.in_ok-word.word in
    let joins = named-joins lazy lazy2 grid names names2 c.args.self.now.next_id c.args.scope c.args.tree c.in_ok-word.word c.args.word.now c.in_ok-after.after c.requires.stand c.args.self.now.fresh (number c)
    (words c) (sheets c) (put c) c.in_ok-after.ensures.gives c.give.ensures.line
    (change c)
    c.holder-before.result (c.cursor-position.ensures.result ∙ ap (λ t. t.cursor) c.line.ensures) refl c.in_ok-replaced.ensures c.in_ok-written.ensures
    (ap (map name_change) (c.push_reserved.ensures.items ∙ ap (λ l. l ++ record { scope = c.args.scope; word = c.in_ok-word.word; before = c.holder-before.result; after = c.in_ok-after.after } ∷ []) c.in_ok-names.ensures.items))
    (ap (map sheet_change) c.new-3.ensures.items) (c.holder-before.ensures ∙ ap (λ m. fin.get m key) c.in_ok-word.ensures.names) in
    record {
      joins = subst (λ g. Joins (shift_at lazy2.line) (words_of names2) (change c) (frame_with lazy grid names) (frame_with lazy2 g names2)) (sym c.give.ensures.grid) joins;
      keeps = named-keeps lazy lazy2 grid names names2 c.args.self.now.next_id c.args.scope c.args.tree c.in_ok-word.word c.args.word.now c.in_ok-after.after c.requires.stand c.args.self.now.fresh (number c)
          (words c) (sheets c) (put c) c.in_ok-after.ensures.gives c.give.ensures.line;
      stand = subst (λ g. Stands (at_in lazy2) (words_of names2) (frame_with lazy2 g names2)) (sym c.give.ensures.grid)
          (named-stands lazy lazy2 grid names names2 c.args.self.now.next_id c.args.scope c.args.tree c.in_ok-word.word c.args.word.now c.in_ok-after.after c.requires.stand c.args.self.now.fresh (number c)
          (words c) (sheets c) (put c) c.in_ok-after.ensures.gives c.give.ensures.line c.requires.scope);
    }

pub returns-in_err-after-clause-err : goal.returns-in_err-after-clause-err
returns-in_err-after-clause-err c =
    let cursor = ap (λ t. t.cursor) c.give.ensures.line in
    let cells = ap cells_of c.give.ensures.grid in
    let sheets = c.give.ensures.sheets ∙ c.in_ok-word.ensures.sheets in
    let names = c.in_err-after.ensures.names_err ∙ c.in_ok-word.ensures.names in
    on_err c.from_residual-in_err-after.result (record {
      frame = λ i. record { position = cursor i; cells = cells i; sheets = sheets i; names = names i };
      line = c.give.ensures.line;
      standings = λ id k i. option_and_then (λ h. at (c.give.ensures.line i) h k) (c.in_err-after.ensures.lazy_err id i);
      known = subst (IsMore (words_of c.args.self.now.names)) (sym (c.give.ensures.words ∙ c.in_ok-word.ensures.ok)) (more-word c.args.word.now (words_of c.args.self.now.names));
    })
