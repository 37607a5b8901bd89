use Rattle.std.proofs.Common.{◌∙◌, ◌++◌, ◌∷◌, [], ap, refl, map}
use Rattle.kept_book.specs.Kept.{name_change, sheet_change}
use Rattle.kept_book.proofs.PlainBooks.{plain-book, plain-joined, plain-keeps, plain-stands}
use Rattle.kept_book.proofs.book.Book.put_plain.Goals as goal

pub returns-clause-ok : goal.returns-clause-ok
returns-clause-ok c =
    let book = c.args.self.now in
    plain-book book.lazy book.grid c.put.new.self book.names book.next_id c.args.at c.args.cell c.requires.inside c.requires.plain c.requires.stand book.fresh c.in_ok-put.ensures.ok

pub returns-clause-makes : goal.returns-clause-makes
returns-clause-makes c =
    let book = c.args.self.now in
    let grid2 = c.put.new.self in
    record {
      joins = plain-joined book.lazy book.grid grid2 book.names book.next_id c.args.at c.args.cell c.requires.inside c.requires.plain c.requires.stand book.fresh c.in_ok-put.ensures.ok _
          (c.cursor-position.ensures.result ∙ ap (λ t. t.cursor) c.line.ensures) refl c.in_ok-held.ensures
          (c.in_ok-push.ensures.ok ∙ (λ i. c.in_ok-written.ensures i ++ (c.args.at, c.in_ok-copied.ensures i) ∷ [])) (ap (map name_change) c.new-names.ensures.items)
          (ap (map sheet_change) c.new-sheets.ensures.items);
      keeps = plain-keeps book.lazy book.grid grid2 book.names book.next_id c.args.at c.args.cell c.requires.inside c.requires.plain c.requires.stand book.fresh c.in_ok-put.ensures.ok;
      stand = plain-stands book.lazy book.grid grid2 book.names book.next_id c.args.at c.args.cell c.requires.inside c.requires.plain c.requires.stand book.fresh c.in_ok-put.ensures.ok;
    }
