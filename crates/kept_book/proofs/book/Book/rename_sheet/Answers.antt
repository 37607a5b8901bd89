use Rattle.std.proofs.Common.{sym, subst}
use Rattle.name_table.specs.Listed.{listed}
use Rattle.name_table.specs.Named.{words_of}
use Rattle.kept_book.specs.Change.{Joins}
use Rattle.kept_book.specs.Kept.{frame_of, line_of}
use Rattle.kept_book.proofs.ChangedSheets.{renamed-back, renamed-put, renamed-repeats, renamed-returns, sheets-join, sheets-keep, sheets-stand}
use Rattle.kept_book.proofs.ShiftedBooks.{frame_with}
use Rattle.kept_book.proofs.book.Book.rename_sheet.Goals as goal

pub returns-clause-makes : goal.returns-clause-makes
returns-clause-makes c =
    let b = c.args.self.now in
    let names2 = c.rename.new.self in
    let es = listed b.names in
    let id = c.args.sheet in
    let name = c.args.name.now in
    let same = c.rename.ensures.names in
    let put = renamed-put id c.index_of-index.result name c.in_ok-before.before c.in_ok-after.after es (listed names2) b.names.proper names2.proper c.index_of-index.ensures c.in_ok-before.ensures c.in_ok-after.ensures c.in_ok-rename.ensures.ok in
    let back = renamed-back id c.index_of-index.result name c.in_ok-before.before c.in_ok-after.after es (listed names2) b.names.proper names2.proper c.index_of-index.ensures c.in_ok-before.ensures c.in_ok-after.ensures c.in_ok-rename.ensures.ok in
    let returns = renamed-returns id c.index_of-index.result name c.in_ok-before.before c.in_ok-after.after es (listed names2) b.names.proper names2.proper c.index_of-index.ensures c.in_ok-before.ensures c.in_ok-after.ensures c.in_ok-rename.ensures.ok in
    let repeats = renamed-repeats id c.index_of-index.result name c.in_ok-before.before c.in_ok-after.after es (listed names2) b.names.proper names2.proper c.index_of-index.ensures c.in_ok-before.ensures c.in_ok-after.ensures c.in_ok-rename.ensures.ok in
    record {
      joins = subst (λ h. Joins (line_of b) (words_of names2) h (frame_of b) (frame_with b.lazy b.grid names2)) (sym c.in_ok-part.ensures) (sheets-join b.lazy b.grid b.names names2 same _ put back returns repeats);
      keeps = sheets-keep b.lazy b.grid b.names names2 same;
      stand = sheets-stand b.lazy b.grid b.names names2 same c.requires.stand;
    }
