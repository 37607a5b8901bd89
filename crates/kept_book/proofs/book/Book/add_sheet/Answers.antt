use Rattle.std.proofs.Common.{sym, subst}
use Rattle.name_table.specs.Listed.{listed}
use Rattle.name_table.specs.Named.{words_of}
use Rattle.kept_book.specs.Change.{Joins}
use Rattle.kept_book.specs.Kept.{frame_of, line_of}
use Rattle.kept_book.proofs.ChangedSheets.{added-back, added-put, added-slot, sheets-join, sheets-keep, sheets-stand}
use Rattle.kept_book.proofs.ShiftedBooks.{frame_with}
use Rattle.kept_book.proofs.book.Book.add_sheet.Goals as goal

pub returns-clause-makes : goal.returns-clause-makes
returns-clause-makes c =
    let b = c.args.self.now in
    let names2 = c.add_sheet.new.self in
    let es = listed b.names in
    let id = c.args.number in
    let name = c.args.name.now in
    let same = c.add_sheet.ensures.names in
    let put = added-put id c.len-index.result name c.in_ok-after.after es (listed names2) c.requires.joins c.len-index.ensures c.in_ok-after.ensures c.in_ok-add_sheet.ensures.ok in
    let back = added-back id c.len-index.result name c.in_ok-after.after es (listed names2) c.requires.joins c.len-index.ensures c.in_ok-after.ensures c.in_ok-add_sheet.ensures.ok in
    let slot = added-slot id c.len-index.result name c.in_ok-after.after es (listed names2) c.requires.joins c.len-index.ensures c.in_ok-after.ensures c.in_ok-add_sheet.ensures.ok in
    record {
      joins = subst (λ h. Joins (line_of b) (words_of names2) h (frame_of b) (frame_with b.lazy b.grid names2)) (sym c.in_ok-part.ensures) (sheets-join b.lazy b.grid b.names names2 same _ put back tt slot);
      keeps = sheets-keep b.lazy b.grid b.names names2 same;
      stand = sheets-stand b.lazy b.grid b.names names2 same c.requires.stand;
    }
