-- The sheets of the books so far, and what those that are left come to.
use Rattle.std.proofs.Common.{◌≡◌, ◌∙◌, sym, ap, subst, arith, ◌+◌, ◌<◌, [], ◌∷◌, ◌++◌, List, length}
use Rattle.std.proofs.lemmas.Bool.Decides.{nat_tests}
use Rattle.std.proofs.lemmas.List.{map-append}
use Rattle.std.specs.declared.alloc.Global.{Global}
use Rattle.std.specs.declared.vec.Vec.{Vec}
use Rattle.book_model.specs.Given.{CanBegin, GivenSheet, given_sheet, given_sheets}
use Rattle.book_model.specs.declared.given.BookSheet.{BookSheet}
use Rattle.run_inputs.specs.Opening.{book_joined, sheets_told}
use Rattle.run_inputs.proofs.Joined.{book_ends, book_read, end_through, none_left, some_told}
use Rattle.run_inputs.proofs.SheetsRead.{Standing, empty-can, standing-can, standing-more}
use Rattle.run_inputs.proofs.books.open_books.Goals as goal

pub returns-then-is_empty-clause-can : goal.returns-then-is_empty-clause-can
returns-then-is_empty-clause-can g c = subst CanBegin (sym c.in_ok-empty_book.ensures) empty-can

pub returns-in-Err-clause-opens : goal.returns-in-Err-clause-opens
returns-in-Err-clause-opens g c = λ told is.
    let opens = c.in-Err.ensures.opens told (c.books.invariant.stays ∙ is) in
    let left = c.books.invariant.opens told is in
    let some : 0 < length c.args.files.now = omega (arith, c.books-test.true) in
    end_through (λ (sheet : BookSheet). given_sheets c.deref.result.now ++ given_sheet sheet ∷ []) (λ (sheets : Vec BookSheet Global). given_sheets sheets.items) (book_joined told (given_sheets c.deref.result.now) c.file-item.result) (sheets_told told c.args.files.now) c.in-Err.ending
    (λ end ends. some_told told c.args.files.now some ∙ sym left
    ∙ book_ends told (given_sheets c.books.sheets.items) c.args.files.now c.books.file-index c.file-item.result end c.books-test.true c.file-item.is (rw c.deref.ensures.value at ends))
    opens

pub books-preserved : goal.books-preserved
books-preserved g c =
    let joined : c.join.new.sheets.items ≡ c.books.sheets.items ++ c.in-Ok.sheet ∷ [] = c.in_ok-join.ensures in
    let can = rw c.deref.ensures.value at c.in-Ok.ensures.can in
    let more = standing-more (given_sheets c.books.sheets.items) c.books.filled (given_sheet c.in-Ok.sheet) c.books.invariant.standing can in
    let sheets : given_sheets c.books.sheets.items ++ given_sheet c.in-Ok.sheet ∷ [] ≡ given_sheets c.join.new.sheets.items = sym (ap given_sheets joined ∙ map-append given_sheet c.books.sheets.items (c.in-Ok.sheet ∷ [])) in
    record {
      opens = λ told is.
          let read = rw c.deref.ensures.value at (c.in-Ok.ensures.opens told (c.books.invariant.stays ∙ is)) in
          let left = c.books.invariant.opens told is in
          rw joined (sym (book_read told c.books.sheets.items c.args.files.now c.books.file-index c.file-item.result c.in-Ok.sheet c.books-test.true c.file-item.is read) ∙ left);
      standing = rw c.items.ensures (subst (λ (s : List GivenSheet). Standing s (c.books.filled + length c.in-Ok.sheet.cells.list.items)) sheets more);
      later = let before = c.books.invariant.later in let after = c.open_book.ensures.later in omega arith;
      stays = c.open_book.ensures.stays ∙ c.books.invariant.stays;
    }

pub returns-clause-opens : goal.returns-clause-opens
returns-clause-opens g c = λ told is.
    let empty = c.is_empty.ensures in
    let isnt = c.if-is_empty.false in
    let some : 0 < length c.args.files.now = grind (arith, nat_tests) in
    some_told told c.args.files.now some ∙ sym (c.books.invariant.opens told is) ∙ none_left told (given_sheets c.books.sheets.items) c.args.files.now c.books.file-index (omega (arith, c.books-test.false))

pub returns-clause-can : goal.returns-clause-can
returns-clause-can g c = standing-can (given_sheets c.books.sheets.items) c.books.filled c.books.invariant.standing
