-- A sheet that was read can stand behind the others.
use Rattle.std.proofs.Common.{◌≡◌, ◌∙◌, sym, ap, arith, false, ◌<◌, length, Ok}
use Rattle.std.proofs.lemmas.List.{length-map}
use Rattle.book_files.specs.Books.{book_sheet_of, sheet_name_of}
use Rattle.book_model.specs.Given.{given_sheet, given_sheets}
use Rattle.run_inputs.specs.Opening.{has_name}
use Rattle.run_inputs.proofs.SheetsRead.{read_can}
use Rattle.run_inputs.proofs.books.read_sheet.Goals as goal
use Rattle.run_inputs.proofs.books.read_sheet.Goals.{then-is_named+else-has_name+else-sheets, else-is_named}

pub returns-in-Ok-clause-can : goal.returns-in-Ok-clause-can
returns-in-Ok-clause-can c = elim c.if-is_named.branch [
  | then-is_named+else-has_name+else-sheets w ↦
      let answers = rw c.in-Ok.is at c.read_book-read.ensures.answers in
      let given = rw c.in-Ok.is at c.read_book-read.ensures.given in
      let said : book_sheet_of c.args.file.now c.args.bytes.now c.args.filled ≡ Ok (given_sheet c.in-Ok.sheet) = sym (ap (λ file. book_sheet_of file c.args.bytes.now c.args.filled) c.as_str.ensures) ∙ answers in
      let name : w.sheet_name.result.now ≡ sheet_name_of c.args.file.now = w.sheet_name.ensures ∙ ap sheet_name_of w.as_str-then-is_named.ensures in
      let other = w.if-has_name.false in
      let told = w.has_name.ensures in
      let new : has_name (given_sheets c.args.sheets.now) (sheet_name_of c.args.file.now) ≡ false = sym (ap (has_name (given_sheets c.args.sheets.now)) name) ∙ sym told ∙ other in
      let few : length (given_sheets c.args.sheets.now) < 1024 = rw length-map (omega (arith, w.if-sheets.false)) in
      read_can (given_sheets c.args.sheets.now) c.args.filled c.args.file.now c.args.bytes.now c.in-Ok.sheet said given new few c.requires
  | else-is_named w ↦
      let told = c.is_named.ensures in
      let unnamed = w.if-is_named.false in
      let read = rw c.in-Ok.is at told in
      absurd (cc)
]
