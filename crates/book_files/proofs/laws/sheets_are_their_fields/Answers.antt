use Rattle.std.proofs.Common.{subst}
use Rattle.book_files.specs.Laws.{AreFields, records_in}
use Rattle.std.proofs.Common.{◌<◌, length}
use Rattle.book_files.proofs.FieldLists.{filled-fields}
use Rattle.book_files.proofs.FirstFaults.{sheet_fields}
use Rattle.book_files.proofs.laws.sheets_are_their_fields.Goals as goal

pub returns : goal.returns
returns c = λ name bytes filled sheet is. subst (AreFields (λ cell. 0 < length cell.text) (records_in bytes)) (sheet_fields name bytes filled sheet is) (filled-fields (records_in bytes))
