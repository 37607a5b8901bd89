use Rattle.std.proofs.Common.{◌<◌, sym, subst, length}
use Rattle.std.specs.List.{AllByRecursion}
use Rattle.name_table.specs.Named.{words_of}
use Rattle.sheet_tests.proofs.name_drafts.is_taken_out.Goals as goal

pub begin-requires : goal.begin-requires
begin-requires c =
    let words = words_of c.add_sheet-2.new.self in
    record {
      known = subst (λ names. AllByRecursion (λ e. e.0.word < length words) names.entries) (sym c.in_ok-remove_sheet.ensures.names) (c.new-draft.ensures.known words);
    }
