-- A new sheet stands at the index, and the list stays proper.
use Rattle.std.proofs.Common.{◌∙◌, sym, subst}
use Rattle.std.specs.Prelude.{IsSome}
use Rattle.cell_addr.specs.Sheets.{AreSheets}
use Rattle.name_table.proofs.SheetEntries.{put-at, new-lacks, lookup-lacks, sheets-inserted}
use Rattle.name_table.proofs.names.put_in.Goals as goal

pub shift_insert-requires-clause-below_len : goal.shift_insert-requires-clause-below_len
shift_insert-requires-clause-below_len c = λ there.
    let none = subst IsSome (lookup-lacks c.args.sheets.now.entries c.args.id (new-lacks c.args.sheets.now.entries c.args.id c.args.name c.requires.new)) there in absurd (cc)

pub returns-in_err-shift_insert-clause-proper : goal.returns-in_err-shift_insert-clause-proper
returns-in_err-shift_insert-clause-proper c = subst AreSheets (sym c.in_err-shift_insert.ensures.err) c.requires.proper

pub returns-clause-proper : goal.returns-clause-proper
returns-clause-proper c =
    subst AreSheets
    (sym (c.in_ok-shift_insert.ensures.entries ∙ put-at c.args.sheets.now.entries c.args.id c.args.name c.args.index (new-lacks c.args.sheets.now.entries c.args.id c.args.name c.requires.new)))
    (sheets-inserted c.args.sheets.now.entries c.args.index c.args.id c.args.name c.requires.proper c.requires.new)

pub returns-clause-ok : goal.returns-clause-ok
returns-clause-ok c =
    c.in_ok-shift_insert.ensures.entries ∙ put-at c.args.sheets.now.entries c.args.id c.args.name c.args.index (new-lacks c.args.sheets.now.entries c.args.id c.args.name c.requires.new)
