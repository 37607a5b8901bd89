-- The draft is put in place behind the cells, or the names that it added go again.
use Rattle.std.proofs.Common.{◌∙◌, ap}
use Rattle.grid_store.specs.Grid.{cells_of}
use Rattle.name_table.specs.Drafts.{names_drafted, sheets_drafted}
use Rattle.name_table.specs.Named.{names_of}
use Rattle.shift_line.specs.Track.{shift_at}
use Rattle.kept_book.specs.Kept.{changes_of}
use Rattle.kept_book.specs.internal.Stepping.{cells_on}
use Rattle.kept_book.proofs.book.Book.pass.Goals as goal

pub returns-in-Ok-clause-ok : goal.returns-in-Ok-clause-ok
returns-in-Ok-clause-ok c =
    let cs = changes_of c.args.parts.now in
    let old = c.args.self.now in
    let draft = c.in_ok-draft in
    let begun = c.in_ok-begun in
    let position = ap (λ t. t.cursor) c.move_cursor.ensures.line in
    let cells = c.in-Ok.ensures.ok ∙ ap (λ t. cells_on c.args.side (shift_at t) cs (cells_of old.grid)) c.line.ensures in
    let sheets = c.finish.ensures.sheets ∙ (λ i. sheets_drafted (begun.ensures.draft i) (c.begin.ensures.sheets i)) ∙ draft.ensures.sheets in
    let names = c.finish.ensures.names ∙ ap (λ d. names_drafted d (names_of c.begin.new.self)) begun.ensures.draft ∙ begun.ensures.finished ∙ draft.ensures.names in
    λ i. record { position = position i; cells = cells i; sheets = sheets i; names = names i }
