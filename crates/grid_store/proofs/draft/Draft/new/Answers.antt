use Rattle.std.proofs.Common.{inl}
use Rattle.grid_store.proofs.Drafts.{none_yet, stands_yet}
use Rattle.grid_store.proofs.Renewals.{standing_given}
use Rattle.grid_store.proofs.draft.Draft.new.Goals as goal

pub returns-clause-cells : goal.returns-clause-cells
returns-clause-cells _ c =
    let rows = c.in_ok-copied in
    let cols = c.in_ok-copied-2 in none_yet c.args.grid.now rows.field-0 cols.field-0 c.new.result.entries rows.ensures.unchanged cols.ensures.unchanged c.new.ensures

pub returns-clause-of : goal.returns-clause-of
returns-clause-of _ c = λ k some.
    let rows = c.in_ok-copied in
    let cols = c.in_ok-copied-2 in
    let stands = stands_yet c.args.grid.now rows.field-0 cols.field-0 rows.ensures.unchanged cols.ensures.unchanged k some in (standing_given rows.field-0 cols.field-0 k stands, inl stands)
