use Rattle.std.proofs.Common.{◌∙◌, sym, ap, subst, IsSome}
use Rattle.grid_store.proofs.Unchanged.{place_unchanged, seen_unchanged}
use Rattle.grid_store.proofs.Views.{kept, seen}
use Rattle.grid_store.proofs.grid.Grid.copied.Goals as goal

pub invariant_of-result : goal.invariant_of-result
invariant_of-result _ c =
    let g = c.args.self.now in
    let rows = c.in_ok-copied-2 in
    let cols = c.in_ok-copied-3 in record {
      rows_limit = rows.ensures.limit ∙ g.rows_limit;
      cols_limit = cols.ensures.limit ∙ g.cols_limit;
      standing = λ k some.
          subst IsSome (sym (place_unchanged g.rows g.cols rows.field-0 cols.field-0 rows.ensures.unchanged cols.ensures.unchanged k)) (g.standing k (subst (λ es. IsSome (kept es k)) c.in_ok-copied.ensures some));
    }

pub returns : goal.returns
returns _ c =
    let g = c.args.self.now in
    let rows = c.in_ok-copied-2 in
    let cols = c.in_ok-copied-3 in
    ap (seen rows.field-0 cols.field-0) c.in_ok-copied.ensures ∙ seen_unchanged g.rows g.cols rows.field-0 cols.field-0 rows.ensures.unchanged cols.ensures.unchanged g.cells.entries
