use Rattle.std.proofs.Common.{◌≡◌, ◌∙◌, sym, ap, arith, ◌++◌, ◌≤◌, length}
use Rattle.std.specs.FinMap as fin
use Rattle.std.proofs.lemmas.List.{append-nil, drop_all}
use Rattle.grid_store.specs.Grid.{seen_items, within}
use Rattle.grid_store.proofs.Drafts.{keys_at, keys_of_block}
use Rattle.grid_store.proofs.draft.Draft.keys.Goals as goal

pub returns : goal.returns
returns _ c =
    let lines = c.args.self.now.changes in
    let seen = c.deref-at-items.result.now in
    let keys = c.loop-at.keys.items in
    let end : length seen ≤ c.loop-at.at-index = omega (arith, c.loop-at-test.false) in
    let all : keys ≡ keys_at lines.rows lines.cols seen = sym (append-nil keys) ∙ ap (λ es. keys ++ keys_at lines.rows lines.cols es) (sym (drop_all c.loop-at.at-index seen end)) ∙ c.loop-at.invariant in
    keys_of_block lines.rows lines.cols c.args.grid.now.cells.entries c.args.area seen keys all
    (ap seen_items c.deref-at-items.ensures.value ∙ c.in_ok-seen.ensures ∙ ap (λ m. fin.entries (within c.args.area m)) c.view.ensures)
