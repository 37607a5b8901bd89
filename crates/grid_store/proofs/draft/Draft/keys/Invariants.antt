use Rattle.std.proofs.Common.{◌≡◌, ◌++◌, drop}
use Rattle.grid_store.proofs.Drafts.{keys_at}
use Rattle.grid_store.proofs.draft.Draft.keys.Given as goal

abbrev pub invariant-loop-at : goal.invariant-loop-at
invariant-loop-at _ l =
    let lines = l.self.changes in l.keys.items ++ keys_at lines.rows lines.cols (drop l.at-index l.at-items) ≡ keys_at lines.rows lines.cols l.at-items
