-- The places that an edit loses are those of the block of the lost lines, if there are any.
use Rattle.std.proofs.Common.{◌≡◌, ◌∙◌, sym, ap, subst, ℕ, ◌<◌, ◌++◌, IsSome, None, Some, is_none, true}
use Rattle.cell_addr.specs.Axis.{with_span}
use Rattle.cell_addr.specs.Place.{covers}
use Rattle.grid_store.specs.Draft.{is_one_of}
use Rattle.grid_store.specs.internal.Ways.{line_goes, span_has, whole}
use Rattle.grid_store.proofs.Drafts.{one_of-behind}
use Rattle.grid_store.proofs.KeyPlaces.{inside_key, key_of_place}
use Rattle.grid_store.proofs.LostCells.{covers_lost, none_any}
use Rattle.grid_store.proofs.RenewedCells.{seen_inside}
use Rattle.grid_store.proofs.Views.{get-seen_at, seen}
use Rattle.grid_store.proofs.draft.Draft.note_lost.Goals as goal

pub returns-in_ok-extend_from_slice-clause-noted : goal.returns-in_ok-extend_from_slice-clause-noted
returns-in_ok-extend_from_slice-clause-noted _ c = λ k p some at gone.
    let old = c.args.self.now.changes in
    let before = c.args.self.now.lost.items in
    let keys = c.in_ok-keys.keys.items in
    let inside = inside_key old.rows old.cols old.rows_limit old.cols_limit p k (key_of_place old.rows old.cols k p at) in
    let lost = subst (λ n. (line : ℕ) → line < n → span_has (Some c.in-Some.span) line ≡ is_none (line_goes c.args.way n c.args.edit line)) c.limit.ensures c.in-Some.ensures.lost in
    let area : c.with_span.result ≡ with_span c.args.axis c.in-Some.span (whole c.args.sheet) = c.with_span.ensures ∙ ap (with_span c.args.axis c.in-Some.span) c.whole.ensures in
    let there : covers c.with_span.result p ≡ true = ap (λ b. covers b p) area ∙ covers_lost c.args.way c.args.sheet c.args.axis c.args.edit c.in-Some.span lost p inside ∙ ap is_none gone in
    ap (λ ks. is_one_of ks k) (c.in_ok-extend_from_slice.ensures.items ∙ ap (λ ks. before ++ ks) c.deref.ensures.value) ∙ one_of-behind before keys k (c.in_ok-keys.ensures k p some at there)

pub returns-in_default-clause-noted : goal.returns-in_default-clause-noted
returns-in_default-clause-noted _ c = λ k p some at gone.
    let g = c.args.grid.now in
    let old = c.args.self.now.changes in
    let m = seen old.rows old.cols g.cells.entries in
    let lost = subst (λ n. (line : ℕ) → line < n → span_has None line ≡ is_none (line_goes c.args.way n c.args.edit line)) c.limit.ensures c.in_default.ensures.lost in
    let here = subst IsSome (sym (get-seen_at old.rows old.cols g.cells.entries p k (key_of_place old.rows old.cols k p at))) some in
    absurd (none_any c.args.way c.args.sheet c.args.axis c.args.edit m (seen_inside old.rows old.cols g.cells.entries old.rows_limit old.cols_limit) lost (p, here, gone))
