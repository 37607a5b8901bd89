use Rattle.std.proofs.Common.{◌∙◌, ◌∷◌, ◌||◌, sym, ap, cond, true, drop, ◌+◌}
use Rattle.std.proofs.lemmas.List.{drop_more}
use Rattle.std.specs.BTreeSet.{contains}
use Rattle.std.specs.Ordering.{eq_by_cmp}
use Rattle.cell_addr.specs.Order.{place_cmp}
use Rattle.grid_store.specs.internal.Exchange.{is_among}
use Rattle.grid_store.proofs.Exchanges.{one-more, turned-test}
use Rattle.kept_book.specs.Change.{places_of}
use Rattle.kept_book.proofs.exchange.Exchange.empty.Goals as goal

pub loop-at-preserved : goal.loop-at-preserved
loop-at-preserved c = record {
  emptied = λ q.
      let items = c.items-at-items.result.now in
      let i = c.loop-at.at-index in
      let e = c.loop-at-item.result in
      let old = contains place_cmp c.loop-at.self.emptied q in
      let later = is_among (places_of (drop (i + 1) items)) q in
      ap (λ z. z || later) (c.in_ok-insert.ensures.updates.0 q ∙ ap (λ b. cond b true old) (turned-test e.0 q)) ∙ one-more (eq_by_cmp place_cmp q e.0) old later
      ∙ ap (λ xs. old || is_among (places_of xs) q) (sym (drop_more items i e c.loop-at-test.true ∙ ap (λ x. x ∷ drop (i + 1) items) (sym c.loop-at-item.is))) ∙ c.loop-at.invariant.emptied q;
  placed = c.loop-at.invariant.placed;
}
