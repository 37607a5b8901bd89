use Rattle.std.proofs.Common.{◌∙◌, ◌||◌, sym, ap, cond, true, drop, get_or, ◌+◌}
use Rattle.std.proofs.lemmas.List.{drop_more}
use Rattle.std.specs.BTreeSet.{contains}
use Rattle.std.specs.Ordering.{eq_by_cmp}
use Rattle.cell_addr.specs.Order.{place_cmp}
use Rattle.grid_store.specs.internal.Exchange.{is_among}
use Rattle.grid_store.proofs.Exchanges.{no_item, one-more, turned-test}
use Rattle.grid_store.proofs.exchange.set_of.Goals as goal

pub loop-at-preserved : goal.loop-at-preserved
loop-at-preserved c = λ q.
    let places = c.args.places.now in
    let i = c.loop-at.at-index in
    let x = get_or places i no_item in
    let old = contains place_cmp c.loop-at.set q in
    let later = is_among (drop (i + 1) places) q in
    ap (λ z. z || later) (c.in_ok-insert.ensures.updates.0 q ∙ ap (λ b. cond b true old) (turned-test x q)) ∙ one-more (eq_by_cmp place_cmp q x) old later
    ∙ ap (λ xs. old || is_among xs q) (sym (drop_more places i no_item c.loop-at-test.true)) ∙ c.loop-at.invariant q
