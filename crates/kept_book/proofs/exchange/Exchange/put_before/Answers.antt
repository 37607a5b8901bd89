use Rattle.std.proofs.Common.{◌≡◌, ◌∙◌, ap, sym, subst, ◌++◌, ◌||◌, filter, not}
use Rattle.std.proofs.lemmas.List.Elements.{All-append, All-filter}
use Rattle.std.proofs.lemmas.Result.{on_ok_weaker}
use Rattle.std.specs.BTreeSet.{contains}
use Rattle.cell_addr.specs.Order.{place_cmp}
use Rattle.cell_addr.specs.Place.{IsInside}
use Rattle.grid_store.specs.Grid.{AreListedInside, items_of, with_entries, without_places}
use Rattle.grid_store.specs.internal.Exchange.{is_among}
use Rattle.kept_book.specs.Change.{places_of}
use Rattle.kept_book.proofs.Exchanged.{joined}
use Rattle.kept_book.proofs.exchange.Exchange.put_before.Goals as goal

pub returns-clause-inside : goal.returns-clause-inside
returns-clause-inside c =
    let old = c.args.self.now in
    let first = items_of c.args.placed.now in
    let late = filter (λ e. not (contains place_cmp old.emptied e.0)) first in
    let placed : items_of c.empty.new.self.placed ≡ items_of old.placed ++ late = ap items_of c.empty.ensures.placed ∙ c.in_ok-place.ensures.placed in
    on_ok_weaker c.empty.result (λ _.
    subst AreListedInside (sym placed)
    (All-append (λ e. IsInside e.0) (items_of old.placed) late c.requires.inside (All-filter (λ e. not (contains place_cmp old.emptied e.0)) (λ e. IsInside e.0) first c.requires.placed)))
    c.empty.ensures.emptied

pub returns-clause-changes : goal.returns-clause-changes
returns-clause-changes c =
    let old = c.args.self.now in
    let new = c.empty.new.self in
    let first = items_of c.args.placed.now in
    let more = places_of (items_of c.args.emptied.now) in
    let late = filter (λ e. not (contains place_cmp old.emptied e.0)) first in
    let placed : items_of new.placed ≡ items_of old.placed ++ late = ap items_of c.empty.ensures.placed ∙ c.in_ok-place.ensures.placed in
    on_ok_weaker c.empty.result (λ are m.
    ap (λ es. with_entries es (without_places new.emptied.keys m)) placed
    ∙ joined (items_of old.placed) first old.emptied.keys more new.emptied.keys m (λ q. are q ∙ ap (λ s. contains place_cmp s q || is_among more q) c.in_ok-place.ensures.emptied))
    c.empty.ensures.emptied
