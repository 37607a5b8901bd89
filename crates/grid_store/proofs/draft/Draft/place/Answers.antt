use Rattle.std.proofs.Common.{◌≡◌, ◌∙◌, sym, ap, subst, ◌++◌, ◌∷◌, []}
use Rattle.cell_addr.specs.Place.{IsInside}
use Rattle.grid_store.specs.Draft.{drafted}
use Rattle.grid_store.specs.Grid.{items_of, with_entries}
use Rattle.grid_store.specs.internal.Lists.{AreEachInside}
use Rattle.grid_store.proofs.Fills.{each_front, with_last}
use Rattle.grid_store.proofs.draft.Draft.place.Goals as goal

pub loop-at-preserved : goal.loop-at-preserved
loop-at-preserved _ c =
    let i = c.loop-at.invariant in
    let old = c.loop-at.self in
    let front = items_of c.pop.new.self in
    let parts : items_of c.loop-at.list ≡ front ++ (c.in-Some.at, c.in-Some.cell) ∷ [] = c.in-Some.ensures in
    let b = c.change.ensures.base in
    record {
      made = λ g. ap (with_entries front) (c.in_ok-change.ensures.ok g) ∙ sym (with_last front (c.in-Some.at, c.in-Some.cell) (drafted g old)) ∙ ap (λ es. with_entries es (drafted g old)) (sym parts) ∙ i.made g;
      inside = (each_front (λ e. IsInside e.0) front (c.in-Some.at, c.in-Some.cell) (subst AreEachInside parts i.inside)).0;
      base = (b.0 ∙ i.base.0, b.1 ∙ i.base.1, b.2 ∙ i.base.2);
    }
