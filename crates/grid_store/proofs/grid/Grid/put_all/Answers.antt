use Rattle.std.proofs.Common.{◌≡◌, ◌∙◌, sym, ap, subst, true, ◌++◌, ◌∷◌, []}
use Rattle.cell_addr.specs.Place.{IsInside}
use Rattle.cell_addr.specs.declared.place.Place.{Place}
use Rattle.grid_store.specs.Grid.{cells_of, items_of, with_entries}
use Rattle.grid_store.specs.internal.Exchange.{is_among, places_of}
use Rattle.grid_store.specs.internal.Lists.{AreEachInside}
use Rattle.grid_store.proofs.Exchanges.{front-among, out-of-part, put-beside}
use Rattle.grid_store.proofs.Fills.{each_front, with_last}
use Rattle.grid_store.proofs.grid.Grid.put_all.Goals as goal

pub loop-at-preserved : goal.loop-at-preserved
loop-at-preserved _ c =
    let i = c.loop-at.invariant in
    let old = cells_of c.loop-at.self in
    let front = items_of c.pop.new.self in
    let full = places_of (items_of c.args.list) in
    let parts : items_of c.loop-at.list ≡ front ++ (c.in-Some.at, c.in-Some.cell) ∷ [] = c.in-Some.ensures in
    let among : (q : Place) → is_among (places_of (front ++ (c.in-Some.at, c.in-Some.cell) ∷ [])) q ≡ true → is_among full q ≡ true = λ q there. i.among q (subst (λ es. is_among (places_of es) q ≡ true) (sym parts) there) in
    record {
      cells = ap (with_entries front) c.in_ok-set.ensures.ok ∙ sym (with_last front (c.in-Some.at, c.in-Some.cell) old) ∙ ap (λ es. with_entries es old) (sym parts) ∙ i.cells;
      inside = (each_front (λ e. IsInside e.0) front (c.in-Some.at, c.in-Some.cell) (subst AreEachInside parts i.inside)).0;
      among = λ q there. among q (front-among front (c.in-Some.at, c.in-Some.cell) q there);
      others = λ q out. put-beside front c.in-Some.at c.in-Some.cell old (cells_of c.set.new.self) q c.in_ok-set.ensures.ok (out-of-part (places_of (front ++ (c.in-Some.at, c.in-Some.cell) ∷ [])) full q (among q) out) ∙ i.others q out;
      lines = (c.set.ensures.lines.0 ∙ i.lines.0, c.set.ensures.lines.1 ∙ i.lines.1);
    }
