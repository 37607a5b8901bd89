-- The parts of the changes, one after the other, make all of them.
use Rattle.std.proofs.Common.{◌∙◌, sym, ap, subst, cond, None}
use Rattle.std.specs.BTreeMap as tree
use Rattle.grid_store.specs.Draft.{is_one_of}
use Rattle.grid_store.specs.Keys.{key_cmp}
use Rattle.grid_store.specs.internal.Drafting.{AreAllFresh, AreAllKept, under}
use Rattle.grid_store.specs.internal.Lists.{or_else}
use Rattle.grid_store.proofs.KeyChanges.{fresh-fresh, kept-under, over-kept, parts-make}
use Rattle.grid_store.proofs.cells.Cells.change.Goals as goal

pub fill-requires : goal.fill-requires
fill-requires _ c =
    let old = c.args.self.now in subst (λ es. AreAllFresh es old) (sym c.in_ok-parts.ensures.fresh) (fresh-fresh old c.args.changes.entries)

pub settle-requires : goal.settle-requires
settle-requires _ c =
    let old = c.args.self.now in
    let parts = c.in_ok-parts in
    kept-under parts.parts.over.items parts.parts.fresh.items old c.fill.new.self c.in_ok-fill.ensures.ok (subst (λ es. AreAllKept es old) (sym parts.ensures.over) (over-kept old c.args.changes.entries))

pub returns-clause-ok : goal.returns-clause-ok
returns-clause-ok _ c = λ k.
    let old = c.args.self.now in
    let parts = c.in_ok-parts in
    c.leave.ensures k
    ∙ (λ i. cond (is_one_of ((c.deref.ensures.value ∙ parts.ensures.emptied) i) k) None ((c.settle.ensures k ∙ (λ j. or_else (under (parts.ensures.over j) k) ((c.in_ok-fill.ensures.ok k ∙ ap (λ es. or_else (under es k) (tree.get key_cmp old k)) parts.ensures.fresh) j))) i))
    ∙ parts-make old c.args.changes.entries parts.ensures.ordered k
