use Rattle.std.proofs.Common.{◌≡◌, ◌∙◌, ◌++◌, sym, ap, subst, refl, map}
use Rattle.std.specs.FinMap as fin
use Rattle.std.specs.Prelude.{IsTrue}
use Rattle.book_model.specs.Answers.{valued}
use Rattle.dep_graph.specs.Nodes.{has, items_of}
use Rattle.grid_store.specs.Grid.{cells_of}
use Rattle.name_table.specs.Named.{names_of, words_of}
use Rattle.kept_book.specs.Kept.{at_of}
use Rattle.recalc_core.specs.Laws.{AreKnown}
use Rattle.kept_steps.specs.Session.{state_of}
use Rattle.kept_steps.specs.internal.GivenCell.{cell_node}
use Rattle.kept_steps.proofs.ListedNodes.{all-listed, listed-nodes, name_nodes}
use Rattle.kept_steps.proofs.session.Session.nodes.Goals as goal

-- what is listed
module _ (c : goal.After-drop-cells-2) where
  nodes-are : items_of c.add_names.new.nodes ≡ map cell_node c.items.result.now ++ name_nodes (fin.entries (names_of c.args.self.now.book.names))
  nodes-are =
      let cells = c.in_ok-add_cells.ensures ∙ ap (λ l. l ++ map cell_node c.items.result.now) c.in_ok-nodes.ensures in
      let names = c.deref.ensures.value ∙ c.in_ok-names.ensures in
      c.in_ok-add_names.ensures ∙ (λ i. cells i ++ name_nodes (names i))

pub returns-clause-all : goal.returns-clause-all
returns-clause-all c = λ a x is there.
    let s = c.args.self.now in
    let b = s.book in
    subst (λ l. IsTrue (has a l)) (sym (nodes-are c))
    (all-listed (at_of b) b.lazy.line.cursor (words_of b.names) b.names.words.proper (names_of b.names) s.fits.stand.names (valued (state_of s).book) refl (cells_of b.grid) refl c.items.result.now
    (ap (λ l. fin.from_entries l) c.items.ensures ∙ c.in_ok-cells.ensures) a x is there)

pub returns-clause-known : goal.returns-clause-known
returns-clause-known c =
    let s = c.args.self.now in
    let b = s.book in
    subst (AreKnown (words_of b.names)) (sym (nodes-are c))
    (listed-nodes (at_of b) b.lazy.line.cursor (words_of b.names) b.names.words.proper (names_of b.names) s.fits.stand.names (valued (state_of s).book) refl (cells_of b.grid) refl c.items.result.now
    (ap (λ l. fin.from_entries l) c.items.ensures ∙ c.in_ok-cells.ensures))
