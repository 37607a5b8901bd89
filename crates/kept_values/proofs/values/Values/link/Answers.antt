use Rattle.std.proofs.Common.{◌≡◌, ◌∙◌, sym, refl, subst, Bool, List, ℕ}
use Rattle.dep_graph.specs.Graph.{links_of}
use Rattle.dep_graph.specs.Nodes.{has}
use Rattle.dep_graph.specs.declared.node.Node.{Node}
use Rattle.book_values.specs.Workbook.{Workbook}
use Rattle.recalc_core.specs.Laws.{AreKnown}
use Rattle.marked_values.specs.Marks.{AreLinksBut}
use Rattle.marked_values.specs.Shifts.{asks_place}
use Rattle.restored_values.specs.Suspects.{has_lost}
use Rattle.kept_values.specs.Sought.{noted_under}
use Rattle.kept_values.specs.Values.{AddsNoted, asks_in, loses_in, seeks_at, seeks_in}
use Rattle.kept_values.specs.declared.values.Values.{Values}
use Rattle.kept_values.specs.internal.Noting.{AreNotedAmong}
use Rattle.kept_values.proofs.Following.{unlinked_follow}
use Rattle.kept_values.proofs.LinkTests.{all_tested}
use Rattle.kept_values.proofs.Relinked.{adds_same, all_linked_anew, some_linked}
use Rattle.kept_values.proofs.values.Values.link.Goals as goal

pub link_all-requires-clause-known : goal.link_all-requires-clause-known
link_all-requires-clause-known g c =
    let b = g.T.Trees.workbook c.args.trees.now in
    let words = g.T.Trees.words c.args.trees.now in
    let (customs, today, follows) = c.requires.follows in
    subst (AreKnown words) (sym c.as_slice-nodes.ensures.keys) (unlinked_follow b words customs today c.args.self.now c.requires.numbered follows).follow.known

pub link_all-requires-clause-but : goal.link_all-requires-clause-but
link_all-requires-clause-but g c =
    let b = g.T.Trees.workbook c.args.trees.now in
    let words = g.T.Trees.words c.args.trees.now in
    let (customs, today, follows) = c.requires.follows in
    subst (λ (ns : List Node). AreLinksBut b words ns (links_of c.args.self.now.graph)) (sym c.as_slice-nodes.ensures.keys)
    (unlinked_follow b words customs today c.args.self.now c.requires.numbered follows).follow.linked

pub returns-in_err-link_all-clause-follows : goal.returns-in_err-link_all-clause-follows
returns-in_err-link_all-clause-follows g c = λ customs today follows.
    let self = c.args.self.now in
    let w : Values = record { alloc = self.alloc; graph = c.link_all.new.graph; noted = self.noted; unlinked = self.unlinked; recalc = self.recalc } in
    let nodes = c.as_slice-nodes.result.now in
    some_linked (g.T.Trees.workbook c.args.trees.now) (g.T.Trees.words c.args.trees.now) customs today self c.requires.numbered follows w nodes
    (record {
      nodes_are = c.as_slice-nodes.ensures.keys;
      inside = c.link_all.ensures.links;
      asks = adds_same nodes (asks_in self);
      loses = adds_same nodes (loses_in self);
      seeks = λ word. adds_same nodes (seeks_in self word);
      marks = refl;
      kept = refl;
    }) refl c.link_all.ensures.but

pub returns-in_err-note_all-clause-follows : goal.returns-in_err-note_all-clause-follows
returns-in_err-note_all-clause-follows g c = λ customs today follows.
    let self = c.args.self.now in
    some_linked (g.T.Trees.workbook c.args.trees.now) (g.T.Trees.words c.args.trees.now) customs today self c.requires.numbered follows
    (record { alloc = self.alloc; graph = c.link_all.new.graph; noted = c.note_all.new.noted; unlinked = self.unlinked; recalc = self.recalc }) c.as_slice-nodes.result.now
    (record {
      nodes_are = c.as_slice-nodes.ensures.keys;
      inside = c.link_all.ensures.links;
      asks = c.note_all.ensures.asking;
      loses = c.note_all.ensures.losing;
      seeks = c.note_all.ensures.seeking;
      marks = refl;
      kept = refl;
    }) refl c.link_all.ensures.but

pub returns-clause-linked : goal.returns-clause-linked
returns-clause-linked g c = all_tested (g.T.Trees.workbook c.args.trees.now) (g.T.Trees.words c.args.trees.now) (links_of c.link_all.new.graph) c.in_ok-link_all.ensures.ok

pub returns-clause-follows : goal.returns-clause-follows
returns-clause-follows g c = λ customs today follows.
    let b = g.T.Trees.workbook c.args.trees.now in
    let words = g.T.Trees.words c.args.trees.now in
    let self = c.args.self.now in
    let nodes = c.as_slice-nodes.result.now in
    let noted = c.note_all.new.noted in
    let trees = c.link_all.new.trees in
    let asks = subst (λ (w : Workbook). AreNotedAmong (λ x. asks_place) w words nodes (λ a. has a noted.asking.keys)) c.in_ok-link_all.ensures.leaves
    (subst (λ (ws : List (List ℕ)). AreNotedAmong (λ x. asks_place) (g.T.Trees.workbook trees) ws nodes (λ a. has a noted.asking.keys)) c.in_ok-link_all.ensures.words c.in_ok-note_all.ensures.asks) in
    let loses = subst (λ (w : Workbook). AreNotedAmong (λ x. has_lost) w words nodes (λ a. has a noted.losing.keys)) c.in_ok-link_all.ensures.leaves
    (subst (λ (ws : List (List ℕ)). AreNotedAmong (λ x. has_lost) (g.T.Trees.workbook trees) ws nodes (λ a. has a noted.losing.keys)) c.in_ok-link_all.ensures.words c.in_ok-note_all.ensures.loses) in
    let seeks = subst (λ (w : Workbook). (word : List ℕ) → AreNotedAmong (seeks_at w word) w words nodes (noted_under noted.seeking word)) c.in_ok-link_all.ensures.leaves
    (subst (λ (ws : List (List ℕ)). (word : List ℕ) → AreNotedAmong (seeks_at (g.T.Trees.workbook trees) word) (g.T.Trees.workbook trees) ws nodes (noted_under noted.seeking word)) c.in_ok-link_all.ensures.words c.in_ok-note_all.ensures.seeks) in
    all_linked_anew b words customs today self c.requires.numbered follows (record { alloc = self.alloc; graph = c.link_all.new.graph; noted = noted; unlinked = c.new.result; recalc = self.recalc }) nodes
    (record {
      nodes_are = c.as_slice-nodes.ensures.keys;
      inside = c.link_all.ensures.links;
      asks = c.note_all.ensures.asking;
      loses = c.note_all.ensures.losing;
      seeks = c.note_all.ensures.seeking;
      marks = refl;
      kept = refl;
    }) c.new.ensures.empty c.in_ok-link_all.ensures.ok asks loses seeks

pub returns-in_err-link_all-clause-asking : goal.returns-in_err-link_all-clause-asking
returns-in_err-link_all-clause-asking g c = adds_same c.args.self.now.unlinked.keys (asks_in c.args.self.now)

pub returns-in_err-link_all-clause-losing : goal.returns-in_err-link_all-clause-losing
returns-in_err-link_all-clause-losing g c = adds_same c.args.self.now.unlinked.keys (loses_in c.args.self.now)

pub returns-in_err-link_all-clause-seeking : goal.returns-in_err-link_all-clause-seeking
returns-in_err-link_all-clause-seeking g c = λ word. adds_same c.args.self.now.unlinked.keys (seeks_in c.args.self.now word)

pub returns-in_err-note_all-clause-asking : goal.returns-in_err-note_all-clause-asking
returns-in_err-note_all-clause-asking g c = subst (λ (ns : List Node). AddsNoted ns (asks_in c.args.self.now) (λ a. has a c.note_all.new.noted.asking.keys)) c.as_slice-nodes.ensures.keys c.note_all.ensures.asking

pub returns-in_err-note_all-clause-losing : goal.returns-in_err-note_all-clause-losing
returns-in_err-note_all-clause-losing g c = subst (λ (ns : List Node). AddsNoted ns (loses_in c.args.self.now) (λ a. has a c.note_all.new.noted.losing.keys)) c.as_slice-nodes.ensures.keys c.note_all.ensures.losing

pub returns-in_err-note_all-clause-seeking : goal.returns-in_err-note_all-clause-seeking
returns-in_err-note_all-clause-seeking g c =
    subst (λ (ns : List Node). (word : List ℕ) → AddsNoted ns (seeks_in c.args.self.now word) (noted_under c.note_all.new.noted.seeking word)) c.as_slice-nodes.ensures.keys c.note_all.ensures.seeking

pub returns-clause-asking : goal.returns-clause-asking
returns-clause-asking g c = subst (λ (ns : List Node). AddsNoted ns (asks_in c.args.self.now) (λ a. has a c.note_all.new.noted.asking.keys)) c.as_slice-nodes.ensures.keys c.note_all.ensures.asking

pub returns-clause-losing : goal.returns-clause-losing
returns-clause-losing g c = subst (λ (ns : List Node). AddsNoted ns (loses_in c.args.self.now) (λ a. has a c.note_all.new.noted.losing.keys)) c.as_slice-nodes.ensures.keys c.note_all.ensures.losing

pub returns-clause-seeking : goal.returns-clause-seeking
returns-clause-seeking g c =
    subst (λ (ns : List Node). (word : List ℕ) → AddsNoted ns (seeks_in c.args.self.now word) (noted_under c.note_all.new.noted.seeking word)) c.as_slice-nodes.ensures.keys c.note_all.ensures.seeking
