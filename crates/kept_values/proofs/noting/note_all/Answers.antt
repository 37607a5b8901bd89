use Rattle.std.proofs.Common.{◌∙◌, subst, refl, ℕ, List, get_or}
use Rattle.book_values.specs.Workbook.{Workbook}
use Rattle.dep_graph.specs.Nodes.{has}
use Rattle.dep_graph.specs.declared.node.Node.{Node}
use Rattle.dep_graph.specs.declared.node.Node.TheVariants.{Cell}
use Rattle.marked_values.specs.Shifts.{asks_place}
use Rattle.restored_values.specs.Suspects.{has_lost}
use Rattle.kept_values.specs.Sought.{noted_under}
use Rattle.kept_values.specs.Values.{seeks_at}
use Rattle.kept_values.specs.internal.Noting.{IsNoted}
use Rattle.kept_values.proofs.Noted.{adds_front, adds_none, adds_on, all_added, none_noted, noted_on}
use Rattle.kept_values.proofs.noting.note_all.Goals as goal

pub nodes-init : goal.nodes-init
nodes-init g c =
    let b = g.T.Trees.workbook c.args.trees.now in
    let words = g.T.Trees.words c.args.trees.now in
    record {
      asking = adds_none (λ n. has n c.args.noted.now.asking.keys);
      losing = adds_none (λ n. has n c.args.noted.now.losing.keys);
      seeking = λ word. adds_none (noted_under c.args.noted.now.seeking word);
      asks = none_noted (λ x. asks_place) b words (λ n. has n c.args.noted.now.asking.keys);
      loses = none_noted (λ x. has_lost) b words (λ n. has n c.args.noted.now.losing.keys);
      seeks = λ word. none_noted (seeks_at b word) b words (noted_under c.args.noted.now.seeking word);
      leaves = refl;
      words = refl;
      reads = g.T.Trees.laws.none c.args.trees.now;
    }

pub returns-in_err-note-clause-asking : goal.returns-in_err-note-clause-asking
returns-in_err-note-clause-asking g c =
    let d : Node = Cell (record { sheet = 0; row = 0; col = 0 }) in
    adds_front c.args.nodes.now c.nodes.node-index d (λ n. has n c.args.noted.now.asking.keys) (λ n. has n c.nodes.noted.asking.keys) (λ n. has n c.note.new.noted.asking.keys) c.nodes-test.true
    c.nodes.invariant.asking c.note.ensures.asking_stay c.note.ensures.asking_only

pub returns-in_err-note-clause-losing : goal.returns-in_err-note-clause-losing
returns-in_err-note-clause-losing g c =
    let d : Node = Cell (record { sheet = 0; row = 0; col = 0 }) in
    adds_front c.args.nodes.now c.nodes.node-index d (λ n. has n c.args.noted.now.losing.keys) (λ n. has n c.nodes.noted.losing.keys) (λ n. has n c.note.new.noted.losing.keys) c.nodes-test.true
    c.nodes.invariant.losing c.note.ensures.losing_stay c.note.ensures.losing_only

pub returns-in_err-note-clause-seeking : goal.returns-in_err-note-clause-seeking
returns-in_err-note-clause-seeking g c = λ word.
    let d : Node = Cell (record { sheet = 0; row = 0; col = 0 }) in
    adds_front c.args.nodes.now c.nodes.node-index d (noted_under c.args.noted.now.seeking word) (noted_under c.nodes.noted.seeking word) (noted_under c.note.new.noted.seeking word) c.nodes-test.true
    (c.nodes.invariant.seeking word) (c.note.ensures.seeking_stay word) (c.note.ensures.seeking_only word)

pub nodes-preserved : goal.nodes-preserved
nodes-preserved g c =
    let b = g.T.Trees.workbook c.args.trees.now in
    let words = g.T.Trees.words c.args.trees.now in
    let nodes = c.args.nodes.now in
    let i = c.nodes.node-index in
    let d : Node = Cell (record { sheet = 0; row = 0; col = 0 }) in
    let a = get_or nodes i d in
    let asking_now = λ (n : Node). has n c.nodes.noted.asking.keys in
    let asking_new = λ (n : Node). has n c.note.new.noted.asking.keys in
    let losing_now = λ (n : Node). has n c.nodes.noted.losing.keys in
    let losing_new = λ (n : Node). has n c.note.new.noted.losing.keys in
    let seeking_now = λ (word : List ℕ). noted_under c.nodes.noted.seeking word in
    let seeking_new = λ (word : List ℕ). noted_under c.note.new.noted.seeking word in
    record {
      asking = adds_on nodes i d (λ n. has n c.args.noted.now.asking.keys) asking_now asking_new c.nodes-test.true c.nodes.invariant.asking c.note.ensures.asking_stay c.note.ensures.asking_only;
      losing = adds_on nodes i d (λ n. has n c.args.noted.now.losing.keys) losing_now losing_new c.nodes-test.true c.nodes.invariant.losing c.note.ensures.losing_stay c.note.ensures.losing_only;
      seeking = λ word. adds_on nodes i d (noted_under c.args.noted.now.seeking word) (seeking_now word) (seeking_new word) c.nodes-test.true (c.nodes.invariant.seeking word) (c.note.ensures.seeking_stay word) (c.note.ensures.seeking_only word);
      asks = noted_on (λ x. asks_place) b words nodes i d asking_now asking_new c.nodes-test.true c.note.ensures.asking_stay
          (subst (λ (w : Workbook). IsNoted (λ x. asks_place) w words asking_new a) c.nodes.invariant.leaves
          (subst (λ (ws : List (List ℕ)). IsNoted (λ x. asks_place) (g.T.Trees.workbook c.nodes.trees) ws asking_new a) c.nodes.invariant.words c.in_ok-note.ensures.asks)) c.nodes.invariant.asks;
      loses = noted_on (λ x. has_lost) b words nodes i d losing_now losing_new c.nodes-test.true c.note.ensures.losing_stay
          (subst (λ (w : Workbook). IsNoted (λ x. has_lost) w words losing_new a) c.nodes.invariant.leaves
          (subst (λ (ws : List (List ℕ)). IsNoted (λ x. has_lost) (g.T.Trees.workbook c.nodes.trees) ws losing_new a) c.nodes.invariant.words c.in_ok-note.ensures.loses)) c.nodes.invariant.loses;
      seeks = λ word. noted_on (seeks_at b word) b words nodes i d (seeking_now word) (seeking_new word) c.nodes-test.true (c.note.ensures.seeking_stay word)
          (subst (λ (w : Workbook). IsNoted (seeks_at w word) w words (seeking_new word) a) c.nodes.invariant.leaves
          (subst (λ (ws : List (List ℕ)). IsNoted (seeks_at (g.T.Trees.workbook c.nodes.trees) word) (g.T.Trees.workbook c.nodes.trees) ws (seeking_new word) a) c.nodes.invariant.words (c.in_ok-note.ensures.seeks word))) (c.nodes.invariant.seeks word);
      leaves = c.note.ensures.leaves ∙ c.nodes.invariant.leaves;
      words = c.note.ensures.words ∙ c.nodes.invariant.words;
      reads = g.T.Trees.laws.both _ _ _ c.nodes.invariant.reads c.note.ensures.reads;
    }

pub returns-clause-asking : goal.returns-clause-asking
returns-clause-asking g c = all_added c.args.nodes.now c.nodes.node-index (λ n. has n c.args.noted.now.asking.keys) (λ n. has n c.nodes.noted.asking.keys) c.nodes.invariant.asking

pub returns-clause-losing : goal.returns-clause-losing
returns-clause-losing g c = all_added c.args.nodes.now c.nodes.node-index (λ n. has n c.args.noted.now.losing.keys) (λ n. has n c.nodes.noted.losing.keys) c.nodes.invariant.losing

pub returns-clause-seeking : goal.returns-clause-seeking
returns-clause-seeking g c = λ word. all_added c.args.nodes.now c.nodes.node-index (noted_under c.args.noted.now.seeking word) (noted_under c.nodes.noted.seeking word) (c.nodes.invariant.seeking word)
