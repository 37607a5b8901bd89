use Rattle.std.proofs.Common.{◌∙◌, ap, ℕ, Bool, List, ◌++◌}
use Rattle.dep_graph.specs.Needs.{Links}
use Rattle.dep_graph.specs.Nodes.{has, items_of}
use Rattle.dep_graph.specs.declared.node.Node.{Node}
use Rattle.recalc_core.specs.Kept.{Kept}
use Rattle.session_values.specs.Following.{book_of, words_in}
use Rattle.session_values.proofs.Followed.{all_follow}
use Rattle.session_values.proofs.reading.all_marked.Goals as goal

pub returns : goal.returns
returns c = λ customs today.
    let s = c.args.session.now in
    all_follow (book_of s) (words_in s) customs today c.mark_all.new.self (items_of c.in_ok-nodes.nodes) c.names_are_nodes.ensures
    (λ a. ap (λ (f : Links). f a) c.mark_all.ensures.links ∙ c.in_ok-values.ensures.links a)
    (λ a. ap (λ (f : Kept). f a) c.mark_all.ensures.kept ∙ c.in_ok-values.ensures.kept a)
    (λ a. ap (λ (f : Node → Bool). f a) c.mark_all.ensures.asking ∙ c.in_ok-values.ensures.asking a)
    (λ a. ap (λ (f : Node → Bool). f a) c.mark_all.ensures.losing ∙ c.in_ok-values.ensures.losing a)
    (λ word a. ap (λ (f : List ℕ → Node → Bool). f word a) c.mark_all.ensures.seeking ∙ c.in_ok-values.ensures.seeking word a)
    (λ a. c.in_ok-mark_all.ensures.ok a ∙ ap (λ (ms : List Node). has a (ms ++ c.items.result.now)) c.in_ok-values.ensures.marks ∙ ap (has a) c.items.ensures)
    (λ a. c.in_ok-mark_all.ensures.unlinked a ∙ ap (λ (ns : List Node). has a (ns ++ c.items.result.now)) c.in_ok-values.ensures.unlinked ∙ ap (has a) c.items.ensures)
    c.in_ok-nodes.ensures.all c.in_ok-nodes.ensures.known
