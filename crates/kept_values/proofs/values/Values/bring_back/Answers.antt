use Rattle.std.proofs.Common.{◌≡◌, ◌∙◌, ap, ◌||◌, ℕ, Bool, [], List}
use Rattle.dep_graph.specs.Nodes.{has}
use Rattle.dep_graph.specs.declared.node.Node.{Node}
use Rattle.kept_values.specs.Values.{marks_in, unlinked_in}
use Rattle.kept_values.proofs.Following.{both_ok, on_ok}
use Rattle.kept_values.proofs.Returned.{comes_back, marks_return}
use Rattle.kept_values.proofs.values.Values.bring_back.Goals as goal

pub returns-clause-follows : goal.returns-clause-follows
returns-clause-follows c =
    let v = c.args.self.now in
    let m = c.gather.new.self in
    let w = c.gather_losing.new.self in
    on_ok c.gather_losing.result _ _
    (λ (marks, more).
    comes_back c.args.nodes.now v m w c.in_ok-gather.ensures.marks c.in_ok-gather.ensures.unlinked
    (λ a. marks a ∙ ap (λ (f : Node → Bool). has a (marks_in m) || f a) c.gather.ensures.losing)
    (λ a. more.0 a ∙ ap (λ (f : Node → Bool). has a (unlinked_in m) || f a) c.gather.ensures.losing)
    (c.gather_losing.ensures.links ∙ c.gather.ensures.links) (c.gather_losing.ensures.kept ∙ c.gather.ensures.kept)
    (λ a. ap (λ (f : Node → Bool). f a) c.gather_losing.ensures.asking ∙ c.in_ok-gather.ensures.asking a) more.1
    (c.gather_losing.ensures.seeking ∙ c.gather.ensures.seeking))
    (both_ok c.gather_losing.result _ _ c.gather_losing.ensures.marks (both_ok c.gather_losing.result _ _ c.gather_losing.ensures.unlinked c.gather_losing.ensures.losing))

pub returns-clause-marks : goal.returns-clause-marks
returns-clause-marks c =
    let v = c.args.self.now in
    let m = c.gather.new.self in
    on_ok c.gather_losing.result _ _
    (λ marks. marks_return c.args.nodes.now v m c.gather_losing.new.self c.in_ok-gather.ensures.marks (λ a. marks a ∙ ap (λ (f : Node → Bool). has a (marks_in m) || f a) c.gather.ensures.losing))
    c.gather_losing.ensures.marks
