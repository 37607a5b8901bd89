use Rattle.std.proofs.Common.{◌∙◌, sym, ap, subst, ℕ, Bool, List}
use Rattle.dep_graph.specs.Bent.{AreBent}
use Rattle.dep_graph.specs.Nodes.{has}
use Rattle.dep_graph.specs.declared.node.Node.{Node}
use Rattle.kept_values.specs.Values.{links_in, loses_in, seeks_in}
use Rattle.kept_values.specs.internal.TakenAlong.{AreMoved}
use Rattle.kept_values.proofs.Following.{on_ok}
use Rattle.kept_values.proofs.Shifted.{goes_along, marks_over}
use Rattle.kept_values.proofs.values.Values.shift.Goals as goal

pub returns-clause-follows : goal.returns-clause-follows
returns-clause-follows c =
    let s = c.args.s.now in
    let v = c.args.self.now in
    let m = c.move_seeking.new.self in
    let w = c.carry.new.self in
    on_ok c.carry.result _ _
    (λ carried.
    goes_along s c.args.touched.now c.items.result.now v m w c.requires
    (subst (λ (ns : List Node). AreBent s (links_in v) ns) (sym c.items.ensures) c.in_ok-bent.ensures)
    (λ a. ap (λ (ns : List Node). has a ns) (c.move_seeking.ensures.marks ∙ c.move_losing.ensures.marks) ∙ c.in_ok-gather.ensures.marks a)
    (λ a. ap (λ (ns : List Node). has a ns) (c.move_seeking.ensures.unlinked ∙ c.move_losing.ensures.unlinked) ∙ c.in_ok-gather.ensures.unlinked a)
    (c.move_seeking.ensures.links ∙ c.move_losing.ensures.links ∙ c.gather.ensures.links) (c.move_seeking.ensures.kept ∙ c.move_losing.ensures.kept ∙ c.gather.ensures.kept)
    (λ a. ap (λ (f : Node → Bool). f a) (c.carry.ensures.asking ∙ c.move_seeking.ensures.asking ∙ c.move_losing.ensures.asking) ∙ c.in_ok-gather.ensures.asking a)
    (subst (λ (f : Node → Bool). AreMoved s f (loses_in w)) c.gather.ensures.losing
    (subst (λ (f : Node → Bool). AreMoved s (loses_in c.gather.new.self) f) (sym (c.carry.ensures.losing ∙ c.move_seeking.ensures.losing)) c.in_ok-move_losing.ensures.moved))
    (subst (λ (f : List ℕ → Node → Bool). (word : List ℕ) → AreMoved s (f word) (seeks_in w word)) (c.move_losing.ensures.seeking ∙ c.gather.ensures.seeking)
    (subst (λ (f : List ℕ → Node → Bool). (word : List ℕ) → AreMoved s (seeks_in c.move_losing.new.self word) (f word)) (sym c.carry.ensures.seeking) c.in_ok-move_seeking.ensures.moved)) carried)
    c.carry.ensures.carried

pub returns-clause-marks : goal.returns-clause-marks
returns-clause-marks c =
    let v = c.args.self.now in
    on_ok c.carry.result _ _
    (λ carried.
    marks_over c.args.s.now c.args.touched.now c.items.result.now v c.move_seeking.new.self c.carry.new.self
    (subst (λ (ns : List Node). AreBent c.args.s.now (links_in v) ns) (sym c.items.ensures) c.in_ok-bent.ensures)
    (λ a. ap (λ (ns : List Node). has a ns) (c.move_seeking.ensures.marks ∙ c.move_losing.ensures.marks) ∙ c.in_ok-gather.ensures.marks a) carried)
    c.carry.ensures.carried
