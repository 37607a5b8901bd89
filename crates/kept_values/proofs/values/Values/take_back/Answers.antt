use Rattle.std.proofs.Common.{◌∙◌, sym, ap, subst, ◌||◌, ℕ, Bool, List}
use Rattle.dep_graph.specs.Nodes.{has}
use Rattle.dep_graph.specs.declared.node.Node.{Node}
use Rattle.marked_values.proofs.GoingBack.{back_is_sound}
use Rattle.kept_values.specs.Values.{links_in, marks_in, seeks_in, unlinked_in}
use Rattle.kept_values.specs.internal.TakenAlong.{AreMoved, AreProbed}
use Rattle.kept_values.proofs.Following.{both_ok, on_ok}
use Rattle.kept_values.proofs.TakenBack.{goes_back, marks_back}
use Rattle.kept_values.proofs.values.Values.take_back.Goals as goal

pub carry-requires : goal.carry-requires
carry-requires c = back_is_sound c.args.s.now c.args.back.now c.requires.sound c.requires.opposite

pub returns-clause-follows : goal.returns-clause-follows
returns-clause-follows c =
    let s = c.args.s.now in
    let v = c.args.self.now in
    let m = c.gather.new.self in
    let n = c.move_seeking.new.self in
    let u = c.carry.new.self in
    on_ok c.mark_all.result _ _
    (λ (with_removed, more_unlinked).
    goes_back s c.args.back.now c.args.touched.now c.items.result.now c.args.removed.now v m n u c.mark_all.new.self c.requires.sound c.requires.opposite
    (subst (λ (ns : List Node). AreProbed s (links_in v) ns) (sym c.items.ensures) c.in_ok-suspects.ensures)
    (record {
      gathered = c.in_ok-gather.ensures.marks;
      losing = λ a. ap (λ (ns : List Node). has a ns) c.move_seeking.ensures.marks ∙ c.in_ok-gather_losing.ensures.marks a ∙ ap (λ (f : Node → Bool). has a (marks_in m) || f a) c.gather.ensures.losing;
      along = c.in_ok-carry.ensures.carried.marks;
      restored = with_removed;
    })
    (record {
      gathered = c.in_ok-gather.ensures.unlinked;
      losing = λ a. ap (λ (ns : List Node). has a ns) c.move_seeking.ensures.unlinked ∙ c.in_ok-gather_losing.ensures.unlinked a ∙ ap (λ (f : Node → Bool). has a (unlinked_in m) || f a) c.gather.ensures.losing;
      along = c.in_ok-carry.ensures.carried.unlinked;
      restored = more_unlinked;
    })
    (c.move_seeking.ensures.links ∙ c.gather_losing.ensures.links ∙ c.gather.ensures.links) (c.move_seeking.ensures.kept ∙ c.gather_losing.ensures.kept ∙ c.gather.ensures.kept) c.in_ok-carry.ensures.carried c.mark_all.ensures.links c.mark_all.ensures.kept
    (λ a. ap (λ (f : Node → Bool). f a) (c.mark_all.ensures.asking ∙ c.carry.ensures.asking ∙ c.move_seeking.ensures.asking ∙ c.gather_losing.ensures.asking) ∙ c.in_ok-gather.ensures.asking a)
    (λ a. ap (λ (f : Node → Bool). f a) (c.mark_all.ensures.losing ∙ c.carry.ensures.losing ∙ c.move_seeking.ensures.losing) ∙ c.in_ok-gather_losing.ensures.losing a)
    (subst (λ (f : List ℕ → Node → Bool). (word : List ℕ) → AreMoved c.args.back.now (f word) (seeks_in c.mark_all.new.self word)) (c.gather_losing.ensures.seeking ∙ c.gather.ensures.seeking)
    (subst (λ (f : List ℕ → Node → Bool). (word : List ℕ) → AreMoved c.args.back.now (seeks_in c.gather_losing.new.self word) (f word)) (sym (c.mark_all.ensures.seeking ∙ c.carry.ensures.seeking)) c.in_ok-move_seeking.ensures.moved)))
    (both_ok c.mark_all.result _ _ c.mark_all.ensures.ok c.mark_all.ensures.unlinked)

pub move_seeking-requires : goal.move_seeking-requires
move_seeking-requires c = back_is_sound c.args.s.now c.args.back.now c.requires.sound c.requires.opposite

pub returns-clause-marks : goal.returns-clause-marks
returns-clause-marks c =
    let v = c.args.self.now in
    let m = c.gather.new.self in
    on_ok c.mark_all.result _ _
    (λ with_removed.
    marks_back c.args.s.now c.args.back.now c.args.touched.now c.items.result.now c.args.removed.now v m c.move_seeking.new.self c.carry.new.self c.mark_all.new.self
    (subst (λ (ns : List Node). AreProbed c.args.s.now (links_in v) ns) (sym c.items.ensures) c.in_ok-suspects.ensures)
    (record {
      gathered = c.in_ok-gather.ensures.marks;
      losing = λ a. ap (λ (ns : List Node). has a ns) c.move_seeking.ensures.marks ∙ c.in_ok-gather_losing.ensures.marks a ∙ ap (λ (f : Node → Bool). has a (marks_in m) || f a) c.gather.ensures.losing;
      along = c.in_ok-carry.ensures.carried.marks;
      restored = with_removed;
    }))
    c.mark_all.ensures.ok
