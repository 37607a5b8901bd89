use Rattle.std.proofs.Common.{◌∙◌, sym, subst, to_z, of_z, w32, ℕ, ℤ, List}
use Rattle.std.proofs.lemmas.Int.{to_z-of_z}
use Rattle.dep_graph.specs.Graph.{links_of}
use Rattle.dep_graph.specs.declared.node.Node.{Node}
use Rattle.book_values.specs.Workbook.{Workbook}
use Rattle.recalc_core.specs.Kept.{IsFit}
use Rattle.recalc_core.specs.Links.{AreLinksOf}
use Rattle.recalc_core.specs.Recalc.{kept_in, marks_in}
use Rattle.recalc_core.specs.Steps as plain
use Rattle.marked_values.proofs.Fitting.{follow_fits}
use Rattle.kept_values.specs.Values.{TakesSteps}
use Rattle.kept_values.proofs.Following.{on_err, to_follow}
use Rattle.kept_values.proofs.LinkedAnew.{AreRightOn, IsFitOn, recalculated, steps_taken}
use Rattle.kept_values.proofs.Relinked.{links_exact, worked_out}
use Rattle.kept_values.proofs.Unmarked.{no_steps, none_marked, unmarked_right}
use Rattle.kept_values.proofs.values.Values.refresh.Goals as goal

pub returns-then-is_empty-clause-right : goal.returns-then-is_empty-clause-right
returns-then-is_empty-clause-right g c =
    unmarked_right (g.T.Trees.workbook c.args.trees.now) (g.T.Trees.words c.args.trees.now) (g.C.Customs.customs c.args.customs.now) c.args.day (marks_in c.args.self.now.recalc) (kept_in c.args.self.now.recalc)
    (none_marked c.items.result.now (marks_in c.args.self.now.recalc) c.is_empty.result (c.items.ensures ∙ c.marks.ensures) c.is_empty.ensures c.if-is_empty.true) c.requires.follows.fit

pub returns-then-is_empty-clause-unmarked : goal.returns-then-is_empty-clause-unmarked
returns-then-is_empty-clause-unmarked _ c = none_marked c.items.result.now (marks_in c.args.self.now.recalc) c.is_empty.result (c.items.ensures ∙ c.marks.ensures) c.is_empty.ensures c.if-is_empty.true

pub returns-then-is_empty-clause-most : goal.returns-then-is_empty-clause-most
returns-then-is_empty-clause-most g c =
    no_steps (g.T.Trees.workbook c.args.trees.now) (g.T.Trees.words c.args.trees.now) (g.C.Customs.customs c.args.customs.now) c.args.day (marks_in c.args.self.now.recalc) c.args.steps.now

pub returns-then-is_empty-clause-reads : goal.returns-then-is_empty-clause-reads
returns-then-is_empty-clause-reads g c = g.T.Trees.laws.none _

pub link-requires-clause-follows : goal.link-requires-clause-follows
link-requires-clause-follows g c = (g.C.Customs.customs c.args.customs.now, c.args.day, c.requires.follows)

pub returns-in_err-link-clause-follows : goal.returns-in_err-link-clause-follows
returns-in_err-link-clause-follows g c = c.link.ensures.follows (g.C.Customs.customs c.args.customs.now) c.args.day c.requires.follows

pub recalculate-requires-clause-links : goal.recalculate-requires-clause-links
recalculate-requires-clause-links g c =
    let b = g.T.Trees.workbook c.args.trees.now in
    let words = g.T.Trees.words c.args.trees.now in
    let customs = g.C.Customs.customs c.args.customs.now in
    let v = c.link.new.self in
    let linked = c.link.ensures.follows customs c.args.day c.requires.follows in
    subst (λ (w : Workbook). AreLinksOf w (g.T.Trees.words c.link.new.trees) (links_of v.graph)) (sym c.in_ok-link.ensures.leaves)
    (subst (λ (ws : List (List ℕ)). AreLinksOf b ws (links_of v.graph)) (sym c.in_ok-link.ensures.words) (links_exact b words customs c.args.day v c.requires.numbered linked c.in_ok-link.ensures.done))

pub recalculate-requires-clause-fit : goal.recalculate-requires-clause-fit
recalculate-requires-clause-fit g c =
    let b = g.T.Trees.workbook c.args.trees.now in
    let words = g.T.Trees.words c.args.trees.now in
    let customs = g.C.Customs.customs c.args.customs.now in
    let v = c.link.new.self in
    let linked = c.link.ensures.follows customs c.args.day c.requires.follows in
    let links = links_of v.graph in
    subst (λ (d : ℤ). IsFit (g.T.Trees.workbook c.link.new.trees) (g.T.Trees.words c.link.new.trees) customs d links (marks_in v.recalc) (kept_in v.recalc)) (sym (to_z-of_z w32 c.args.day c.ranges.day))
    (subst (λ (w : Workbook). IsFit w (g.T.Trees.words c.link.new.trees) customs c.args.day links (marks_in v.recalc) (kept_in v.recalc)) (sym c.in_ok-link.ensures.leaves)
    (subst (λ (ws : List (List ℕ)). IsFit b ws customs c.args.day links (marks_in v.recalc) (kept_in v.recalc)) (sym c.in_ok-link.ensures.words)
    (follow_fits b words customs c.args.day links (marks_in v.recalc) (kept_in v.recalc) (to_follow b words customs c.args.day v c.requires.numbered linked)
    (links_exact b words customs c.args.day v c.requires.numbered linked c.in_ok-link.ensures.done))))

pub returns-clause-follows : goal.returns-clause-follows
returns-clause-follows g c =
    let b = g.T.Trees.workbook c.args.trees.now in
    let words = g.T.Trees.words c.args.trees.now in
    let customs = g.C.Customs.customs c.args.customs.now in
    let v = c.link.new.self in
    let new = c.recalculate.new.self in
    let links = links_of v.graph in
    let linked = c.link.ensures.follows customs c.args.day c.requires.follows in
    let leaves = c.in_ok-link.ensures.leaves in
    let same = c.in_ok-link.ensures.words in
    let day = to_z-of_z w32 c.args.day c.ranges.day in
    let far = to_z w32 (of_z w32 c.args.day) in
    let right = subst (λ (d : ℤ). AreRightOn c.recalculate.result b words customs d (kept_in new)) day
    (subst (λ (w : Workbook). AreRightOn c.recalculate.result w words customs far (kept_in new)) leaves
    (subst (λ (ws : List (List ℕ)). AreRightOn c.recalculate.result (g.T.Trees.workbook c.link.new.trees) ws customs far (kept_in new)) same c.recalculate.ensures.right)) in
    let fit = subst (λ (d : ℤ). IsFitOn c.recalculate.result b words customs d links (marks_in new) (kept_in new)) day
    (subst (λ (w : Workbook). IsFitOn c.recalculate.result w words customs far links (marks_in new) (kept_in new)) leaves
    (subst (λ (ws : List (List ℕ)). IsFitOn c.recalculate.result (g.T.Trees.workbook c.link.new.trees) ws customs far links (marks_in new) (kept_in new)) same c.recalculate.ensures.fit)) in
    worked_out b words customs c.args.day v c.requires.numbered linked c.in_ok-link.ensures.done new
    (recalculated b words customs c.args.day c.recalculate.result links (marks_in v.recalc) (marks_in new) (kept_in new) (links_exact b words customs c.args.day v c.requires.numbered linked c.in_ok-link.ensures.done) linked.inside
    (to_follow b words customs c.args.day v c.requires.numbered linked).known right c.recalculate.ensures.unmarked c.recalculate.ensures.marks fit)

pub returns-clause-marks : goal.returns-clause-marks
returns-clause-marks g c = on_err c.recalculate.result _ _ (λ same. same ∙ c.link.ensures.marks) c.recalculate.ensures.marks

pub returns-clause-most : goal.returns-clause-most
returns-clause-most g c =
    let b = g.T.Trees.workbook c.args.trees.now in
    let words = g.T.Trees.words c.args.trees.now in
    let customs = g.C.Customs.customs c.args.customs.now in
    let v = c.link.new.self in
    let links = links_of v.graph in
    let marks = marks_in v.recalc in
    let linked = c.link.ensures.follows customs c.args.day c.requires.follows in
    let far = to_z w32 (of_z w32 c.args.day) in
    subst (λ (ms : List Node). TakesSteps b words customs c.args.day ms c.args.steps.now c.recalculate.new.steps) c.link.ensures.marks
    (steps_taken b words customs c.args.day links marks c.args.steps.now c.recalculate.new.steps (links_exact b words customs c.args.day v c.requires.numbered linked c.in_ok-link.ensures.done)
    (to_follow b words customs c.args.day v c.requires.numbered linked).known
    (subst (λ (d : ℤ). plain.TakesSteps b words customs d links marks c.args.steps.now c.recalculate.new.steps) (to_z-of_z w32 c.args.day c.ranges.day)
    (subst (λ (w : Workbook). plain.TakesSteps w words customs far links marks c.args.steps.now c.recalculate.new.steps) c.in_ok-link.ensures.leaves
    (subst (λ (ws : List (List ℕ)). plain.TakesSteps (g.T.Trees.workbook c.link.new.trees) ws customs far links marks c.args.steps.now c.recalculate.new.steps) c.in_ok-link.ensures.words c.recalculate.ensures.most))))

pub returns-clause-reads : goal.returns-clause-reads
returns-clause-reads g c = g.T.Trees.laws.both _ _ _ c.link.ensures.reads c.recalculate.ensures.reads
