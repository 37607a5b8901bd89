use Rattle.std.proofs.Common.{sym, subst, get_or, take, [], ◌∷◌, ◌++◌, List}
use Rattle.std.proofs.lemmas.List.{take_all, take_more}
use Rattle.dep_graph.specs.declared.node.Node.{Node}
use Rattle.dep_graph.specs.declared.node.Node.TheVariants.{Cell}
use Rattle.recalc_core.specs.internal.Gone.{AreGone}
use Rattle.recalc_core.specs.internal.Marks.{marked_by}
use Rattle.recalc_core.proofs.MovedMarks.{gone_on, none_gone}
use Rattle.recalc_core.proofs.shifting.gone_marks.Goals as goal

pub nodes-init : goal.nodes-init
nodes-init c = subst (λ (ms : List Node). AreGone c.args.s.now [] ms) (sym c.in_ok-marks.ensures) (none_gone c.args.s.now c.requires)

pub nodes-preserved : goal.nodes-preserved
nodes-preserved c =
    let s = c.args.s.now in
    let nodes = c.args.nodes.now in
    let i = c.nodes.node-index in
    let x : Node = get_or nodes i (Cell (record { sheet = 0; row = 0; col = 0 })) in
    subst (λ (ns : List Node). AreGone s ns (marked_by c.follow.new.self)) (sym (take_more nodes i (Cell (record { sheet = 0; row = 0; col = 0 })) c.nodes-test.true))
    (subst (λ (ms : List Node). AreGone s (take i nodes ++ x ∷ []) ms) (sym c.in_ok-follow.ensures) (gone_on s c.requires (take i nodes) (marked_by c.nodes.marks) x c.nodes.invariant))

pub returns-clause-marks : goal.returns-clause-marks
returns-clause-marks c =
    subst (λ (ns : List Node). AreGone c.args.s.now ns (marked_by c.nodes.marks)) (take_all c.nodes.node-index c.args.nodes.now c.nodes-test.false) c.nodes.invariant
