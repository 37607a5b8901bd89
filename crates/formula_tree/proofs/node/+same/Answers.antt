use Rattle.std.proofs.Common.{◌∙◌, sym}
use Rattle.formula_tree.proofs.RelativeNodes.{relatives-long, relatives-listed}
use Rattle.formula_tree.proofs.node.+same.Goals as goal

pub TreeList::same-returns-then-firsts-seconds : goal.TreeList::same-returns-then-firsts-seconds
TreeList::same-returns-then-firsts-seconds t c =
    let first = relatives-listed c.args.self.now c.items-firsts.result.now c.items-firsts.ensures in
    let second = relatives-listed c.args.other.now c.items-seconds.result.now c.items-seconds.ensures in
    (λ e. absurd (cc), λ e. absurd (c.if-firsts-seconds.true (relatives-long c.items-firsts.result.now c.items-seconds.result.now (first ∙ e ∙ sym second))))

pub TreeList::same-arguments-init : goal.TreeList::same-arguments-init
TreeList::same-arguments-init t c =
    let first = relatives-listed c.args.self.now c.items-firsts.result.now c.items-firsts.ensures in
    let second = relatives-listed c.args.other.now c.items-seconds.result.now c.items-seconds.ensures in
    record { long = c.if-firsts-seconds.false; rest = (λ e. sym first ∙ e ∙ second, λ e. first ∙ e ∙ sym second) }
