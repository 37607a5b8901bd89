use Rattle.std.proofs.Common.{◌∙◌, sym, ap}
use Rattle.std.specs.Bool.{one_answer}
use Rattle.formula_tree.specs.Relative.{relative}
use Rattle.formula_tree.specs.internal.Code.{same_code}
use Rattle.formula_tree.proofs.PooledTrees.{same_code-decides}
use Rattle.formula_tree.proofs.entry.EntryPartialEq.eq.Goals as goal

pub returns : goal.returns
returns c =
    let t = relative c.args.self.now.tree.value in
    let u = relative c.args.other.now.tree.value in
    let first = ap relative c.deref.ensures in
    let second = ap relative c.deref-2.ensures in
    one_answer c.same.result (same_code t u) (λ h. sym first ∙ c.same.ensures.0 h ∙ second, λ e. c.same.ensures.1 (first ∙ e ∙ sym second)) (same_code-decides t u)
