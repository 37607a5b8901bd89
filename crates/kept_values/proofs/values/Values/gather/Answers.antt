use Rattle.std.proofs.Common.{◌∙◌, ap, Bool, List, ◌++◌}
use Rattle.dep_graph.specs.Nodes.{has}
use Rattle.dep_graph.specs.declared.node.Node.{Node}
use Rattle.kept_values.specs.Values.{marks_in, unlinked_in}
use Rattle.kept_values.proofs.Following.{on_ok}
use Rattle.kept_values.proofs.Gathered.{all_gathered}
use Rattle.kept_values.proofs.values.Values.gather.Goals as goal

pub returns-in_err-mark_all-2-clause-kept : goal.returns-in_err-mark_all-2-clause-kept
returns-in_err-mark_all-2-clause-kept c = c.mark_all-2.ensures.kept ∙ c.mark_all.ensures.kept

pub returns-clause-marks : goal.returns-clause-marks
returns-clause-marks c =
    let v = c.args.self.now in
    let one = marks_in c.mark_all.new.self in
    let two = marks_in c.mark_all-2.new.self in
    on_ok c.mark_all-3.result _ _
    (λ third.
    all_gathered (marks_in v) one two (marks_in c.mark_all-3.new.self) c.args.touched.now c.args.bent.now v.noted.asking.keys c.in_ok-mark_all.ensures.ok c.in_ok-mark_all-2.ensures.ok
    (λ a. third a ∙ ap (λ (ns : List Node). has a (two ++ ns)) (c.as_slice.ensures.keys ∙ (λ i. (c.replace-asking.ensures.value i).keys))))
    c.mark_all-3.ensures.ok

pub returns-clause-unlinked : goal.returns-clause-unlinked
returns-clause-unlinked c =
    let v = c.args.self.now in
    let one = unlinked_in c.mark_all.new.self in
    let two = unlinked_in c.mark_all-2.new.self in
    on_ok c.mark_all-3.result _ _
    (λ third.
    all_gathered (unlinked_in v) one two (unlinked_in c.mark_all-3.new.self) c.args.touched.now c.args.bent.now v.noted.asking.keys c.in_ok-mark_all.ensures.unlinked c.in_ok-mark_all-2.ensures.unlinked
    (λ a. third a ∙ ap (λ (ns : List Node). has a (two ++ ns)) (c.as_slice.ensures.keys ∙ (λ i. (c.replace-asking.ensures.value i).keys))))
    c.mark_all-3.ensures.unlinked

pub returns-clause-asking : goal.returns-clause-asking
returns-clause-asking c = on_ok c.mark_all-3.result _ _
    (λ third a.
    ap (λ (f : Node → Bool). f a) (c.mark_all-3.ensures.asking ∙ c.mark_all-2.ensures.asking ∙ c.mark_all.ensures.asking)
    ∙ (λ i. has a (c.replace-asking.ensures.after i).keys) ∙ ap (has a) c.new.ensures.empty)
    c.mark_all-3.ensures.ok

pub returns-in_err-mark_all-2-clause-losing : goal.returns-in_err-mark_all-2-clause-losing
returns-in_err-mark_all-2-clause-losing c = c.mark_all-2.ensures.losing ∙ c.mark_all.ensures.losing

pub returns-clause-losing : goal.returns-clause-losing
returns-clause-losing c = c.mark_all-3.ensures.losing ∙ c.mark_all-2.ensures.losing ∙ c.mark_all.ensures.losing

pub returns-clause-kept : goal.returns-clause-kept
returns-clause-kept c = c.mark_all-3.ensures.kept ∙ c.mark_all-2.ensures.kept ∙ c.mark_all.ensures.kept

pub returns-in_err-mark_all-2-clause-seeking : goal.returns-in_err-mark_all-2-clause-seeking
returns-in_err-mark_all-2-clause-seeking c = c.mark_all-2.ensures.seeking ∙ c.mark_all.ensures.seeking

pub returns-clause-seeking : goal.returns-clause-seeking
returns-clause-seeking c = c.mark_all-3.ensures.seeking ∙ c.mark_all-2.ensures.seeking ∙ c.mark_all.ensures.seeking
