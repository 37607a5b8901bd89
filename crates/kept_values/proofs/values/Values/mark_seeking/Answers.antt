use Rattle.std.proofs.Common.{◌≡◌, ◌∙◌, ◌||◌, sym, ap, refl, ℕ, Bool, true, false, List, ◌++◌, None, if◌then◌else◌}
use Rattle.std.proofs.lemmas.List.Folds.{list_any-append}
use Rattle.cell_addr.specs.Sheets.{same_name}
use Rattle.dep_graph.specs.Nodes.{has, same_node}
use Rattle.dep_graph.specs.declared.node.Node.{Node}
use Rattle.kept_values.specs.Sought.{noted_in}
use Rattle.kept_values.specs.Values.{marks_in, seeks_in, unlinked_in}
use Rattle.kept_values.proofs.Following.{on_ok}
use Rattle.kept_values.proofs.UnderWords.{only_here}
use Rattle.kept_values.proofs.values.Values.mark_seeking.Goals as goal

pub returns-in-Some-clause-marks : goal.returns-in-Some-clause-marks
returns-in-Some-clause-marks c =
    let v = c.args.self.now in
    on_ok c.mark_all.result _ _
    (λ marked a.
    marked a ∙ ap (λ (ns : List Node). has a (marks_in v ++ ns)) c.as_slice.ensures.keys ∙ list_any-append (same_node a) (marks_in v) c.in-Some.seeking.keys
    ∙ ap (λ m. has a (marks_in v) || m) (ap (λ o. noted_in o a) c.in-Some.ensures.value ∙ ap (λ (w : List ℕ). seeks_in v w a) c.in_ok-from_str.ensures))
    c.mark_all.ensures.ok

pub returns-in-Some-clause-unlinked : goal.returns-in-Some-clause-unlinked
returns-in-Some-clause-unlinked c =
    let v = c.args.self.now in
    on_ok c.mark_all.result _ _
    (λ marked a.
    marked a ∙ ap (λ (ns : List Node). has a (unlinked_in v ++ ns)) c.as_slice.ensures.keys ∙ list_any-append (same_node a) (unlinked_in v) c.in-Some.seeking.keys
    ∙ ap (λ m. has a (unlinked_in v) || m) (ap (λ o. noted_in o a) c.in-Some.ensures.value ∙ ap (λ (w : List ℕ). seeks_in v w a) c.in_ok-from_str.ensures))
    c.mark_all.ensures.unlinked

pub returns-in-Some-clause-seeking : goal.returns-in-Some-clause-seeking
returns-in-Some-clause-seeking c =
    let v = c.args.self.now in
    on_ok c.mark_all.result _ _
    (λ marked other a.
    ap (λ (f : List ℕ → Node → Bool). f other a) c.mark_all.ensures.seeking ∙ only_here v.noted.seeking c.swap_remove.new.self c.in_ok-from_str.field-0 None c.swap_remove.ensures.updates.0 other a
    ∙ ap (λ (w : List ℕ). if same_name w other then false else seeks_in v other a) c.in_ok-from_str.ensures)
    c.mark_all.ensures.ok

nothing_more : (m n : Bool) → n ≡ false → m ≡ (m || n)
nothing_more true n e = refl
nothing_more false n e = sym e

pub returns-clause-marks : goal.returns-clause-marks
returns-clause-marks c = λ a.
    let v = c.args.self.now in
    nothing_more (has a (marks_in v)) (seeks_in v c.args.word.now a) (sym (ap (λ (w : List ℕ). seeks_in v w a) c.in_ok-from_str.ensures) ∙ ap (λ o. noted_in o a) (sym c.in-None.ensures.value))

pub returns-clause-unlinked : goal.returns-clause-unlinked
returns-clause-unlinked c = λ a.
    let v = c.args.self.now in
    nothing_more (has a (unlinked_in v)) (seeks_in v c.args.word.now a) (sym (ap (λ (w : List ℕ). seeks_in v w a) c.in_ok-from_str.ensures) ∙ ap (λ o. noted_in o a) (sym c.in-None.ensures.value))

pub returns-clause-seeking : goal.returns-clause-seeking
returns-clause-seeking c = λ other a.
    let v = c.args.self.now in
    only_here v.noted.seeking c.swap_remove.new.self c.in_ok-from_str.field-0 None c.swap_remove.ensures.updates.0 other a ∙ ap (λ (w : List ℕ). if same_name w other then false else seeks_in v other a) c.in_ok-from_str.ensures
