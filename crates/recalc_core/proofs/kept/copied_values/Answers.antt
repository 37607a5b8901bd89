use Rattle.std.proofs.Common.{◌≡◌, ◌∙◌, sym, ap, subst, append_assoc, List, [], ◌∷◌, ◌++◌, Some, rules}
use Rattle.std.specs.HashMap as hash
use Rattle.std.specs.List.{IsDistinct}
use Rattle.std.specs.Map.{keys_of, lookup}
use Rattle.std.proofs.lemmas.List.{append-nil}
use Rattle.cell_value.specs.declared.scalar.Scalar.{Scalar}
use Rattle.dep_graph.specs.Nodes.{same_node}
use Rattle.dep_graph.specs.declared.node.Node.{Node}
use Rattle.recalc_core.specs.internal.KeptTables.{IsPut}
use Rattle.recalc_core.proofs.CopiedValues.{copied_on}
use Rattle.recalc_core.proofs.kept.copied_values.Goals as goal

pub values-init : goal.values-init
values-init c = ([], search rules, search rules, c.len-once.ensures.unique)

pub values-preserved : goal.values-preserved
values-preserved c =
    let (done, parts, kept, distinct) = c.values.invariant in
    let e : Node × Scalar = (c.in-Some.node.now, c.in-Some.value.now) in
    let rest = c.next.new.self in
    let whole : done ++ e ∷ rest ≡ c.args.values.now.entries = ap (λ r. done ++ r) (sym c.in-Some.ensures.steps) ∙ parts in (
      done ++ e ∷ [],
      append_assoc done (e ∷ []) rest ∙ whole,
      copied_on done rest e (hash.get same_node c.values.copy) (hash.get same_node c.insert.new.values) (subst (λ (es : List (Node × Scalar)). IsDistinct same_node (keys_of es)) (sym whole) distinct) kept
          (subst (λ v. IsPut c.in-Some.node.now (Some v) (hash.get same_node c.values.copy) (hash.get same_node c.insert.new.values)) c.in_ok-copy.ensures c.in_ok-insert.ensures.ok),
      distinct,
    )

pub returns : goal.returns
returns c = λ a.
    let (done, parts, kept, distinct) = c.values.invariant in
    kept a ∙ ap (lookup (same_node a)) (sym (append-nil done) ∙ ap (λ r. done ++ r) (sym c.in-None.ensures.steps.0) ∙ parts)
