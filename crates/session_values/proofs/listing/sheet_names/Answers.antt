use Rattle.std.proofs.Common.{◌∙◌, sym, subst, List}
use Rattle.std.specs.Prelude.{IsTrue}
use Rattle.std.proofs.lemmas.Bool.{and_from, and_parts}
use Rattle.std.proofs.lemmas.Result.{IfOk-weaker}
use Rattle.dep_graph.specs.Nodes.{has}
use Rattle.dep_graph.specs.declared.node.Node.{Node}
use Rattle.session_values.specs.internal.Listed.{is_name_of}
use Rattle.session_values.proofs.listing.sheet_names.Goals as goal

pub returns-clause-all : goal.returns-clause-all
returns-clause-all c = IfOk-weaker c.named.result _ _
    (λ names are a x at there of_sheet.
    are a ∙ and_from (is_name_of c.args.sheet a) (has a c.items.result.now) of_sheet (subst (λ (ns : List Node). IsTrue (has a ns)) (sym c.items.ensures) (c.in_ok-nodes.ensures.all a x at there)))
    c.named.ensures

pub returns-clause-known : goal.returns-clause-known
returns-clause-known c = IfOk-weaker c.named.result _ _
    (λ names are a h.
    c.in_ok-nodes.ensures.known a (subst (λ (ns : List Node). IsTrue (has a ns)) c.items.ensures (and_parts (is_name_of c.args.sheet a) (has a c.items.result.now) (sym (are a) ∙ h)).1))
    c.named.ensures

pub returns-clause-only : goal.returns-clause-only
returns-clause-only c = IfOk-weaker c.named.result _ _ (λ names are a h. (and_parts (is_name_of c.args.sheet a) (has a c.items.result.now) (sym (are a) ∙ h)).0) c.named.ensures
