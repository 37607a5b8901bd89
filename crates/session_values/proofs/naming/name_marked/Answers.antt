use Rattle.std.proofs.Common.{◌≡◌, ◌∙◌, sym, subst, true, Option, Result, Ok, Err}
use Rattle.std.proofs.lemmas.Bool.{false≢true}
use Rattle.std.specs.Prelude.{OnOk}
use Rattle.std.specs.Result.{is_ok}
use Rattle.dep_graph.specs.declared.node.Node.{Node}
use Rattle.session_values.specs.internal.Marked.{HasMarked}
use Rattle.session_values.proofs.naming.name_marked.Goals as goal

where_ok : {X E : Type 0} (r : Result X E) (P : Type 0) → is_ok r ≡ true → OnOk r P → P
where_ok (Ok x) P ok holds = holds
where_ok (Err e) P ok holds = absurd (false≢true ok)

pub returns-in-Some : goal.returns-in-Some
returns-in-Some c = λ ok.
    subst (λ (o : Option Node). HasMarked o c.args.values.now c.mark.new.self) (sym c.in-Some.is)
    (record {
      links = c.mark.ensures.links;
      asking = c.mark.ensures.asking;
      losing = c.mark.ensures.losing;
      seeking = c.mark.ensures.seeking;
      kept = c.mark.ensures.kept;
      marks = where_ok c.mark.result _ (sym c.is_ok.ensures.value ∙ ok) c.mark.ensures.ok;
      unlinked = where_ok c.mark.result _ (sym c.is_ok.ensures.value ∙ ok) c.mark.ensures.unlinked;
    })
