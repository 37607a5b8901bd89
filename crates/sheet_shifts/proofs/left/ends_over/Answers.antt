use Rattle.std.proofs.Common.{◌≡◌, ◌∙◌, sym, subst, true}
use Rattle.cell_addr.specs.Axis.{limit_of}
use Rattle.sheet_shifts.specs.internal.Going.{CarriesEnds, Walks, is_left}
use Rattle.sheet_shifts.proofs.left.ends_over.Goals as goal

pub returns-then-leaves-clause-walks : goal.returns-then-leaves-clause-walks
returns-then-leaves-clause-walks c =
    let left : is_left c.args.lines c.args.axis ≡ true = sym c.leaves.ensures ∙ c.if-leaves.true in
    subst (λ b. Walks (CarriesEnds b (limit_of c.args.axis)) c.args.to c.args.edits.now c.args.span c.args.span c.behind_all.result.now) (sym left) (c.behind_all.ensures (limit_of c.args.axis) c.args.span)
