use Rattle.std.proofs.Common.{◌∙◌, ap, sym, Some}
use Rattle.range_table.specs.internal.States.{summary_in}
use Rattle.range_table.specs.internal.Tables.{known}
use Rattle.range_table.proofs.Growing.{grown_bounded, grown_found, grown_stand, same_more}
use Rattle.range_table.proofs.Numbers.{summary_is}
use Rattle.range_table.proofs.Taking.{takes_one}
use Rattle.range_table.proofs.kept.KeptSummaries.take.Goals as goal

pub invariant_of-self : goal.invariant_of-self
invariant_of-self c =
    let k = c.args.self.now in
    let t = c.know.new.self in
    let g = c.know.ensures.grown in record {
      stands = grown_stand k t k.files g (same_more k.files);
      found = grown_found k t k.files g (same_more k.files);
      bounded = grown_bounded k t k.files g (same_more k.files);
    }

pub invariant_of-self-in-Some : goal.invariant_of-self-in-Some
invariant_of-self-in-Some c =
    let k = c.args.self.now in
    let t = c.know.new.self in
    let g = c.know.ensures.grown in
    let f = c.file.new.self in
    let m = c.file.ensures.more in record {
      stands = grown_stand k t f g m;
      found = grown_found k t f g m;
      bounded = grown_bounded k t f g m;
    }

pub returns-in_ok-arrive-clause-taken : goal.returns-in_ok-arrive-clause-taken
returns-in_ok-arrive-clause-taken c =
    takes_one c.args.lines.now c.args.number c.args.after _ c.args.changes.now c.arrive.new.self c.in_ok-arrival.arrival c.in-Some.summary
    (c.know.ensures.grown.states c.args.number ∙ summary_is (known c.args.self.now.table c.args.number) c.in-Some.summary (sym (c.summary.ensures ∙ ap summary_in c.state.ensures) ∙ c.in-Some.is))
    (c.in_ok-arrival.ensures.number ∙ ap (λ a. Some a) c.area.ensures)
    c.in_ok-file.ensures.finds
    c.in_ok-arrive.ensures.arrived
