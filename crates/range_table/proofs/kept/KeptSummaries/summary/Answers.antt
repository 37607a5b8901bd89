use Rattle.std.proofs.Common.{◌∙◌, sym, ap, Some}
use Rattle.range_table.specs.internal.Kept.{map_of}
use Rattle.range_table.proofs.Numbers.{insert-there}
use Rattle.range_table.proofs.kept.KeptSummaries.summary.Goals as goal

pub returns-in-Some-clause-kept : goal.returns-in-Some-clause-kept
returns-in-Some-clause-kept g c =
    let kept = map_of c.args.self.now in
    let there = sym c.in-Some.ensures.kept in
    sym (insert-there kept c.args.b _ (there ∙ ap Some (c.requires.right c.args.b c.in-Some.summary there)))
