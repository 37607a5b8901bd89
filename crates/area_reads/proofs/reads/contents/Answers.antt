use Rattle.std.proofs.Common.{◌∙◌}
use Rattle.area_reads.proofs.Staying.{quiet_none}
use Rattle.area_reads.proofs.Told.{contents_accepted, contents_told}
use Rattle.area_reads.proofs.reads.contents.Goals as goal

pub returns-in_err-places-clause-quiet : goal.returns-in_err-places-clause-quiet
returns-in_err-places-clause-quiet g c = quiet_none g.C.Customs.customs c.args.engine.now

pub returns-clause-answered : goal.returns-clause-answered
returns-clause-answered g c = λ d stands.
    let found = c.in_ok-places.ensures d stands in
    let same = c.deref.ensures.value ∙ found.1 in
    contents_told c.args.area d c.deref.result.now same c.contents_at.result found.0 (c.contents_at.ensures.answered d stands (contents_accepted c.args.area d c.deref.result.now same found.0))
