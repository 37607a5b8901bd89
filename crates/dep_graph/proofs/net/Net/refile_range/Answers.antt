use Rattle.std.proofs.Common.{Some}
use Rattle.dep_graph.specs.internal.Filings.{filing_then}
use Rattle.dep_graph.specs.internal.Numbers.{count_of}
use Rattle.dep_graph.proofs.Adding.{on_ok}
use Rattle.dep_graph.proofs.Refiling.{put_among, put_stays, put_there, then_put, under_next}
use Rattle.dep_graph.proofs.net.Net.refile_range.Goals as goal

pub returns-clause-inside : goal.returns-clause-inside
returns-clause-inside c =
    on_ok c.put_filings.result _ _ c.put_filings.ensures
    (λ put. put_among c.args.filings.now c.put_filings.new.filings c.args.target (count_of c.args.self.now.nodes) (Some c.in_ok-all.all) put c.requires.low c.requires.inside)

pub returns-clause-filings : goal.returns-clause-filings
returns-clause-filings c =
    let net = c.args.self.now in
    let new = c.filings_after.new.self in
    on_ok c.put_filings.result _ _ c.put_filings.ensures
    (λ put. under_next c.args.lines.now net new c.filings_after.ensures.nodes c.filings_after.ensures.files (filing_then c.args.filings.now net.files.current) (filing_then c.put_filings.new.filings new.files.current)
    c.args.target c.in_ok-all.all c.args.after c.requires.filings (then_put c.args.filings.now c.put_filings.new.filings net.files new.files c.args.target (Some c.in_ok-all.all) put c.filings_after.ensures.files.current)
    c.in_ok-all.ensures.serving c.requires.target c.in_ok-all.ensures.holds)

pub returns-clause-still : goal.returns-clause-still
returns-clause-still c =
    let net = c.args.self.now in
    let new = c.filings_after.new.self in
    on_ok c.put_filings.result _ _ c.put_filings.ensures
    (λ put. put_stays (filing_then c.args.filings.now net.files.current) (filing_then c.put_filings.new.filings new.files.current) c.args.target c.in_ok-all.all
    (then_put c.args.filings.now c.put_filings.new.filings net.files new.files c.args.target (Some c.in_ok-all.all) put c.filings_after.ensures.files.current))

pub returns-clause-filed : goal.returns-clause-filed
returns-clause-filed c =
    let net = c.args.self.now in
    let new = c.filings_after.new.self in
    on_ok c.put_filings.result _ _ c.put_filings.ensures
    (λ put. put_there (filing_then c.args.filings.now net.files.current) (filing_then c.put_filings.new.filings new.files.current) c.args.target c.in_ok-all.all
    (then_put c.args.filings.now c.put_filings.new.filings net.files new.files c.args.target (Some c.in_ok-all.all) put c.filings_after.ensures.files.current))
