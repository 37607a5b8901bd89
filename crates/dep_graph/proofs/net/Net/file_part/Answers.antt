use Rattle.std.proofs.Common.{◌∙◌, ap, length, subst, sym}
use Rattle.std.specs.Prelude.{IsSome}
use Rattle.dep_graph.specs.internal.Filings.{filing_of}
use Rattle.dep_graph.proofs.Adding.{filings_on}
use Rattle.dep_graph.proofs.net.Net.file_part.Goals as goal

pub invariant_of-self : goal.invariant_of-self
invariant_of-self c = record {
  counts = c.args.self.now.counts;
  rooms = ap (λ v. length v.items) c.file.ensures.on.current ∙ c.args.self.now.rooms;
  alive = c.args.self.now.alive;
  filed = filings_on c.args.self.now.nodes c.args.self.now.files c.file.new.self c.args.self.now.filed c.file.ensures.on;
  used = λ a n h range. subst IsSome (sym (ap (λ v. filing_of v n) c.file.ensures.on.current)) (c.args.self.now.used a n h range);
  indexed = c.args.self.now.indexed;
}
