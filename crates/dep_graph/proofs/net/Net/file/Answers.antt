use Rattle.std.proofs.Common.{◌≡◌, ◌∙◌, ◌<◌, ◌↔◌, ap, length, refl, subst, sym, true, []}
use Rattle.std.proofs.lemmas.List.{append-nil}
use Rattle.place_lines.specs.declared.spot.LineSpot.{LineSpot}
use Rattle.dep_graph.specs.internal.Files.{IsSpotOf, finds_filing}
use Rattle.std.specs.Prelude.{IsSome}
use Rattle.dep_graph.specs.internal.Filings.{filing_of}
use Rattle.dep_graph.proofs.Adding.{filings_kept, filings_on, now_filed, still_filed}
use Rattle.dep_graph.proofs.Filed.{held}
use Rattle.dep_graph.proofs.Numbers.{alive_inside, alive_is}
use Rattle.dep_graph.proofs.net.Net.file.Goals as goal

pub invariant_of-self-in-Break-1 : goal.invariant_of-self-in-Break-1
invariant_of-self-in-Break-1 c = record {
  counts = c.args.self.now.counts;
  rooms = ap (λ v. length v.items) c.file.ensures.on.current ∙ c.args.self.now.rooms;
  alive = c.args.self.now.alive;
  filed = filings_on c.args.self.now.nodes c.args.self.now.files c.file.new.self c.args.self.now.filed c.file.ensures.on;
  used = λ a n h range. subst IsSome (sym (ap (λ v. filing_of v n) c.file.ensures.on.current)) (c.args.self.now.used a n h range);
  indexed = c.args.self.now.indexed;
}

pub keep-requires-clause-node : goal.keep-requires-clause-node
keep-requires-clause-node c =
    let low : c.args.number < length c.args.self.now.files.current.items = subst (λ k. c.args.number < k) (sym c.args.self.now.rooms) (alive_inside c.args.self.now.nodes c.args.number (alive_is c.args.self.now.nodes c.args.number _ c.requires.node).1) in
    subst (λ v. c.args.number < length v.items) (sym c.file.ensures.on.current) low

pub invariant_of-self-2 : goal.invariant_of-self-2
invariant_of-self-2 c = record {
  counts = c.args.self.now.counts;
  rooms = c.keep.ensures.count ∙ (ap (λ v. length v.items) c.file.ensures.on.current ∙ c.args.self.now.rooms);
  alive = c.args.self.now.alive;
  filed = filings_kept c.args.self.now.nodes c.file.new.self c.keep.new.self c.args.number c.in_ok-filing.filing c.keep.ensures.index c.keep.ensures.wholes c.keep.ensures.owners c.keep.ensures.serves c.keep.ensures.kept c.in_ok-filing.ensures.owner c.args.range
      (filings_on c.args.self.now.nodes c.args.self.now.files c.file.new.self c.args.self.now.filed c.file.ensures.on) c.requires.node
      (held c.args.self.now.nodes.lines c.args.self.now.files c.file.new.self c.args.number c.in_ok-filing.filing c.args.range c.requires.range c.file.ensures.on c.in_ok-filing.ensures.new c.in_ok-filing.ensures.owner
      (subst (λ l. (spot : LineSpot) → (finds_filing c.file.new.self spot c.in_ok-filing.filing ≡ true) ↔ IsSpotOf l c.args.range spot) c.lines.ensures c.in_ok-filing.ensures.exact));
  used = λ a n h. still_filed c.args.self.now.nodes c.file.new.self c.keep.new.self c.args.number c.in_ok-filing.filing c.keep.ensures.kept n
      (λ range. subst IsSome (sym (ap (λ v. filing_of v n) c.file.ensures.on.current)) (c.args.self.now.used a n h range));
  indexed = c.args.self.now.indexed;
}

pub returns-clause-grown : goal.returns-clause-grown
returns-clause-grown c = record {
  keys = ([], sym (append-nil c.args.self.now.nodes.keys.keys));
  lines = refl;
  needs = λ n. refl;
  filed = λ n low h. still_filed c.args.self.now.nodes c.file.new.self c.keep.new.self c.args.number c.in_ok-filing.filing c.keep.ensures.kept n
      (λ range. subst IsSome (sym (ap (λ v. filing_of v n) c.file.ensures.on.current)) (h range));
}

pub returns-clause-filed : goal.returns-clause-filed
returns-clause-filed c = now_filed c.args.self.now.nodes c.file.new.self c.keep.new.self c.args.number c.in_ok-filing.filing c.keep.ensures.kept
