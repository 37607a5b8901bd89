use Rattle.std.proofs.Common.{◌<◌, subst, sym}
use Rattle.place_lines.specs.Spots.{area_of}
use Rattle.range_table.proofs.Numbers.{bounded_put, found_put, got, map_put, stand_put}
use Rattle.range_table.proofs.kept.KeptSummaries.put.Goals as goal

pub invariant_of-self : goal.invariant_of-self
invariant_of-self c =
    let k = c.args.self.now in
    let b = c.args.b in
    let n = c.args.number in
    let x = c.args.summary in
    let new = c.set.new.self in
    let e = c.set.ensures in
    let r = c.requires.number in record {
      stands = stand_put k.table new k.files b n x k.stands k.found c.requires.inside r.under r.finds e.lines e.keys e.states;
      found = found_put k.table new k.files b n x k.stands k.found c.requires.inside r.under r.finds e.lines e.keys e.states;
      bounded = bounded_put k.table new k.files b n x k.stands k.found c.requires.inside r.under r.finds e.lines e.keys e.states c.requires.bounded k.bounded;
    }

pub returns : goal.returns
returns c =
    let k = c.args.self.now in
    let e = c.set.ensures in
    let r = c.requires.number in
    map_put k.table c.set.new.self k.files c.args.b c.args.number c.args.summary k.stands k.found c.requires.inside r.under r.finds e.lines e.keys e.states

pub set-requires : goal.set-requires
set-requires c =
    let t = c.args.self.now.table in
    subst (λ k. c.args.number < k) (sym t.counts) (got t.keys.keys c.args.number (area_of t.lines c.args.b) (area_of t.lines c.args.b) c.requires.number.under).0
