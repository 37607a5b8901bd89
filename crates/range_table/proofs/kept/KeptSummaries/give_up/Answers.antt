use Rattle.range_table.proofs.GivingUp.{bounded_given, found_given, map_given, stand_given}
use Rattle.range_table.proofs.kept.KeptSummaries.give_up.Goals as goal

pub invariant_of-self : goal.invariant_of-self
invariant_of-self c =
    let k = c.args.self.now in
    let new = c.give_up_found.new.table in
    let g = c.give_up_found.ensures in record {
      stands = stand_given c.args.at k.table new k.files k.stands k.found g;
      found = found_given c.args.at k.table new k.files k.stands k.found g;
      bounded = bounded_given c.args.at k.table new k.files k.stands k.found g k.bounded;
    }

pub returns : goal.returns
returns c = let k = c.args.self.now in map_given c.args.at k.table c.give_up_found.new.table k.files k.stands k.found c.give_up_found.ensures
