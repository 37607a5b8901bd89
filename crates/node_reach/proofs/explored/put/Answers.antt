use Rattle.node_reach.proofs.Putting.{put_is}
use Rattle.node_reach.proofs.explored.put.Goals as goal

pub returns : goal.returns
returns c = let told = c.in_ok-place.ensures in put_is c.args.set.now.keys c.insert_full.new.self.keys c.args.node c.in_ok-place.place told.keys told.within told.stored
