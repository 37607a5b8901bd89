use Rattle.node_reach.proofs.Reading.{read_more, read_whole}
use Rattle.node_reach.proofs.walk.read.Goals as goal

pub places-preserved : goal.places-preserved
places-preserved g c =
    read_more c.args.list.now c.args.places.now c.places.place-index c.places.found.items c.push.new.self.items c.index-list-place.result
    c.places.invariant c.places-test.true (c.requires c.places.place-index 0 c.places-test.true) c.index-list-place.is c.in_ok-push.ensures.items

pub returns : goal.returns
returns g c = read_whole c.args.list.now c.args.places.now c.places.place-index c.places.found.items c.places.invariant c.places-test.false
