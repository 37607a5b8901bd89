use Rattle.node_links.proofs.Sets.{drop_in}
use Rattle.node_links.proofs.users.Users.drop.Goals as goal

pub returns-clause-rest : goal.returns-clause-rest
returns-clause-rest c = drop_in c.args.self.now.sets.items c.args.need c.index_mut.result.now c.remove.new.self c.args.node c.requires c.index_mut.ensures.value c.remove.ensures
