use Rattle.node_links.proofs.Relinking.{put_back}
use Rattle.node_links.proofs.users.Users.put_all.Goals as goal

pub returns-in-Err-clause-err : goal.returns-in-Err-clause-err
returns-in-Err-clause-err c = put_back c.args.self.now.sets.items c.put_each.new.self.sets.items c.drop_each.new.self.sets.items c.args.needs.now c.args.node c.args.was.now c.requires.was c.in-Err.ensures.err c.drop_each.ensures.rest
