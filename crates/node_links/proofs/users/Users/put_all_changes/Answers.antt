use Rattle.node_links.proofs.Changes.{all_put_back}
use Rattle.node_links.proofs.users.Users.put_all_changes.Goals as goal

pub returns-in-Err-clause-err : goal.returns-in-Err-clause-err
returns-in-Err-clause-err c = all_put_back c.args.self.now.sets.items c.put_changes.new.self.sets.items c.drop_changes.new.self.sets.items c.args.changes.now c.requires.before c.in-Err.ensures.err c.drop_changes.ensures.rest
