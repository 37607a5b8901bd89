use Rattle.std.proofs.Common.{◌≡◌, ◌&&◌, ◌||◌, ℕ, eqb, set}
use Rattle.node_links.specs.internal.Sets.{is_in}
use Rattle.node_links.proofs.Sets.{on_fault, on_ok, put_in, read_same}
use Rattle.node_links.proofs.users.Users.put.Goals as goal

pub returns-clause-ok : goal.returns-clause-ok
returns-clause-ok c = on_ok c.insert.result _
    ((i x : ℕ) → is_in (set c.args.self.now.sets.items c.args.need c.insert.new.self) i x ≡ (is_in c.args.self.now.sets.items i x || (eqb i c.args.need && eqb x c.args.node)))
    c.insert.ensures.ok (put_in c.args.self.now.sets.items c.args.need c.index_mut.result.now c.insert.new.self c.args.node c.requires c.index_mut.ensures.value)

pub returns-clause-err : goal.returns-clause-err
returns-clause-err c = on_fault c.insert.result _
    ((i x : ℕ) → is_in (set c.args.self.now.sets.items c.args.need c.insert.new.self) i x ≡ is_in c.args.self.now.sets.items i x)
    c.insert.ensures.err (read_same c.args.self.now.sets.items c.args.need c.index_mut.result.now c.insert.new.self c.requires c.index_mut.ensures.value)
