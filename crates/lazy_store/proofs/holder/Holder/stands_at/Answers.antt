use Rattle.std.proofs.Common.{rules}
use Rattle.lazy_store.specs.Holders.{kept_of}
use Rattle.lazy_store.proofs.Stepping.{stands-earlier}
use Rattle.lazy_store.proofs.holder.Holder.stands_at.Goals as goal

pub returns-then-position-self : goal.returns-then-position-self
returns-then-position-self c =
    let there = stands-earlier c.args.line.now (kept_of c.args.self.now) c.args.position c.requires.sound c.requires.coherent c.if-position-self.true in
    search (rules, there)
