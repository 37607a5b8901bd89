use Rattle.std.proofs.Common.{nat_eq}
use Rattle.std.specs.HashSet.{contains}
use Rattle.lazy_store.proofs.Born.{among-coherent, among-kept}
use Rattle.lazy_store.proofs.Noted.{noted-among}
use Rattle.lazy_store.proofs.lazy.Lazy.keep_only.Goals as goal

pub invariant_of-self : goal.invariant_of-self
invariant_of-self c =
    let store = c.args.self.now in
    record { sound = store.sound; coherent = among-coherent (contains nat_eq c.args.ids.now) store.holders c.keep_among.new.holders c.keep_among.ensures.found store.line store.coherent; noted = noted-among store.recent store.holders c.keep_among.new.holders (contains nat_eq c.args.ids.now) c.keep_among.ensures.found store.noted }

pub returns-clause-kept : goal.returns-clause-kept
returns-clause-kept c =
    let store = c.args.self.now in
    among-kept (contains nat_eq c.args.ids.now) store.holders c.keep_among.new.holders c.keep_among.ensures.found
