use Rattle.lazy_store.proofs.Changes.{left-coherent}
use Rattle.lazy_store.proofs.Noted.{noted-left}
use Rattle.lazy_store.proofs.lazy.Lazy.forget.Goals as goal

pub invariant_of-self : goal.invariant_of-self
invariant_of-self c =
    let store = c.args.self.now in
    let updates = c.swap_remove.ensures.updates in
    record {
      sound = store.sound;
      coherent = left-coherent c.args.id store.holders c.swap_remove.new.self updates.2 store.line store.coherent updates.1;
      noted = noted-left store.recent store.holders c.swap_remove.new.self c.args.id updates.2 updates.1 store.noted;
    }
