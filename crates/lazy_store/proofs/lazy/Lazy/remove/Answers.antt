use Rattle.std.proofs.Common.{sym, false, rules}
use Rattle.lazy_store.specs.Holders.{kept_of}
use Rattle.lazy_store.proofs.Changes.{changed-coherent, live-coherent}
use Rattle.lazy_store.proofs.Noted.{noted-changed}
use Rattle.lazy_store.proofs.lazy.Lazy.remove.Goals as goal

pub invariant_of-self : goal.invariant_of-self
invariant_of-self c =
    let store = c.args.self.now in
    let x = c.in-Some.holder.now in
    let y = record x { live = false } in
    let updates = (c.get_mut.follows.holds y).3 (search rules) in
    record {
      sound = store.sound;
      coherent = changed-coherent c.args.id store.holders (c.get_mut.follows.lender y) updates.2 store.line y store.coherent updates.1
          (live-coherent store.line (kept_of x) false (store.coherent c.args.id x (sym c.in-Some.ensures.value)));
      noted = noted-changed store.recent store.holders (c.get_mut.follows.lender y) c.args.id y updates.2 updates.1 (store.noted c.args.id x (sym c.in-Some.ensures.value)) store.noted;
    }
