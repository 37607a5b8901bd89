use Rattle.std.proofs.Common.{subst, sym}
use Rattle.lazy_store.specs.Holders.{AreCoherent}
use Rattle.lazy_store.specs.Kept.{IsSoundLine}
use Rattle.lazy_store.proofs.Changes.{all-anywhere, unchanged-coherent}
use Rattle.lazy_store.proofs.Noted.{noted-unchanged}
use Rattle.lazy_store.proofs.lazy.Lazy.reserve.Goals as goal

pub invariant_of-self : goal.invariant_of-self
invariant_of-self c =
    let store = c.args.self.now in
    record {
      sound = subst IsSoundLine (sym c.reserve.ensures.kept) store.sound;
      coherent = subst (λ line. AreCoherent line store.holders) (sym c.reserve.ensures.kept) (all-anywhere store.line store.line.cursor c.reserve.new.self.spare store.holders store.coherent);
      noted = store.noted;
    }

pub invariant_of-self-2 : goal.invariant_of-self-2
invariant_of-self-2 c =
    let store = c.args.self.now in
    let wider = c.reserve-2.new.self in
    record {
      sound = subst IsSoundLine (sym c.reserve.ensures.kept) store.sound;
      coherent = subst (λ line. AreCoherent line wider) (sym c.reserve.ensures.kept)
          (all-anywhere store.line store.line.cursor c.reserve.new.self.spare wider (unchanged-coherent store.line store.holders wider c.reserve-2.ensures.entries store.coherent));
      noted = noted-unchanged store.recent store.holders wider c.reserve-2.ensures.entries store.noted;
    }
