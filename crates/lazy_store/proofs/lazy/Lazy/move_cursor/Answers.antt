use Rattle.std.proofs.Common.{ap, refl, subst, sym}
use Rattle.lazy_store.specs.Holders.{AreCoherent}
use Rattle.lazy_store.specs.Kept.{IsSoundLine}
use Rattle.lazy_store.specs.internal.Sweeps.{at_under}
use Rattle.lazy_store.proofs.Changes.{all-anywhere}
use Rattle.lazy_store.proofs.lazy.Lazy.move_cursor.Goals as goal

pub invariant_of-self : goal.invariant_of-self
invariant_of-self c =
    let store = c.args.self.now in
    record {
      sound = subst IsSoundLine (sym c.move_to.ensures) store.sound;
      coherent = subst (λ line. AreCoherent line store.holders) (sym c.move_to.ensures) (all-anywhere store.line c.args.position store.line.spare store.holders store.coherent);
      noted = store.noted;
    }

pub returns-clause-standings : goal.returns-clause-standings
returns-clause-standings c =
    let store = c.args.self.now in
    record { live = λ id. refl; at = λ id k. ap (λ line. at_under line store.holders id k) c.move_to.ensures }
