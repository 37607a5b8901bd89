use Rattle.std.proofs.Common.{ap, arith, subst, sym}
use Rattle.formula_tree.specs.Relative.{relative}
use Rattle.lazy_store.specs.Kept.{IsCoherent}
use Rattle.lazy_store.proofs.Changes.{fresh-coherent, inserted-coherent}
use Rattle.lazy_store.proofs.Noted.{noted-after, noted-inserted}
use Rattle.lazy_store.proofs.lazy.Lazy.insert.Goals as goal

pub invariant_of-self : goal.invariant_of-self
invariant_of-self c =
    let store = c.args.self.now in
    record {
      sound = store.sound;
      coherent = inserted-coherent c.insert.result store.line c.args.id store.holders c.insert.new.self c.new-holder.result store.coherent
          (subst (IsCoherent store.line) (sym c.new-holder.ensures) (fresh-coherent store.line c.cursor.result c.args.home (relative c.args.tree.value) store.sound c.cursor.ensures.first c.cursor.ensures.last c.requires.home c.requires.fits))
          c.insert.ensures.updates c.insert.ensures.err;
      noted = noted-inserted c.insert.result c.note.new.self c.args.id store.holders c.insert.new.self c.new-holder.result
          (noted-after store.holders store.line store.recent c.note.new.self store.coherent store.noted (λ id k to. c.note.ensures.others id k (omega (arith, to, c.last.ensures))))
          (c.note.ensures.noted c.new-holder.result.position (omega (arith, ap (λ h. h.position) c.new-holder.ensures, c.cursor.ensures.last, c.last.ensures)))
          c.insert.ensures.updates c.insert.ensures.err;
    }
