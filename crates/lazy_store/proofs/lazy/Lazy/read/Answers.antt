use Rattle.std.proofs.Common.{◌≡◌, ◌∙◌, ap, arith, sym, rules, Some, option_and_then, option_map}
use Rattle.formula_tree.specs.Relative.{relative}
use Rattle.formula_tree.specs.StandsFor.{at_home}
use Rattle.lazy_store.specs.Holders.{kept_of, kept_under}
use Rattle.lazy_store.specs.Kept.{Kept, at, standing}
use Rattle.lazy_store.specs.Store.{at_in}
use Rattle.lazy_store.proofs.Noted.{noted-after, noted-brought}
use Rattle.lazy_store.proofs.Stores.{at-own}
use Rattle.lazy_store.proofs.lazy.Lazy.read.Goals as goal

pub invariant_of-self : goal.invariant_of-self
invariant_of-self c =
    let store = c.args.self.now in
    record {
      sound = store.sound;
      coherent = c.bring.ensures.brings.along.coherent;
      noted = noted-brought c.note.new.self store.holders c.bring.new.holders store.line c.args.id c.bring.ensures.brings (λ k to. c.note.ensures.noted k (omega (arith, to, c.last.ensures)))
          (noted-after store.holders store.line store.recent c.note.new.self store.coherent store.noted (λ id k to. c.note.ensures.others id k (omega (arith, to, c.last.ensures))));
    }

pub returns-clause-tree : goal.returns-clause-tree
returns-clause-tree c =
    let store = c.args.self.now in
    let holder = c.in-Some.holder.now in
    let same : c.in_ok-clone.field-0.value ≡ holder.tree.value = search rules in
    let is : kept_under c.bring.new.holders c.args.id ≡ Some (kept_of holder) = ap (option_map kept_of) (sym c.in-Some.ensures.value) in
    let here : at_in store c.args.id store.line.cursor ≡ Some (standing (kept_of holder)) =
    sym (c.bring.ensures.brings.along.at c.args.id store.line.cursor) ∙ ap (option_and_then (λ (h : Kept). at store.line h store.line.cursor)) is
    ∙ at-own store.line (kept_of holder) store.line.cursor (c.in_ok-bring.ensures.ok (kept_of holder) is ∙ c.cursor-cursor.ensures.result) in
    rw here (ap (λ v. at_home holder.home (relative v)) same)
