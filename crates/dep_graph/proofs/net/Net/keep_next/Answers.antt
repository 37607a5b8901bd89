use Rattle.std.proofs.Common.{◌≡◌, ◌∙◌, ap, refl, subst, sym, Some}
use Rattle.std.specs.Prelude.{slice_get}
use Rattle.dep_graph.specs.declared.key.Key.TheVariants as key
use Rattle.dep_graph.specs.internal.Touches.{IsIndexed}
use Rattle.dep_graph.proofs.Numbers.{gets}
use Rattle.dep_graph.proofs.Untouched.{all_more, next_kept}
use Rattle.dep_graph.proofs.net.Net.keep_next.Goals as goal

pub invariant_of-self : goal.invariant_of-self
invariant_of-self c = record {
  counts = c.args.self.now.counts;
  rooms = c.args.self.now.rooms;
  alive = c.args.self.now.alive;
  filed = c.args.self.now.filed;
  used = c.args.self.now.used;
  indexed = all_more c.args.self.now.nodes c.args.self.now.touches c.keep_key.new.self c.keep_key.ensures.more c.args.self.now.indexed;
}

pub invariant_of-self-2 : goal.invariant_of-self-2
invariant_of-self-2 c =
    let nodes = c.args.self.now.nodes in
    let touches = c.keep_key.new.self in
    let number = c.args.number in
    let at : slice_get nodes.keys.keys number ≡ Some c.key-key.result = gets nodes.keys.keys number (key.Name 0 0) c.requires.inside ∙ ap Some (sym c.key-key.ensures) in
    record {
      counts = c.args.self.now.counts;
      rooms = c.args.self.now.rooms;
      alive = c.args.self.now.alive;
      filed = c.args.self.now.filed;
      used = c.args.self.now.used;
      indexed = next_kept nodes touches _ number c.key-key.result (all_more nodes c.args.self.now.touches touches c.keep_key.ensures.more c.args.self.now.indexed)
          (c.keep_key.ensures.more.kept ∙ c.requires.next) c.requires.inside refl refl refl at
          (subst (λ l. IsIndexed l touches number c.key-key.result) c.lines.ensures c.in_ok-keep_key.ensures.kept);
    }
