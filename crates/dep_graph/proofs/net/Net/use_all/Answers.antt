use Rattle.std.proofs.Common.{◌<◌, sym, subst, refl}
use Rattle.dep_graph.specs.internal.Nets.{Grows}
use Rattle.dep_graph.specs.internal.Numbers.{IsAlive, IsFiled, count_of}
use Rattle.dep_graph.proofs.Adding.{each_number, use_next}
use Rattle.dep_graph.proofs.Growing.{grown_alive, grows_on}
use Rattle.dep_graph.proofs.Numbers.{alive_inside, alive_place}
use Rattle.dep_graph.proofs.net.Net.use_all.Goals as goal

pub returns-in_err-number-clause-grown : goal.returns-in_err-number-clause-grown
returns-in_err-number-clause-grown c = grows_on c.args.self.now c.needs.self c.use_one.new.self c.needs.invariant.grown c.use_one.ensures.grown

pub returns-in_err-push-clause-grown : goal.returns-in_err-push-clause-grown
returns-in_err-push-clause-grown c = grows_on c.args.self.now c.needs.self c.use_one.new.self c.needs.invariant.grown c.use_one.ensures.grown

pub needs-preserved : goal.needs-preserved
needs-preserved c =
    let grown : Grows c.needs.self c.use_one.new.self = c.use_one.ensures.grown in
    let alive : IsAlive c.use_one.new.self.nodes c.in_ok-number.number
    = subst (IsAlive c.use_one.new.self.nodes) (sym c.in_ok-number.ensures.place) (alive_place c.use_one.new.self.nodes _ (subst (λ n. n < count_of c.use_one.new.self.nodes) c.in_ok-number.ensures.place c.in_ok-number.ensures.inside)) in
    record {
      grown = grows_on c.args.self.now c.needs.self c.use_one.new.self c.needs.invariant.grown grown;
      nodes = use_next c.needs.self c.use_one.new.self c.needs.numbers.items c.push.new.self.items c.in_ok-number.number c.args.needs.now c.needs.need-index _ _ grown c.needs.invariant.nodes
          (λ n h. alive_inside c.needs.self.nodes n (c.needs.invariant.alive n h)) c.needs-test.true refl c.in_ok-number.ensures.place c.in_ok-number.ensures.inside c.in_ok-push.ensures.items;
      alive = each_number c.needs.numbers.items c.push.new.self.items c.in_ok-number.number (IsAlive c.use_one.new.self.nodes) c.in_ok-push.ensures.items
          (λ n h. grown_alive c.needs.self c.use_one.new.self n grown (c.needs.invariant.alive n h)) alive;
      filed = each_number c.needs.numbers.items c.push.new.self.items c.in_ok-number.number (IsFiled c.use_one.new.self.nodes c.use_one.new.self.files) c.in_ok-push.ensures.items
          (λ n h. grown.filed n (alive_inside c.needs.self.nodes n (c.needs.invariant.alive n h)) (c.needs.invariant.filed n h)) c.in_ok-number.ensures.filed;
    }
