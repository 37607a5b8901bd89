use Rattle.std.proofs.Common.{◌≡◌, ◌∙◌, ap, sym, subst, arith, map, ◌<◌, ◌≤◌}
use Rattle.dep_graph.specs.internal.Nets.{Grows}
use Rattle.dep_graph.specs.internal.Numbers.{IsAlive, count_of, node_at, place_of}
use Rattle.dep_graph.proofs.Adding.{err_on, on_err, on_ok}
use Rattle.dep_graph.proofs.Growing.{grown_alive, grown_length, grown_links, grown_place, grows_on, linked_after, relinked, same_after, unlinked_links}
use Rattle.dep_graph.proofs.Numbers.{alive_place}
use Rattle.dep_graph.proofs.net.Net.link.Goals as goal

pub link_numbers-requires-clause-node : goal.link_numbers-requires-clause-node
link_numbers-requires-clause-node c =
    grown_alive c.know.new.self c.use_all.new.self c.in_ok-node.node c.use_all.ensures.grown
    (subst (IsAlive c.know.new.self.nodes) (sym c.in_ok-node.ensures.place) (alive_place c.know.new.self.nodes c.args.a (subst (λ n. n < count_of c.know.new.self.nodes) c.in_ok-node.ensures.place c.in_ok-node.ensures.inside)))

pub returns-in_err-node-clause-err : goal.returns-in_err-node-clause-err
returns-in_err-node-clause-err c = on_err c.from_residual.result _ (grown_links c.args.self.now c.know.new.self c.know.ensures.grown)

pub returns-in_err-numbers-clause-err : goal.returns-in_err-numbers-clause-err
returns-in_err-numbers-clause-err c =
    on_err c.from_residual-in_err-numbers.result _ (grown_links c.args.self.now c.use_all.new.self (grows_on c.args.self.now c.know.new.self c.use_all.new.self c.know.ensures.grown c.use_all.ensures.grown))

pub returns-clause-ok : goal.returns-clause-ok
returns-clause-ok c =
    let grown : Grows c.args.self.now c.use_all.new.self = grows_on c.args.self.now c.know.new.self c.use_all.new.self c.know.ensures.grown c.use_all.ensures.grown in
    let longer : count_of c.know.new.self.nodes ≤ count_of c.use_all.new.self.nodes = grown_length c.know.new.self c.use_all.new.self c.use_all.ensures.grown in
    let inside : c.in_ok-node.node < count_of c.use_all.new.self.nodes = omega (arith, longer, c.in_ok-node.ensures.inside) in
    let at : c.in_ok-node.node ≡ place_of c.use_all.new.self.nodes c.args.a
    = grown_place c.know.new.self c.use_all.new.self c.args.a c.in_ok-node.node c.use_all.ensures.grown c.in_ok-node.ensures.place c.in_ok-node.ensures.inside in
    let are : map (node_at c.use_all.new.self.nodes) c.deref.result.now ≡ c.args.needs.now = ap (map (node_at c.use_all.new.self.nodes)) c.deref.ensures.value ∙ c.in_ok-numbers.ensures.nodes in
    on_ok c.link_numbers.result _ _ c.link_numbers.ensures.ok
    (λ links. linked_after c.args.self.now c.use_all.new.self c.link_numbers.new.self c.args.a (map (node_at c.use_all.new.self.nodes) c.deref.result.now) c.args.needs.now
    (grown_links c.args.self.now c.use_all.new.self grown) are
    (relinked c.use_all.new.self c.link_numbers.new.self c.args.a c.in_ok-node.node c.deref.result.now c.link_numbers.ensures.nodes inside at links))

pub returns-clause-err : goal.returns-clause-err
returns-clause-err c =
    let grown : Grows c.args.self.now c.use_all.new.self = grows_on c.args.self.now c.know.new.self c.use_all.new.self c.know.ensures.grown c.use_all.ensures.grown in
    err_on c.link_numbers.result _ _ c.link_numbers.ensures.err
    (λ same. same_after c.args.self.now c.use_all.new.self c.link_numbers.new.self (grown_links c.args.self.now c.use_all.new.self grown)
    (unlinked_links c.use_all.new.self c.link_numbers.new.self c.link_numbers.ensures.nodes same))
