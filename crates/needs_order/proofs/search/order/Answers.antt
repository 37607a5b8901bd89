use Rattle.std.proofs.Common.{◌≡◌, ◌≤◌, length, subst, rules, arith}
use Rattle.std.proofs.lemmas.List.{length-map}
use Rattle.needs_order.specs.Needs.{lists_of, IsEachOnce}
use Rattle.needs_order.proofs.AllClosed.{closed_more, found_cycles, found_each_once}
use Rattle.needs_order.proofs.search.order.Goals as goal

pub nodes-preserved : goal.nodes-preserved
nodes-preserved c =
    let told = c.in_ok-close_from.ensures in
    (told.idle, closed_more (lists_of c.args.needs.now) c.nodes.search c.close_from.new.self c.nodes.node c.nodes.invariant.1 told.idle told.met told.closed)

pub returns-clause-each_once : goal.returns-clause-each_once
returns-clause-each_once c =
    let lists = lists_of c.args.needs.now in
    let count : length lists ≡ length c.args.needs.now = length-map c.args.needs.now (λ v. v.items) in
    let ends : length c.args.needs.now ≤ c.nodes.node = search rules in
    subst (λ n. IsEachOnce n c.nodes.search.order.items) count (found_each_once lists c.nodes.search c.nodes.invariant.0 (λ a below. c.nodes.invariant.1 a (omega (arith, below, count, ends))))

pub returns-clause-cycles : goal.returns-clause-cycles
returns-clause-cycles c =
    let lists = lists_of c.args.needs.now in
    let count : length lists ≡ length c.args.needs.now = length-map c.args.needs.now (λ v. v.items) in
    let ends : length c.args.needs.now ≤ c.nodes.node = search rules in
    found_cycles lists c.nodes.search c.nodes.invariant.0 (λ a below. c.nodes.invariant.1 a (omega (arith, below, count, ends)))
