use Rattle.std.proofs.Common.{subst}
use Rattle.shift_core.specs.Form.{form_of}
use Rattle.touch_index.specs.Kept.{FindsBlocks, FindsCells}
use Rattle.dep_graph.specs.internal.Touches.{AddsBetween, AddsKnown}
use Rattle.dep_graph.proofs.Untouched.{all_inside, finds_all}
use Rattle.dep_graph.proofs.net.Net.touched.Goals as goal

pub returns-clause-found : goal.returns-clause-found
returns-clause-found c =
    let net = c.args.self.now in
    let form = form_of c.args.s.now in
    let touched = c.in_ok-touched.touched.items in
    let first = c.add_known.new.found.keys in
    let second = c.add_known-2.new.found.keys in
    finds_all c.args.s.now net.nodes net.touches touched first second c.add_between.new.numbers.keys net.indexed
    (subst (λ l. FindsCells net.touches.index l form touched) c.lines.ensures c.in_ok-touched.ensures.cells)
    (subst (λ l. FindsBlocks net.touches.index l form touched) c.lines.ensures c.in_ok-touched.ensures.blocks)
    (subst (λ l. AddsKnown net.nodes touched l first) c.with_hasher-found.ensures.empty (subst (λ l. AddsKnown net.nodes l c.with_hasher-found.result.keys first) c.deref.ensures.value c.in_ok-add_known.ensures))
    (subst (λ l. AddsKnown net.nodes l first second) c.as_slice.ensures.keys c.in_ok-add_known-2.ensures)
    (subst (λ n. AddsBetween net.touches.kept n second c.add_between.new.numbers.keys) c.len.ensures c.in_ok-add_between.ensures)

pub returns-clause-inside : goal.returns-clause-inside
returns-clause-inside c =
    let net = c.args.self.now in
    let first = c.add_known.new.found.keys in
    let second = c.add_known-2.new.found.keys in
    all_inside net.nodes _ _ first second c.add_between.new.numbers.keys net.touches.kept
    (subst (λ l. AddsKnown net.nodes c.in_ok-touched.touched.items l first) c.with_hasher-found.ensures.empty (subst (λ l. AddsKnown net.nodes l c.with_hasher-found.result.keys first) c.deref.ensures.value c.in_ok-add_known.ensures))
    c.in_ok-add_known-2.ensures (subst (λ n. AddsBetween net.touches.kept n second c.add_between.new.numbers.keys) c.len.ensures c.in_ok-add_between.ensures)
