use Rattle.std.proofs.Common.{◌≡◌, ◌≢◌, ◌∙◌, sym, ap, subst, rules, arith, ◌+◌, ◌*◌, ◌<◌, ◌≤◌, [], take, drop, None}
use Rattle.std.proofs.lemmas.List.{drop_all}
use Rattle.formula_tree.proofs.ArgumentLists.{depth_of-item}
use Rattle.formula_tree.proofs.RelativeNodes.{relative_list-trees}
use Rattle.formula_tree.specs.Reference.{base_of, corner_at}
use Rattle.formula_tree.specs.Relative.{relative, relative_list}
use Rattle.formula_tree.specs.StandsFor.{at_home}
use Rattle.formula_tree.specs.Term.{depth_of, depth_of_all, each_corner_all}
use Rattle.tree_rewrite.specs.References.{FitsSheets}
use Rattle.tree_rewrite.specs.internal.Walk.{terms_in}
use Rattle.run_walk.specs.Run.{NoneLoses, place_over}
use Rattle.run_walk.specs.internal.Freed.{AllFit, NoneLosesOfAll}
use Rattle.run_walk.proofs.Arguments.{all_at, fits-next, free-next}
use Rattle.run_walk.proofs.Freeing.{free-fewer, free-no_terms}
use Rattle.run_walk.proofs.Nodes.{node-binary, node-call, node-cell, node-cols, node-leaf, node-paren, node-percent, node-prefix, node-rows}
use Rattle.run_walk.proofs.Over.{sound-take}
use Rattle.run_walk.proofs.free.+free.Goals as goal

pub free_of-returns-in-Number-clause-free : goal.free_of-returns-in-Number-clause-free
free_of-returns-in-Number-clause-free g t c =
    node-leaf (take c.args.count (g.W.Way.shifts c.args.way.now)) c.args.home c.args.tree.now c.in-Number.is

pub free_of-returns-in-Number-2-clause-free : goal.free_of-returns-in-Number-2-clause-free
free_of-returns-in-Number-2-clause-free g t c =
    node-leaf (take c.args.count (g.W.Way.shifts c.args.way.now)) c.args.home c.args.tree.now c.in-Number.is

pub free_of-returns-in-Number-3-clause-free : goal.free_of-returns-in-Number-3-clause-free
free_of-returns-in-Number-3-clause-free g t c =
    node-leaf (take c.args.count (g.W.Way.shifts c.args.way.now)) c.args.home c.args.tree.now c.in-Number.is

pub free_of-returns-in-Number-4-clause-free : goal.free_of-returns-in-Number-4-clause-free
free_of-returns-in-Number-4-clause-free g t c =
    node-leaf (take c.args.count (g.W.Way.shifts c.args.way.now)) c.args.home c.args.tree.now c.in-Number.is

pub free_of-returns-in-Number-5-clause-free : goal.free_of-returns-in-Number-5-clause-free
free_of-returns-in-Number-5-clause-free g t c =
    node-leaf (take c.args.count (g.W.Way.shifts c.args.way.now)) c.args.home c.args.tree.now c.in-Number.is

pub free_of-returns-in-Cell-clause-free : goal.free_of-returns-in-Cell-clause-free
free_of-returns-in-Cell-clause-free g t c =
    let run = take c.free_of_place.result (g.W.Way.shifts c.args.way.now) in
    let some : place_over run (corner_at (base_of c.args.home) c.in-Cell.reference).at ≢ None = λ e. c.free_of_place.ensures.free (ap (λ k. place_over run k.at) c.at.ensures ∙ e) in
    node-cell run c.args.home c.args.tree.now c.in-Cell.reference c.in-Cell.is (sound-take c.free_of_place.result (g.W.Way.shifts c.args.way.now) c.requires.sound) c.requires.fits some

pub free_of-returns-in-WholeRows-clause-free : goal.free_of-returns-in-WholeRows-clause-free
free_of-returns-in-WholeRows-clause-free g t c =
    node-rows (take c.free_of_whole.result (g.W.Way.shifts c.args.way.now)) c.args.home c.args.tree.now c.in-WholeRows.sheet c.in-WholeRows.first c.in-WholeRows.last c.in-WholeRows.is c.free_of_whole.ensures.free

pub free_of-returns-in-WholeCols-clause-free : goal.free_of-returns-in-WholeCols-clause-free
free_of-returns-in-WholeCols-clause-free g t c =
    node-cols (take c.free_of_whole-in-WholeCols.result (g.W.Way.shifts c.args.way.now)) c.args.home c.args.tree.now c.in-WholeCols.sheet c.in-WholeCols.first c.in-WholeCols.last c.in-WholeCols.is c.free_of_whole-in-WholeCols.ensures.free

pub free_of-returns-in-Prefix-clause-free : goal.free_of-returns-in-Prefix-clause-free
free_of-returns-in-Prefix-clause-free g t c =
    let run = take c.free_of.result (g.W.Way.shifts c.args.way.now) in
    let part : NoneLoses run (at_home c.args.home (relative c.in-Prefix.part.value)) = subst (λ n. NoneLoses run (at_home c.args.home (relative n))) c.deref.ensures c.free_of.ensures.free in
    node-prefix run c.args.home c.args.tree.now c.in-Prefix.field-0 c.in-Prefix.part c.in-Prefix.is part

pub free_of-returns-in-Percent-clause-free : goal.free_of-returns-in-Percent-clause-free
free_of-returns-in-Percent-clause-free g t c =
    let run = take c.free_of-in-Percent.result (g.W.Way.shifts c.args.way.now) in
    let part : NoneLoses run (at_home c.args.home (relative c.in-Percent.part.value)) = subst (λ n. NoneLoses run (at_home c.args.home (relative n))) c.deref-in-Percent.ensures c.free_of-in-Percent.ensures.free in
    node-percent run c.args.home c.args.tree.now c.in-Percent.part c.in-Percent.is part

pub free_of-returns-in-Paren-clause-free : goal.free_of-returns-in-Paren-clause-free
free_of-returns-in-Paren-clause-free g t c =
    let run = take c.free_of-in-Paren.result (g.W.Way.shifts c.args.way.now) in
    let part : NoneLoses run (at_home c.args.home (relative c.in-Paren.part.value)) = subst (λ n. NoneLoses run (at_home c.args.home (relative n))) c.deref-in-Paren.ensures c.free_of-in-Paren.ensures.free in
    node-paren run c.args.home c.args.tree.now c.in-Paren.part c.in-Paren.is part

pub free_of-returns-in-Binary-clause-free : goal.free_of-returns-in-Binary-clause-free
free_of-returns-in-Binary-clause-free g t c =
    let all = (g.W.Way.shifts c.args.way.now) in
    let m = c.free_of-in-Binary.result in
    let n = c.free_of-free.result in
    let fewer : m ≤ n = omega arith in
    let left = subst (λ z. NoneLoses (take n all) (at_home c.args.home (relative z))) c.deref-in-Binary.ensures c.free_of-free.ensures.free in
    let right = subst (λ z. NoneLoses (take m all) (at_home c.args.home (relative z))) c.deref-in-Binary-2.ensures c.free_of-in-Binary.ensures.free in
    node-binary (take m all) c.args.home c.args.tree.now c.in-Binary.field-0 c.in-Binary.left c.in-Binary.right c.in-Binary.is
    (free-fewer m n all (at_home c.args.home (relative c.in-Binary.left.value)) fewer left)
    right

pub free_of-returns-in-Call-clause-free : goal.free_of-returns-in-Call-clause-free
free_of-returns-in-Call-clause-free g t c =
    node-call (take c.free_of_all.result (g.W.Way.shifts c.args.way.now)) c.args.home c.args.tree.now c.in-Call.field-0 c.in-Call.list c.in-Call.is c.free_of_all.ensures.free

pub free_of_all-arguments-init : goal.free_of_all-arguments-init
free_of_all-arguments-init g t c =
    let same : each_corner_all (corner_at (base_of c.args.home)) (relative_list c.args.list.now) ≡ all_at c.args.home c.items-argument-items.result.now =
    ap (each_corner_all (corner_at (base_of c.args.home))) (relative_list-trees c.args.list.now ∙ ap terms_in (sym c.items-argument-items.ensures)) in
    record {
      within = omega arith;
      fits = subst AllFit same c.requires.fits;
      free = λ n le h. subst (NoneLosesOfAll (take n (g.W.Way.shifts c.args.way.now))) (sym same) h;
    }

pub free_of_all-free_of-free-requires : goal.free_of_all-free_of-free-requires
free_of_all-free_of-free-requires g t c =
    let item = c.argument-item.result in
    let fits : FitsSheets (at_home c.args.home (relative c.deref.result.now)) = rw c.deref.ensures
    ((fits-next c.args.home c.items-argument-items.result.now c.arguments.argument-index item c.arguments-test.true c.argument-item.is c.arguments.invariant.fits).0) in
    let items = c.items-argument-items.result.now in
    let all : relative_list c.args.list.now ≡ terms_in items = relative_list-trees c.args.list.now ∙ ap terms_in (sym c.items-argument-items.ensures) in
    let least : depth_of (relative item.value) ≤ depth_of_all (terms_in items) = depth_of-item (λ x. relative x.value) items c.arguments.argument-index item c.arguments-test.true c.argument-item.is in
    let less : 2 * depth_of (relative item.value) < 2 * depth_of_all (relative_list c.args.list.now) + 1 = rw all (omega (arith, least)) in
    let near : 2 * depth_of (relative c.deref.result.now) < 2 * depth_of_all (relative_list c.args.list.now) + 1 = rw c.deref.ensures less in
    search rules

pub free_of_all-arguments-preserved : goal.free_of_all-arguments-preserved
free_of_all-arguments-preserved g t c =
    let item = c.argument-item.result in
    let items = c.items-argument-items.result.now in
    let i = c.arguments.argument-index in
    let n = c.arguments.free in
    let m = c.free_of-free.result in
    let fewer : m ≤ n = c.free_of-free.ensures.within in
    let one = subst (λ z. NoneLoses (take m (g.W.Way.shifts c.args.way.now)) (at_home c.args.home (relative z))) c.deref.ensures c.free_of-free.ensures.free in
    record {
      within = omega (arith, fewer, c.arguments.invariant.within);
      fits = (fits-next c.args.home items i item c.arguments-test.true c.argument-item.is c.arguments.invariant.fits).1;
      free = λ k le rest. free-next c.args.home items i item c.arguments-test.true c.argument-item.is (g.W.Way.shifts c.args.way.now) (each_corner_all (corner_at (base_of c.args.home)) (relative_list c.args.list.now)) m n k
          fewer le c.arguments.invariant.free one rest;
    }

pub free_of_all-returns-clause-free : goal.free_of_all-returns-clause-free
free_of_all-returns-clause-free g t c =
    let items = c.items-argument-items.result.now in
    let past : drop c.arguments.argument-index items ≡ [] = drop_all c.arguments.argument-index items c.arguments-test.false in
    c.arguments.invariant.free c.arguments.free (omega arith) (rw past (free-no_terms (take c.arguments.free (g.W.Way.shifts c.args.way.now))))
