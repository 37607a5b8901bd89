use Rattle.std.proofs.Common.{◌≡◌, ◌<◌, ◌∷◌, None, MatchOption, subst, rules, arith}
use Rattle.tree_rewrite.proofs.WholeAreas.{area_after-full}
use Rattle.sheet_shifts.specs.internal.Going.{CarriesArea, IsPast}
use Rattle.sheet_shifts.proofs.Axes.{area-along, area-comes, goes-past, sound-left, sound-next}
use Rattle.sheet_shifts.proofs.ahead.area_over.Goals as goal

pub area_over-requires-clause-sound : goal.area_over-requires-clause-sound
area_over-requires-clause-sound c =
    let so_far = c.operations.invariant in
    sound-left c.args.lists.now.run.items c.operations.at.sheet c.args.from c.operations.index c.operations.left so_far.from c.requires.sound so_far.left

pub area_over-requires-2-clause-sound : goal.area_over-requires-2-clause-sound
area_over-requires-2-clause-sound c =
    let so_far = c.operations.invariant in
    sound-left c.args.lists.now.run.items c.operations.at.sheet c.args.from c.operations.index c.operations.left so_far.from c.requires.sound so_far.left

pub carried_area-requires : goal.carried_area-requires
carried_area-requires c =
    let run = c.args.lists.now.run.items in
    let so_far = c.operations.invariant in
    let e = c.in-Some.other.now in
    let here = c.in_ok-here.here in
    let rest = c.in_ok-here.rest in
    let comes = area-comes run c.operations.index c.operations.left rest e c.in-Some.others.now c.in-Some.ensures.0 c.args.lines c.operations.at here so_far.full so_far.left c.in_ok-here.ensures.walks in
    let order = comes.order in
    sound-next run here.sheet c.args.from rest e c.in-Some.others.now (omega (arith, so_far.from, order)) c.requires.sound comes.next

pub behind-left-requires-clause-left : goal.behind-left-requires-clause-left
behind-left-requires-clause-left c =
    let run = c.args.lists.now.run.items in
    let so_far = c.operations.invariant in
    let e = c.in-Some.other.now in
    let here = c.in_ok-here.here in
    let rest = c.in_ok-here.rest in
    let next = (area-comes run c.operations.index c.operations.left rest e c.in-Some.others.now c.in-Some.ensures.0 c.args.lines c.operations.at here so_far.full so_far.left c.in_ok-here.ensures.walks).next in
    record { rows = next.rows; cols = next.cols; others = next.others }

pub operations-smaller : goal.operations-smaller
operations-smaller c =
    let run = c.args.lists.now.run.items in
    let so_far = c.operations.invariant in
    let e = c.in-Some.other.now in
    let here = c.in_ok-here.here in
    let rest = c.in_ok-here.rest in
    let order = (area-comes run c.operations.index c.operations.left rest e c.in-Some.others.now c.in-Some.ensures.0 c.args.lines c.operations.at here so_far.full so_far.left c.in_ok-here.ensures.walks).order in
    omega (arith, order, c.in-Some.ensures.1)

pub operations-preserved : goal.operations-preserved
operations-preserved c =
    let run = c.args.lists.now.run.items in
    let so_far = c.operations.invariant in
    let e = c.in-Some.other.now in
    let here = c.in_ok-here.here in
    let rest = c.in_ok-here.rest in
    let behind = c.in-Some.others.now in
    let next = c.in_ok-next.next in
    let comes = area-comes run c.operations.index c.operations.left rest e behind c.in-Some.ensures.0 c.args.lines c.operations.at here so_far.full so_far.left c.in_ok-here.ensures.walks in
    let order = comes.order in
    let step : CarriesArea c.args.lines e.what here next = (c.in_ok-next.ensures.after, c.in_ok-next.ensures.back) in
    record {
      from = omega (arith, order, so_far.from);
      order = omega (arith, c.in-Some.ensures.1);
      left = c.behind-left.ensures;
      inside = c.in_ok-next.ensures.inside c.in_ok-here.ensures.inside;
      full = area_after-full e.what c.args.lines here next step.0;
      goes = λ q on. so_far.goes q (goes-past (CarriesArea c.args.lines) run c.operations.index c.args.to here.sheet rest e behind c.operations.at here next q c.in-Some.ensures.1 comes step on);
    }

pub returns : goal.returns
returns c =
    let so_far = c.operations.invariant in
    let left = c.operations.left in
    let none : c.first_before.result ≡ None = search rules in
    let past : IsPast c.args.to left.others.now = subst (λ o. MatchOption o (IsPast c.args.to left.others.now) (λ r. (left.others.now ≡ r.0.now ∷ r.1.now) × (r.0.now.index < c.args.to))) none c.first_before.ensures in
    so_far.goes c.in_ok-last.last (area-along c.args.lists.now.run.items c.operations.index c.args.to left _ so_far.order past c.args.lines c.operations.at c.in_ok-last.last so_far.full so_far.left c.in_ok-last.ensures.walks).0
