use Rattle.std.proofs.Common.{subst}
use Rattle.touch_index.proofs.Found.{AreAhead, ahead_first, ahead_last, ahead_next, still_pushed}
use Rattle.touch_index.proofs.points.find_between.Goals as goal

pub loop-point-init : goal.loop-point-init
loop-point-init c = record {
  still = λ n h. h;
  ahead = ahead_first c.args.points.now c.args.first c.args.end c.args.found.now.items c.into_iter-point-iterator.result c.range-point-items.result c.into_iter-point-iterator.ensures.into_iter_gives (c.range-point-items.ensures.between tt);
}

pub loop-point-preserved : goal.loop-point-preserved
loop-point-preserved c = record {
  still = still_pushed c.args.found.now.items c.loop-point.found.items c.push.new.self.items c.in-Some.point.now.number c.in_ok-push.ensures.items c.loop-point.invariant.still;
  ahead = ahead_next c.args.points.now c.args.first c.args.end c.in-Some.point.now c.loop-point.found.items c.push.new.self.items c.next.new.self c.in_ok-push.ensures.items
      (subst (λ r. AreAhead c.args.points.now c.args.first c.args.end c.loop-point.found.items r) c.in-Some.ensures.steps c.loop-point.invariant.ahead);
}

pub returns-clause-still : goal.returns-clause-still
returns-clause-still c = c.loop-point.invariant.still

pub returns-clause-found : goal.returns-clause-found
returns-clause-found c =
    ahead_last c.args.points.now c.args.first c.args.end c.loop-point.found.items
    (subst (λ r. AreAhead c.args.points.now c.args.first c.args.end c.loop-point.found.items r) c.in-None.ensures.steps.0 c.loop-point.invariant.ahead)
