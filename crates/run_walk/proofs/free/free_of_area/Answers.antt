use Rattle.std.proofs.Common.{subst, take, arith}
use Rattle.run_walk.specs.Run.{IsCarriedOver}
use Rattle.run_walk.proofs.Freeing.{free-area}
use Rattle.run_walk.proofs.free.free_of_area.Goals as goal

pub returns-clause-free : goal.returns-clause-free
returns-clause-free g c =
    let run = take c.free_of_block.result (g.W.Way.shifts c.args.way.now) in
    free-area run c.args.lines c.args.first c.args.last (omega arith) (subst (IsCarriedOver run c.args.lines) c.block_to.ensures c.free_of_block.ensures.free)
