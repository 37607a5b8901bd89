use Rattle.grid_store.proofs.FoundCells.{put_last}
use Rattle.grid_store.proofs.found.put.Goals as goal

pub returns : goal.returns
returns _ c = put_last c.args.found.now c.push.new.self c.args.at c.args.cell c.in_ok-push.ensures.items
