use Rattle.formula_parse.proofs.AsciiFronts.{boundary}
use Rattle.formula_parse.proofs.front.split_front.Goals as goal

pub split_at-requires : goal.split_at-requires
split_at-requires c = boundary c.args.text.now c.args.count c.utf8.text c.requires
