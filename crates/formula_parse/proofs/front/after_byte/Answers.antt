use Rattle.formula_parse.proofs.AsciiFronts.{ascii-byte}
use Rattle.formula_parse.proofs.front.after_byte.Goals as goal

pub split_front-requires : goal.split_front-requires
split_front-requires c = ascii-byte c.args.text.now c.requires
