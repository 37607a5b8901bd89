use Rattle.formula_parse.proofs.AsciiFronts.{ascii-blanks}
use Rattle.formula_parse.proofs.front.after_blanks.Goals as goal

pub split_front-requires : goal.split_front-requires
split_front-requires c = rw (c.blanks_count.ensures.count, c.as_bytes.ensures.value) (ascii-blanks c.args.text.now)
