use Rattle.formula_parse.proofs.AsciiFronts.{ascii-number}
use Rattle.formula_parse.proofs.lexer.number_token.Goals as goal

pub split_front-requires : goal.split_front-requires
split_front-requires c = rw (c.number_length.ensures.count, c.as_bytes.ensures.value) (ascii-number c.args.text.now)
