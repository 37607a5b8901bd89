use Rattle.formula_parse.proofs.AsciiFronts.{ascii-run}
use Rattle.formula_parse.proofs.front.split_run.Goals as goal

pub split_front-requires : goal.split_front-requires
split_front-requires c = rw (c.run_length.ensures.count, c.as_bytes.ensures.value) (ascii-run c.args.text.now)
