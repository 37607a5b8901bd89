-- A text may be cut in front of what follows its first piece.
use Rattle.std.proofs.Common.{arith}
use Rattle.formula_parse.proofs.Pieces.{rest-boundary, rest-shorter}
use Rattle.formula_parse.proofs.migration.push_piece.Goals as goal

pub overflow_sub-text : goal.overflow_sub-text
overflow_sub-text c = let short = rest-shorter c.args.text.now c.args.rest.now c.requires in omega (arith, short)

pub split_at-requires : goal.split_at-requires
split_at-requires c = rest-boundary c.args.text.now c.args.rest.now c.requires c.utf8.rest
