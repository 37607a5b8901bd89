use Rattle.std.proofs.lemmas.Str.Pattern.{split_parts}
use Rattle.cell_addr.proofs.Splits.{split_once-is}
use Rattle.cell_addr.proofs.parts.split_once.Goals as goal

pub returns : goal.returns
returns c = split_once-is _ _ _ (split_parts c.args.c c.args.text.now _ c.split_once.ensures.cases c.requires)
