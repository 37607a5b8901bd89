use Rattle.std.proofs.lemmas.Str.Pattern.{strip_prefix_char}
use Rattle.cell_addr.proofs.Splits.{strip_prefix-is}
use Rattle.cell_addr.proofs.parts.strip_prefix.Goals as goal

pub returns : goal.returns
returns c =
    strip_prefix-is _ _ _ (strip_prefix_char c.args.c c.args.text.now _ c.strip_prefix.ensures.cases c.requires)
