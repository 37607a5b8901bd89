use Rattle.std.proofs.Common.{◌∙◌, sym, ap, option_map}
use Rattle.formula_tree.proofs.SameTexts.{proper-inside}
use Rattle.kept_book.specs.Formula.{tree_at}
use Rattle.session_operations.specs.Seen.{state_of}
use Rattle.session_operations.proofs.ReadContents.{read-proper}
use Rattle.session_operations.proofs.parts.Parts.content_text.Goals as goal

pub print-requires : goal.print-requires
print-requires c = proper-inside (tree_at c.args.at c.in-Some.tree) (read-proper (state_of c.args.self.now) c.args.at (tree_at c.args.at c.in-Some.tree) c.requires (sym (ap (option_map (tree_at c.args.at)) c.in-Some.is) ∙ c.in_ok-tree.ensures.tree))
