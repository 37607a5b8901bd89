use Rattle.std.proofs.Common.{sym, subst}
use Rattle.formula_tree.specs.Proper.{IsProper}
use Rattle.formula_tree.specs.declared.reference.Home.TheVariants as homes
use Rattle.name_table.specs.Listed.{listed}
use Rattle.tree_rewrite.proofs.Pastes.{pasted-proper}
use Rattle.kept_book.specs.Copied.{IsCopied}
use Rattle.kept_book.specs.Formula.{tree_at}
use Rattle.kept_book.proofs.pasting.item_pasted.Goals as goal

pub returns-in_ok-tree-in-Formula-clause-copied : goal.returns-in_ok-tree-in-Formula-clause-copied
returns-in_ok-tree-in-Formula-clause-copied c =
    let was = subst (λ i. IsCopied (c.args.from, i)) c.in-Formula.is c.requires.copied in (
      c.requires.to,
      subst IsProper (sym c.in_ok-tree-in-Formula.ensures.tree)
          (pasted-proper (listed c.args.sheets.now) (homes.Cell c.args.from) (homes.Cell c.args.to) (tree_at c.args.from c.in-Formula.tree) was.1),
    )
