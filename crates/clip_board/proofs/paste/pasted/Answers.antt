use Rattle.std.proofs.Common.{◌∙◌, ap}
use Rattle.formula_tree.specs.Reference.{base_of, corner_at, ref_from}
use Rattle.formula_tree.specs.Relative.{relative}
use Rattle.formula_tree.specs.StandsFor.{at_home}
use Rattle.tree_rewrite.specs.Pasted.{area_pasted, cell_pasted}
use Rattle.tree_rewrite.proofs.EachReferences.{EachReference-all, mapped-seen}
use Rattle.tree_rewrite.proofs.Pastes.{pasted-back}
use Rattle.clip_board.specs.internal.Moved.{AreHomesInside}
use Rattle.clip_board.proofs.paste.pasted.Goals as goal

pub replaced-requires : goal.replaced-requires
replaced-requires g c =
    EachReference-all (λ r. AreHomesInside c.args.from c.args.to) (λ lines r q. AreHomesInside c.args.from c.args.to) (λ r. (c.requires.from, c.requires.to)) (λ lines r q. (c.requires.from, c.requires.to))
    (relative c.args.tree.now.value)

pub returns-clause-seen : goal.returns-clause-seen
returns-clause-seen g c =
    let sheets = g.S.SheetNames.sheets c.args.sheets.now in
    c.in_ok-tree.ensures.tree
    ∙ mapped-seen (corner_at (base_of c.args.from)) (cell_pasted sheets (base_of c.args.from) (base_of c.args.to)) (area_pasted sheets (base_of c.args.from) (base_of c.args.to))
    (ref_from (base_of c.args.to)) (relative c.args.tree.now.value)

pub returns-clause-tree : goal.returns-clause-tree
returns-clause-tree g c =
    let sheets = g.S.SheetNames.sheets c.args.sheets.now in
    ap (at_home c.args.to) (
    c.in_ok-tree.ensures.tree
    ∙ mapped-seen (corner_at (base_of c.args.from)) (cell_pasted sheets (base_of c.args.from) (base_of c.args.to)) (area_pasted sheets (base_of c.args.from) (base_of c.args.to))
    (ref_from (base_of c.args.to)) (relative c.args.tree.now.value)
    )
    ∙ pasted-back sheets c.args.from c.args.to (at_home c.args.from (relative c.args.tree.now.value))
