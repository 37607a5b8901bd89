use Rattle.std.proofs.Common.{◌≡◌, ◌∙◌, ap, arith, rules, [], Some}
use Rattle.cell_addr.specs.Sheets.{id_in}
use Rattle.formula_tree.specs.Reference.{sheet_of}
use Rattle.formula_tree.specs.Relative.{relative}
use Rattle.formula_tree.specs.StandsFor.{at_home}
use Rattle.formula_tree.specs.Reader.{read, max_levels}
use Rattle.formula_parse.specs.internal.Stream.{stream}
use Rattle.formula_parse.specs.internal.Tree.{tree_at}
use Rattle.formula_parse.proofs.ReadTexts.{whole, deep}
use Rattle.formula_parse.proofs.reader.tree_of.Goals as goal

pub returns-then-depth-gt-MAX_LEVELS : goal.returns-then-depth-gt-MAX_LEVELS
returns-then-depth-gt-MAX_LEVELS g c =
    let find = id_in (g.S.SheetNames.sheets c.args.sheets.now) in
    let t = tree_at c.args.home c.in-Some.tree in
    let read : Some (t, stream c.in-Some.rest.now) ≡ read (sheet_of c.args.home) find max_levels 0 (stream c.args.text.now) = search rules in
    let none : stream c.in-Some.rest.now ≡ [] = search rules in
    let same : at_home c.args.home (relative c.in_ok-tree-2.tree.value) ≡ t = ap (tree_at c.args.home) c.in_ok-tree-2.ensures.ok in
    let levels = c.depth.ensures c.args.home t same in
    deep (sheet_of c.args.home) find (stream c.args.text.now) (stream c.in-Some.rest.now) t read none (omega (arith, levels, c.if-depth-gt-MAX_LEVELS.true))

pub returns : goal.returns
returns g c =
    let find = id_in (g.S.SheetNames.sheets c.args.sheets.now) in
    let t = tree_at c.args.home c.in-Some.tree in
    let read : Some (t, stream c.in-Some.rest.now) ≡ read (sheet_of c.args.home) find max_levels 0 (stream c.args.text.now) = search rules in
    let none : stream c.in-Some.rest.now ≡ [] = search rules in
    let same : at_home c.args.home (relative c.in_ok-tree-2.tree.value) ≡ t = ap (tree_at c.args.home) c.in_ok-tree-2.ensures.ok in
    let levels = c.depth.ensures c.args.home t same in
    ap (λ u. Some u) same
    ∙ whole (sheet_of c.args.home) find (stream c.args.text.now) (stream c.in-Some.rest.now) t read none (omega (arith, levels, c.if-depth-gt-MAX_LEVELS.false))
