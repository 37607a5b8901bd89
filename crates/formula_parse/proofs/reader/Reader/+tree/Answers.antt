use Rattle.std.proofs.Common.{◌≡◌, ◌≤◌, ◌∙◌, ap, rules, suc, map, [], ◌∷◌, ◌++◌, Some, None}
use Rattle.std.proofs.lemmas.List.{map-append}
use Rattle.cell_addr.specs.Sheets.{id_in}
use Rattle.cell_addr.specs.Text.{capitals}
use Rattle.formula_tree.specs.Arguments.{trees}
use Rattle.formula_tree.specs.Reference.{sheet_of}
use Rattle.formula_tree.specs.Level.{level_of}
use Rattle.formula_tree.specs.Token as tok
use Rattle.formula_tree.specs.Reader.{after, read}
use Rattle.formula_parse.specs.internal.Stream.{stream, symbol_front}
use Rattle.formula_parse.specs.internal.Tree.{tree_at}
use Rattle.formula_parse.proofs.ReaderLoops.{climb-ended, climb-operator, read-shortens, comma-shorter, arguments-comma, arguments-close, call-at}
use Rattle.formula_parse.proofs.reader.Reader.+tree.Goals as goal

pub climb-returns : goal.climb-returns
climb-returns g t c =
    climb-ended (read (sheet_of c.args.self.now.home) (id_in (g.S.SheetNames.sheets c.args.self.now.sheets.now)) c.args.levels) _ _ _ _ _ _ c.operators-test.false c.operators.invariant.1

pub arguments-arguments-smaller : goal.arguments-arguments-smaller
arguments-arguments-smaller g t c =
    let home = sheet_of c.args.self.now.home in
    let find = id_in (g.S.SheetNames.sheets c.args.self.now.sheets.now) in
    let R = read home find c.args.levels in
    let tree : Some (tree_at c.args.self.now.home c.in-Some.argument, stream c.in-Some.rest.now) ≡ R 0 (stream c.arguments.next.now) = search rules in
    let comma : Some (stream c.in-Some-after.more.now) ≡ after tok.Comma (stream c.in-Some.rest.now) = search rules in
    comma-shorter R _ _ _ _ (read-shortens home find c.args.levels) tree comma

pub arguments-arguments-preserved : goal.arguments-arguments-preserved
arguments-arguments-preserved g t c =
    let home = sheet_of c.args.self.now.home in
    let find = id_in (g.S.SheetNames.sheets c.args.self.now.sheets.now) in
    let R = read home find c.args.levels in
    let term = tree_at c.args.self.now.home c.in-Some.argument in
    let done : map (λ t. tree_at c.args.self.now.home t.value) (trees c.push.new.self) ≡ map (λ t. tree_at c.args.self.now.home t.value) (trees c.arguments.list) ++ term ∷ [] =
    ap (map (λ t. tree_at c.args.self.now.home t.value)) c.in_ok-push.ensures.ok
    ∙ map-append (λ t. tree_at c.args.self.now.home t.value) (trees c.arguments.list) (c.in_ok-new.field-0 ∷ [])
    ∙ ap (λ node. map (λ t. tree_at c.args.self.now.home t.value) (trees c.arguments.list) ++ tree_at c.args.self.now.home node ∷ []) c.in_ok-new.ensures.ok in
    let tree : Some (term, stream c.in-Some.rest.now) ≡ R 0 (stream c.arguments.next.now) = search rules in
    let comma : Some (stream c.in-Some-after.more.now) ≡ after tok.Comma (stream c.in-Some.rest.now) = search rules in
    (search rules, rw done (arguments-comma R _ _ _ _ _ _ _ (read-shortens home find c.args.levels) tree comma c.arguments.invariant.1))

pub arguments-returns-in-arguments : goal.arguments-returns-in-arguments
arguments-returns-in-arguments g t c =
    let home = sheet_of c.args.self.now.home in
    let find = id_in (g.S.SheetNames.sheets c.args.self.now.sheets.now) in
    let R = read home find c.args.levels in
    let term = tree_at c.args.self.now.home c.in-Some.argument in
    let list = c.push.new.self in
    let before = map (λ t. tree_at c.args.self.now.home t.value) (trees c.arguments.list) in
    let done : map (λ t. tree_at c.args.self.now.home t.value) (trees list) ≡ before ++ term ∷ [] =
    ap (map (λ t. tree_at c.args.self.now.home t.value)) c.in_ok-push.ensures.ok
    ∙ map-append (λ t. tree_at c.args.self.now.home t.value) (trees c.arguments.list) (c.in_ok-new.field-0 ∷ [])
    ∙ ap (λ node. before ++ tree_at c.args.self.now.home node ∷ []) c.in_ok-new.ensures.ok in
    let tree : Some (term, stream c.in-Some.rest.now) ≡ R 0 (stream c.arguments.next.now) = search rules in
    let comma : None ≡ after tok.Comma (stream c.in-Some.rest.now) = search rules in
    let close : Some (stream c.in-Some-after-2.rest.now) ≡ after tok.Close (stream c.in-Some.rest.now) = search rules in
    let word : c.in_ok-word.word ≡ capitals c.args.word.now = search rules in
    let node = call-at c.args.self.now.home c.in_ok-word.word c.args.word.now list (before ++ term ∷ []) word done in
    rw node (arguments-close R c.args.word.now _ _ _ _ _ _ (read-shortens home find c.args.levels) tree comma close c.arguments.invariant.1)

pub climb-operators-preserved-in-Some-Operator-default : goal.climb-operators-preserved-in-Some-Operator-default
climb-operators-preserved-in-Some-Operator-default g t c =
    let R = read (sheet_of c.args.self.now.home) (id_in (g.S.SheetNames.sheets c.args.self.now.sheets.now)) c.args.levels in
    let op = c.in-Some-Operator-default.op in
    let symbol : Some (tok.Operator op, stream c.in-Some-Operator-default.after.now) ≡ symbol_front (stream c.operators.rest.now) = search rules in
    let low : c.args.level ≤ level_of op = search rules in
    let operand : Some (tree_at c.args.self.now.home c.in-Some.right, stream c.in-Some.after.now) ≡ R (suc (level_of op)) (stream c.in-Some-Operator-default.after.now) = search rules in (
      search rules,
      rw (c.in_ok-left-in-Some-Operator-default.ensures c.args.self.now.home)
          (climb-operator R _ _ _ _ _ op _ _ _ _ c.operators-test.true symbol low operand c.operators.invariant.1),
    )
