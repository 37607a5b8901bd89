use Rattle.std.proofs.Common.{◌≡◌, ◌∙◌, ◌+◌, ◌*◌, ◌<◌, ◌≤◌, sym, ap, arith, rules, [], ◌∷◌, ◌++◌, map, drop, string_bytes}
use Rattle.std.proofs.lemmas.List.{drop_all}
use Rattle.cell_addr.specs.Place.{IsInside}
use Rattle.cell_addr.specs.Sheets.{name_in}
use Rattle.formula_tree.specs.Canonical.{op_text, printed, printed_all}
use Rattle.formula_tree.specs.Reference.{base_of, sheet_of, corner_at}
use Rattle.formula_tree.specs.Relative.{relative, relative_list}
use Rattle.formula_tree.specs.StandsFor.{ArePlacesInside, at_home}
use Rattle.formula_tree.specs.Term.{binary, call, paren, terms_of, depth_of, depth_of_all, each_corner_all}
use Rattle.formula_tree.proofs.ArgumentLists.{EachCorner-item, depth_of-item}
use Rattle.formula_tree.proofs.RelativeNodes.{relatives, relative_list-trees}
use Rattle.formula_print.specs.internal.Appends.{AppendsText}
use Rattle.formula_print.proofs.Appends.{appends-bytes, appends-then}
use Rattle.formula_print.proofs.NodeRules.{binary_at, call_at, paren_at}
use Rattle.formula_print.proofs.Commas.{argument-written, all-written, terms_from, terms_at}
use Rattle.formula_print.proofs.printer.Printer.+tree.Goals as goal

pub push_arguments-arguments-preserved : goal.push_arguments-arguments-preserved
push_arguments-arguments-preserved g t c =
    let home = sheet_of c.args.self.now.home in
    let names = name_in (g.S.SheetNames.sheets c.args.self.now.sheets.now) in
    λ cs. argument-written c.args.self.now.home c.arguments.is_first home names c.items-argument-items.result.now c.arguments.argument-index c.argument-item.result
    (string_bytes c.arguments.out) (string_bytes c.push_comma.new.out) (string_bytes c.push_tree.new.out)
    (string_bytes c.args.out.now ++ printed_all home names (each_corner_all (corner_at (base_of c.args.self.now.home)) (relative_list c.args.list.now)) cs) cs
    c.arguments-test.true c.argument-item.is c.in_ok-push_comma.ensures (rw c.deref.ensures at c.in_ok-push_tree.ensures) (c.arguments.invariant cs)

pub push_arguments-returns : goal.push_arguments-returns
push_arguments-returns g t c =
    let home = sheet_of c.args.self.now.home in
    let names = name_in (g.S.SheetNames.sheets c.args.self.now.sheets.now) in
    let items = c.items-argument-items.result.now in
    let past : drop c.arguments.argument-index items ≡ [] = drop_all c.arguments.argument-index items (omega arith) in
    λ cs. all-written c.args.self.now.home c.arguments.is_first home names items c.arguments.argument-index (string_bytes c.arguments.out) (string_bytes c.push.new.self)
    (string_bytes c.args.out.now ++ printed_all home names (each_corner_all (corner_at (base_of c.args.self.now.home)) (relative_list c.args.list.now)) cs) cs past
    (c.in_ok-push.ensures.bytes ∙ ap (λ xs. string_bytes c.arguments.out ++ xs) (c.in_ok-push.ensures.ascii (omega arith)))
    (c.arguments.invariant cs)

-- before the first argument all are left
pub push_arguments-arguments-init : goal.push_arguments-arguments-init
push_arguments-arguments-init g t c =
    let home = sheet_of c.args.self.now.home in
    let names = name_in (g.S.SheetNames.sheets c.args.self.now.sheets.now) in
    let all : each_corner_all (corner_at (base_of c.args.self.now.home)) (relative_list c.args.list.now) ≡ terms_from c.args.self.now.home c.items-argument-items.result.now 0 =
    terms_at c.args.self.now.home c.args.list.now ∙ ap (λ items. terms_from c.args.self.now.home items 0) (sym c.items-argument-items.ensures) in
    λ cs. ap (λ ts. string_bytes c.args.out.now ++ printed_all home names ts cs) (sym all)

-- each argument's places are inside, and it is less deep than all
pub push_arguments-push_tree-requires : goal.push_arguments-push_tree-requires
push_arguments-push_tree-requires g t c =
    let home = c.args.self.now.home in
    let items = c.items-argument-items.result.now in
    let i = c.arguments.argument-index in
    let item = c.argument-item.result in
    let places : each_corner_all (corner_at (base_of home)) (relative_list c.args.list.now) ≡ terms_of (map (λ t. at_home home (relative t.value)) items) =
    terms_at home c.args.list.now ∙ ap (λ xs. terms_of (map (λ t. at_home home (relative t.value)) xs)) (sym c.items-argument-items.ensures) in
    let inside : ArePlacesInside (at_home home (relative item.value)) =
    EachCorner-item (λ d. IsInside d.at) (λ t. at_home home (relative t.value)) items i item c.arguments-test.true c.argument-item.is (rw places at c.requires) in
    let all : relative_list c.args.list.now ≡ relatives items = relative_list-trees c.args.list.now ∙ ap relatives (sym c.items-argument-items.ensures) in
    let least : depth_of (relative item.value) ≤ depth_of_all (relatives items) = depth_of-item (λ t. relative t.value) items i item c.arguments-test.true c.argument-item.is in
    let less : 2 * depth_of (relative item.value) < 2 * depth_of_all (relative_list c.args.list.now) + 1 = rw all (omega (arith, least)) in
    rw c.deref.ensures (search rules)

-- an operator between its operands
pub push_tree-returns-in_ok-push_tree-in-Binary-2 : goal.push_tree-returns-in_ok-push_tree-in-Binary-2
push_tree-returns-in_ok-push_tree-in-Binary-2 g t c =
    let at = c.args.self.now.home in
    let text = printed (sheet_of at) (name_in (g.S.SheetNames.sheets c.args.self.now.sheets.now)) in
    let b = c.in-Binary in
    let left = at_home at (relative b.left.value) in
    let right = at_home at (relative b.right.value) in
    let node : at_home at (relative c.args.tree.now) ≡ binary b.op left right = ap (λ n. at_home at (relative n)) b.is ∙ binary_at at b.op b.left b.right in
    let one : AppendsText (string_bytes c.args.out.now) (string_bytes c.push_tree-in-Binary.new.out) (text left) = rw c.deref-in-Binary.ensures at c.in_ok-push_tree-in-Binary.ensures in
    let two = appends-bytes (string_bytes c.push_tree-in-Binary.new.out) (string_bytes c.push_str-in-Binary.new.self) (op_text b.op)
    (c.in_ok-push_str-in-Binary.ensures.bytes ∙ ap (λ xs. string_bytes c.push_tree-in-Binary.new.out ++ xs) c.text-in-Binary.ensures) in
    let three : AppendsText (string_bytes c.push_str-in-Binary.new.self) (string_bytes c.push_tree-in-Binary-2.new.out) (text right) = rw c.deref-in-Binary-2.ensures at c.in_ok-push_tree-in-Binary-2.ensures in
    rw node
    (appends-then _ _ _ (text left) (λ rest. op_text b.op ++ text right rest) one
    (appends-then _ _ _ (λ rest. op_text b.op ++ rest) (text right) two three))

-- a function's word, the opening parenthesis, and its arguments
pub push_tree-returns-in_ok-push_arguments-in-Call : goal.push_tree-returns-in_ok-push_arguments-in-Call
push_tree-returns-in_ok-push_arguments-in-Call g t c =
    let at = c.args.self.now.home in
    let w = c.in-Call.word in
    let list = each_corner_all (corner_at (base_of at)) (relative_list c.in-Call.list) in
    let text = printed_all (sheet_of at) (name_in (g.S.SheetNames.sheets c.args.self.now.sheets.now)) list in
    let node : at_home at (relative c.args.tree.now) ≡ call w list = ap (λ n. at_home at (relative n)) c.in-Call.is ∙ call_at at w c.in-Call.list in
    let one = appends-bytes (string_bytes c.args.out.now) (string_bytes c.push_str-in-Call.new.self) w
    (c.in_ok-push_str-in-Call.ensures.bytes ∙ ap (λ xs. string_bytes c.args.out.now ++ xs) c.as_str-in-Call.ensures) in
    let two = appends-bytes (string_bytes c.push_str-in-Call.new.self) (string_bytes c.push-in-Call.new.self) (40 ∷ [])
    (c.in_ok-push-in-Call.ensures.bytes ∙ ap (λ xs. string_bytes c.push_str-in-Call.new.self ++ xs) (c.in_ok-push-in-Call.ensures.ascii (omega arith))) in
    rw node
    (appends-then _ _ _ (λ rest. w ++ rest) (λ rest. 40 ∷ text rest) one
    (appends-then _ _ _ (λ rest. 40 ∷ rest) text two c.in_ok-push_arguments-in-Call.ensures))

-- a tree between parentheses
pub push_tree-returns-in_ok-push-in-Paren-2 : goal.push_tree-returns-in_ok-push-in-Paren-2
push_tree-returns-in_ok-push-in-Paren-2 g t c =
    let at = c.args.self.now.home in
    let part = at_home at (relative c.in-Paren.part.value) in
    let text = printed (sheet_of at) (name_in (g.S.SheetNames.sheets c.args.self.now.sheets.now)) part in
    let node : at_home at (relative c.args.tree.now) ≡ paren part = ap (λ n. at_home at (relative n)) c.in-Paren.is ∙ paren_at at c.in-Paren.part in
    let one = appends-bytes (string_bytes c.args.out.now) (string_bytes c.push-in-Paren.new.self) (40 ∷ [])
    (c.in_ok-push-in-Paren.ensures.bytes ∙ ap (λ xs. string_bytes c.args.out.now ++ xs) (c.in_ok-push-in-Paren.ensures.ascii (omega arith))) in
    let two : AppendsText (string_bytes c.push-in-Paren.new.self) (string_bytes c.push_tree-in-Paren.new.out) text = rw c.deref-in-Paren.ensures at c.in_ok-push_tree-in-Paren.ensures in
    let three = appends-bytes (string_bytes c.push_tree-in-Paren.new.out) (string_bytes c.push-in-Paren-2.new.self) (41 ∷ [])
    (c.in_ok-push-in-Paren-2.ensures.bytes ∙ ap (λ xs. string_bytes c.push_tree-in-Paren.new.out ++ xs) (c.in_ok-push-in-Paren-2.ensures.ascii (omega arith))) in
    rw node
    (appends-then _ _ _ (λ rest. 40 ∷ rest) (λ rest. text (41 ∷ rest)) one
    (appends-then _ _ _ text (λ rest. 41 ∷ rest) two three))
