use Rattle.std.proofs.Common.{◌≡◌, [], length, map, ◌+◌, ◌-◌, ◌*◌}
use denote.Text.{Utf8}
use denote.Shadow.{shadow}
use Rattle.cell_addr.specs.Sheets.{id_in}
use Rattle.formula_tree.specs.Arguments.{trees}
use Rattle.formula_tree.specs.Reader.{arguments, climb, read}
use Rattle.formula_tree.specs.Reference.{sheet_of}
use Rattle.formula_parse.specs.internal.Stream.{stream}
use Rattle.formula_parse.specs.internal.Tree.{tree_at}
use Rattle.formula_parse.proofs.reader.Reader.+tree.Given as goal

abbrev pub decreases-tree : goal.decreases-tree
decreases-tree g l = 4 * l.levels

abbrev pub decreases-arguments : goal.decreases-arguments
decreases-arguments g l = 4 * l.levels + 1

abbrev pub decreases-call : goal.decreases-call
decreases-call g l = 4 * l.levels + 2

abbrev pub decreases-climb : goal.decreases-climb
decreases-climb g l = 4 * l.levels + 1

abbrev pub decreases-first : goal.decreases-first
decreases-first g l = 4 * l.levels + 3

abbrev pub decreases-paren : goal.decreases-paren
decreases-paren g l = 4 * l.levels + 1

abbrev pub decreases-signed : goal.decreases-signed
decreases-signed g l = 4 * l.levels + 1

-- after the arguments so far, those that are left are the call's
abbrev pub invariant-arguments-arguments : goal.invariant-arguments-arguments
invariant-arguments-arguments g l =
    let R = read (sheet_of l.self.home) (id_in (g.S.SheetNames.sheets l.self.sheets.now)) l.levels in
    shadow (Utf8 l.next) × (arguments R l.word (length (stream l.next)) (map (λ t. tree_at l.self.home t.value) (trees l.list)) (stream l.next) ≡ arguments R l.word (length (stream l.text)) [] (stream l.text))

abbrev pub decreases-arguments-arguments : goal.decreases-arguments-arguments
decreases-arguments-arguments g l = length (stream l.next)

-- after the operators so far, those that are left make the tree
abbrev pub invariant-climb-operators : goal.invariant-climb-operators
invariant-climb-operators g l =
    let R = read (sheet_of l.self.home) (id_in (g.S.SheetNames.sheets l.self.sheets.now)) l.levels in
    shadow (Utf8 l.rest) × (climb R (l.operators - l.counter) l.level (tree_at l.self.home l.left) (stream l.rest) ≡ climb R l.operators l.level (tree_at l.self.home l.initial.left) (stream l.text))
