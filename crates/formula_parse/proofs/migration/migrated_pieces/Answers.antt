-- Each piece takes the changed text one step further.
use Rattle.std.proofs.Common.{sym, ap, rules, ◌++◌, option_map}
use Rattle.std.specs.String.{string_bytes}
use Rattle.formula_parse.specs.Migrated.{migrated_pieces}
use Rattle.formula_parse.proofs.Pieces.{ends, goes_on, none-left, rest-shorter, some-left, stops}
use Rattle.formula_parse.proofs.migration.migrated_pieces.Goals as goal

pub pieces-init : goal.pieces-init
pieces-init c = (c.utf8.formula, ap (λ x. option_map (λ more. x ++ more) (migrated_pieces c.args.formula.now)) c.in_ok-new.ensures.ok)

pub returns-in_default : goal.returns-in_default
returns-in_default c =
    stops (string_bytes c.pieces.new) c.pieces.rest.now _ (some-left c.pieces.rest.now c.pieces-test.ensures) (sym c.in_default.ensures) c.pieces.invariant.1

pub pieces-smaller : goal.pieces-smaller
pieces-smaller c = rest-shorter c.pieces.rest.now c.in-Some.after.now (sym c.in-Some.ensures)

pub pieces-preserved : goal.pieces-preserved
pieces-preserved c = (
  search rules,
  goes_on (string_bytes c.pieces.new) (string_bytes c.push_piece.new.new) c.pieces.rest.now c.in-Some.after.now _ (sym c.in-Some.ensures) c.in_ok-push_piece.ensures c.pieces.invariant.1,
)

pub returns : goal.returns
returns c = ends (string_bytes c.pieces.new) c.pieces.rest.now _ (none-left c.pieces.rest.now c.pieces-test.ensures) c.pieces.invariant.1
