-- The members that are left are allowed exactly where all are.
use Rattle.std.proofs.Common.{◌≡◌}
use Rattle.toml.specs.View.{members_view}
use Rattle.case_files.specs.Rows as rows
use Rattle.case_files.proofs.row.are_allowed.Given as goal

abbrev pub invariant-members : goal.invariant-members
invariant-members l =
    (goal.iterator-members).can_next l.name-iterator × (goal.iterator-members).is_finite l.name-iterator
    × (rows.are_allowed l.needed l.more (members_view l.name-iterator) ≡ rows.are_allowed l.needed l.more (members_view l.table.entries))
