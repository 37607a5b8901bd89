-- Each number adds its commands to those of the numbers before it.
use Rattle.std.proofs.Common.{◌≡◌, ◌∙◌, sym, ap, arith, ◌+◌, ◌/◌, ◌++◌, append_assoc, rules}
use Rattle.std.proofs.lemmas.List.{append-nil}
use Rattle.generator.specs.Generated.{edit_commands, for_each, row_commands}
use Rattle.generator.proofs.Lists.{counted, none, one_more}
use Rattle.generator.proofs.generate.Goals as goal

pub rows-init : goal.rows-init
rows-init c = c.new-commands.ensures.items ∙ sym (none row_commands)

pub rows-preserved : goal.rows-preserved
rows-preserved c = c.in_ok-fill_row.ensures ∙ ap (λ xs. xs ++ row_commands (c.rows.i + 1)) c.rows.invariant ∙ sym (one_more row_commands c.rows.i)

pub edits-init : goal.edits-init
edits-init c =
    let all : c.rows.commands.items ≡ for_each row_commands c.args.n = search rules in
    all ∙ sym (append-nil (for_each row_commands c.args.n)) ∙ ap (λ xs. for_each row_commands c.args.n ++ xs) (sym (none (edit_commands c.args.n)))

pub edits-preserved : goal.edits-preserved
edits-preserved c =
    let rows = for_each row_commands c.args.n in
    let edits = for_each (edit_commands c.args.n) c.edits.j in
    c.in_ok-edit_and_undo.ensures
    ∙ ap (λ xs. xs ++ edit_commands c.args.n (c.edits.j + 1)) c.edits.invariant
    ∙ append_assoc rows edits (edit_commands c.args.n (c.edits.j + 1))
    ∙ ap (λ xs. rows ++ xs) (sym (one_more (edit_commands c.args.n) c.edits.j))

pub returns-clause-count : goal.returns-clause-count
returns-clause-count c =
    let end : c.edits.j ≡ c.args.n / 100 = omega arith in
    counted c.args.n c.edits.j c.edits.commands.items c.push.new.self.items c.push-2.new.self.items _ _ c.edits.invariant end c.in_ok-push.ensures.items c.in_ok-push-2.ensures.items
