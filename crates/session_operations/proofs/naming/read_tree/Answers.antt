use Rattle.std.proofs.Common.{◌≡◌, ◌∙◌, ◌≤◌, ℕ, sym, ap, subst, arith, nat_lt, cond, false, Some, None, length}
use Rattle.std.specs.Option.{is_none}
use Rattle.std.proofs.lemmas.Bool.Decides.{nat_tests}
use Rattle.cell_addr.specs.Sheets.{id_in}
use Rattle.formula_tree.specs.Proper.{IsProper}
use Rattle.formula_tree.specs.Reference.{sheet_of}
use Rattle.formula_tree.proofs.ProperTrees.{spelled-proper}
use Rattle.name_table.specs.Listed.{listed}
use Rattle.book_model.specs.Content.{tree_given}
use Rattle.book_model.specs.declared.refusal.Refusal.TheVariants.{BadFormula, TextLimit}
use Rattle.session_operations.proofs.naming.read_tree.Goals as goal

short : (n : ℕ) → n ≤ 8192 → nat_lt 8192 n ≡ false
short n h = grind (arith, nat_tests, h)

pub returns-in-Ok : goal.returns-in-Ok
returns-in-Ok c =
    let t = c.in-Ok.ensures.read in
    let s = c.in-Ok.ensures.spelt in
    let given = t.2 ∙ ap Some (sym t.1) in (
      ap (λ b. cond b (Some TextLimit) (cond (is_none (tree_given (listed c.args.sheets.now) (sheet_of c.args.home) c.args.text.now)) (Some BadFormula) None)) (short (length c.args.text.now) c.if-text-gt-MAX_TEXT.false) ∙ ap (λ o. cond (is_none o) (Some BadFormula) None) given,
      (given, subst IsProper (sym s.1) (spelled-proper (sheet_of c.args.home) (id_in (listed c.args.sheets.now)) c.args.text.now s.0 s.2)),
    )
