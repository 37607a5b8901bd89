use Rattle.std.proofs.Common.{◌∙◌, sym, ap, Some}
use Rattle.std.specs.Cmp.Lexicographic.{bytes_decides}
use Rattle.std.specs.Option.{option_map}
use Rattle.cell_addr.specs.Text.{folded}
use Rattle.formula_tree.specs.Relative.{relative}
use Rattle.formula_tree.specs.StandsFor.{at_home}
use Rattle.recalc_core.specs.internal.KeptValues.{kept_by}
use Rattle.recalc_core.specs.internal.Seen.{named_by}
use Rattle.recalc_core.proofs.ReadNames.{found_first}
use Rattle.recalc_core.proofs.seen.FormulaSightView.name.Goals as goal

pub returns-then-same_folded : goal.returns-then-same_folded
returns-then-same_folded c =
    let kept = kept_by c.args.self.now.shown.kept.now in
    let name = c.name-item.result in
    let same = (bytes_decides (folded name.word) (folded c.args.word.now)).1 (ap folded (sym c.as_str.ensures) ∙ c.same_folded.ensures.0 c.if-same_folded.true) in
    let first = found_first c.args.self.now.names.now c.names.name-index name c.args.word.now c.names-test.true c.name-item.is same c.names.invariant in
    ap (λ shown. Some (record { value = shown; tree = at_home name.home (relative name.tree.value) })) c.of.ensures
    ∙ sym (ap (option_map (named_by kept)) first)
