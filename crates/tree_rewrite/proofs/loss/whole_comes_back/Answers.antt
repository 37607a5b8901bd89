use Rattle.std.proofs.Common.{◌≡◌, ◌∙◌, ap, subst, ◌↔◌, IsTrue}
use Rattle.formula_tree.specs.Reference.{base_of, corner_at}
use Rattle.formula_tree.specs.Term.{whole}
use Rattle.formula_tree.specs.Whole.{first_ref, last_ref}
use Rattle.tree_rewrite.specs.Rewritten.{ComesBack}
use Rattle.tree_rewrite.proofs.loss.whole_comes_back.Goals as goal

pub returns : goal.returns
returns c =
    let base = base_of c.args.home in
    let first : c.at-first.result ≡ corner_at base (first_ref c.args.axis c.args.sheet c.args.parts.0) = c.at-first.ensures ∙ ap (corner_at base) c.first_of.ensures in
    let last : c.at-last.result ≡ corner_at base (last_ref c.args.axis c.args.sheet c.args.parts.1) = c.at-last.ensures ∙ ap (corner_at base) c.last_of.ensures in
    subst (λ x. IsTrue c.area_comes_back.result ↔ ComesBack c.args.s.now (whole c.args.axis x (corner_at base (last_ref c.args.axis c.args.sheet c.args.parts.1)))) first
    (subst (λ x. IsTrue c.area_comes_back.result ↔ ComesBack c.args.s.now (whole c.args.axis c.at-first.result x)) last c.area_comes_back.ensures)
