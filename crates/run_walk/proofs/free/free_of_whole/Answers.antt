use Rattle.std.proofs.Common.{◌≡◌, ◌∙◌, sym, ap, subst, take}
use Rattle.formula_tree.specs.Reference.{base_of, corner_at}
use Rattle.formula_tree.specs.Term.{whole}
use Rattle.formula_tree.specs.Whole.{first_ref, last_ref}
use Rattle.run_walk.specs.Run.{NoneLoses}
use Rattle.run_walk.proofs.free.free_of_whole.Goals as goal

pub returns-clause-free : goal.returns-clause-free
returns-clause-free g c =
    let base = base_of c.args.home in
    let run = take c.free_of_area.result (g.W.Way.shifts c.args.way.now) in
    let first : c.at-first.result ≡ corner_at base (first_ref c.args.axis c.args.sheet c.args.parts.0) = c.at-first.ensures ∙ ap (corner_at base) c.first_of.ensures in
    let last : c.at-last.result ≡ corner_at base (last_ref c.args.axis c.args.sheet c.args.parts.1) = c.at-last.ensures ∙ ap (corner_at base) c.last_of.ensures in
    subst (λ x. NoneLoses run (whole c.args.axis x (corner_at base (last_ref c.args.axis c.args.sheet c.args.parts.1)))) first
    (subst (λ x. NoneLoses run (whole c.args.axis c.at-first.result x)) last c.free_of_area.ensures.free)
