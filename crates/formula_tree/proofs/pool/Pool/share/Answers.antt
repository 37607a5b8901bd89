use Rattle.std.proofs.Common.{◌≡◌, ◌∙◌, sym, ap, inl, inr, refl, [], ◌∷◌, ◌++◌}
use Rattle.std.proofs.lemmas.Bool.{both_ways}
use Rattle.formula_tree.specs.Pooled.{held}
use Rattle.formula_tree.specs.Relative.{relative}
use Rattle.formula_tree.proofs.PooledTrees.{is_among, among-decides, found, grown}
use Rattle.formula_tree.proofs.pool.Pool.share.Goals as goal

pub returns-in-Some-clause-tree : goal.returns-in-Some-clause-tree
returns-in-Some-clause-tree c =
    ap relative c.in_ok-clone.ensures.cases
    ∙ sym (found (λ k. relative k.tree.value) (relative c.args.tree.value) c.args.self.now.trees.keys c.in-Some.known.now (sym c.in-Some.ensures.key))

pub returns-in-Some-clause-held : goal.returns-in-Some-clause-held
returns-in-Some-clause-held c =
    let t = relative c.args.tree.value in
    inl ((among-decides (λ k. relative k.tree.value) t c.args.self.now.trees.keys).0 (sym c.in-Some.ensures.found), refl)

pub returns-clause-held : goal.returns-clause-held
returns-clause-held c =
    let t = relative c.args.tree.value in
    let keys = c.args.self.now.trees.keys in
    let same : relative c.in_ok-tree.tree.value ≡ t = c.in_ok-tree.ensures in
    let none = c.in_default.ensures.found ∙ ap (λ u. is_among (λ k. relative k.tree.value) u keys) (sym same) in
    inr (
      λ has. both_ways (is_among (λ k. relative k.tree.value) t keys) (sym c.in_default.ensures.found) ((among-decides (λ k. relative k.tree.value) t keys).1 has),
      grown (λ k. relative k.tree.value) keys c.insert.new.self.keys (record { tree = c.in_ok-tree.tree }) none c.in_ok-insert.ensures.keys
          ∙ ap (λ u. held c.args.self.now ++ u ∷ []) same,
    )
