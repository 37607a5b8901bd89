use Rattle.std.proofs.Common.{◌≡◌, ◌∙◌, sym, ap, rules, Bool, [], ◌∷◌, ◌++◌, map, take, filter}
use Rattle.std.proofs.lemmas.Fn.{filter_same}
use Rattle.std.proofs.lemmas.List.{map-append, take_all, take_more}
use Rattle.std.specs.Bool.{Decides}
use Rattle.std.specs.List.{Contains}
use Rattle.formula_tree.specs.Pooled.{held}
use Rattle.formula_tree.specs.Term.{Term}
use Rattle.formula_tree.specs.Relative.{relative}
use Rattle.formula_tree.specs.declared.entry.Entry.{Entry}
use Rattle.formula_tree.specs.declared.reference.Ref.{Ref}
use Rattle.formula_tree.proofs.PooledTrees.{is_among, among-decides, one-more, whole, filter-part, left-passes, passes-left}
use Rattle.formula_tree.proofs.pool.Pool.sweep.Goals as goal

abbrev term_of : Entry → Term Ref
term_of k = relative k.tree.value

pub returns-in_err-clone-clause-part : goal.returns-in_err-clone-clause-part
returns-in_err-clone-clause-part c = whole (held c.args.self.now)

pub returns-in_err-insert-clause-part : goal.returns-in_err-insert-clause-part
returns-in_err-insert-clause-part c = whole (held c.args.self.now)

pub trees-preserved : goal.trees-preserved
trees-preserved c = λ t.
    let items = c.args.in_use.now in
    let i = c.trees.tree-index in
    let copied = c.in_ok-clone.field-0 in
    let item : relative copied.value ≡ relative c.tree-item.result.value = ap relative c.in_ok-clone.ensures.cases in
    let more = ap (map (λ tree. relative tree.value)) (take_more items i c.tree-item.result c.trees-test.true ∙ ap (λ x. take i items ++ x ∷ []) (sym c.tree-item.is))
    ∙ map-append (λ tree. relative tree.value) (take i items) (c.tree-item.result ∷ [])
    ∙ ap (λ u. map (λ tree. relative tree.value) (take i items) ++ u ∷ []) (sym item) in
    rw more (one-more term_of c.trees.kept.keys c.insert.new.self.keys (record { tree = copied }) (map (λ tree. relative tree.value) (take i items)) t c.in_ok-insert.ensures.keys (c.trees.invariant t))

pub returns : goal.returns
returns c =
    let keys = c.args.self.now.trees.keys in
    let test : Entry → Bool = λ k. is_among term_of (term_of k) c.trees.kept.keys in
    let left : c.retain.new.self.keys ≡ filter test keys = filter_same _ test _ (λ k b f said. search rules) _ _ c.retain.ensures.filtered in
    let all = take_all c.trees.tree-index c.args.in_use.now c.trees-test.false in
    let P : Term Ref → Type 0 = λ t. Contains (map (λ tree. relative tree.value) c.args.in_use.now) t in
    let says : (k : Entry) → Decides (test k) (P (term_of k)) = λ k.
    let d = among-decides term_of (term_of k) c.trees.kept.keys in
    let same = c.trees.invariant (term_of k) in
    (λ h. rw all at (same.0 (d.0 h)), λ p. d.1 (same.1 (rw all p))) in
    record {
      part = rw left (filter-part term_of test keys);
      kept = λ t. rw left (left-passes term_of test P says keys t, λ both. passes-left term_of test P says keys t both.0 both.1);
      err = tt;
    }
