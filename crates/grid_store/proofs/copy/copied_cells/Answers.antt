use Rattle.std.proofs.Common.{◌≡◌, ◌∙◌, sym, ap, subst, refl, List, [], ◌∷◌, ◌++◌, append_assoc}
use Rattle.std.specs.BTreeMap.{insert_entry}
use Rattle.std.specs.List.{AllByRecursion}
use Rattle.std.specs.List.Sorted.{IsStrictlySortedBy}
use Rattle.std.specs.Map.{keys_of}
use Rattle.std.specs.Ordering.{match_ordering, ordering_reverse}
use Rattle.std.specs.declared.cmp.Ordering.TheVariants.{Less}
use Rattle.grid_store.specs.Keys.{key_cmp}
use Rattle.grid_store.specs.declared.key.CellKey.{CellKey}
use Rattle.grid_store.proofs.KeyOrder.{key_cmp-IsTotalOrder}
use Rattle.grid_store.proofs.copy.copied_cells.Goals as goal

rises : {X : Type 0} (k : CellKey) (es : List (CellKey × X)) (e : CellKey × X) (rest : List (CellKey × X)) → AllByRecursion (λ x. key_cmp k x ≡ Less) (keys_of (es ++ (e ∷ rest))) → key_cmp k e.0 ≡ Less
rises k [] e rest h = h.0
rises k (f ∷ es) e rest h = rises k es e rest h.1

-- a key that follows all others goes to the end
insert_last : {X : Type 0} (es : List (CellKey × X)) (e : CellKey × X) (rest : List (CellKey × X)) → IsStrictlySortedBy key_cmp (keys_of (es ++ (e ∷ rest))) → insert_entry key_cmp es e.0 e.1 ≡ es ++ e ∷ []
unfolding IsStrictlySortedBy
insert_last [] e rest h = refl
insert_last (f ∷ es) e rest h =
    ap (λ o. match_ordering o ((e.0, e.1) ∷ f ∷ es) ((f.0, e.1) ∷ es) (f ∷ insert_entry key_cmp es e.0 e.1)) (key_cmp-IsTotalOrder.antisymm e.0 f.0 ∙ ap ordering_reverse (rises f.0 es e rest h.0))
    ∙ ap (λ z. f ∷ z) (insert_last es e rest h.1)

kept_last : {X : Type 0} (all es fs : List (CellKey × X)) (e : CellKey × X) (rest : List (CellKey × X)) → IsStrictlySortedBy key_cmp (keys_of all) → es ++ (e ∷ rest) ≡ all → fs ≡ insert_entry key_cmp es e.0 e.1 → fs ++ rest ≡ all
kept_last all es fs e rest sorted parts new =
    ap (λ z. z ++ rest) (new ∙ insert_last es e rest (subst (λ z. IsStrictlySortedBy key_cmp (keys_of z)) (sym parts) sorted)) ∙ append_assoc es (e ∷ []) rest ∙ parts

pub loop-key-preserved : goal.loop-key-preserved
loop-key-preserved _ c =
    let i = c.loop-key.invariant in record {
      parts = kept_last c.args.cells.now.entries c.loop-key.copy.entries c.keep.new.cells.entries (c.in-Some.key.now, c.in-Some.cell.now) c.next.new.self i.ordered
          (ap (λ r. c.loop-key.copy.entries ++ r) (sym c.in-Some.ensures.steps) ∙ i.parts) (c.in_ok-keep.ensures ∙ ap (insert_entry key_cmp c.loop-key.copy.entries c.in-Some.key.now) c.in_ok-cell.ensures);
      ordered = i.ordered;
    }
