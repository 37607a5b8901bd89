-- Links of nodes that are linked anew, or not at all. Serves the laws.
use Rattle.std.proofs.Common.{◌≡◌, ◌∙◌, sym, ap, refl, subst, ℕ, Bool, true, false, cond, List, ◌∷◌, Option, Some, None, ◌⊎◌, inl, inr}
use Rattle.std.specs.Prelude.{IsTrue, ◌↔◌}
use Rattle.std.proofs.lemmas.Bool.{false≢true}
use Rattle.formula_tree.specs.Reference.{sheet_of}
use Rattle.formula_tree.specs.Term.{Term}
use Rattle.formula_tree.specs.declared.reference.Corner.{Corner}
use Rattle.book_values.specs.Values.{value_of}
use Rattle.book_values.specs.Workbook as book
use Rattle.book_values.specs.Workbook.{Workbook, home_of, tree_at}
use Rattle.dep_graph.specs.Laws.{IsNodeInside}
use Rattle.dep_graph.specs.Nodes.{has, same_node}
use Rattle.dep_graph.specs.declared.node.Node.{Node}
use Rattle.dep_graph.specs.internal.Hashed.{own_node, same_nodes}
use Rattle.dep_graph.proofs.Places.{has_cases}
use Rattle.recalc_core.specs.Kept.{expected_at, stands}
use Rattle.recalc_core.specs.Links.{AreLinksFor, IsLinkAt, IsLinkOf}
use Rattle.recalc_core.specs.Nodes.{node_at}
use Rattle.recalc_core.proofs.Bridge.{same_some}
use Rattle.recalc_core.proofs.Worked.{tree_stands}
use Rattle.marked_values.specs.Changes.{AllMarkedFollow, LinksAreInside, NodesLinkAnew}
use Rattle.marked_values.specs.Marks.{ReachesMark}
use Rattle.marked_values.proofs.TreeLinks.{cell_filled, linked_inside}

-- ---- nothing is linked

pub all_marked : AllMarkedFollow
all_marked b words customs today links marks kept numbered none nothing marked known = record {
  linked = record { numbered = numbered; exact = λ a c out. (λ h. absurd (no_link a c h), λ link. absurd (no_tree a c out link)) };
  inside = λ a c h. absurd (no_link a c h);
  known = known;
  fit = λ a apart plain. nothing a ∙ sym (by a apart (node_at words a) refl);
}
  where
    no_link : (a c : Node) → IsTrue (has c (links a)) → ⊥
    no_link a c h = false≢true (sym (ap (has c) (none a)) ∙ h)

    no_tree : (a c : Node) → ¬ IsTrue (has a marks) → IsLinkAt b words a c → ⊥
    no_tree a c out (x, t, at, is, link) = out (marked a x at (tree_stands b customs today x t is))

    stands_not : (a : Node) (x : book.Node) (t : Bool) → ¬ ReachesMark b words marks x → stands b x ≡ t → node_at words a ≡ Some x → cond (stands b x) (Some (value_of b customs today x)) None ≡ None
    stands_not a x true apart e at = absurd (apart (a, x, marked a x at e, at, inl refl))
    stands_not a x false apart e at = ap (λ t. cond t (Some (value_of b customs today x)) None) e

    by : (a : Node) → ((x : book.Node) → node_at words a ≡ Some x → ¬ ReachesMark b words marks x) → (o : Option book.Node) → node_at words a ≡ o → expected_at b customs today (node_at words a) ≡ None
    by a apart None at = ap (expected_at b customs today) at
    by a apart (Some x) at = ap (expected_at b customs today) at ∙ stands_not a x (stands b x) (apart x at) refl at

-- ---- one node is linked anew

module _ (b : Workbook) (words : List (List ℕ)) (a : Node) (x : book.Node) (needs : List Node) (at : node_at words a ≡ Some x)
    (exact : AreLinksFor words b.names (sheet_of (home_of x)) (tree_at b x) needs) where
  from_tree : (o : Option (Term Corner)) → tree_at b x ≡ o → AreLinksFor words b.names (sheet_of (home_of x)) o needs → (d : Node) → IsTrue (has d needs) → IsLinkAt b words a d
  from_tree None is for d h = absurd (for d h)
  from_tree (Some t) is for d h = (x, t, at, is, (for d).0 h)

  -- what it needs is what its formula is linked to
  pub needs_linked : (d : Node) → IsTrue (has d needs) ↔ IsLinkAt b words a d
  needs_linked d = (from_tree (tree_at b x) refl exact d, back)
    where
      back : IsLinkAt b words a d → IsTrue (has d needs)
      back (y, t, to, is, link) =
          let same : y ≡ x = same_some y x (sym to ∙ at) in
          let tree : tree_at b x ≡ Some t = ap (tree_at b) (sym same) ∙ is in
          (subst (λ o. AreLinksFor words b.names (sheet_of (home_of x)) o needs) tree exact d).1
          (subst (λ z. IsLinkOf words b.names (sheet_of (home_of z)) t d) same link)

pub link_anew : NodesLinkAnew
link_anew b words a x needs rest old new but at exact linked = record { numbered = but.numbered; exact = λ e d out. each e d out (same_node e a) refl }
  where
    others : (e : Node) → ¬ IsTrue (has e rest) → same_node e a ≡ false → ¬ IsTrue (has e (a ∷ rest))
    others e out isnt h = by (has_cases e a rest h)
      where
        by : (e ≡ a) ⊎ (has e rest ≡ true) → ⊥
        by (inl same) = false≢true (sym isnt ∙ ap (λ n. same_node n a) same ∙ own_node a)
        by (inr later) = out later

    each : (e d : Node) → ¬ IsTrue (has e rest) → (m : Bool) → same_node e a ≡ m → IsTrue (has d (new e)) ↔ IsLinkAt b words e d
    each e d out true is =
        subst (λ ns. IsTrue (has d ns) ↔ IsLinkAt b words e d) (sym (linked e ∙ ap (λ m. cond m needs (old e)) is))
        (subst (λ n. IsTrue (has d needs) ↔ IsLinkAt b words n d) (sym (same_nodes e a is)) (needs_linked b words a x needs at exact d))
    each e d out false isnt =
        subst (λ ns. IsTrue (has d ns) ↔ IsLinkAt b words e d) (sym (linked e ∙ ap (λ m. cond m needs (old e)) isnt))
        (but.exact e d (others e out isnt))

pub anew_inside : LinksAreInside
anew_inside b words a x needs old new inside were at exact linked e d h = by (same_node e a) refl
  where
    by : (m : Bool) → same_node e a ≡ m → IsNodeInside e × IsNodeInside d
    by true is =
        let needed : IsTrue (has d needs) = sym (ap (has d) (linked e ∙ ap (λ m. cond m needs (old e)) is)) ∙ h in
        let (y, t, to, tree, link) = (needs_linked b words a x needs at exact d).0 needed in
        (subst IsNodeInside (sym (same_nodes e a is)) (cell_filled b words inside a y t to tree), linked_inside words b.names (sheet_of (home_of y)) t d (inside.trees y t tree) link)
    by false isnt = were e d (sym (ap (has d) (linked e ∙ ap (λ m. cond m needs (old e)) isnt)) ∙ h)
