-- Nodes whose formulas mention a place, by their links. Serves the users of a cell.
use Rattle.std.proofs.Common.{◌≡◌, ◌∙◌, sym, ap, refl, subst, ℕ, true, List, Option, Some, None, inl, inr}
use Rattle.std.proofs.lemmas.Bool.{false≢true}
use Rattle.cell_addr.proofs.SamePlaces.{same_place-equal, same_place-self}
use Rattle.cell_addr.specs.declared.place.Place.{Place}
use Rattle.formula_tree.specs.Links.{links_in}
use Rattle.formula_tree.specs.Reference.{sheet_of}
use Rattle.formula_tree.specs.Term.{Term}
use Rattle.formula_tree.specs.declared.reference.Corner.{Corner}
use Rattle.calc_terms.proofs.LinkedPlaces.{mentions-links}
use Rattle.calc_terms.specs.Needs.{mentions}
use Rattle.book_values.specs.Names.{Names}
use Rattle.book_values.specs.Workbook as book
use Rattle.book_values.specs.Workbook.{Workbook, home_of, tree_at}
use Rattle.dep_graph.specs.Needs.{Links}
use Rattle.dep_graph.specs.Nodes.{has}
use Rattle.dep_graph.specs.Users.{AreUsers, IsUserOf, is_over}
use Rattle.dep_graph.specs.declared.node.Node.{Node}
use Rattle.dep_graph.specs.declared.node.Node.TheVariants.{Cell, Name, Range, Whole}
use Rattle.recalc_core.proofs.Bridge.{HasWay, refers_block, refers_cell, refers_whole, way_to}
use Rattle.recalc_core.specs.Links.{IsLinkOf}
use Rattle.recalc_core.specs.Nodes.{node_at}
use Rattle.kept_values.proofs.Following.{at_holds, at_tested, same_tests}
use Rattle.kept_values.specs.Values.{is_link_at, passes}
use Rattle.session_values.specs.Users.{AreUsersIn, mentions_at, mentions_from}

-- a formula that is linked to the cell, or to a range, whole or not, that covers it, mentions the place
link_mentions : (words : List (List ℕ)) (names : Names) (sheet : ℕ) (t : Term Corner) (p : Place) (c : Node) → is_over p c ≡ true → IsLinkOf words names sheet t c → mentions t p ≡ true
link_mentions words names sheet t p (Cell q) over link = subst (λ r. mentions t r ≡ true) (same_place-equal q p over) (refers_cell t q link)
link_mentions words names sheet t p (Name scope word) over link = absurd (false≢true over)
link_mentions words names sheet t p (Range block) over link = refers_block t block p over link
link_mentions words names sheet t p (Whole w) over link = refers_whole t w p over link

module _ (b : Workbook) (words : List (List ℕ)) (p : Place) where
  pub mentions_is : (a : Node) (x : book.Node) (t : Term Corner) → node_at words a ≡ Some x → tree_at b x ≡ Some t → mentions_at b words p a ≡ mentions t p
  mentions_is a x t at is = ap (passes (mentions_from b p)) at ∙ ap (passes (λ u. mentions u p)) is

  -- where a node's formula mentions the place, it has one that does
  pub mentions_holds : (a : Node) → mentions_at b words p a ≡ true → (x : book.Node) × (t : Term Corner) × (node_at words a ≡ Some x) × (tree_at b x ≡ Some t) × (mentions t p ≡ true)
  mentions_holds a h = by (node_at words a) refl
    where
      from : (x : book.Node) (o : Option (Term Corner)) → node_at words a ≡ Some x → tree_at b x ≡ o → passes (λ u. mentions u p) o ≡ true
          → (y : book.Node) × (t : Term Corner) × (node_at words a ≡ Some y) × (tree_at b y ≡ Some t) × (mentions t p ≡ true)
      from x None at is passed = absurd (false≢true passed)
      from x (Some t) at is passed = (x, t, at, is, passed)

      by : (o : Option book.Node) → node_at words a ≡ o → (y : book.Node) × (t : Term Corner) × (node_at words a ≡ Some y) × (tree_at b y ≡ Some t) × (mentions t p ≡ true)
      by None at = absurd (false≢true (sym (ap (passes (mentions_from b p)) at) ∙ h))
      by (Some x) at = from x (tree_at b x) at refl (sym (ap (passes (mentions_from b p)) at) ∙ h)

  -- where all nodes are linked to what their formulas are linked to, the users of the cell are those whose formulas mention it
  pub users_mention : (graph_links : Links) (nodes : List Node) → ((a c : Node) → has c (graph_links a) ≡ is_link_at b words a c) → AreUsers p graph_links nodes → AreUsersIn b words p nodes
  users_mention graph_links nodes linked users = (
    λ a. same_tests (has a nodes) (mentions_at b words p a) (λ h. forth a ((users.0 a).0 h)) (λ h. (users.0 a).1 (back a (mentions_holds a h))),
    users.1,
  )
    where
      forth : (a : Node) → IsUserOf p graph_links a → mentions_at b words p a ≡ true
      forth a (c, link, over) =
          let (x, t, at, is, of) = at_holds b words a c (sym (linked a c) ∙ link) in
          mentions_is a x t at is ∙ link_mentions words b.names _ t p c over of

      back : (a : Node) → (x : book.Node) × (t : Term Corner) × (node_at words a ≡ Some x) × (tree_at b x ≡ Some t) × (mentions t p ≡ true) → IsUserOf p graph_links a
      back a (x, t, at, is, h) = by (way_to p (links_in t) (sym (mentions-links t p) ∙ h))
        where
          user : (c : Node) → IsLinkOf words b.names (sheet_of (home_of x)) t c → is_over p c ≡ true → IsUserOf p graph_links a
          user c link over = (c, linked a c ∙ at_tested b words a c (x, t, at, is, link), over)

          by : HasWay p (links_in t) → IsUserOf p graph_links a
          by (inl cell) = user (Cell p) cell (same_place-self p)
          by (inr (inl (block, covered, area))) = user (Range block) area covered
          by (inr (inr (w, covered, whole))) = user (Whole w) whole covered
