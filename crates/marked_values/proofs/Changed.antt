-- What a change leaves alone, or to its needs, keeps its links, and its value where it reaches nothing else. Serves the laws.
use Rattle.std.proofs.Common.{◌≡◌, ◌∙◌, sym, ap, refl, subst, ℕ, ℤ, Bool, true, false, cond, List, ◌++◌, Option, Some, None, ◌⊎◌, inl, inr}
use Rattle.std.specs.Prelude.{IsTrue}
use Rattle.cell_value.specs.declared.scalar.Scalar.{Scalar}
use Rattle.custom_fn.specs.declared.rule.Rule.{Rule}
use Rattle.formula_tree.specs.Reference.{sheet_of}
use Rattle.formula_tree.specs.Term.{Term}
use Rattle.formula_tree.specs.declared.reference.Corner.{Corner}
use Rattle.value_network.proofs.Alike.{NeedAlike, cyclic_alike, values_alike}
use Rattle.value_network.specs.Network.{Network, after, at_once, cyclic}
use Rattle.book_values.proofs.Networks.{is_network}
use Rattle.book_values.specs.Values.{network, value_of}
use Rattle.book_values.specs.Workbook as book
use Rattle.book_values.specs.Workbook.{Workbook, home_of, mentions_node, needs, tree_at, tree_needs}
use Rattle.dep_graph.specs.Laws.{IsNoRange}
use Rattle.dep_graph.specs.Needs.{Links}
use Rattle.dep_graph.specs.Nodes.{has}
use Rattle.dep_graph.specs.declared.node.Node.{Node}
use Rattle.dep_graph.specs.declared.node.Node.TheVariants.{Cell, Name, Range, Whole}
use Rattle.dep_graph.proofs.Places.{has-append_cases, has-append_left, has-append_right}
use Rattle.recalc_core.specs.Kept.{Kept, expected, expected_at, stands}
use Rattle.recalc_core.specs.Laws.{AreKnown, KeepNumbers}
use Rattle.recalc_core.specs.Links.{IsLinkAt, IsLinkOf}
use Rattle.recalc_core.specs.Nodes.{AreNumbered, node_at}
use Rattle.recalc_core.proofs.Bridge.{mentioned_stands, none_some, same_some}
use Rattle.recalc_core.proofs.Worked.{tree_stands}
use Rattle.marked_values.specs.Changes.{ChangesFollow}
use Rattle.marked_values.specs.Marks.{Follow, Leads, ReachesMark}
use Rattle.marked_values.specs.Rebound.{AloneLeavesToNeeds, IsLeftToNeeds, LeavesToNeeds, NeedsFollow, NeedsOthers}
use Rattle.marked_values.proofs.Reaching.{known_before, need_reaches, needed_known, unknown_bare}

module _ (b c : Workbook) (words more : List (List ℕ)) (customs : List (List ℕ × Rule)) (today : ℤ) (links : Links) (marks changed : List Node) (kept : Kept)
    (before : Follow b words customs today links marks kept) (numbers : KeepNumbers words more) (numbered : AreNumbered more c.names) (leaves : LeavesToNeeds b c more changed) (new_known : AreKnown more changed) where
  abbrev all : List Node
  all = marks ++ changed

  -- ---- which nodes were known

  -- a node that stood was known
  was_known : (a : Node) (x : book.Node) → node_at more a ≡ Some x → stands b x ≡ true → node_at words a ≡ Some x
  was_known = known_before b words more before.linked.numbered numbers numbered.once

  -- ---- links

  -- a tree that is left alone mentions the same nodes
  mentions_same : (x : book.Node) (t : Term Corner) (y : book.Node) → IsLeftToNeeds b c more changed x → tree_at b x ≡ Some t
      → mentions_node b.names (sheet_of (home_of x)) t y ≡ mentions_node c.names (sheet_of (home_of x)) t y
  mentions_same x t y alone is =
      sym (ap (λ o. tree_needs b.names (sheet_of (home_of x)) o y) is) ∙ alone.needs y
      ∙ ap (λ o. tree_needs c.names (sheet_of (home_of x)) o y) (alone.tree ∙ is)

  link_forth : (x : book.Node) (t : Term Corner) (d : Node) → IsLeftToNeeds b c more changed x → tree_at b x ≡ Some t
      → IsLinkOf words b.names (sheet_of (home_of x)) t d → IsLinkOf more c.names (sheet_of (home_of x)) t d
  link_forth x t (Cell p) alone is h = h
  link_forth x t (Range block) alone is h = h
  link_forth x t (Whole w) alone is h = h
  link_forth x t (Name scope word) alone is (key, at, m) =
      (key, numbers (Name scope word) (book.name key) at, sym (mentions_same x t (book.name key) alone is) ∙ m)

  link_back : (x : book.Node) (t : Term Corner) (d : Node) → IsLeftToNeeds b c more changed x → tree_at b x ≡ Some t
      → IsLinkOf more c.names (sheet_of (home_of x)) t d → IsLinkOf words b.names (sheet_of (home_of x)) t d
  link_back x t (Cell p) alone is h = h
  link_back x t (Range block) alone is h = h
  link_back x t (Whole w) alone is h = h
  link_back x t (Name scope word) alone is (key, at, m) =
      let here : mentions_node b.names (sheet_of (home_of x)) t (book.name key) ≡ true = mentions_same x t (book.name key) alone is ∙ m in
      (key, was_known (Name scope word) (book.name key) at (mentioned_stands b.names (sheet_of (home_of x)) t key here), here)

  out_of_marks : (a : Node) → ¬ IsTrue (has a all) → ¬ IsTrue (has a marks)
  out_of_marks a out marked = out (has-append_left a marks changed marked)

  out_of_changed : (a : Node) → ¬ IsTrue (has a all) → ¬ IsTrue (has a changed)
  out_of_changed a out marked = out (has-append_right a marks changed marked)

  forth : (a d : Node) → ¬ IsTrue (has a all) → IsTrue (has d (links a)) → IsLinkAt c more a d
  forth a d out h =
      let (x, t, at, is, link) = (before.linked.exact a d (out_of_marks a out)).0 h in
      let alone = leaves a x (numbers a x at) (out_of_changed a out) in
      (x, t, numbers a x at, alone.tree ∙ is, link_forth x t d alone is link)

  back : (a d : Node) → ¬ IsTrue (has a all) → IsLinkAt c more a d → IsTrue (has d (links a))
  back a d out (x, t, at, is, link) =
      let alone = leaves a x at (out_of_changed a out) in
      let was : tree_at b x ≡ Some t = sym alone.tree ∙ is in
      (before.linked.exact a d (out_of_marks a out)).1
      (x, t, was_known a x at (tree_stands b customs today x t was), was, link_back x t d alone was link)

  -- ---- values

  abbrev one : Network book.Node Scalar
  one = network b customs today

  abbrev two : Network book.Node Scalar
  two = network c customs today

  -- the places and names that reach no mark now
  abbrev Inside : book.Node → Type 0
  Inside x = (a : Node) × (node_at more a ≡ Some x) × (¬ ReachesMark c more all x)

  unmarked : (a : Node) (x : book.Node) → node_at more a ≡ Some x → ¬ ReachesMark c more all x → ¬ IsTrue (has a all)
  unmarked a x at apart marked = apart (a, x, marked, at, inl refl)

  inside_alone : (x : book.Node) → Inside x → IsLeftToNeeds b c more changed x
  inside_alone x (a, at, apart) = leaves a x at (out_of_changed a (unmarked a x at apart))

  closed : (x y : book.Node) → Inside x → needs c x y ≡ true → Inside y
  closed x y (a, at, apart) need =
      let (d, to) = needed_known c more x y numbered need in
      (d, to, λ reach. apart (need_reaches c more all x y need reach))

  needs_forth : (x y : book.Node) → Inside x → needs b x y ≡ true → needs c x y ≡ true
  needs_forth x y inside need = sym ((inside_alone x inside).needs y) ∙ need

  needs_others : (x : book.Node) → Inside x → NeedsOthers b more changed x
  needs_others x inside y need =
      let (d, to, apart) = closed x y inside (needs_forth x y inside need) in
      (d, to, out_of_changed d (unmarked d y to apart))

  both_need : NeedAlike one two Inside
  both_need = record {
    needs_same = λ x y inside. (inside_alone x inside).needs y;
    closed = λ x y inside need. closed x y inside (needs_forth x y inside need);
  }

  value_same : (x : book.Node) → Inside x → value_of b customs today x ≡ value_of c customs today x
  value_same x inside = values_alike one two Inside (is_network b customs today) (is_network c customs today) (cyclic one) (cyclic two) (λ y h. h) (λ y h. h) both_need refl
      (λ y here. cyclic_alike one two Inside (is_network b customs today) (is_network c customs today) both_need y here) (λ y shown here. (inside_alone y here).works (needs_others y here) customs today shown) x inside

  expected_same : (x : book.Node) → Inside x → expected b customs today x ≡ expected c customs today x
  expected_same x inside = λ i. cond ((inside_alone x inside).stands i) (Some (value_same x inside i)) None

  leads_over : {x y : book.Node} → Leads b x y → Inside x → Leads c x y
  leads_over (at_once {a = x} {b = y} need) inside = at_once (needs_forth x y inside need)
  leads_over (after {a = x} {b = y} need rest) inside =
      let here = needs_forth x y inside need in
      after here (leads_over rest (closed x y inside here))

  -- what reaches no mark now reached none before
  none_before : (x : book.Node) → Inside x → ¬ ReachesMark b words marks x
  none_before x (a, at, apart) (m, y, marked, to, inl same) = apart (m, y, has-append_left m marks changed marked, numbers m y to, inl same)
  none_before x (a, at, apart) (m, y, marked, to, inr leads) =
      apart (m, y, has-append_left m marks changed marked, numbers m y to, inr (leads_over leads (a, at, apart)))

  module _ (a : Node) (apart : (x : book.Node) → node_at more a ≡ Some x → ¬ ReachesMark c more all x) (plain : IsNoRange a) where
    -- a node that was known
    was : (x y : book.Node) → node_at more a ≡ Some x → node_at words a ≡ Some y → kept a ≡ expected c customs today x
    was x y at from =
        let same : y ≡ x = same_some y x (sym (numbers a y from) ∙ at) in
        before.fit a (λ z to. subst (λ w. ¬ ReachesMark b words marks w) (same_some x z (sym at ∙ numbers a z to)) (none_before x (a, at, apart x at))) plain
        ∙ ap (expected_at b customs today) from ∙ ap (expected b customs today) same ∙ expected_same x (a, at, apart x at)

    -- one that is known only now has nothing yet
    is_new : (x : book.Node) → node_at more a ≡ Some x → node_at words a ≡ None → kept a ≡ expected c customs today x
    is_new x at none =
        unknown_bare b words marks customs today kept a before.fit plain none
        ∙ sym (ap (λ t. cond t (Some (value_of c customs today x)) None) (sym ((inside_alone x (a, at, apart x at)).stands) ∙ not_there (stands b x) refl))
      where
        not_there : (t : Bool) → stands b x ≡ t → stands b x ≡ false
        not_there false e = e
        not_there true e = absurd (none_some x (sym none ∙ was_known a x at e))

    still_right : kept a ≡ expected_at c customs today (node_at more a)
    still_right = by (node_at more a) refl (node_at words a) refl
      where
        by : (o : Option book.Node) → node_at more a ≡ o → (f : Option book.Node) → node_at words a ≡ f → kept a ≡ expected_at c customs today (node_at more a)
        by (Some x) at (Some y) from = was x y at from ∙ sym (ap (expected_at c customs today) at)
        by (Some x) at None none = is_new x at none ∙ sym (ap (expected_at c customs today) at)
        by None at (Some y) from = absurd (none_some y (sym at ∙ numbers a y from))
        by None at None none = unknown_bare b words marks customs today kept a before.fit plain none ∙ sym (ap (expected_at c customs today) at)

  all_known : AreKnown more all
  all_known a h = by (has-append_cases a marks changed h)
    where
      by : (has a marks ≡ true) ⊎ (has a changed ≡ true) → (x : book.Node) × (node_at more a ≡ Some x)
      by (inl marked) = let (x, at) = before.known a marked in (x, numbers a x at)
      by (inr marked) = new_known a marked

  pub still_follow : Follow c more customs today links all kept
  still_follow = record {
    linked = record { numbered = numbered; exact = λ a d out. (forth a d out, back a d out) };
    inside = before.inside;
    known = all_known;
    fit = λ a apart plain. still_right a apart plain;
  }

pub needs_follow : NeedsFollow
needs_follow b c words more customs today links marks changed kept before numbers numbered leaves known =
    still_follow b c words more customs today links marks changed kept before numbers numbered leaves known

pub alone_leaves_to_needs : AloneLeavesToNeeds
alone_leaves_to_needs b c words changed alone a x at out =
    let left = alone a x at out in
    record { stands = left.alike.stands; tree = left.tree; needs = left.alike.needs; works = λ others customs today shown. left.alike.works customs today shown }

pub changes_follow : ChangesFollow
changes_follow b c words more customs today links marks changed kept before numbers numbered leaves known =
    needs_follow b c words more customs today links marks changed kept before numbers numbered (alone_leaves_to_needs b c more changed leaves) known
