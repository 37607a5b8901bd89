-- After an operation, links and kept values that went along with their nodes follow. Serves the law.
use Rattle.std.proofs.Common.{◌≡◌, ◌∙◌, sym, ap, refl, subst, ℕ, ℤ, Bool, true, false, cond, List, Option, Some, None, is_none, option_and_then, option_map, ◌⊎◌, inl, inr}
use Rattle.std.specs.Prelude.{IsTrue, ◌↔◌}
use Rattle.std.specs.FinMap as map
use Rattle.std.proofs.lemmas.Bool.{and_parts, false_from_ne_true, false≢true}
use Rattle.std.proofs.lemmas.Option.{same_Some}
use Rattle.cell_addr.specs.declared.place.Place.{Place}
use Rattle.custom_fn.specs.declared.rule.Rule.{Rule}
use Rattle.formula_tree.specs.Reference.{sheet_of}
use Rattle.formula_tree.specs.Term.{Term}
use Rattle.formula_tree.specs.declared.reference.Corner.{Corner}
use Rattle.shift_core.specs.Form.{form_of}
use Rattle.shift_core.specs.Sound.{IsSound}
use Rattle.shift_core.specs.Tables.{place_after}
use Rattle.shift_core.specs.declared.shift.Shift.{Shift}
use Rattle.tree_rewrite.specs.Rewritten.{rewritten}
use Rattle.book_values.specs.Values.{value_of}
use Rattle.book_values.specs.Workbook as book
use Rattle.book_values.specs.Workbook.{Workbook, content_tree, home_of, needs, tree_at}
use Rattle.carried_books.specs.Moved.{is_bare}
use Rattle.carried_books.proofs.Moved.{none_there}
use Rattle.dep_graph.specs.Bent.{IsBentBy}
use Rattle.dep_graph.specs.Laws.{HaveGone, IsNoRange}
use Rattle.dep_graph.specs.Needs.{Links}
use Rattle.dep_graph.specs.Nodes.{has}
use Rattle.dep_graph.specs.Shifted.{AreShifted, node_after}
use Rattle.dep_graph.specs.declared.node.Node.{Node}
use Rattle.dep_graph.specs.declared.node.Node.TheVariants.{Cell, Name, Range, Whole}
use Rattle.dep_graph.proofs.InsideNodes.{links_inside}
use Rattle.dep_graph.proofs.UnbentNodes.{unbent_links}
use Rattle.recalc_core.specs.Kept.{Kept, expected, expected_at}
use Rattle.recalc_core.specs.Laws.{AreKnown}
use Rattle.recalc_core.specs.Links.{IsLinkAt, IsLinkOf}
use Rattle.recalc_core.specs.Moves.{carried_kept}
use Rattle.recalc_core.specs.Nodes.{AreNumbered, node_at}
use Rattle.recalc_core.specs.Shifted.{back_over, drops_scope, from_over}
use Rattle.recalc_core.proofs.Bridge.{none_some, same_some}
use Rattle.recalc_core.proofs.Linking.{one_node}
use Rattle.recalc_core.proofs.Shifted.{shifts_go_back}
use Rattle.recalc_core.proofs.Worked.{no_range, tree_stands}
use Rattle.marked_values.specs.Marks.{Follow, IsBookInside, Leads, ReachesMark}
use Rattle.marked_values.specs.Shifts.{AreMarksAfter, IsBookAfter, ShiftsFollow, asks_place, is_moved_cell}
use Rattle.marked_values.proofs.Alone.{place_node}
use Rattle.marked_values.proofs.NoLinks.{no_link}
use Rattle.marked_values.proofs.Origins.{Comes, comes, node_from, node_was, was_at}
use Rattle.marked_values.proofs.PairLinks.{linked_came, linked_goes}
use Rattle.marked_values.proofs.Pairs.{IsSettled, Pair, pair_finds, pair_tree}
use Rattle.marked_values.proofs.PairValues.{AreTaken, IsReady, expected_stays, leads_forth, tree_was}
use Rattle.marked_values.proofs.Reaching.{marked_reaches, need_reaches, needed_known, unknown_bare}

module _ (s : Shift) (b c : Workbook) (words : List (List ℕ)) (customs : List (List ℕ × Rule)) (today : ℤ) (old new : Links) (marks more : List Node) (kept : Kept)
    (sound : IsSound s) (inside : IsBookInside b) (over : IsBookAfter s b c) (numbered : AreNumbered words c.names) (shifted : AreShifted s old new)
    (marked : AreMarksAfter s b c words old marks more) (known : AreKnown words more) (before : Follow b words customs today old marks kept) where
  -- ---- a node that isn't marked, and where it was

  module _ (a was : Node) (out : ¬ IsTrue (has a more)) (from : from_over s a ≡ Some was) where
    plain : IsNoRange a
    plain = by a from
      where
        by : (n : Node) → from_over s n ≡ Some was → IsNoRange n
        by (Cell p) e = tt
        by (Name scope word) e = tt
        by (Range block) e = none_some was e
        by (Whole w) e = none_some was e

    was_out : ¬ IsTrue (has was marks)
    was_out mark = out (marked.follow a was plain from mark)

    unbent : ¬ IsBentBy s old was
    unbent bent = out (marked.bent was a bent from)

    have_gone : HaveGone s (old was) (new a)
    have_gone = let (goes, no_block, in_limits) = was_at s sound a was from in unbent_links s old new was a sound before.inside in_limits no_block unbent goes shifted

    -- its formula is neither bent nor asks for a place
    ready : (x : book.Node) (t : Term Corner) → node_at words was ≡ Some x → tree_at b x ≡ Some t → IsReady s t
    ready x t at is = record {
      fits = inside.trees x t is;
      unbent = record {
        cells = λ p h. somewhere p (linked (Cell p) h) (place_after s p) refl;
        areas = λ block h. (λ bent. unbent (Range block, linked (Range block) h, inl bent), λ cut. unbent (Range block, linked (Range block) h, inr cut));
        wholes = λ w h bent. unbent (Whole w, linked (Whole w) h, bent);
      };
      asks = false_from_ne_true (asks_place t) (λ asks. out (marked.asking was a x t at is asks from));
    }
      where
        linked : (y : Node) → IsLinkOf words b.names (sheet_of (home_of x)) t y → IsTrue (has y (old was))
        linked y link = (before.linked.exact was y was_out).1 (x, t, at, is, link)

        somewhere : (p : Place) → IsTrue (has (Cell p) (old was)) → (o : Option Place) → place_after s p ≡ o → (q : Place) × (place_after s p ≡ Some q)
        somewhere p link None e = absurd (unbent (Cell p, link, e))
        somewhere p link (Some q) e = (q, e)

  -- a formula that isn't marked is of no moved cell
  settled : (a : Node) (z : book.Node) (u : Term Corner) → ¬ IsTrue (has a more) → node_at words a ≡ Some z → tree_at c z ≡ Some u → IsSettled s z
  settled a (book.place q) u out at is = false_from_ne_true (is_moved_cell s q) (λ moved. out (subst (λ n. IsTrue (has n more)) (sym (place_node words a q at)) (marked.moved q moved filled)))
    where
      filled : is_bare b c q ≡ false
      filled = false_from_ne_true (is_bare b c q) (λ bare.
          let none = none_there (map.get c.cells q) (and_parts (is_none (map.get b.cells q)) (is_none (map.get c.cells q)) bare).1 in
          none_some u (sym (ap content_tree none) ∙ is))
  settled a (book.name key) u out at is = tt

  -- ---- links

  module _ (a was d : Node) (out : ¬ IsTrue (has a more)) (from : from_over s a ≡ Some was) where
    link_after_it : (x : book.Node) (t : Term Corner) (y : Node) → node_at words was ≡ Some x → tree_at b x ≡ Some t → IsLinkOf words b.names (sheet_of (home_of x)) t y → node_after s y ≡ Some d
        → IsLinkAt c words a d
    link_after_it x t y at is link goes =
        let (z, to, pair) = node_was s sound words a was x (plain a was out from) from at in
        let tree : tree_at c z ≡ Some (rewritten s t) = pair_tree s b c over x z pair ∙ ap (option_map (rewritten s)) is in
        let finds = pair_finds s b c over x z pair (settled a z (rewritten s t) out to tree) in
        (z, rewritten s t, to, tree, linked_goes s b c over words x z t finds y d link goes)

    came_forth : IsTrue (has d (new a)) → IsLinkAt c words a d
    came_forth h =
        let (y, link, both) = (have_gone a was out from).1 d h in
        let (x, t, at, is, linked) = (before.linked.exact was y (was_out a was out from)).0 link in
        link_after_it x t y at is linked both.0

    came_back : IsLinkAt c words a d → IsTrue (has d (new a))
    came_back (z, u, at, is, link) = by (comes s sound b c over z)
      where
        by : Comes s sound c z → IsTrue (has d (new a))
        by (inr (none, apart)) = absurd (false≢true (sym apart ∙ tree_stands c customs today z u is))
        by (inl (x, pair)) =
            let (first, origin, there) = node_from s sound words a x z (plain a was out from) at pair in
            let same : first ≡ was = same_Some first was (sym origin ∙ from) in
            let (t, tree) = tree_was s (tree_at b x) u (sym (pair_tree s b c over x z pair) ∙ is) in
            let after_it : u ≡ rewritten s t = same_Some u (rewritten s t) (sym is ∙ pair_tree s b c over x z pair ∙ ap (option_map (rewritten s)) tree) in
            let finds = pair_finds s b c over x z pair (settled a z u out at is) in
            let (y, linked, goes) = linked_came s b c over words x z t finds d (subst (λ v. IsLinkOf words c.names (sheet_of (home_of z)) v d) after_it link) in
            let held = (before.linked.exact was y (was_out a was out from)).1 (x, t, ap (node_at words) (sym same) ∙ there, tree, linked) in
            let (e, onto, both) = (have_gone a was out from).0 y held in
            subst (λ n. IsTrue (has n (new a))) (same_Some e d (sym both.0 ∙ goes)) onto

  -- no range is linked to anything
  no_ranges : (r y : Node) → ¬ IsNoRange r → ¬ IsTrue (has y (old r))
  no_ranges r y range link =
      let (x, t, at, is, linked) = (before.linked.exact r y (λ mark. let (x, at) = before.known r mark in range (no_range words r x at))).0 link in
      range (no_range words r x at)

  no_name : (a : Node) → ¬ IsTrue (has a more) → (scope word : ℕ) (y : Node) → a ≡ Name scope word → drops_scope (form_of s) scope ≡ true → ¬ IsTrue (has y (old (Name scope word)))
  no_name a out scope word y same drops link = out (subst (λ n. IsTrue (has n more)) (sym same) (marked.gone scope word y drops link))

  no_tree : (a d : Node) → from_over s a ≡ None → IsLinkAt c words a d → ⊥
  no_tree a d none (z, u, at, is, link) = by (comes s sound b c over z)
    where
      by : Comes s sound c z → ⊥
      by (inr (none, apart)) = false≢true (sym apart ∙ tree_stands c customs today z u is)
      by (inl (x, pair)) = let (first, origin, there) = node_from s sound words a x z (no_range words a z at) at pair in none_some first (sym none ∙ origin)

  exact : (a d : Node) → ¬ IsTrue (has a more) → IsTrue (has d (new a)) ↔ IsLinkAt c words a d
  exact a d out = by (from_over s a) refl
    where
      by : (o : Option Node) → from_over s a ≡ o → IsTrue (has d (new a)) ↔ IsLinkAt c words a d
      by None none = (λ h. absurd (no_link s old new sound before.inside shifted no_ranges a d (no_name a out) none h), λ link. absurd (no_tree a d none link))
      by (Some was) from = (came_forth a was d out from, came_back a was d out from)

  -- ---- values

  -- the nodes that reach no mark, each with where it was
  pub record IsTaken (x z : book.Node) : Type 0 where
    pub pair : Pair s x z
    pub free : ¬ ReachesMark c words more z
    pub node : Node
    pub at : node_at words node ≡ Some z

  module _ (x z : book.Node) (here : IsTaken x z) where
    node_out : ¬ IsTrue (has here.node more)
    node_out mark = here.free (marked_reaches c words more here.node z here.at mark)

    origin : (was : Node) × (from_over s here.node ≡ Some was) × (node_at words was ≡ Some x)
    origin = node_from s sound words here.node x z (no_range words here.node z here.at) here.at here.pair

  taken_bare : (x z : book.Node) (p : Place) → IsTaken x z → is_moved_cell s p ≡ true → needs c z (book.place p) ≡ true → is_bare b c p ≡ true
  taken_bare x z p here moved need = by (is_bare b c p) refl
    where
      by : (m : Bool) → is_bare b c p ≡ m → is_bare b c p ≡ true
      by true e = e
      by false e = absurd (here.free (need_reaches c words more z (book.place p) need (marked_reaches c words more (Cell p) (book.place p) refl (marked.moved p moved e))))

  are_taken : AreTaken s b c IsTaken
  are_taken = record {
    pairs = λ x z here. here.pair;
    ready = λ x z t here is. let (was, from, at) = origin x z here in ready here.node was (node_out x z here) from x t at is;
    settled = λ x z t here is. settled here.node z (rewritten s t) (node_out x z here) here.at (pair_tree s b c over x z here.pair ∙ ap (option_map (rewritten s)) is);
    closed = λ x z y w here needed need pair.
        let (n, at) = needed_known c words z w numbered need in
        record { pair = pair; free = λ reach. here.free (need_reaches c words more z w need reach); node = n; at = at };
    bare = λ x z p here moved needed need. taken_bare x z p here moved need;
  }

  -- what reaches no mark now reached none before
  none_before : (x z : book.Node) → IsTaken x z → ¬ ReachesMark b words marks x
  none_before x z here (m, y, mark, to, inl same) =
      let (was, from, at) = origin x z here in
      let one : was ≡ m = one_node words was m x numbered.once at (to ∙ ap Some (sym same)) in
      was_out here.node was (node_out x z here) from (subst (λ n. IsTrue (has n marks)) (sym one) mark)
  none_before x z here (m, y, mark, to, inr leads) = by (leads_forth s b c sound over IsTaken are_taken leads z here)
    where
      by : ((w : book.Node) × IsTaken y w × Leads c z w) ⊎ ((p : Place) × (y ≡ book.place p) × (is_moved_cell s p ≡ true) × Leads c z (book.place p)) → ⊥
      by (inl (w, there, chain)) =
          let (was, from, at) = origin y w there in
          let one : was ≡ m = one_node words was m y numbered.once at to in
          was_out there.node was (node_out y w there) from (subst (λ n. IsTrue (has n marks)) (sym one) mark)
      by (inr (p, same, moved, chain)) =
          let one : m ≡ Cell p = place_node words m p (to ∙ ap Some same) in
          here.free (Cell p, book.place p, marked.stay p moved (subst (λ n. IsTrue (has n marks)) one mark), refl, inr chain)

  module _ (a : Node) (apart : (z : book.Node) → node_at words a ≡ Some z → ¬ ReachesMark c words more z) (no_block : IsNoRange a) where
    -- one that was nowhere has nothing
    nothing : option_and_then (node_at words) (from_over s a) ≡ None → carried_kept (from_over s) kept a ≡ None
    nothing none = by (from_over s a) refl
      where
        by : (o : Option Node) → from_over s a ≡ o → option_and_then kept (from_over s a) ≡ None
        by None e = ap (option_and_then kept) e
        by (Some was) e =
            ap (option_and_then kept) e
            ∙ unknown_bare b words marks customs today kept was before.fit ((shifts_go_back s words sound).plain a was no_block e) (sym (ap (option_and_then (node_at words)) e) ∙ none)

    -- and one that was somewhere what it had there
    something : (x z : book.Node) → node_at words a ≡ Some z → Pair s x z → carried_kept (from_over s) kept a ≡ expected c customs today z
    something x z at pair =
        let here : IsTaken x z = record { pair = pair; free = apart z at; node = a; at = at } in
        let (was, from, there) = node_from s sound words a x z no_block at pair in
        ap (option_and_then kept) from
        ∙ before.fit was (λ y to. subst (λ n. ¬ ReachesMark b words marks n) (same_some x y (sym there ∙ to)) (none_before x z here)) ((shifts_go_back s words sound).plain a was no_block from)
        ∙ ap (expected_at b customs today) there
        ∙ sym (expected_stays s b c sound over IsTaken are_taken customs today x z here)

    kept_right : carried_kept (from_over s) kept a ≡ expected_at c customs today (node_at words a)
    kept_right = by (node_at words a) refl
      where
        goes_back : (o : Option book.Node) → node_at words a ≡ o → option_and_then (node_at words) (from_over s a) ≡ option_and_then (back_over s) o
        goes_back o at = (shifts_go_back s words sound).same a no_block ∙ ap (option_and_then (back_over s)) at

        at_node : (z : book.Node) → node_at words a ≡ Some z → Comes s sound c z → carried_kept (from_over s) kept a ≡ expected c customs today z
        at_node z at (inl (x, pair)) = something x z at pair
        at_node z at (inr (none, absent)) = nothing (goes_back (Some z) at ∙ none) ∙ sym (ap (λ t. cond t (Some (value_of c customs today z)) None) absent)

        by : (o : Option book.Node) → node_at words a ≡ o → carried_kept (from_over s) kept a ≡ expected_at c customs today (node_at words a)
        by None at = nothing (goes_back None at) ∙ sym (ap (expected_at c customs today) at)
        by (Some z) at = at_node z at (comes s sound b c over z) ∙ sym (ap (expected_at c customs today) at)

  pub follows : Follow c words customs today new more (carried_kept (from_over s) kept)
  follows = record {
    linked = record { numbered = numbered; exact = exact };
    inside = links_inside s old new sound before.inside shifted;
    known = known;
    fit = λ a apart plain. kept_right a apart plain;
  }

pub shifts_follow : ShiftsFollow
shifts_follow s b c words customs today old new marks more kept sound inside over numbered shifted marked known before =
    follows s b c words customs today old new marks more kept sound inside over numbered shifted marked known before
