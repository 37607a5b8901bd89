-- After an operation was undone, links and kept values follow the workbook from before it: what is the same whether it was taken back
-- by another operation or a dropped sheet came back. Serves the laws.
use Rattle.std.proofs.Common.{◌≡◌, ◌∙◌, sym, ap, refl, subst, ℕ, ℤ, Bool, true, false, cond, List, Option, Some, None, is_none, option_map, ◌⊎◌, inl, inr}
use Rattle.std.specs.Prelude.{IsTrue, ◌↔◌}
use Rattle.std.specs.FinMap as map
use Rattle.std.proofs.lemmas.Bool.{and_parts, false_from_ne_true, false≢true, or_left}
use Rattle.std.proofs.lemmas.Option.{same_Some}
use Rattle.cell_addr.specs.Place.{covers}
use Rattle.cell_addr.specs.declared.place.Place.{Place}
use Rattle.cell_addr.specs.declared.whole.Whole as ranges
use Rattle.custom_fn.specs.declared.rule.Rule.{Rule}
use Rattle.formula_tree.specs.Reference.{sheet_of}
use Rattle.formula_tree.specs.Term.{Term}
use Rattle.formula_tree.specs.declared.reference.Corner.{Corner}
use Rattle.shift_core.specs.Carried.{carried_place, destination}
use Rattle.shift_core.specs.Form.{form_of}
use Rattle.shift_core.specs.Sound.{IsSound}
use Rattle.shift_core.specs.Tables.{place_after, place_moved}
use Rattle.shift_core.specs.Wholes.{whole_after}
use Rattle.shift_core.specs.declared.form.Form.{Form}
use Rattle.shift_core.specs.declared.form.Form.TheVariants.{Cells, Lines, Sheet}
use Rattle.shift_core.specs.declared.shift.Shift.{Shift}
use Rattle.shift_core.proofs.CellMoves.{cases_chosen}
use Rattle.shift_core.proofs.WholeMoves.{lost_whole_bent}
use Rattle.tree_rewrite.specs.Rewritten.{rewritten}
use Rattle.book_values.specs.Values.{value_of}
use Rattle.book_values.specs.Workbook as book
use Rattle.book_values.specs.Workbook.{Workbook, content_tree, home_of, needs, tree_at}
use Rattle.carried_books.specs.Moved.{is_bare}
use Rattle.carried_books.proofs.Moved.{none_there}
use Rattle.dep_graph.specs.Bent.{Bends}
use Rattle.dep_graph.specs.Laws.{AreLinksInside, IsNoRange, IsNodeInside}
use Rattle.dep_graph.specs.Needs.{Links}
use Rattle.dep_graph.specs.Nodes.{has}
use Rattle.dep_graph.specs.Shifted.{node_after}
use Rattle.dep_graph.specs.declared.node.Node.{Node}
use Rattle.dep_graph.specs.declared.node.Node.TheVariants.{Cell, Name, Range, Whole}
use Rattle.recalc_core.specs.Kept.{Kept, expected, expected_at, stands}
use Rattle.recalc_core.specs.Laws.{AreKnown}
use Rattle.recalc_core.specs.Links.{IsLinkAt, IsLinkOf}
use Rattle.recalc_core.specs.Moves.{From}
use Rattle.recalc_core.specs.Nodes.{AreNumbered, node_at}
use Rattle.recalc_core.proofs.Bridge.{none_some, same_some}
use Rattle.recalc_core.proofs.Linking.{one_node}
use Rattle.recalc_core.proofs.Worked.{no_range, tree_stands}
use Rattle.marked_values.specs.Marks.{Follow, IsBookInside, Leads, ReachesMark}
use Rattle.marked_values.specs.Shifts.{IsBookAfter, asks_place, is_moved_cell, is_moved_in}
use Rattle.marked_values.proofs.Alone.{place_node}
use Rattle.marked_values.proofs.Origins.{Comes, comes}
use Rattle.marked_values.proofs.PairLinks.{linked_came, linked_goes}
use Rattle.marked_values.proofs.Pairs.{FindsSame, IsSettled, Pair, pair_finds, pair_tree}
use Rattle.marked_values.proofs.PairValues.{AreTaken, IsReady, expected_stays, leads_back, tree_was}
use Rattle.marked_values.proofs.Reaching.{marked_reaches, need_reaches, needed_known}
use Rattle.marked_values.proofs.StillTrees.{some_block}
use Rattle.marked_values.proofs.TreeLinks.{linked_inside}

-- a moved cell comes from a moved one
pub moved_before : (f : Form) (p q : Place) → is_moved_in f q ≡ true → place_moved f p ≡ Some q → is_moved_in f p ≡ true
moved_before (Lines sheet axis edit) p q moved goes = moved
moved_before (Sheet sheet) p q moved goes = moved
moved_before (Cells source to) p q moved goes = by (cases_chosen (covers source p) (covers (destination source to) p) (carried_place source to p) p q goes)
  where
    by : ((covers source p ≡ true) × (q ≡ carried_place source to p)) ⊎ ((covers source p ≡ false) × (covers (destination source to) p ≡ false) × (q ≡ p)) → is_moved_in (Cells source to) p ≡ true
    by (inl (away, is)) = or_left (covers source p) (covers (destination source to) p) away
    by (inr (out, apart, is)) = sym (ap (is_moved_in (Cells source to)) is) ∙ moved

-- a node that isn't bent goes somewhere
pub goes_somewhere : (s : Shift) (d : Node) → ¬ Bends s d → (y : Node) × (node_after s d ≡ Some y)
goes_somewhere s (Cell p) still = by (place_after s p) refl
  where
    by : (o : Option Place) → place_after s p ≡ o → (y : Node) × (option_map Cell (place_after s p) ≡ Some y)
    by None e = absurd (still e)
    by (Some q) e = (Cell q, ap (option_map Cell) e)
goes_somewhere s (Name scope word) still = (Name scope word, refl)
goes_somewhere s (Range block) still = let (after, goes) = some_block (form_of s) block (λ bent. still (inl bent)) in (Range after, ap (option_map Range) goes)
goes_somewhere s (Whole w) still = by (whole_after s w) refl
  where
    by : (o : Option ranges.Whole) → whole_after s w ≡ o → (y : Node) × (option_map Whole (whole_after s w) ≡ Some y)
    by None e = absurd (still (lost_whole_bent (form_of s) w e))
    by (Some after) e = (Whole after, ap (option_map Whole) e)

-- where nodes of the workbook from before an operation were while it stood, what is kept of them, and which are marked
pub record AreBack (s : Shift) (b c : Workbook) (words : List (List ℕ)) (marks more : List Node) (from : From) (old_kept new_kept : Kept) : Type 0 where
  pub comes : (a : Node) (x : book.Node) → node_at words a ≡ Some x → ¬ IsTrue (has a more) → ((z : book.Node) × Pair s x z) ⊎ ((stands b x ≡ false) × (new_kept a ≡ None))
  pub same : (a was : Node) → from a ≡ Some was → new_kept a ≡ old_kept was
  pub unknown : (a : Node) → IsNoRange a → node_at words a ≡ None → new_kept a ≡ None
  pub origin : (a : Node) (x z : book.Node) → node_at words a ≡ Some x → Pair s x z → (was : Node) × (from a ≡ Some was) × (node_at words was ≡ Some z)
  pub target : (a was : Node) (x z : book.Node) → from a ≡ Some was → node_at words was ≡ Some z → Pair s x z → node_at words a ≡ Some x
  pub follow : (a was : Node) → from a ≡ Some was → IsTrue (has was marks) → IsTrue (has a more)
  pub stay : (p : Place) → is_moved_cell s p ≡ true → IsTrue (has (Cell p) marks) → IsTrue (has (Cell p) more)
  pub moved : (p : Place) → is_moved_cell s p ≡ true → is_bare b c p ≡ false → IsTrue (has (Cell p) more)
  pub bent : (a d : Node) → IsLinkAt b words a d → Bends s d → IsTrue (has a more)
  pub asking : (a : Node) (x : book.Node) (t : Term Corner) → node_at words a ≡ Some x → tree_at b x ≡ Some t → asks_place t ≡ true → IsTrue (has a more)

module _ (s : Shift) (b c : Workbook) (words : List (List ℕ)) (customs : List (List ℕ × Rule)) (today : ℤ) (old new : Links) (marks more : List Node) (kept new_kept : Kept) (from : From)
    (sound : IsSound s) (inside : IsBookInside b) (over : IsBookAfter s b c) (numbered : AreNumbered words b.names) (back : AreBack s b c words marks more from kept new_kept)
    (before : Follow c words customs today old marks kept) where
  -- ---- a node that isn't marked

  straight : (a d : Node) → ¬ IsTrue (has a more) → IsLinkAt b words a d → ¬ Bends s d
  straight a d out link bends = out (back.bent a d link bends)

  ready : (a : Node) (x : book.Node) (t : Term Corner) → ¬ IsTrue (has a more) → node_at words a ≡ Some x → tree_at b x ≡ Some t → IsReady s t
  ready a x t out at is = record {
    fits = inside.trees x t is;
    unbent = record {
      cells = λ p h. somewhere p (straight a (Cell p) out (x, t, at, is, h)) (place_after s p) refl;
      areas = λ block h. let still = straight a (Range block) out (x, t, at, is, h) in (λ bent. still (inl bent), λ cut. still (inr cut));
      wholes = λ w h. straight a (Whole w) out (x, t, at, is, h);
    };
    asks = false_from_ne_true (asks_place t) (λ asks. out (back.asking a x t at is asks));
  }
    where
      somewhere : (p : Place) → ¬ (place_after s p ≡ None) → (o : Option Place) → place_after s p ≡ o → (q : Place) × (place_after s p ≡ Some q)
      somewhere p still None e = absurd (still e)
      somewhere p still (Some q) e = (q, e)

  -- its formula is of no moved cell
  settled : (a : Node) (x z : book.Node) (t : Term Corner) → ¬ IsTrue (has a more) → node_at words a ≡ Some x → Pair s x z → tree_at b x ≡ Some t → IsSettled s z
  settled a (book.place p) (book.place q) t out at (in_limits, goes) is =
      false_from_ne_true (is_moved_cell s q) (λ moved. out (subst (λ n. IsTrue (has n more)) (sym (place_node words a p at)) (back.moved p (moved_before (form_of s) p q moved goes) filled)))
    where
      filled : is_bare b c p ≡ false
      filled = false_from_ne_true (is_bare b c p) (λ bare.
          let none = none_there (map.get b.cells p) (and_parts (is_none (map.get b.cells p)) (is_none (map.get c.cells p)) bare).0 in
          none_some t (sym (ap content_tree none) ∙ is))
  settled a (book.name key) (book.name other) t out at pair is = tt
  settled a (book.place p) (book.name other) t out at pair is = tt
  settled a (book.name key) (book.place q) t out at pair is = absurd pair

  finds : (a : Node) (x z : book.Node) (t : Term Corner) → ¬ IsTrue (has a more) → node_at words a ≡ Some x → Pair s x z → tree_at b x ≡ Some t → FindsSame s b c over x z
  finds a x z t out at pair is = pair_finds s b c over x z pair (settled a x z t out at pair is)

  -- ---- links

  module _ (a was : Node) (out : ¬ IsTrue (has a more)) (came : from a ≡ Some was) where
    was_out : ¬ IsTrue (has was marks)
    was_out mark = out (back.follow a was came mark)

    -- what it was linked to comes from what its formula is linked to
    pub was_linked : (y : Node) → IsTrue (has y (old was)) → (d : Node) × IsLinkAt b words a d × (¬ Bends s d) × IsNodeInside d × (node_after s d ≡ Some y)
    was_linked y h =
        let (z, u, to, after_it, link) = (before.linked.exact was y was_out).0 h in
        by z u to after_it link (comes s sound b c over z)
      where
        by : (z : book.Node) (u : Term Corner) → node_at words was ≡ Some z → tree_at c z ≡ Some u → IsLinkOf words c.names (sheet_of (home_of z)) u y → Comes s sound c z
            → (d : Node) × IsLinkAt b words a d × (¬ Bends s d) × IsNodeInside d × (node_after s d ≡ Some y)
        by z u to after_it link (inr (none, apart)) = absurd (false≢true (sym apart ∙ tree_stands c customs today z u after_it))
        by z u to after_it link (inl (x, pair)) =
            let at = back.target a was x z came to pair in
            let (t, is) = tree_was s (tree_at b x) u (sym (pair_tree s b c over x z pair) ∙ after_it) in
            let same : u ≡ rewritten s t = same_Some u (rewritten s t) (sym after_it ∙ pair_tree s b c over x z pair ∙ ap (option_map (rewritten s)) is) in
            let (d, linked, goes) = linked_came s b c over words x z t (finds a x z t out at pair is) y (subst (λ v. IsLinkOf words c.names (sheet_of (home_of z)) v y) same link) in
            let here : IsLinkAt b words a d = (x, t, at, is, linked) in
            (d, here, straight a d out here, linked_inside words b.names (sheet_of (home_of x)) t d (inside.trees x t is) linked, goes)

    -- and what its formula is linked to is where it was linked to
    pub is_linked : (d : Node) → IsLinkAt b words a d → (y : Node) × IsTrue (has y (old was)) × (¬ Bends s d) × IsNodeInside d × (node_after s d ≡ Some y)
    is_linked d (x, t, at, is, link) = by (back.comes a x at out)
      where
        by : ((z : book.Node) × Pair s x z) ⊎ ((stands b x ≡ false) × (new_kept a ≡ None)) → (y : Node) × IsTrue (has y (old was)) × (¬ Bends s d) × IsNodeInside d × (node_after s d ≡ Some y)
        by (inr (absent, none)) = absurd (false≢true (sym absent ∙ tree_stands b customs today x t is))
        by (inl (z, pair)) =
            let (first, origin, to) = back.origin a x z at pair in
            let one : first ≡ was = same_Some first was (sym origin ∙ came) in
            let still = straight a d out (x, t, at, is, link) in
            let (y, goes) = goes_somewhere s d still in
            let after_it : tree_at c z ≡ Some (rewritten s t) = pair_tree s b c over x z pair ∙ ap (option_map (rewritten s)) is in
            let linked = linked_goes s b c over words x z t (finds a x z t out at pair is) d y link goes in (
              y,
              (before.linked.exact was y was_out).1 (z, rewritten s t, ap (node_at words) (sym one) ∙ to, after_it, linked),
              still,
              linked_inside words b.names (sheet_of (home_of x)) t d (inside.trees x t is) link,
              goes,
            )

  -- what was nowhere has no formula
  no_tree : (a d : Node) → ¬ IsTrue (has a more) → from a ≡ None → IsLinkAt b words a d → ⊥
  no_tree a d out none (x, t, at, is, link) = by (back.comes a x at out)
    where
      by : ((z : book.Node) × Pair s x z) ⊎ ((stands b x ≡ false) × (new_kept a ≡ None)) → ⊥
      by (inr (absent, nothing)) = false≢true (sym absent ∙ tree_stands b customs today x t is)
      by (inl (z, pair)) = let (first, origin, to) = back.origin a x z at pair in none_some first (sym none ∙ origin)

  -- links that went back
  pub record AreLinksBack : Type 0 where
    pub nowhere : (a d : Node) → ¬ IsTrue (has a more) → from a ≡ None → ¬ IsTrue (has d (new a))
    pub came : (a was d : Node) → ¬ IsTrue (has a more) → from a ≡ Some was → IsTrue (has d (new a))
        → (y : Node) × IsTrue (has y (old was)) × ((e : Node) → ¬ Bends s e → IsNodeInside e → node_after s e ≡ Some y → e ≡ d)
    pub goes : (a was d y : Node) → ¬ IsTrue (has a more) → from a ≡ Some was → IsTrue (has y (old was)) → ¬ Bends s d → IsNodeInside d → node_after s d ≡ Some y → IsTrue (has d (new a))
    pub limits : AreLinksInside new

  -- ---- values

  -- the nodes that reach no mark, each with where it was
  pub record IsTaken (x z : book.Node) : Type 0 where
    pub pair : Pair s x z
    pub free : ¬ ReachesMark b words more x
    pub node : Node
    pub at : node_at words node ≡ Some x

  node_out : (x z : book.Node) (here : IsTaken x z) → ¬ IsTrue (has here.node more)
  node_out x z here mark = here.free (marked_reaches b words more here.node x here.at mark)

  taken_bare : (x z : book.Node) (p : Place) → IsTaken x z → is_moved_cell s p ≡ true → needs b x (book.place p) ≡ true → is_bare b c p ≡ true
  taken_bare x z p here moved need = by (is_bare b c p) refl
    where
      by : (m : Bool) → is_bare b c p ≡ m → is_bare b c p ≡ true
      by true e = e
      by false e = absurd (here.free (need_reaches b words more x (book.place p) need (marked_reaches b words more (Cell p) (book.place p) refl (back.moved p moved e))))

  are_taken : AreTaken s b c IsTaken
  are_taken = record {
    pairs = λ x z here. here.pair;
    ready = λ x z t here is. ready here.node x t (node_out x z here) here.at is;
    settled = λ x z t here is. settled here.node x z t (node_out x z here) here.at here.pair is;
    closed = λ x z y w here needed need pair.
        let (n, at) = needed_known b words x y numbered needed in
        record { pair = pair; free = λ reach. here.free (need_reaches b words more x y needed reach); node = n; at = at };
    bare = λ x z p here moved needed need. taken_bare x z p here moved needed;
  }

  -- what reaches no mark now reached none while the operation stood
  none_before : (x z : book.Node) → IsTaken x z → ¬ ReachesMark c words marks z
  none_before x z here (m, w, mark, to, inl same) =
      let (was, came, at) = back.origin here.node x z here.at here.pair in
      let one : m ≡ was = one_node words m was w numbered.once to (at ∙ ap Some same) in
      node_out x z here (back.follow here.node was came (subst (λ n. IsTrue (has n marks)) one mark))
  none_before x z here (m, w, mark, to, inr leads) = by (leads_back s b c sound over IsTaken are_taken leads x here)
    where
      by : ((y : book.Node) × IsTaken y w × Leads b x y) ⊎ ((p : Place) × (w ≡ book.place p) × (is_moved_cell s p ≡ true) × Leads b x (book.place p)) → ⊥
      by (inl (y, there, chain)) =
          let (was, came, at) = back.origin there.node y w there.at there.pair in
          let one : m ≡ was = one_node words m was w numbered.once to at in
          node_out y w there (back.follow there.node was came (subst (λ n. IsTrue (has n marks)) one mark))
      by (inr (p, same, moved, chain)) =
          let one : m ≡ Cell p = place_node words m p (to ∙ ap Some same) in
          here.free (Cell p, book.place p, back.stay p moved (subst (λ n. IsTrue (has n marks)) one mark), refl, inr chain)

  kept_right : (a : Node) → ((x : book.Node) → node_at words a ≡ Some x → ¬ ReachesMark b words more x) → IsNoRange a → new_kept a ≡ expected_at b customs today (node_at words a)
  kept_right a apart plain = by (node_at words a) refl
    where
      something : (x z : book.Node) → node_at words a ≡ Some x → Pair s x z → new_kept a ≡ expected b customs today x
      something x z at pair =
          let here : IsTaken x z = record { pair = pair; free = apart x at; node = a; at = at } in
          let (was, came, to) = back.origin a x z at pair in
          back.same a was came
          ∙ before.fit was (λ w there. subst (λ n. ¬ ReachesMark c words marks n) (same_some z w (sym to ∙ there)) (none_before x z here)) (no_range words was z to)
          ∙ ap (expected_at c customs today) to
          ∙ expected_stays s b c sound over IsTaken are_taken customs today x z here

      at_node : (x : book.Node) → node_at words a ≡ Some x → ((z : book.Node) × Pair s x z) ⊎ ((stands b x ≡ false) × (new_kept a ≡ None)) → new_kept a ≡ expected b customs today x
      at_node x at (inl (z, pair)) = something x z at pair
      at_node x at (inr (absent, none)) = none ∙ sym (ap (λ t. cond t (Some (value_of b customs today x)) None) absent)

      by : (o : Option book.Node) → node_at words a ≡ o → new_kept a ≡ expected_at b customs today (node_at words a)
      by None at = back.unknown a plain at ∙ sym (ap (expected_at b customs today) at)
      by (Some x) at =
          at_node x at (back.comes a x at (λ mark. apart x at (marked_reaches b words more a x at mark)))
          ∙ sym (ap (expected_at b customs today) at)

  module _ (known : AreKnown words more) (links_back : AreLinksBack) where
    exact : (a d : Node) → ¬ IsTrue (has a more) → IsTrue (has d (new a)) ↔ IsLinkAt b words a d
    exact a d out = by (from a) refl
      where
        by : (o : Option Node) → from a ≡ o → IsTrue (has d (new a)) ↔ IsLinkAt b words a d
        by None none = (λ h. absurd (links_back.nowhere a d out none h), λ link. absurd (no_tree a d out none link))
        by (Some was) came = (
          λ h.
              let (y, link, only) = links_back.came a was d out came h in
              let (e, here, still, in_limits, goes) = was_linked a was out came y link in
              subst (IsLinkAt b words a) (only e still in_limits goes) here,
          λ here.
              let (y, link, still, in_limits, goes) = is_linked a was out came d here in
              links_back.goes a was d y out came link still in_limits goes,
        )

    pub follows_again : Follow b words customs today new more new_kept
    follows_again = record {
      linked = record { numbered = numbered; exact = exact };
      inside = links_back.limits;
      known = known;
      fit = λ a apart plain. kept_right a apart plain;
    }
