-- After an operation was taken back by its opposite, links and kept values follow. Serves the law.
use Rattle.std.proofs.Common.{◌≡◌, ◌∙◌, sym, ap, refl, subst, ℕ, ℤ, false, List, Option, Some, None, is_some, option_and_then, option_map, ◌⊎◌, inl, inr}
use Rattle.std.specs.Prelude.{IsTrue}
use Rattle.std.specs.FinMap as map
use Rattle.std.proofs.lemmas.Bool.{false≢true}
use Rattle.std.proofs.lemmas.Option.{none-some, same_Some}
use Rattle.cell_addr.specs.Place.{IsInside}
use Rattle.cell_addr.specs.declared.place.Place.{Place}
use Rattle.custom_fn.specs.declared.rule.Rule.{Rule}
use Rattle.shift_core.specs.Form.{form_of}
use Rattle.shift_core.specs.Opposite.{form_back, opposite_of}
use Rattle.shift_core.specs.Sound.{IsSound}
use Rattle.shift_core.specs.Tables.{block_after, place_after, place_before}
use Rattle.shift_core.specs.Wholes.{whole_after}
use Rattle.shift_core.specs.declared.form.Form.{Form}
use Rattle.shift_core.specs.declared.form.Form.TheVariants.{Cells, Lines, Sheet}
use Rattle.shift_core.specs.declared.shift.Shift.{Shift}
use Rattle.shift_core.proofs.Opposites.{back_sound, block_goes_back, form_of_opposite, place_goes_back}
use Rattle.shift_core.proofs.WholeMoves.{whole_goes_back}
use Rattle.shift_core.proofs.PlaceLaws.{place_moved_inside, place_moved_returns, place_returned_goes, place_returned_inside}
use Rattle.tree_rewrite.specs.Rewritten.{rewritten}
use Rattle.book_values.specs.Book.{Content}
use Rattle.book_values.specs.Names.{tree_in}
use Rattle.book_values.specs.Workbook as book
use Rattle.book_values.specs.Workbook.{Workbook, scope_sheet}
use Rattle.dep_graph.specs.Bent.{Bends, IsBentBy}
use Rattle.dep_graph.specs.Laws.{HaveGone, IsNoRange, IsNodeInside}
use Rattle.dep_graph.specs.Needs.{Links}
use Rattle.dep_graph.specs.Nodes.{has}
use Rattle.dep_graph.specs.Shifted.{AreShifted, node_after}
use Rattle.dep_graph.specs.declared.node.Node.{Node}
use Rattle.dep_graph.specs.declared.node.Node.TheVariants.{Cell, Name, Range, Whole}
use Rattle.dep_graph.proofs.InsideNodes.{links_inside}
use Rattle.dep_graph.proofs.UnbentNodes.{mapped, unbent_links}
use Rattle.recalc_core.specs.Kept.{Kept, stands}
use Rattle.recalc_core.specs.Laws.{AreKnown}
use Rattle.recalc_core.specs.Moves.{carried_kept}
use Rattle.recalc_core.specs.Nodes.{AreNumbered, node_at}
use Rattle.recalc_core.specs.Shifted.{back_over, drops_scope, from_over}
use Rattle.recalc_core.proofs.Bridge.{none_some, same_some}
use Rattle.recalc_core.proofs.Shifted.{shifts_go_back}
use Rattle.recalc_core.proofs.Worked.{no_range}
use Rattle.marked_values.specs.Marks.{Follow, IsBookInside}
use Rattle.marked_values.specs.Shifts.{AreMarksBack, IsBookAfter, ShiftsGoBackFollow}
use Rattle.marked_values.proofs.Alone.{place_node}
use Rattle.marked_values.proofs.NoLinks.{no_link}
use Rattle.marked_values.proofs.Origins.{back_pair, node_from, node_was, pair_over, was_at}
use Rattle.marked_values.proofs.Pairs.{Pair, pair_back, some_mapped}
use Rattle.marked_values.proofs.Reaching.{unknown_bare}
use Rattle.marked_values.proofs.Undoing.{AreBack, AreLinksBack, follows_again, was_linked}

-- an operation with an opposite drops no names, and neither does that
keeps_names : (f g : Form) (scope : ℕ) → form_back f ≡ Some g → (drops_scope f scope ≡ false) × (drops_scope g scope ≡ false)
keeps_names (Lines sheet axis edit) g scope e = (refl, ap (λ h. drops_scope h scope) (sym (same_Some _ g e)))
keeps_names (Cells source to) g scope e = (refl, ap (λ h. drops_scope h scope) (sym (same_Some _ g e)))
keeps_names (Sheet sheet) g scope e = absurd (none-some g e)

module _ (s back : Shift) (sound : IsSound s) (opposite : opposite_of s ≡ Some back) where
  pub back_is_sound : IsSound back
  back_is_sound = back_sound (form_of s) (form_of back) sound (form_of_opposite s back opposite)

  pub keeps : (scope : ℕ) → (drops_scope (form_of s) scope ≡ false) × (drops_scope (form_of back) scope ≡ false)
  keeps scope = keeps_names (form_of s) (form_of back) scope (form_of_opposite s back opposite)

  by_opposite : (p : Place) → IsInside p → place_after back p ≡ place_before s p
  by_opposite p inside = place_goes_back (form_of s) (form_of back) p sound (form_of_opposite s back opposite) inside

  -- what the one takes there the other takes back
  pub turned : (x z : book.Node) → Pair s x z → Pair back z x
  turned (book.place p) (book.place q) (inside, goes) =
      let there = place_moved_inside (form_of s) p q sound inside goes in
      (there, by_opposite q there ∙ place_moved_returns (form_of s) p q sound inside goes)
  turned (book.name key) (book.name other) (stays, same) = ((keeps (scope_sheet other.scope)).1, sym same)
  turned (book.place p) (book.name other) pair = absurd pair
  turned (book.name key) (book.place q) pair = absurd pair

  turned_back : (x z : book.Node) → Pair back z x → Pair s x z
  turned_back (book.place p) (book.place q) (inside, goes) =
      let was : place_before s q ≡ Some p = sym (by_opposite q inside) ∙ goes in
      (place_returned_inside (form_of s) p q sound inside was, place_returned_goes (form_of s) p q sound inside was)
  turned_back (book.name key) (book.name other) (stays, same) = ((keeps (scope_sheet key.scope)).0, sym same)
  turned_back (book.place p) (book.name other) pair = absurd pair
  turned_back (book.name key) (book.place q) pair = absurd pair

  -- a node that isn't bent goes back, and isn't bent then
  node_turned : (d y : Node) → ¬ Bends s d → IsNodeInside d → node_after s d ≡ Some y → (node_after back y ≡ Some d) × (¬ Bends back y)
  node_turned (Cell p) y still inside goes =
      let (q, to, same) = mapped Cell (place_after s p) y goes in
      let (there, returns) = turned (book.place p) (book.place q) (inside, to) in
      subst (λ n. (node_after back n ≡ Some (Cell p)) × (¬ Bends back n)) same (ap (option_map Cell) returns, λ lost. none_some p (sym lost ∙ returns))
  node_turned (Name scope word) y still inside goes =
      subst (λ n. (node_after back n ≡ Some (Name scope word)) × (¬ Bends back n)) (same_Some (Name scope word) y goes) (refl, λ never. never)
  node_turned (Range block) y still inside goes =
      let (after, to, same) = mapped Range (block_after s block) y goes in
      let returns = block_goes_back (form_of s) (form_of back) block after sound (form_of_opposite s back opposite) inside (λ bent. still (inl bent)) (λ cut. still (inr cut)) to in
      subst (λ n. (node_after back n ≡ Some (Range block)) × (¬ Bends back n)) same (ap (option_map Range) returns.0, λ bends. unbent returns.1 returns.2 bends)
    where
      unbent : {A B : Type 0} → ¬ A → ¬ B → A ⊎ B → ⊥
      unbent no_a no_b (inl a) = no_a a
      unbent no_a no_b (inr b) = no_b b
  node_turned (Whole w) y still inside goes =
      let (after, to, same) = mapped Whole (whole_after s w) y goes in
      let returns = whole_goes_back (form_of s) (form_of back) w after sound (form_of_opposite s back opposite) inside still to in
      subst (λ n. (node_after back n ≡ Some (Whole w)) × (¬ Bends back n)) same (ap (option_map Whole) returns.0, returns.1)

  module _ (b c : Workbook) (words : List (List ℕ)) (customs : List (List ℕ × Rule)) (today : ℤ) (old new : Links) (marks more : List Node) (kept : Kept)
      (inside : IsBookInside b) (over : IsBookAfter s b c) (shifted : AreShifted back old new) (marked : AreMarksBack s back b c words marks more)
      (before : Follow c words customs today old marks kept) where
    numbered : AreNumbered words b.names
    numbered = record {
      once = before.linked.numbered.once;
      all = λ key there. before.linked.numbered.all key (ap is_some (over.names key (keeps (scope_sheet key.scope)).0) ∙ some_mapped (rewritten s) (tree_in b.names key) ∙ there);
    }

    -- ---- where nodes were

    plain : (a was : Node) → from_over back a ≡ Some was → IsNoRange a
    plain (Cell p) was from = tt
    plain (Name scope word) was from = tt
    plain (Range block) was from = none_some was from
    plain (Whole w) was from = none_some was from

    nothing : (a : Node) → IsNoRange a → option_and_then (back_over back) (node_at words a) ≡ None → carried_kept (from_over back) kept a ≡ None
    nothing a no_block none = by (from_over back a) refl
      where
        by : (o : Option Node) → from_over back a ≡ o → option_and_then kept (from_over back a) ≡ None
        by None e = ap (option_and_then kept) e
        by (Some was) e =
            ap (option_and_then kept) e
            ∙ unknown_bare c words marks customs today kept was before.fit ((shifts_go_back back words back_is_sound).plain a was no_block e)
            (sym (ap (option_and_then (node_at words)) e) ∙ (shifts_go_back back words back_is_sound).same a no_block ∙ none)

    -- what comes from nowhere isn't there
    absent : (a : Node) (x : book.Node) → node_at words a ≡ Some x → ¬ IsTrue (has a more) → back_over back x ≡ None → stands b x ≡ false
    absent a (book.place p) at out none = by (map.get b.cells p) refl
      where
        lost : (o : Option Place) → IsInside p → place_after s p ≡ o → place_after s p ≡ None
        lost None in_limits e = e
        lost (Some q) in_limits e = absurd (none_some (book.place q) (sym none ∙ pair_over back back_is_sound (book.place q) (book.place p) (turned (book.place p) (book.place q) (in_limits, e))))

        by : (o : Option Content) → map.get b.cells p ≡ o → is_some (map.get b.cells p) ≡ false
        by None e = ap is_some e
        by (Some content) e =
            absurd (out (subst (λ n. IsTrue (has n more)) (sym (place_node words a p at)) (marked.removed p (lost (place_after s p) (inside.cells p content e) refl) (ap is_some e))))
    absent a (book.name key) at out none =
        absurd (none_some (book.name key) (sym none ∙ pair_over back back_is_sound (book.name key) (book.name key) ((keeps (scope_sheet key.scope)).1, refl)))

    comes_back : (a : Node) (x : book.Node) → node_at words a ≡ Some x → ¬ IsTrue (has a more) → ((z : book.Node) × Pair s x z) ⊎ ((stands b x ≡ false) × (carried_kept (from_over back) kept a ≡ None))
    comes_back a x at out = by (back_over back x) refl
      where
        by : (o : Option book.Node) → back_over back x ≡ o → ((z : book.Node) × Pair s x z) ⊎ ((stands b x ≡ false) × (carried_kept (from_over back) kept a ≡ None))
        by (Some z) e = inl (z, turned_back x z (back_pair back back_is_sound z x e))
        by None e = inr (absent a x at out e, nothing a (no_range words a x at) (ap (option_and_then (back_over back)) at ∙ e))

    reached : (a was : Node) (x z : book.Node) → from_over back a ≡ Some was → node_at words was ≡ Some z → Pair s x z → node_at words a ≡ Some x
    reached a was x z from to pair =
        let (y, at, other) = node_was back back_is_sound words a was z (plain a was from) from to in
        at ∙ ap Some (same_some y x (sym (pair_back s sound y z (turned_back y z other)) ∙ pair_back s sound x z pair))

    are_back : AreBack s b c words marks more (from_over back) kept (carried_kept (from_over back) kept)
    are_back = record {
      comes = comes_back;
      same = λ a was from. ap (option_and_then kept) from;
      unknown = λ a no_block none. nothing a no_block (ap (option_and_then (back_over back)) none);
      origin = λ a x z at pair. node_from back back_is_sound words a z x (no_range words a x at) at (turned x z pair);
      target = reached;
      follow = λ a was from mark. marked.follow a was (plain a was from) from mark;
      stay = marked.stay;
      moved = marked.moved;
      bent = marked.bent;
      asking = marked.asking;
    }

    -- ---- links

    no_ranges : (r y : Node) → ¬ IsNoRange r → ¬ IsTrue (has y (old r))
    no_ranges r y range link =
        let (x, t, at, is, linked) = (before.linked.exact r y (λ mark. let (x, at) = before.known r mark in range (no_range words r x at))).0 link in
        range (no_range words r x at)

    module _ (a was : Node) (out : ¬ IsTrue (has a more)) (from : from_over back a ≡ Some was) where
      unbent : ¬ IsBentBy back old was
      unbent (y, link, bends) =
          let (d, here, still, in_limits, goes) = was_linked s b c words customs today old new marks more kept (carried_kept (from_over back) kept) (from_over back) sound inside over numbered are_back before a was out from y link in
          (node_turned d y still in_limits goes).1 bends

      have_gone : HaveGone back (old was) (new a)
      have_gone =
          let (goes, no_block, in_limits) = was_at back back_is_sound a was from in
          unbent_links back old new was a back_is_sound before.inside in_limits no_block unbent goes shifted

      came : (d : Node) → IsTrue (has d (new a)) → (y : Node) × IsTrue (has y (old was)) × ((e : Node) → ¬ Bends s e → IsNodeInside e → node_after s e ≡ Some y → e ≡ d)
      came d h =
          let (y, link, both) = have_gone.1 d h in
          (y, link, λ e still in_limits goes. same_Some e d (sym (node_turned e y still in_limits goes).0 ∙ both.0))

      goes_back : (d y : Node) → IsTrue (has y (old was)) → ¬ Bends s d → IsNodeInside d → node_after s d ≡ Some y → IsTrue (has d (new a))
      goes_back d y link still in_limits goes =
          let (e, onto, both) = have_gone.0 y link in
          subst (λ n. IsTrue (has n (new a))) (same_Some e d (sym both.0 ∙ (node_turned d y still in_limits goes).0)) onto

    are_links_back : AreLinksBack s b c words customs today old new marks more kept (carried_kept (from_over back) kept) (from_over back) sound inside over numbered are_back before
    are_links_back = record {
      nowhere = λ a d out none. no_link back old new back_is_sound before.inside shifted no_ranges a d (λ scope word y same drops link. false≢true (sym (keeps scope).1 ∙ drops)) none;
      came = λ a was d out from h. came a was out from d h;
      goes = λ a was d y out from link still in_limits goes. goes_back a was out from d y link still in_limits goes;
      limits = links_inside back old new back_is_sound before.inside shifted;
    }

    pub follow_back : AreKnown words more → Follow b words customs today new more (carried_kept (from_over back) kept)
    follow_back known =
        follows_again s b c words customs today old new marks more kept (carried_kept (from_over back) kept) (from_over back) sound inside over numbered are_back before known are_links_back

pub shifts_go_back_follow : ShiftsGoBackFollow
shifts_go_back_follow s back b c words customs today old new marks more kept sound opposite inside over shifted marked known before =
    follow_back s back sound opposite b c words customs today old new marks more kept inside over shifted marked before known
