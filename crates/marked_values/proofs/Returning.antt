-- After a dropped sheet came back, links and kept values follow. Serves the law.
use Rattle.std.proofs.Common.{◌≡◌, ◌∙◌, sym, ap, refl, subst, ℕ, ℤ, pos, Bool, true, false, cond, ◌==◌, eqb-true, List, [], Option, Some, None, is_some, option_map, ◌⊎◌, inl, inr}
use Rattle.std.specs.Prelude.{IsTrue}
use Rattle.std.specs.FinMap as map
use Rattle.std.proofs.lemmas.Bool.{false≢true}
use Rattle.std.proofs.lemmas.Option.{none-some, same_Some}
use Rattle.cell_addr.proofs.Wholes.{whole_of-whole_block}
use Rattle.cell_addr.specs.Whole.{whole_block, whole_of}
use Rattle.cell_addr.specs.declared.place.Block.{Block}
use Rattle.cell_addr.specs.declared.place.Place.{Place}
use Rattle.cell_addr.specs.declared.whole.Whole as ranges
use Rattle.custom_fn.specs.declared.rule.Rule.{Rule}
use Rattle.formula_tree.specs.Term.{Term}
use Rattle.formula_tree.specs.declared.reference.Corner.{Corner}
use Rattle.shift_core.specs.Tables.{block_after, place_after}
use Rattle.shift_core.specs.Wholes.{whole_after}
use Rattle.shift_core.specs.declared.shift.Shift.{Shift}
use Rattle.shift_core.specs.declared.shift.Shift.TheVariants.{DropSheet}
use Rattle.shift_core.proofs.PlaceLaws.{stays_on_drop}
use Rattle.book_values.specs.Book.{Content}
use Rattle.book_values.specs.Values.{value_of}
use Rattle.book_values.specs.Workbook as book
use Rattle.book_values.specs.Workbook.{Workbook, scope_sheet, tree_at}
use Rattle.dep_graph.specs.Needs.{Links}
use Rattle.dep_graph.specs.Nodes.{has}
use Rattle.dep_graph.specs.Shifted.{node_after}
use Rattle.dep_graph.specs.declared.node.Node.{Node}
use Rattle.dep_graph.specs.declared.node.Node.TheVariants.{Cell, Name, Range, Whole}
use Rattle.dep_graph.proofs.UnbentNodes.{mapped}
use Rattle.recalc_core.specs.Kept.{Kept, expected_at, stands}
use Rattle.recalc_core.specs.Moves.{From}
use Rattle.recalc_core.specs.Nodes.{AreNumbered, node_at}
use Rattle.recalc_core.proofs.Bridge.{same_some}
use Rattle.recalc_core.proofs.Linking.{one_node}
use Rattle.recalc_core.proofs.Worked.{leads_none, no_range, tree_stands}
use Rattle.marked_values.specs.Marks.{Follow, IsBookInside, ReachesMark}
use Rattle.marked_values.specs.Shifts.{AreMarksReturned, IsBookAfter, ReturnsFollow}
use Rattle.marked_values.proofs.Origins.{Comes, comes}
use Rattle.marked_values.proofs.Pairs.{Pair, pair_stands}
use Rattle.marked_values.proofs.Reaching.{unknown_bare}
use Rattle.marked_values.proofs.Undoing.{AreBack, AreLinksBack, follows_again}

module _ (sheet : ℕ) where
  abbrev drop : Shift
  drop = DropSheet sheet

  -- what isn't dropped stays where it is
  place_stays : (p : Place) → (p.sheet == sheet) ≡ false → place_after drop p ≡ Some p
  place_stays p other = ap (λ t. cond t None (Some p)) other

  pair_same : (x z : book.Node) → Pair drop x z → x ≡ z
  pair_same (book.place p) (book.place q) (inside, goes) = ap book.place (stays_on_drop sheet p q goes)
  pair_same (book.name key) (book.name other) (stays, same) = ap book.name (sym same)
  pair_same (book.place p) (book.name other) pair = absurd pair
  pair_same (book.name key) (book.place q) pair = absurd pair

  block_same : (block after : Block) → block_after drop block ≡ Some after → block ≡ after
  block_same block after goes = by (block.sheet == sheet) goes
    where
      by : (t : Bool) → cond t None (Some block) ≡ Some after → block ≡ after
      by true e = absurd (none-some after e)
      by false e = same_Some block after e

  whole_same : (w after : ranges.Whole) → whole_after drop w ≡ Some after → w ≡ after
  whole_same w after goes = by ((whole_block w).sheet == sheet) goes
    where
      by : (t : Bool) → option_map (whole_of w.axis) (cond t None (Some (whole_block w))) ≡ Some after → w ≡ after
      by true e = absurd (none-some after e)
      by false e = sym (whole_of-whole_block w) ∙ same_Some (whole_of w.axis (whole_block w)) after e

  node_same : (d y : Node) → node_after drop d ≡ Some y → d ≡ y
  node_same (Cell p) y goes = let (q, to, same) = mapped Cell (place_after drop p) y goes in ap Cell (stays_on_drop sheet p q to) ∙ same
  node_same (Name scope word) y goes = same_Some (Name scope word) y goes
  node_same (Range block) y goes = let (after, to, same) = mapped Range (block_after drop block) y goes in ap Range (block_same block after to) ∙ same
  node_same (Whole w) y goes = let (after, to, same) = mapped Whole (whole_after drop w) y goes in ap Whole (whole_same w after to) ∙ same

  -- each node stays where it is
  abbrev stay_put : From
  stay_put a = Some a

  module _ (b c : Workbook) (words : List (List ℕ)) (customs : List (List ℕ × Rule)) (today : ℤ) (links : Links) (marks more : List Node) (kept : Kept)
      (inside : IsBookInside b) (over : IsBookAfter drop b c) (numbered : AreNumbered words b.names) (marked : AreMarksReturned sheet b words marks more)
      (before : Follow c words customs today links marks kept) where
    -- what the workbook has and isn't marked wasn't dropped
    kept_place : (a : Node) (p : Place) → node_at words a ≡ Some (book.place p) → ¬ IsTrue (has a more) → stands b (book.place p) ≡ true → Pair drop (book.place p) (book.place p)
    kept_place a p at out there = by (map.get b.cells p) refl (p.sheet == sheet) refl
      where
        by : (o : Option Content) → map.get b.cells p ≡ o → (t : Bool) → (p.sheet == sheet) ≡ t → Pair drop (book.place p) (book.place p)
        by None e t on = absurd (false≢true (sym (ap is_some e) ∙ there))
        by (Some content) e true on = absurd (out (marked.returned a (book.place p) at (eqb-true p.sheet sheet on) there))
        by (Some content) e false off = (inside.cells p content e, place_stays p off)

    kept_pair : (a : Node) (x : book.Node) → node_at words a ≡ Some x → ¬ IsTrue (has a more) → stands b x ≡ true → Pair drop x x
    kept_pair a (book.place p) at out there = kept_place a p at out there
    kept_pair a (book.name key) at out there = by (scope_sheet key.scope == sheet) refl
      where
        by : (t : Bool) → (scope_sheet key.scope == sheet) ≡ t → Pair drop (book.name key) (book.name key)
        by true on = absurd (out (marked.returned a (book.name key) at (eqb-true (scope_sheet key.scope) sheet on) there))
        by false off = (off, refl)

    -- what it hasn't wasn't there without the sheet, and nothing is kept of it
    absent : (x : book.Node) → stands b x ≡ false → stands c x ≡ false
    absent x none = by (comes drop tt b c over x)
      where
        by : Comes drop tt c x → stands c x ≡ false
        by (inl (y, pair)) = pair_stands drop b c over y x pair ∙ ap (stands b) (pair_same y x pair) ∙ none
        by (inr (nowhere, not_there)) = not_there

    bare : (x : book.Node) → stands c x ≡ false → tree_at c x ≡ None
    bare x none = by (tree_at c x) refl
      where
        by : (o : Option (Term Corner)) → tree_at c x ≡ o → tree_at c x ≡ None
        by None e = e
        by (Some t) e = absurd (false≢true (sym none ∙ tree_stands c customs today x t e))

    free : (a : Node) (x : book.Node) → node_at words a ≡ Some x → ¬ IsTrue (has a more) → stands b x ≡ false → ¬ ReachesMark c words marks x
    free a x at out none (m, y, mark, to, inl same) =
        out (marked.stay a (subst (λ n. IsTrue (has n marks)) (one_node words m a x numbered.once (to ∙ ap Some (sym same)) at) mark))
    free a x at out none (m, y, mark, to, inr leads) = leads_none c [] (pos 0) leads (bare x (absent x none))

    nothing_kept : (a : Node) (x : book.Node) → node_at words a ≡ Some x → ¬ IsTrue (has a more) → stands b x ≡ false → kept a ≡ None
    nothing_kept a x at out none =
        before.fit a (λ y to. subst (λ n. ¬ ReachesMark c words marks n) (same_some x y (sym at ∙ to)) (free a x at out none)) (no_range words a x at)
        ∙ ap (expected_at c customs today) at
        ∙ ap (λ t. cond t (Some (value_of c customs today x)) None) (absent x none)

    comes_back : (a : Node) (x : book.Node) → node_at words a ≡ Some x → ¬ IsTrue (has a more) → ((z : book.Node) × Pair drop x z) ⊎ ((stands b x ≡ false) × (kept a ≡ None))
    comes_back a x at out = by (stands b x) refl
      where
        by : (t : Bool) → stands b x ≡ t → ((z : book.Node) × Pair drop x z) ⊎ ((stands b x ≡ false) × (kept a ≡ None))
        by true e = inl (x, kept_pair a x at out e)
        by false e = inr (e, nothing_kept a x at out e)

    are_back : AreBack drop b c words marks more stay_put kept kept
    are_back = record {
      comes = comes_back;
      same = λ a was from. ap kept (same_Some a was from);
      unknown = λ a plain none. unknown_bare c words marks customs today kept a before.fit plain none;
      origin = λ a x z at pair. (a, refl, at ∙ ap Some (pair_same x z pair));
      target = λ a was x z from to pair. ap (node_at words) (same_Some a was from) ∙ to ∙ ap Some (sym (pair_same x z pair));
      follow = λ a was from mark. marked.stay a (subst (λ n. IsTrue (has n marks)) (sym (same_Some a was from)) mark);
      stay = λ p moved mark. absurd (false≢true moved);
      moved = λ p moved filled. absurd (false≢true moved);
      bent = marked.bent;
      asking = marked.asking;
    }

    are_links_back : AreLinksBack drop b c words customs today links links marks more kept kept stay_put tt inside over numbered are_back before
    are_links_back = record {
      nowhere = λ a d out none. absurd (none-some a (sym none));
      came = λ a was d out from h. (d, subst (λ n. IsTrue (has d (links n))) (same_Some a was from) h, λ e still in_limits goes. node_same e d goes);
      goes = λ a was d y out from link still in_limits goes.
          subst (λ n. IsTrue (has n (links a))) (sym (node_same d y goes)) (subst (λ n. IsTrue (has y (links n))) (sym (same_Some a was from)) link);
      limits = before.inside;
    }

pub returns_follow : ReturnsFollow
returns_follow sheet b c words customs today links marks more kept inside over numbered marked known before =
    follows_again (DropSheet sheet) b c words customs today links links marks more kept kept (stay_put sheet) tt inside over numbered
    (are_back sheet b c words customs today links marks more kept inside over numbered marked before) before known
    (are_links_back sheet b c words customs today links marks more kept inside over numbered marked before)
