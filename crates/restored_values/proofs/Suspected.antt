-- What an operation bent is suspect in the workbook that it led to, and comes back where it is taken back. Serves the laws.
use Rattle.std.proofs.Common.{◌≡◌, ◌∙◌, sym, ap, refl, subst, ℕ, ℤ, true, false, List, ◌++◌, Option, Some, None, is_some, option_map, ◌⊎◌, inl, inr}
use Rattle.std.specs.Prelude.{IsTrue}
use Rattle.std.specs.FinMap as map
use Rattle.std.proofs.lemmas.Bool.{cases_Bool, false≢true}
use Rattle.cell_addr.specs.declared.place.Block.{Block}
use Rattle.cell_addr.specs.declared.place.Place.{Place}
use Rattle.cell_addr.specs.declared.whole.Whole as ranges
use Rattle.custom_fn.specs.declared.rule.Rule.{Rule}
use Rattle.formula_tree.specs.Reference.{sheet_of}
use Rattle.formula_tree.specs.Term.{Term}
use Rattle.formula_tree.specs.declared.reference.Corner.{Corner}
use Rattle.shift_core.specs.Opposite.{opposite_of}
use Rattle.shift_core.specs.Sound.{IsSound}
use Rattle.shift_core.specs.Tables.{block_after, place_after}
use Rattle.shift_core.specs.Wholes.{whole_after}
use Rattle.shift_core.specs.declared.shift.Shift.{Shift}
use Rattle.tree_rewrite.specs.Rewritten.{rewritten}
use Rattle.book_values.specs.Book.{Content}
use Rattle.book_values.specs.Workbook as book
use Rattle.book_values.specs.Workbook.{Workbook, content_tree, home_of, scope_sheet, tree_at}
use Rattle.carried_books.proofs.Moved.{tree_after}
use Rattle.dep_graph.specs.Bent.{Bends}
use Rattle.dep_graph.specs.Needs.{Links}
use Rattle.dep_graph.specs.Nodes.{has}
use Rattle.dep_graph.specs.Shifted.{node_after}
use Rattle.dep_graph.specs.declared.node.Node.{Node}
use Rattle.dep_graph.specs.declared.node.Node.TheVariants.{Cell, Name, Range, Whole}
use Rattle.dep_graph.proofs.Places.{has-append_left, has-append_right}
use Rattle.recalc_core.specs.Kept.{Kept}
use Rattle.recalc_core.specs.Links.{IsLinkAt, IsLinkOf}
use Rattle.recalc_core.specs.Nodes.{node_at}
use Rattle.recalc_core.proofs.Bridge.{none_some}
use Rattle.marked_values.specs.Gathered.{AreTakenAlong}
use Rattle.marked_values.specs.Marks.{Follow, IsBookInside}
use Rattle.marked_values.specs.Shifts.{IsBookAfter}
use Rattle.marked_values.proofs.Alone.{place_node}
use Rattle.marked_values.proofs.GoingBack.{keeps, shifts_go_back_follow, turned}
use Rattle.marked_values.proofs.MovedTrees.{area_goes, range_goes}
use Rattle.marked_values.proofs.Restored.{restored_are_marked}
use Rattle.marked_values.proofs.TreeLinks.{linked_inside}
use Rattle.restored_values.specs.Probes.{probe_of}
use Rattle.restored_values.specs.Suspects.{AreRemoved, AreSuspects, SuspectsAreRestored, SuspectsBringBack}
use Rattle.restored_values.proofs.LostLinks.{lost_are_seen}
use Rattle.restored_values.proofs.ProbedBlocks.{bent_are_probed}
use Rattle.restored_values.proofs.ProbedWholes.{bent_wholes_are_probed}

module _ (s back : Shift) (b c : Workbook) (words : List (List ℕ)) (customs : List (List ℕ × Rule)) (today : ℤ) (links : Links) (marks suspects more : List Node) (kept : Kept)
    (sound : IsSound s) (opposite : opposite_of s ≡ Some back) (inside : IsBookInside b) (over : IsBookAfter s b c) (follow : Follow c words customs today links marks kept)
    (gathered : AreSuspects s c words links suspects) (taken : AreTakenAlong back (marks ++ suspects) more) (removed : AreRemoved s b more) where
  -- ---- a formula that stands after the operation

  module _ (x : book.Node) (t : Term Corner) (is : tree_at b x ≡ Some t) (n : Node) (z : book.Node) (at : node_at words n ≡ Some z) (stands : tree_at c z ≡ Some (rewritten s t)) where
    abbrev Linked : Node → Type 0
    Linked d = IsLinkOf words b.names (sheet_of (home_of x)) t d

    -- it lost a reference
    lost : (d : Node) → Linked d → node_after s d ≡ None → IsTrue (has n (marks ++ suspects))
    lost d link none = has-append_right n marks suspects (gathered.lost n z (rewritten s t) at stands (lost_are_seen s words b.names (sheet_of (home_of x)) t d link none))

    -- or the probe bends what it is linked to then
    near : (after : Node) (probe : Shift) → IsLinkOf words c.names (sheet_of (home_of z)) (rewritten s t) after → probe_of s ≡ Some probe → Bends probe after → IsTrue (has n (marks ++ suspects))
    near after probe link named bends = by (cases_Bool (has n marks))
      where
        by : (has n marks ≡ true) ⊎ (has n marks ≡ false) → IsTrue (has n (marks ++ suspects))
        by (inl mark) = has-append_left n marks suspects mark
        by (inr out) =
            let linked : IsTrue (has after (links n)) = (follow.linked.exact n after (λ mark. false≢true (sym out ∙ mark))).1 (z, rewritten s t, at, stands, link) in
            has-append_right n marks suspects (gathered.bent probe n named (after, linked, bends))

    suspected : (d : Node) → Linked d → Bends s d → IsTrue (has n (marks ++ suspects))
    suspected (Cell p) link bends = lost (Cell p) link (ap (option_map Cell) bends)
    suspected (Name scope word) link bends = absurd bends
    suspected (Range block) link bends = by (block_after s block) refl
      where
        by : (o : Option Block) → block_after s block ≡ o → IsTrue (has n (marks ++ suspects))
        by None e = lost (Range block) link (ap (option_map Range) e)
        by (Some after) e =
            let in_limits = linked_inside words b.names (sheet_of (home_of x)) t (Range block) (inside.trees x t is) link in
            let (probe, named, bends_then) = bent_are_probed s block after sound in_limits bends e in
            near (Range after) probe (area_goes s t block after e link) named bends_then
    suspected (Whole w) link bends = by (whole_after s w) refl
      where
        by : (o : Option ranges.Whole) → whole_after s w ≡ o → IsTrue (has n (marks ++ suspects))
        by None e = lost (Whole w) link (ap (option_map Whole) e)
        by (Some after) e =
            let in_limits = linked_inside words b.names (sheet_of (home_of x)) t (Whole w) (inside.trees x t is) link in
            let (probe, named, bends_then) = bent_wholes_are_probed s w after sound in_limits bends e in
            near (Whole after) probe (range_goes s t w after e link) named bends_then

  -- ---- and where it comes back

  comes_back : (a d : Node) → IsLinkAt b words a d → Bends s d → IsTrue (has a more)
  comes_back a d (book.place p, t, at, is, link) bends = subst (λ n. IsTrue (has n more)) (sym (place_node words a p at)) (by (map.get b.cells p) refl (place_after s p) refl)
    where
      by : (o : Option Content) → map.get b.cells p ≡ o → (r : Option Place) → place_after s p ≡ r → IsTrue (has (Cell p) more)
      by None e r goes = absurd (none_some t (sym (ap content_tree e) ∙ is))
      by (Some content) e None gone = removed p gone (ap is_some e)
      by (Some content) e (Some q) goes =
          let in_limits = inside.cells p content e in
          let (there, returns) = turned s back sound opposite (book.place p) (book.place q) (in_limits, goes) in
          let tree : content_tree (map.get c.cells q) ≡ Some (rewritten s t) =
          ap content_tree (over.cells p q in_limits goes) ∙ tree_after s (map.get b.cells p) ∙ ap (option_map (rewritten s)) is in
          taken.along (Cell q) (Cell p) (suspected (book.place p) t is (Cell q) (book.place q) refl tree d link bends) (ap (option_map Cell) returns)
  comes_back a d (book.name key, t, at, is, link) bends = by a at
    where
      known : (n : Node) → node_at words n ≡ Some (book.name key) → IsTrue (has n (marks ++ suspects))
      known n to = suspected (book.name key) t is n (book.name key) to (over.names key (keeps s back sound opposite (scope_sheet key.scope)).0 ∙ ap (option_map (rewritten s)) is) d link bends

      by : (n : Node) → node_at words n ≡ Some (book.name key) → IsTrue (has n more)
      by (Cell p) to = absurd (cc)
      by (Name scope word) to = taken.along (Name scope word) (Name scope word) (known (Name scope word) to) refl
      by (Range block) to = absurd (none_some (book.name key) to)
      by (Whole w) to = absurd (none_some (book.name key) to)

pub suspects_are_restored : SuspectsAreRestored
suspects_are_restored s back b c words customs today links marks suspects more kept sound opposite inside over follow gathered taken removed = record {
  removed = removed;
  bent = comes_back s back b c words customs today links marks suspects more kept sound opposite inside over follow gathered taken removed;
}

pub suspects_bring_back : SuspectsBringBack
suspects_bring_back s back b c words customs today old new marks touched more kept sound opposite inside over before shifted unsettled gathered taken removed known =
    let restored = suspects_are_restored s back b c words customs today old marks touched more kept sound opposite inside over before gathered taken removed in
    let marked = restored_are_marked s back b c words marks touched more more sound opposite inside over unsettled taken restored (λ a is. is) in
    shifts_go_back_follow s back b c words customs today old new marks more kept sound opposite inside over shifted marked known before
