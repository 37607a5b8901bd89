-- What was marked before an operation, and what it touches, are the marks after it. Serves the law.
use Rattle.std.proofs.Common.{◌≡◌, ◌∙◌, sym, ap, refl, ℕ, ℤ, Bool, true, false, cond, ◌&&◌, List, ◌++◌, Option, Some, None, is_none, is_some, option_and_then, option_map, ◌⊎◌, inl, inr}
use Rattle.std.specs.Prelude.{IsTrue, slice_get}
use Rattle.std.specs.FinMap as map
use Rattle.std.proofs.lemmas.Bool.{cases_Bool, false≢true}
use Rattle.cell_addr.specs.declared.place.Place.{Place}
use Rattle.custom_fn.specs.declared.rule.Rule.{Rule}
use Rattle.formula_tree.specs.Term.{Term}
use Rattle.formula_tree.specs.declared.reference.Corner.{Corner}
use Rattle.shift_core.specs.Form.{form_of}
use Rattle.shift_core.specs.Sound.{IsSound}
use Rattle.shift_core.specs.Tables.{place_before}
use Rattle.shift_core.specs.declared.shift.Shift.{Shift}
use Rattle.shift_core.proofs.PlaceLaws.{place_returned_goes, place_returned_inside}
use Rattle.book_values.specs.Book.{Content}
use Rattle.book_values.specs.Names.{Key}
use Rattle.book_values.specs.Workbook as book
use Rattle.book_values.specs.Workbook.{Workbook, scope_sheet, tree_at}
use Rattle.carried_books.specs.Moved.{content_after, is_bare}
use Rattle.dep_graph.specs.Needs.{Links}
use Rattle.dep_graph.specs.Nodes.{has}
use Rattle.dep_graph.specs.declared.node.Node.{Node}
use Rattle.dep_graph.specs.declared.node.Node.TheVariants.{Cell, Name}
use Rattle.dep_graph.proofs.Places.{has-append_left, has-append_right}
use Rattle.recalc_core.specs.Kept.{Kept}
use Rattle.recalc_core.specs.Nodes.{node_at}
use Rattle.recalc_core.specs.Shifted.{back_over, drops_scope, from_over}
use Rattle.recalc_core.proofs.Bridge.{name_only, none_some}
use Rattle.recalc_core.proofs.Shifted.{shifts_go_back}
use Rattle.marked_values.specs.Gathered.{AreTakenAlong, AreTouched, BentAreNoted, TouchedAreMarked}
use Rattle.marked_values.specs.Marks.{Follow}
use Rattle.marked_values.specs.Shifts.{AreMarksAfter, IsBookAfter, is_moved_cell}
use Rattle.marked_values.proofs.Origins.{was_at}
use Rattle.marked_values.proofs.Pairs.{some_mapped}
use Rattle.marked_values.proofs.Undoing.{moved_before}

-- a cell that isn't bare is filled before or after
pub filled_somewhere : {X Y : Type 0} (m : Option X) (n : Option Y) → (is_none m && is_none n) ≡ false → (is_some m ≡ true) ⊎ (is_some n ≡ true)
filled_somewhere None None e = absurd (false≢true (sym e))
filled_somewhere None (Some y) e = inr refl
filled_somewhere (Some x) n e = inl refl

module _ (s : Shift) (b c : Workbook) (words : List (List ℕ)) (customs : List (List ℕ × Rule)) (today : ℤ) (links : Links) (marks touched more : List Node) (kept : Kept)
    (sound : IsSound s) (over : IsBookAfter s b c) (before : Follow b words customs today links marks kept) (gathered : AreTouched s b words links touched)
    (taken : AreTakenAlong s (marks ++ touched) more) where
  -- a node that was marked, or is touched
  marked_along : (a z : Node) → IsTrue (has a marks) → from_over s z ≡ Some a → IsTrue (has z more)
  marked_along a z mark from = taken.along a z (has-append_left a marks touched mark) (was_at s sound z a from).0

  touched_along : (a z : Node) → IsTrue (has a touched) → from_over s z ≡ Some a → IsTrue (has z more)
  touched_along a z is from = taken.along a z (has-append_right a marks touched is) (was_at s sound z a from).0

  -- a filled cell of a moved block, or one that came there
  moved_on : (p : Place) → is_moved_cell s p ≡ true → is_bare b c p ≡ false → IsTrue (has (Cell p) more)
  moved_on p moved filled = by (filled_somewhere (map.get b.cells p) (map.get c.cells p) filled)
    where
      came : (o : Option Content) → map.get c.cells p ≡ o → is_some (map.get c.cells p) ≡ true → (r : Option Place) → place_before s p ≡ r → IsTrue (has (Cell p) more)
      came None e there r was = absurd (false≢true (sym (ap is_some e) ∙ there))
      came (Some content) e there None was = absurd (false≢true (sym (ap is_some (over.fresh p (over.inside p content e) was)) ∙ there))
      came (Some content) e there (Some q) was =
          let in_limits = over.inside p content e in
          let goes = place_returned_goes (form_of s) q p sound in_limits was in
          let here : is_some (map.get b.cells q) ≡ true =
          sym (ap is_some (over.cells q p (place_returned_inside (form_of s) q p sound in_limits was) goes) ∙ some_mapped (content_after s) (map.get b.cells q)) ∙ there in
          taken.along (Cell q) (Cell p) (has-append_right (Cell q) marks touched (gathered.unsettled.filled q (moved_before (form_of s) q p moved goes) here)) (ap (option_map Cell) goes)

      by : (is_some (map.get b.cells p) ≡ true) ⊎ (is_some (map.get c.cells p) ≡ true) → IsTrue (has (Cell p) more)
      by (inl here) = taken.stay p moved (has-append_right (Cell p) marks touched (gathered.unsettled.filled p moved here))
      by (inr there) = came (map.get c.cells p) refl there (place_before s p) refl

  -- a name of a dropped sheet that is linked to something is marked or stands
  gone_on : (scope word : ℕ) (d : Node) → drops_scope (form_of s) scope ≡ true → IsTrue (has d (links (Name scope word))) → IsTrue (has (Name scope word) more)
  gone_on scope word d drops link = by (cases_Bool (has (Name scope word) marks))
    where
      key_drops : (key : Key) → node_at words (Name scope word) ≡ Some (book.name key) → drops_scope (form_of s) (scope_sheet key.scope) ≡ true
      key_drops key at = dropped (drops_scope (form_of s) (scope_sheet key.scope)) refl
        where
          nowhere : back_over s (book.name key) ≡ None
          nowhere =
              sym (ap (option_and_then (back_over s)) at) ∙ sym ((shifts_go_back s words sound).same (Name scope word) tt)
              ∙ ap (option_and_then (node_at words)) (ap (λ t. cond t None (Some (Name scope word))) drops)

          dropped : (t : Bool) → drops_scope (form_of s) (scope_sheet key.scope) ≡ t → drops_scope (form_of s) (scope_sheet key.scope) ≡ true
          dropped true e = e
          dropped false e = absurd (none_some (book.name key) (sym nowhere ∙ ap (λ t. cond t None (Some (book.name key))) e))

      stands_then : (x : book.Node) (t : Term Corner) → node_at words (Name scope word) ≡ Some x → tree_at b x ≡ Some t → IsTrue (has (Name scope word) touched)
      stands_then x t at is =
          let (key, same) = name_only scope (slice_get words word) x at in
          gathered.names (Name scope word) key (at ∙ ap Some same) (key_drops key (at ∙ ap Some same)) (ap is_some (ap (tree_at b) (sym same) ∙ is))

      by : (has (Name scope word) marks ≡ true) ⊎ (has (Name scope word) marks ≡ false) → IsTrue (has (Name scope word) more)
      by (inl mark) = taken.along (Name scope word) (Name scope word) (has-append_left (Name scope word) marks touched mark) refl
      by (inr out) =
          let (x, t, at, is, linked) = (before.linked.exact (Name scope word) d (λ mark. false≢true (sym out ∙ mark))).0 link in
          taken.along (Name scope word) (Name scope word) (has-append_right (Name scope word) marks touched (stands_then x t at is)) refl

  pub marks_after : AreMarksAfter s b c words links marks more
  marks_after = record {
    follow = λ a was plain from mark. marked_along was a mark from;
    stay = λ p moved mark. taken.stay p moved (has-append_left (Cell p) marks touched mark);
    moved = moved_on;
    bent = λ a z bent from. touched_along a z (gathered.bent a bent) from;
    asking = λ a z x t at is asks from. touched_along a z (gathered.unsettled.asking a x t at is asks) from;
    gone = gone_on;
  }

pub touched_are_marked : TouchedAreMarked
touched_are_marked s b c words customs today links marks touched more kept sound over before gathered taken =
    marks_after s b c words customs today links marks touched more kept sound over before gathered taken

-- a node that isn't marked is linked to what its formula is linked to
pub bent_are_noted : BentAreNoted
bent_are_noted s b words customs today links marks noted kept before all a d link bends = by (cases_Bool (has a marks))
  where
    by : (has a marks ≡ true) ⊎ (has a marks ≡ false) → IsTrue (has a (marks ++ noted))
    by (inl mark) = has-append_left a marks noted mark
    by (inr out) = has-append_right a marks noted ((all.0 a).1 (d, (before.linked.exact a d (λ mark. false≢true (sym out ∙ mark))).1 link, bends))
