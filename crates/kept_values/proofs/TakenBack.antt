-- Values that went back with the opposite of a structural operation follow the workbook before this. Serves what takes values along.
use Rattle.std.proofs.Common.{◌≡◌, ◌∙◌, sym, ap, refl, subst, ℕ, ℤ, true, false, ◌||◌, List, ◌++◌, Option, Some, None, is_some, option_map, Result, Ok, Err, ◌⊎◌, inl, inr, ⊎_elim}
use Rattle.std.specs.Prelude.{IfOk, IsTrue}
use Rattle.std.specs.FinMap as map
use Rattle.std.proofs.lemmas.Bool.{cases_Bool, false≢true, false_from_ne_true, or_cases, or_left, or_right}
use Rattle.cell_addr.specs.declared.place.Place.{Place}
use Rattle.custom_fn.specs.declared.rule.Rule.{Rule}
use Rattle.formula_tree.specs.Term.{Term}
use Rattle.formula_tree.specs.declared.reference.Corner.{Corner}
use Rattle.shift_core.specs.Form.{form_of}
use Rattle.shift_core.specs.Opposite.{opposite_of}
use Rattle.shift_core.specs.Sound.{IsSound}
use Rattle.shift_core.specs.Tables.{place_after}
use Rattle.shift_core.specs.declared.shift.Shift.{Shift}
use Rattle.tree_rewrite.specs.Rewritten.{rewritten}
use Rattle.book_values.specs.Book.{Content}
use Rattle.book_values.specs.Workbook as book
use Rattle.book_values.specs.Workbook.{Workbook, content_tree, scope_sheet, tree_at}
use Rattle.dep_graph.specs.Bent.{AreBent, IsBentBy}
use Rattle.dep_graph.specs.Needs.{Links}
use Rattle.dep_graph.specs.Nodes.{has, items_of}
use Rattle.dep_graph.specs.Shifted.{AreShifted, node_after}
use Rattle.dep_graph.specs.declared.node.Node.{Node}
use Rattle.dep_graph.specs.declared.nodes.Nodes.{Nodes}
use Rattle.dep_graph.specs.declared.node.Node.TheVariants.{Cell, Name, Range, Whole}
use Rattle.dep_graph.proofs.Places.{has-append_cases, has-append_left, has-append_right}
use Rattle.recalc_core.specs.Kept.{Kept}
use Rattle.recalc_core.specs.Laws.{AreKnown}
use Rattle.recalc_core.specs.Moves.{carried_kept}
use Rattle.recalc_core.specs.Nodes.{AreNumbered, node_at}
use Rattle.recalc_core.specs.Shifted.{drops_scope, from_over}
use Rattle.recalc_core.proofs.Bridge.{none_some, same_some}
use Rattle.marked_values.specs.Gathered.{AreTakenAlong, AreUnsettled}
use Rattle.marked_values.specs.Marks.{Follow, IsBookInside}
use Rattle.marked_values.specs.Shifts.{AreMarksBack, IsBookAfter, is_moved_cell}
use Rattle.marked_values.proofs.Alone.{place_node}
use Rattle.marked_values.proofs.GoingBack.{keeps, turned}
use Rattle.marked_values.proofs.Pairs.{FindsSame, IsSettled, pair_finds, pair_tree}
use Rattle.marked_values.proofs.Restored.{restored_are_marked}
use Rattle.marked_values.proofs.Undoing.{moved_before}
use Rattle.restored_values.specs.Probes.{probe_of}
use Rattle.restored_values.specs.Suspects.{AreRemoved, AreSuspects, has_lost}
use Rattle.restored_values.proofs.Suspected.{suspects_are_restored, suspects_bring_back}
use Rattle.kept_values.specs.Shifted.{FollowsBack, HasTouched, IsProbedBy, MarksBack}
use Rattle.kept_values.specs.Values.{asks_in, kept_in, links_in, loses_in, marks_in, seeks_at, seeks_in, unlinked_in}
use Rattle.kept_values.specs.declared.values.Values.{Values}
use Rattle.kept_values.specs.internal.TakenAlong.{AreAlong, AreCarried, AreMoved, AreProbed, HasGathered}
use Rattle.kept_values.proofs.Following.{AreAmong, FollowsBut, all_right, from_follow, marked_follow, there, unlinked_follow}
use Rattle.kept_values.proofs.Gathered as gathering
use Rattle.kept_values.proofs.Gathered.{among_after, among_gathered, gathered_cases, with_marks}
use Rattle.kept_values.proofs.LostBefore.{lost_stays}
use Rattle.kept_values.proofs.SeekingNames.{filled_before, still_seeks}
use Rattle.kept_values.proofs.TakenAlong.{after_known, among_along}

-- what the probe bends
pub probed_by : {E : Type 0} (r : Result Nodes E) (s probe : Shift) (links : Links) → probe_of s ≡ Some probe → IfOk r (λ nodes. AreBent probe links (items_of nodes)) → IfOk r (λ nodes. AreProbed s links (items_of nodes))
probed_by (Ok nodes) s probe links named bent = record {
  all = λ other a is bends. (bent.0 a).1 (subst (λ p. IsBentBy p links a) (same_some other probe (sym is ∙ named)) bends);
  only = λ a h. (probe, named, (bent.0 a).0 h);
  linked = λ a h. let (d, link, bends) = (bent.0 a).0 h in (d, link);
}
probed_by (Err e) s probe links named bent = tt

-- v before and w after, but for the nodes of five lists: before, with what is gathered, with what had lost a reference too, gone back, and with
-- what had been removed
module _ (s back : Shift) (b c : Workbook) (words : List (List ℕ)) (customs : List (List ℕ × Rule)) (today : ℤ) (v w : Values) (old mid more gone new touched bent removed : List Node) (kept : Kept)
    (sound : IsSound s) (opposite : opposite_of s ≡ Some back) (inside : IsBookInside b) (over : IsBookAfter s b c) (numbered : AreNumbered words c.names)
    (has_touched : HasTouched back c words touched) (touched_known : AreKnown words touched) (are_removed : AreRemoved s b removed) (removed_known : AreKnown words removed)
    (follows : FollowsBut c words customs today v old kept) (probed : AreProbed s (links_in v) bent) (gathered : HasGathered touched bent v old mid)
    (with_losing : (a : Node) → has a more ≡ (has a mid || loses_in v a)) (shifted : AreShifted back (links_in v) (links_in w)) (gone_along : AreAlong back more gone) (with_removed : (a : Node) → has a new ≡ has a (gone ++ removed))
    (none_asks : (a : Node) → asks_in w a ≡ false) (none_loses : (a : Node) → loses_in w a ≡ false) (sought : (word : List ℕ) → AreMoved back (seeks_in v word) (seeks_in w word)) where
  -- ---- what was gathered

  of_gathered : (a : Node) → IsTrue (has a mid) → IsTrue (has a more)
  of_gathered a h = with_losing a ∙ or_left (has a mid) (loses_in v a) h

  of_old : (a : Node) → IsTrue (has a old) → IsTrue (has a more)
  of_old a h = of_gathered a (gathering.of_old c words customs today v old mid touched bent kept touched_known follows probed.linked gathered a h)

  all_known : AreKnown words more
  all_known a h = ⊎_elim
      (λ (front : has a mid ≡ true). gathering.all_known c words customs today v old mid touched bent kept touched_known follows probed.linked gathered a front)
      (λ (lost : loses_in v a ≡ true). there (node_at words a) (follows.loses.known a lost))
      (or_cases (has a mid) (loses_in v a) (sym (with_losing a) ∙ h))

  unsettled : AreUnsettled back c words more
  unsettled = record {
    asking = λ a x t at is asks. of_gathered a (gathering.all_asking c words customs today v old mid touched bent kept touched_known follows probed.linked gathered a x t at is asks);
    filled = λ p moved here. of_gathered (Cell p) (gathering.of_touched c words customs today v old mid touched bent kept touched_known follows probed.linked gathered (Cell p) (has_touched.filled p moved here));
  }

  suspects : AreSuspects s c words (links_in v) more
  suspects = record {
    bent = λ probe a named is. of_gathered a (gathering.of_bent c words customs today v old mid touched bent kept touched_known follows probed.linked gathered a (probed.all probe a named is));
    lost = λ a x t at is lost. ⊎_elim
        (λ (was : has a old ≡ true). of_old a was)
        (λ (out : has a old ≡ false). with_losing a ∙ or_right (has a mid) (loses_in v a) (follows.loses.all a x t out at is lost))
        (cases_Bool (has a old));
  }

  -- ---- the nodes after it

  stay : (a : Node) → IsTrue (has a gone) → IsTrue (has a new)
  stay a h = with_removed a ∙ has-append_left a gone removed h

  taken : AreTakenAlong back more new
  taken = record {
    along = λ a after h goes. stay after (gone_along.taken.along a after h goes);
    stay = λ p moved h. stay (Cell p) (gone_along.taken.stay p moved h);
  }

  all_taken : AreTakenAlong back (old ++ more) new
  all_taken = with_marks back old more new of_old taken

  come_back : AreRemoved s b new
  come_back p lost here = with_removed (Cell p) ∙ has-append_right (Cell p) gone removed (are_removed p lost here)

  known : AreKnown words new
  known a h = ⊎_elim
      (λ (front : has a gone ≡ true). gone_along.known words all_known a front)
      (λ (is : has a removed ≡ true). removed_known a is)
      (has-append_cases a gone removed (sym (with_removed a) ∙ h))

  after_it : AreMarksBack s back b c words old new
  after_it = restored_are_marked s back b c words old more new new sound opposite inside over unsettled all_taken
      (suspects_are_restored s back b c words customs today (links_in v) old more new kept sound opposite inside over follows.follow suspects all_taken come_back) (λ a is. is)

  -- each formula that has lost a reference is among them
  loses_marked : (a : Node) (x : book.Node) (t : Term Corner) → node_at words a ≡ Some x → tree_at b x ≡ Some t → has_lost t ≡ true → IsTrue (has a new)
  loses_marked a (book.place p) t at is lost = subst (λ d. IsTrue (has d new)) (sym (place_node words a p at)) (by (map.get b.cells p) refl (place_after s p) refl)
    where
      by : (o : Option Content) → map.get b.cells p ≡ o → (r : Option Place) → place_after s p ≡ r → IsTrue (has (Cell p) new)
      by None e r goes = absurd (none_some t (sym (ap content_tree e) ∙ is))
      by (Some content) e None gone = come_back p gone (ap is_some e)
      by (Some content) e (Some q) goes =
          let in_limits = inside.cells p content e in
          let (far, returns) = turned s back sound opposite (book.place p) (book.place q) (in_limits, goes) in
          let tree : tree_at c (book.place q) ≡ Some (rewritten s t) = pair_tree s b c over (book.place p) (book.place q) (in_limits, goes) ∙ ap (option_map (rewritten s)) is in
          taken.along (Cell q) (Cell p) (suspects.lost (Cell q) (book.place q) (rewritten s t) refl tree (lost_stays s t lost)) (ap (option_map Cell) returns)
  loses_marked a (book.name key) t at is lost = by a at
    where
      tree : tree_at c (book.name key) ≡ Some (rewritten s t)
      tree = over.names key (keeps s back sound opposite (scope_sheet key.scope)).0 ∙ ap (option_map (rewritten s)) is

      by : (d : Node) → node_at words d ≡ Some (book.name key) → IsTrue (has d new)
      by (Cell p) to = absurd (cc)
      by (Name scope word) to = taken.along (Name scope word) (Name scope word) (suspects.lost (Name scope word) (book.name key) (rewritten s t) to tree (lost_stays s t lost)) refl
      by (Range block) to = absurd (none_some (book.name key) to)
      by (Whole w) to = absurd (none_some (book.name key) to)

  -- ---- words that find no name

  settled : (p q : Place) (t : Term Corner) → has (Cell p) new ≡ false → place_after s p ≡ Some q → tree_at b (book.place p) ≡ Some t → IsSettled s (book.place q)
  settled p q t isnt goes is = false_from_ne_true (is_moved_cell s q) (λ is_moved. false≢true (sym isnt ∙ after_it.moved p (moved_before (form_of s) p q is_moved goes) (filled_before b c p t is)))

  -- where the node after the operation isn't among the first nodes, it is noted, and so is this one
  goes_noted : (word : List ℕ) (d a : Node) (z : book.Node) (u : Term Corner) → node_after back d ≡ Some a → has a new ≡ false → node_at words d ≡ Some z → tree_at c z ≡ Some u → seeks_at c word z u ≡ true → seeks_in w word a ≡ true
  goes_noted word d a z u goes isnt to tree seek = (sought word).along d a ((follows.seeks word).all d z u (false_from_ne_true (has d old) (λ was. false≢true (sym isnt ∙ taken.along d a (of_old d was) goes))) to tree seek) goes

  seeks_noted : (word : List ℕ) (a : Node) (x : book.Node) (t : Term Corner) → has a new ≡ false → node_at words a ≡ Some x → tree_at b x ≡ Some t → seeks_at b word x t ≡ true → seeks_in w word a ≡ true
  seeks_noted word a (book.place p) t isnt at is seek = subst (λ d. seeks_in w word d ≡ true) (sym (place_node words a p at)) (by (map.get b.cells p) refl (place_after s p) refl)
    where
      apart : has (Cell p) new ≡ false
      apart = subst (λ d. has d new ≡ false) (place_node words a p at) isnt

      by : (o : Option Content) → map.get b.cells p ≡ o → (r : Option Place) → place_after s p ≡ r → seeks_in w word (Cell p) ≡ true
      by None e r goes = absurd (none_some t (sym (ap content_tree e) ∙ is))
      by (Some content) e None gone = absurd (false≢true (sym apart ∙ come_back p gone (ap is_some e)))
      by (Some content) e (Some q) goes =
          let in_limits = inside.cells p content e in
          let (far, returns) = turned s back sound opposite (book.place p) (book.place q) (in_limits, goes) in
          let tree : tree_at c (book.place q) ≡ Some (rewritten s t) = pair_tree s b c over (book.place p) (book.place q) (in_limits, goes) ∙ ap (option_map (rewritten s)) is in
          let finds = pair_finds s b c over (book.place p) (book.place q) (in_limits, goes) (settled p q t apart goes is) in
          goes_noted word (Cell q) (Cell p) (book.place q) (rewritten s t) (ap (option_map Cell) returns) apart refl tree (still_seeks s b c over (book.place p) (book.place q) t word finds ∙ seek)
  seeks_noted word a (book.name key) t isnt at is seek = by a at isnt
    where
      stays : drops_scope (form_of s) (scope_sheet key.scope) ≡ false
      stays = (keeps s back sound opposite (scope_sheet key.scope)).0

      tree : tree_at c (book.name key) ≡ Some (rewritten s t)
      tree = over.names key stays ∙ ap (option_map (rewritten s)) is

      finds : FindsSame s b c over (book.name key) (book.name key)
      finds = pair_finds s b c over (book.name key) (book.name key) (stays, refl) tt

      by : (d : Node) → node_at words d ≡ Some (book.name key) → has d new ≡ false → seeks_in w word d ≡ true
      by (Cell p) to out = absurd (cc)
      by (Name scope number) to out = goes_noted word (Name scope number) (Name scope number) (book.name key) (rewritten s t) refl out to tree (still_seeks s b c over (book.name key) (book.name key) t word finds ∙ seek)
      by (Range block) to out = absurd (none_some (book.name key) to)
      by (Whole w) to out = absurd (none_some (book.name key) to)

  sought_known : (word : List ℕ) (a : Node) → seeks_in w word a ≡ true → is_some (node_at words a) ≡ true
  sought_known word a h =
      let (d, is, goes) = (sought word).from a h in
      let (x, at) = there (node_at words d) ((follows.seeks word).known d is) in
      ap is_some (after_known back words d a x at goes).1

  -- ---- values

  comes : Follow b words customs today (links_in w) new (carried_kept (from_over back) kept)
  comes = suspects_bring_back s back b c words customs today (links_in v) (links_in w) old more new kept sound opposite inside over follows.follow shifted unsettled suspects all_taken come_back known

  pub follows_before : FollowsBut b words customs today w new (carried_kept (from_over back) kept)
  follows_before = record {
    follow = comes;
    asks = record { all = λ a x t isnt at is asks. absurd (false≢true (sym isnt ∙ after_it.asking a x t at is asks)); known = λ a asks. absurd (false≢true (sym (none_asks a) ∙ asks)) };
    loses = record { all = λ a x t isnt at is lost. absurd (false≢true (sym isnt ∙ loses_marked a x t at is lost)); known = λ a lost. absurd (false≢true (sym (none_loses a) ∙ lost)) };
    seeks = λ word. record { all = λ a x t isnt at is seek. seeks_noted word a x t isnt at is seek; known = sought_known word };
  }

-- where more nodes are of both lists, some are among others still
pub among_losing : (v : Values) (few many few_then many_then : List Node) → ((a : Node) → has a few_then ≡ (has a few || loses_in v a)) → ((a : Node) → has a many_then ≡ (has a many || loses_in v a)) → AreAmong few many → AreAmong few_then many_then
among_losing v few many few_then many_then one two among a h = two a ∙ ⊎_elim
    (λ (front : has a few ≡ true). or_left (has a many) (loses_in v a) (among a front))
    (λ (lost : loses_in v a ≡ true). or_right (has a many) (loses_in v a) lost)
    (or_cases (has a few) (loses_in v a) (sym (one a) ∙ h))

-- what was gathered, taken along and removed, of the marks or of what is to be linked
pub record GoBack (back : Shift) (v : Values) (touched bent removed old mid more gone new : List Node) : Type 0 where
  pub gathered : HasGathered touched bent v old mid
  pub losing : (a : Node) → has a more ≡ (has a mid || loses_in v a)
  pub along : AreAlong back more gone
  pub restored : (a : Node) → has a new ≡ has a (gone ++ removed)

among_back : (back : Shift) (v : Values) (touched bent removed few mid more gone few_then many many_mid many_more many_gone many_then : List Node) → GoBack back v touched bent removed few mid more gone few_then
    → GoBack back v touched bent removed many many_mid many_more many_gone many_then → AreAmong few many → AreAmong few_then many_then
among_back back v touched bent removed few mid more gone few_then many many_mid many_more many_gone many_then one two among a h =
    two.restored a
    ∙ among_after gone many_gone removed
    (among_along back more many_more gone many_gone one.along two.along.taken
    (among_losing v mid many_mid more many_more one.losing two.losing (among_gathered v few many mid many_mid touched bent one.gathered two.gathered among))) a (sym (one.restored a) ∙ h)

-- v before, m with what is gathered, n with what had lost a reference too, u gone back, and w with what had been removed
pub goes_back : (s back : Shift) (touched bent removed : List Node) (v m n u w : Values) → IsSound s → opposite_of s ≡ Some back → AreProbed s (links_in v) bent
    → GoBack back v touched bent removed (marks_in v) (marks_in m) (marks_in n) (marks_in u) (marks_in w) → GoBack back v touched bent removed (unlinked_in v) (unlinked_in m) (unlinked_in n) (unlinked_in u) (unlinked_in w)
    → links_in n ≡ links_in v → kept_in n ≡ kept_in v → AreCarried back (links_in n) (kept_in n) (marks_in n) (unlinked_in n) u → links_in w ≡ links_in u → kept_in w ≡ kept_in u
    → ((a : Node) → asks_in w a ≡ false) → ((a : Node) → loses_in w a ≡ false) → ((word : List ℕ) → AreMoved back (seeks_in v word) (seeks_in w word)) → FollowsBack s back touched removed v w
goes_back s back touched bent removed v m n u w sound opposite probed marks unlinked links kept carried same_links same_kept asks loses sought
    b c words customs today inside over numbered has_touched touched_known are_removed removed_known follows =
    let shifted = subst (λ (l : Links). AreShifted back l (links_in w)) links (subst (λ (l : Links). AreShifted back (links_in n) l) (sym same_links) carried.links) in
    let marked = (follows_before s back b c words customs today v w (marks_in v) (marks_in m) (marks_in n) (marks_in u) (marks_in w) touched bent removed (kept_in v) sound opposite inside over numbered has_touched touched_known are_removed removed_known
    (marked_follow c words customs today v numbered follows) probed marks.gathered marks.losing shifted marks.along marks.restored asks loses sought).follow in
    from_follow b words customs today w (carried_kept (from_over back) (all_right c words customs today))
    (follows_before s back b c words customs today v w (unlinked_in v) (unlinked_in m) (unlinked_in n) (unlinked_in u) (unlinked_in w) touched bent removed (all_right c words customs today) sound opposite inside over numbered has_touched touched_known
    are_removed removed_known (unlinked_follow c words customs today v numbered follows) probed unlinked.gathered unlinked.losing shifted unlinked.along unlinked.restored asks loses sought)
    (among_back back v touched bent removed (unlinked_in v) (unlinked_in m) (unlinked_in n) (unlinked_in u) (unlinked_in w) (marks_in v) (marks_in m) (marks_in n) (marks_in u) (marks_in w) unlinked marks follows.among)
    marked.known
    (λ a apart plain. ap (λ (k : Kept). k a) same_kept ∙ carried.kept a plain ∙ ap (λ (k : Kept). carried_kept (from_over back) k a) kept ∙ marked.fit a apart plain)

-- what a mark comes from
abbrev Source : Shift → List Node → Values → Node → Type 0
Source s touched v b = IsTrue (has b (marks_in v)) ⊎ (IsTrue (has b touched) ⊎ (IsProbedBy s (links_in v) b ⊎ ((asks_in v b ≡ true) ⊎ (loses_in v b ≡ true))))

-- and what is marked then
pub marks_back : (s back : Shift) (touched bent removed : List Node) (v m n u w : Values) → AreProbed s (links_in v) bent → GoBack back v touched bent removed (marks_in v) (marks_in m) (marks_in n) (marks_in u) (marks_in w) → MarksBack s back touched removed v w
marks_back s back touched bent removed v m n u w probed marks a h = ⊎_elim
    (λ (old : has a (marks_in u) ≡ true). let (b, there, comes) = marks.along.from a old in inr (b, comes, cases b (or_cases (has b (marks_in m)) (loses_in v b) (sym (marks.losing b) ∙ there))))
    (λ (gone : has a removed ≡ true). inl gone)
    (has-append_cases a (marks_in u) removed (sym (marks.restored a) ∙ h))
  where
    within : (b : Node) → IsTrue (has b (marks_in v)) ⊎ (IsTrue (has b touched) ⊎ (IsTrue (has b bent) ⊎ (asks_in v b ≡ true))) → Source s touched v b
    within b (inl mark) = inl mark
    within b (inr (inl is)) = inr (inl is)
    within b (inr (inr (inl is))) = inr (inr (inl (probed.only b is)))
    within b (inr (inr (inr asks))) = inr (inr (inr (inl asks)))

    cases : (b : Node) → (has b (marks_in m) ≡ true) ⊎ (loses_in v b ≡ true) → Source s touched v b
    cases b (inl there) = within b (gathered_cases v (marks_in v) (marks_in m) touched bent marks.gathered b there)
    cases b (inr loses) = inr (inr (inr (inr loses)))
