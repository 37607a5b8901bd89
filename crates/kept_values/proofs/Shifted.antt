-- Values that went along with a structural operation follow the workbook after it. Serves what takes values along.
use Rattle.std.proofs.Common.{◌≡◌, ◌∙◌, sym, ap, subst, ℕ, ℤ, Bool, true, false, List, Some, None, is_some, option_map, ◌⊎◌, inl, inr}
use Rattle.std.specs.Prelude.{IsTrue, MatchOption, ⊤}
use Rattle.std.proofs.lemmas.Bool.{cases_Bool, false≢true, false_from_ne_true}
use Rattle.cell_addr.specs.declared.place.Block.{Block}
use Rattle.custom_fn.specs.declared.rule.Rule.{Rule}
use Rattle.formula_tree.specs.Links.{links_in as links_in_tree}
use Rattle.formula_tree.specs.Term.{Term}
use Rattle.formula_tree.specs.declared.link.Link.{Link}
use Rattle.formula_tree.specs.declared.link.Link.TheVariants as links
use Rattle.formula_tree.specs.declared.reference.Corner.{Corner}
use Rattle.shift_core.specs.Bent.{HaveOtherSizes, IsBent, MeetsDisplaced}
use Rattle.shift_core.specs.Form.{form_of}
use Rattle.shift_core.specs.Sound.{IsSound}
use Rattle.shift_core.specs.Tables.{block_after}
use Rattle.shift_core.specs.declared.shift.Shift.{Shift}
use Rattle.shift_core.proofs.WholeMoves.{lost_whole_bent}
use Rattle.tree_rewrite.specs.Rewritten.{rewritten}
use Rattle.book_values.specs.Names.{Key, tree_in}
use Rattle.book_values.specs.Workbook as book
use Rattle.book_values.specs.Workbook.{Workbook, scope_sheet, tree_at}
use Rattle.dep_graph.specs.Bent.{AreBent, Bends, IsBentBy}
use Rattle.dep_graph.specs.Needs.{Links}
use Rattle.dep_graph.specs.Nodes.{has}
use Rattle.dep_graph.specs.Shifted.{AreShifted}
use Rattle.dep_graph.specs.declared.node.Node.{Node}
use Rattle.dep_graph.specs.declared.node.Node.TheVariants.{Cell, Range, Whole}
use Rattle.recalc_core.specs.Kept.{Kept}
use Rattle.recalc_core.specs.Laws.{AreKnown}
use Rattle.recalc_core.specs.Moves.{carried_kept}
use Rattle.recalc_core.specs.Nodes.{AreNumbered, node_at}
use Rattle.recalc_core.specs.Shifted.{drops_scope, from_over}
use Rattle.recalc_core.proofs.Bridge.{same_some}
use Rattle.recalc_core.proofs.Worked.{no_range, tree_stands}
use Rattle.marked_values.specs.Gathered.{AreTouched}
use Rattle.marked_values.specs.Marks.{Follow, IsBookInside}
use Rattle.marked_values.specs.Shifts.{AreMarksAfter, IsBookAfter, asks_place, is_moved_cell}
use Rattle.marked_values.proofs.AfterShift.{shifts_follow}
use Rattle.marked_values.proofs.Alone.{place_node}
use Rattle.marked_values.proofs.MovedTrees.{HasLink, by_links}
use Rattle.marked_values.proofs.Origins.{Comes, comes, node_from, was_at}
use Rattle.marked_values.proofs.PairValues.{tree_was}
use Rattle.marked_values.proofs.Pairs.{IsSettled, Pair, pair_finds, pair_tree, some_mapped}
use Rattle.marked_values.proofs.Restored.{asks_still}
use Rattle.marked_values.proofs.Touched.{touched_are_marked}
use Rattle.restored_values.specs.Suspects.{has_lost}
use Rattle.kept_values.specs.Shifted.{FollowsOver, HasTouched, MarksOver}
use Rattle.kept_values.specs.Values.{asks_in, kept_in, links_in, loses_in, marks_in, seeks_at, seeks_in, unlinked_in}
use Rattle.kept_values.specs.declared.values.Values.{Values}
use Rattle.kept_values.specs.internal.TakenAlong.{AreAlong, AreCarried, AreMoved, HasGathered}
use Rattle.kept_values.proofs.Following.{FollowsBut, all_right, from_follow, marked_follow, there, unlinked_follow}
use Rattle.kept_values.proofs.Gathered as gathering
use Rattle.kept_values.proofs.Gathered.{among_gathered, gathered_cases, with_marks}
use Rattle.kept_values.proofs.LostBefore.{IsThere, lost_same}
use Rattle.kept_values.proofs.SeekingNames.{filled_after, still_seeks}
use Rattle.kept_values.proofs.TakenAlong.{after_known, among_along}

-- ---- the names that are left are nodes

pub numbered_after : (s : Shift) (b c : Workbook) (words : List (List ℕ)) → IsBookAfter s b c → AreNumbered words b.names → AreNumbered words c.names
numbered_after s b c words over numbered = record { once = numbered.once; all = λ key is. by key is (cases_Bool (drops_scope (form_of s) (scope_sheet key.scope))) }
  where
    by : (key : Key) → is_some (tree_in c.names key) ≡ true → (drops_scope (form_of s) (scope_sheet key.scope) ≡ true) ⊎ (drops_scope (form_of s) (scope_sheet key.scope) ≡ false)
        → (a : Node) × (node_at words a ≡ Some (book.name key))
    by key is (inl drops) = absurd (false≢true (sym (ap is_some (over.dropped key drops)) ∙ is))
    by key is (inr stays) = numbered.all key (sym (ap is_some (over.names key stays) ∙ some_mapped (rewritten s) (tree_in b.names key)) ∙ is)

-- ---- what is linked to nothing that the operation loses

-- a block that is lost is bent
lost_bends : (s : Shift) (d : Block) → block_after s d ≡ None → IsBent s d
lost_bends s d gone = subst (λ o. MatchOption o ⊤ (λ after. HaveOtherSizes d after ⊎ MeetsDisplaced (form_of s) d)) (sym gone) tt

-- ---- marks and values that went along

-- v before and w after, but for the nodes of three lists: before, with what is gathered, and taken along
module _ (s : Shift) (b c : Workbook) (words : List (List ℕ)) (customs : List (List ℕ × Rule)) (today : ℤ) (v w : Values) (old mid new touched bent : List Node) (kept : Kept)
    (sound : IsSound s) (inside : IsBookInside b) (over : IsBookAfter s b c) (numbered : AreNumbered words b.names) (has_touched : HasTouched s b words touched) (touched_known : AreKnown words touched)
    (follows : FollowsBut b words customs today v old kept) (are_bent : AreBent s (links_in v) bent) (gathered : HasGathered touched bent v old mid) (shifted : AreShifted s (links_in v) (links_in w)) (along : AreAlong s mid new)
    (none_asks : (a : Node) → asks_in w a ≡ false) (moved : AreMoved s (loses_in v) (loses_in w)) (sought : (word : List ℕ) → AreMoved s (seeks_in v word) (seeks_in w word)) where
  linked : (a : Node) → IsTrue (has a bent) → (d : Node) × IsTrue (has d (links_in v a))
  linked a h = let (d, link, bends) = (are_bent.0 a).0 h in (d, link)

  of_old : (a : Node) → IsTrue (has a old) → IsTrue (has a mid)
  of_old = gathering.of_old b words customs today v old mid touched bent kept touched_known follows linked gathered

  of_touched : (a : Node) → IsTrue (has a touched) → IsTrue (has a mid)
  of_touched = gathering.of_touched b words customs today v old mid touched bent kept touched_known follows linked gathered

  are_touched : AreTouched s b words (links_in v) mid
  are_touched = record {
    unsettled = record {
      asking = gathering.all_asking b words customs today v old mid touched bent kept touched_known follows linked gathered;
      filled = λ p moved here. of_touched (Cell p) (has_touched.filled p moved here);
    };
    bent = λ a is. gathering.of_bent b words customs today v old mid touched bent kept touched_known follows linked gathered a ((are_bent.0 a).1 is);
    names = λ a key at drops here. of_touched a (has_touched.names a key at drops here);
  }

  after_it : AreMarksAfter s b c words (links_in v) old new
  after_it = touched_are_marked s b c words customs today (links_in v) old mid new kept sound over follows.follow are_touched (with_marks s old mid new of_old along.taken)

  -- ---- links and values

  carries : Follow c words customs today (links_in w) new (carried_kept (from_over s) kept)
  carries =
      shifts_follow s b c words customs today (links_in v) (links_in w) old new kept sound inside over (numbered_after s b c words over numbered) shifted after_it
      (along.known words (gathering.all_known b words customs today v old mid touched bent kept touched_known follows linked gathered)) follows.follow

  -- ---- what is noted

  -- a formula of the workbook after it was one before
  module _ (a : Node) (x : book.Node) (u : Term Corner) (at : node_at words a ≡ Some x) (is : tree_at c x ≡ Some u) where
    abbrev Was : Type 0
    Was = (was : Node) × (y : book.Node) × (t : Term Corner) × (from_over s a ≡ Some was) × (node_at words was ≡ Some y) × (tree_at b y ≡ Some t) × (u ≡ rewritten s t) × Pair s y x

    formula_was : Was
    formula_was = by (comes s sound b c over x)
      where
        by : Comes s sound c x → Was
        by (inr (none, apart)) = absurd (false≢true (sym apart ∙ tree_stands c customs today x u is))
        by (inl (y, pair)) =
            let rewrites = pair_tree s b c over y x pair in
            let (t, tree) = tree_was s (tree_at b y) u (sym rewrites ∙ is) in
            let (was, from, origin) = node_from s sound words a y x (no_range words a x at) at pair in
            (was, y, t, from, origin, tree, same_some u (rewritten s t) (sym is ∙ rewrites ∙ ap (option_map (rewritten s)) tree), pair)

    -- each formula that asks is among the nodes after it
    asks_marked : asks_place u ≡ true → IsTrue (has a new)
    asks_marked asks = let (was, y, t, from, origin, tree, same, pair) = formula_was in after_it.asking was a y t origin tree (sym (asks_still s t) ∙ ap asks_place (sym same) ∙ asks) from

    -- each formula with a lost reference that isn't had lost one before
    loses_noted : has a new ≡ false → has_lost u ≡ true → loses_in w a ≡ true
    loses_noted isnt lost =
        let (was, y, t, from, origin, tree, same, pair) = formula_was in
        let goes = (was_at s sound a was from).0 in
        let out : has was old ≡ false = false_from_ne_true (has was old) (λ mark. false≢true (sym isnt ∙ along.taken.along was a (of_old was mark) goes)) in
        let plain : asks_place t ≡ false = false_from_ne_true (asks_place t) (λ asks. false≢true (sym isnt ∙ after_it.asking was a y t origin tree asks from)) in
        moved.along was a (follows.loses.all was y t out origin tree (sym (lost_same s t (by_links (IsThere s) t plain (λ l link. each was y t from origin tree out l link))) ∙ ap has_lost (sym same) ∙ lost)) goes
      where
        unbent : (was : Node) (d : Node) → from_over s a ≡ Some was → IsTrue (has d (links_in v was)) → ¬ Bends s d
        unbent was d from link bends = false≢true (sym isnt ∙ after_it.bent was a (d, link, bends) from)

        each : (was : Node) (y : book.Node) (t : Term Corner) → from_over s a ≡ Some was → node_at words was ≡ Some y → tree_at b y ≡ Some t → has was old ≡ false → (l : Link) → HasLink l (links_in_tree t) → IsThere s l
        each was y t from origin tree out (links.Cell p) link = λ gone. unbent was (Cell p) from ((follows.follow.linked.exact was (Cell p) (λ mark. false≢true (sym out ∙ mark))).1 (y, t, origin, tree, link)) gone
        each was y t from origin tree out (links.Area d) link = λ gone.
            unbent was (Range d) from ((follows.follow.linked.exact was (Range d) (λ mark. false≢true (sym out ∙ mark))).1 (y, t, origin, tree, link)) (inl (lost_bends s d gone))
        each was y t from origin tree out (links.Whole r) link = λ gone.
            unbent was (Whole r) from ((follows.follow.linked.exact was (Whole r) (λ mark. false≢true (sym out ∙ mark))).1 (y, t, origin, tree, link)) (lost_whole_bent (form_of s) r gone)
        each was y t from origin tree out (links.Name scope word) link = tt

    settled : (z : book.Node) → node_at words a ≡ Some z → tree_at c z ≡ Some u → has a new ≡ false → IsSettled s z
    settled (book.place q) to tree isnt = false_from_ne_true (is_moved_cell s q) (λ is_moved. false≢true (sym isnt ∙ subst (λ n. IsTrue (has n new)) (sym (place_node words a q to)) (after_it.moved q is_moved (filled_after b c q u tree))))
    settled (book.name key) to tree isnt = tt

    -- each formula with this word where it finds no name, that isn't among them, had it before
    seeks_noted : (word : List ℕ) → has a new ≡ false → seeks_at c word x u ≡ true → seeks_in w word a ≡ true
    seeks_noted word isnt seek =
        let (was, y, t, from, origin, tree, same, pair) = formula_was in
        let goes = (was_at s sound a was from).0 in
        let out : has was old ≡ false = false_from_ne_true (has was old) (λ mark. false≢true (sym isnt ∙ along.taken.along was a (of_old was mark) goes)) in
        let finds = pair_finds s b c over y x pair (settled x at is isnt) in
        (sought word).along was a ((follows.seeks word).all was y t out origin tree (sym (still_seeks s b c over y x t word finds) ∙ ap (seeks_at c word x) (sym same) ∙ seek)) goes

  -- what is noted was a known node, and is one
  noted_known : (was now : Node → Bool) → AreMoved s was now → ((d : Node) → was d ≡ true → is_some (node_at words d) ≡ true) → (a : Node) → now a ≡ true → is_some (node_at words a) ≡ true
  noted_known was now goes_with all a h =
      let (d, is, goes) = goes_with.from a h in
      let (x, at) = there (node_at words d) (all d is) in
      ap is_some (after_known s words d a x at goes).1

  pub follows_after : FollowsBut c words customs today w new (carried_kept (from_over s) kept)
  follows_after = record {
    follow = carries;
    asks = record { all = λ a x t isnt at is asks. absurd (false≢true (sym isnt ∙ asks_marked a x t at is asks)); known = λ a asks. absurd (false≢true (sym (none_asks a) ∙ asks)) };
    loses = record { all = λ a x t isnt at is lost. loses_noted a x t at is isnt lost; known = noted_known (loses_in v) (loses_in w) moved follows.loses.known };
    seeks = λ word. record { all = λ a x t isnt at is seek. seeks_noted a x t at is word isnt seek; known = noted_known (seeks_in v word) (seeks_in w word) (sought word) (follows.seeks word).known };
  }

-- v before, m with what is gathered and w after it
pub goes_along : (s : Shift) (touched bent : List Node) (v m w : Values) → IsSound s → AreBent s (links_in v) bent → HasGathered touched bent v (marks_in v) (marks_in m) → HasGathered touched bent v (unlinked_in v) (unlinked_in m)
    → links_in m ≡ links_in v → kept_in m ≡ kept_in v → ((a : Node) → asks_in w a ≡ false) → AreMoved s (loses_in v) (loses_in w) → ((word : List ℕ) → AreMoved s (seeks_in v word) (seeks_in w word))
    → AreCarried s (links_in m) (kept_in m) (marks_in m) (unlinked_in m) w → FollowsOver s touched v w
goes_along s touched bent v m w sound are_bent marks unlinked links kept none moved sought carried b c words customs today inside over numbered has_touched known follows =
    let shifted = subst (λ (l : Links). AreShifted s l (links_in w)) links carried.links in
    let marked = (follows_after s b c words customs today v w (marks_in v) (marks_in m) (marks_in w) touched bent (kept_in v) sound inside over numbered has_touched known (marked_follow b words customs today v numbered follows)
    are_bent marks shifted carried.marks none moved sought).follow in
    from_follow c words customs today w (carried_kept (from_over s) (all_right b words customs today))
    (follows_after s b c words customs today v w (unlinked_in v) (unlinked_in m) (unlinked_in w) touched bent (all_right b words customs today) sound inside over numbered has_touched known
    (unlinked_follow b words customs today v numbered follows) are_bent unlinked shifted carried.unlinked none moved sought)
    (among_along s (unlinked_in m) (marks_in m) (unlinked_in w) (marks_in w) carried.unlinked carried.marks.taken
    (among_gathered v (unlinked_in v) (marks_in v) (unlinked_in m) (marks_in m) touched bent unlinked marks follows.among))
    marked.known
    (λ a apart plain. carried.kept a plain ∙ ap (λ (k : Kept). carried_kept (from_over s) k a) kept ∙ marked.fit a apart plain)

-- and what is marked then
pub marks_over : (s : Shift) (touched bent : List Node) (v m w : Values) → AreBent s (links_in v) bent → HasGathered touched bent v (marks_in v) (marks_in m) → AreCarried s (links_in m) (kept_in m) (marks_in m) (unlinked_in m) w → MarksOver s touched v w
marks_over s touched bent v m w are gathered carried a h = let (b, there, comes) = carried.marks.from a h in (b, comes, by b (gathered_cases v (marks_in v) (marks_in m) touched bent gathered b there))
  where
    by : (b : Node) → IsTrue (has b (marks_in v)) ⊎ (IsTrue (has b touched) ⊎ (IsTrue (has b bent) ⊎ (asks_in v b ≡ true))) → IsTrue (has b (marks_in v)) ⊎ (IsTrue (has b touched) ⊎ (IsBentBy s (links_in v) b ⊎ (asks_in v b ≡ true)))
    by b (inl mark) = inl mark
    by b (inr (inl is)) = inr (inl is)
    by b (inr (inr (inl is))) = inr (inr (inl ((are.0 b).0 is)))
    by b (inr (inr (inr asks))) = inr (inr (inr asks))
