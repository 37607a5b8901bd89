-- Values follow the workbook with a sheet that was dropped and came back. Serves what takes values back.
use Rattle.std.proofs.Common.{◌≡◌, ◌∙◌, sym, ap, refl, subst, ℕ, ℤ, Bool, true, false, ◌||◌, ◌==◌, cond, eqb-true, List, [], Option, Some, None, is_some, option_map, ◌⊎◌, inl, inr, ⊎_elim}
use Rattle.std.specs.Prelude.{IsTrue}
use Rattle.std.specs.FinMap as map
use Rattle.std.proofs.lemmas.Bool.{cases_Bool, false≢true, false_from_ne_true, or_cases, or_left, or_right}
use Rattle.std.proofs.lemmas.Option.{none-some}
use Rattle.cell_addr.specs.declared.place.Block.{Block}
use Rattle.cell_addr.specs.declared.place.Place.{Place}
use Rattle.cell_addr.specs.declared.whole.Whole as ranges
use Rattle.custom_fn.specs.declared.rule.Rule.{Rule}
use Rattle.formula_tree.specs.Reference.{sheet_of}
use Rattle.formula_tree.specs.Term.{Term}
use Rattle.formula_tree.specs.declared.reference.Corner.{Corner}
use Rattle.shift_core.specs.Tables.{block_after}
use Rattle.shift_core.specs.Wholes.{whole_after}
use Rattle.shift_core.specs.declared.shift.Shift.{Shift}
use Rattle.shift_core.specs.declared.shift.Shift.TheVariants.{DropSheet}
use Rattle.tree_rewrite.specs.Rewritten.{rewritten}
use Rattle.book_values.specs.Book.{Content}
use Rattle.book_values.specs.Workbook as book
use Rattle.book_values.specs.Workbook.{Workbook, content_tree, home_of, scope_sheet, tree_at}
use Rattle.dep_graph.specs.Bent.{Bends}
use Rattle.dep_graph.specs.Needs.{Links}
use Rattle.dep_graph.specs.Nodes.{has}
use Rattle.dep_graph.specs.Shifted.{node_after}
use Rattle.dep_graph.specs.declared.node.Node.{Node}
use Rattle.dep_graph.specs.declared.node.Node.TheVariants.{Cell, Name, Range, Whole}
use Rattle.recalc_core.specs.Kept.{Kept}
use Rattle.recalc_core.specs.Laws.{AreKnown}
use Rattle.recalc_core.specs.Links.{IsLinkAt, IsLinkOf}
use Rattle.recalc_core.specs.Nodes.{AreNumbered, node_at}
use Rattle.recalc_core.proofs.Bridge.{none_some}
use Rattle.marked_values.specs.Marks.{Follow, IsBookInside}
use Rattle.marked_values.specs.Shifts.{AreMarksReturned, IsBookAfter, asks_place}
use Rattle.marked_values.proofs.Pairs.{FindsSame, Pair, pair_finds, pair_tree}
use Rattle.marked_values.proofs.Restored.{asks_still}
use Rattle.marked_values.proofs.Returning.{returns_follow}
use Rattle.marked_values.proofs.TreeLinks.{linked_inside}
use Rattle.restored_values.specs.Suspects.{has_lost}
use Rattle.restored_values.proofs.LostLinks.{lost_are_seen}
use Rattle.restored_values.proofs.ProbedBlocks.{bent_are_probed}
use Rattle.restored_values.proofs.ProbedWholes.{bent_wholes_are_probed}
use Rattle.kept_values.specs.Shifted.{FollowsReturn, HasOfSheet, MarksReturn}
use Rattle.kept_values.specs.Values.{asks_in, kept_in, links_in, loses_in, marks_in, seeks_at, seeks_in, unlinked_in}
use Rattle.kept_values.specs.declared.values.Values.{Values}
use Rattle.kept_values.specs.internal.TakenAlong.{HasGathered}
use Rattle.kept_values.proofs.Following.{AreAmong, FollowsBut, follow_over, there}
use Rattle.kept_values.proofs.Gathered as gathering
use Rattle.kept_values.proofs.Gathered.{among_gathered, gathered_cases}
use Rattle.kept_values.proofs.LostBefore.{lost_stays}
use Rattle.kept_values.proofs.SeekingNames.{still_seeks}
use Rattle.kept_values.proofs.Shifted.{numbered_after}
use Rattle.kept_values.proofs.TakenBack.{among_losing}

none_linked : (v : Values) (a : Node) → IsTrue (has a []) → (d : Node) × IsTrue (has d (links_in v a))
none_linked v a h = absurd (false≢true h)

-- v before and w after, but for the nodes of three lists: before, with what is gathered, and with what had lost a reference too
module _ (sheet : ℕ) (b c : Workbook) (words : List (List ℕ)) (customs : List (List ℕ × Rule)) (today : ℤ) (v w : Values) (old mid new nodes : List Node) (kept : Kept)
    (inside : IsBookInside b) (over : IsBookAfter (DropSheet sheet) b c) (numbered : AreNumbered words b.names) (of_sheet : HasOfSheet sheet b words nodes) (nodes_known : AreKnown words nodes)
    (follows : FollowsBut c words customs today v old kept) (gathered : HasGathered nodes [] v old mid) (with_losing : (a : Node) → has a new ≡ (has a mid || loses_in v a)) (links : links_in w ≡ links_in v)
    (none_asks : (a : Node) → asks_in w a ≡ false) (none_loses : (a : Node) → loses_in w a ≡ false) (sought : seeks_in w ≡ seeks_in v) where
  abbrev drop : Shift
  drop = DropSheet sheet

  -- ---- what is marked

  of_gathered : (a : Node) → IsTrue (has a mid) → IsTrue (has a new)
  of_gathered a h = with_losing a ∙ or_left (has a mid) (loses_in v a) h

  of_old : (a : Node) → IsTrue (has a old) → IsTrue (has a new)
  of_old a h = of_gathered a (gathering.of_old c words customs today v old mid nodes [] kept nodes_known follows (none_linked v) gathered a h)

  of_nodes : (a : Node) → IsTrue (has a nodes) → IsTrue (has a new)
  of_nodes a h = of_gathered a (gathering.of_touched c words customs today v old mid nodes [] kept nodes_known follows (none_linked v) gathered a h)

  known : AreKnown words new
  known a h = ⊎_elim
      (λ (front : has a mid ≡ true). gathering.all_known c words customs today v old mid nodes [] kept nodes_known follows (none_linked v) gathered a front)
      (λ (lost : loses_in v a ≡ true). there (node_at words a) (follows.loses.known a lost))
      (or_cases (has a mid) (loses_in v a) (sym (with_losing a) ∙ h))

  -- a formula that isn't of the sheet stands without it too
  is_kept : (a : Node) (x : book.Node) (t : Term Corner) → node_at words a ≡ Some x → has a nodes ≡ false → tree_at b x ≡ Some t → Pair drop x x
  is_kept a (book.place p) t at out is = by (map.get b.cells p) refl (p.sheet == sheet) refl
    where
      by : (o : Option Content) → map.get b.cells p ≡ o → (on : Bool) → (p.sheet == sheet) ≡ on → Pair drop (book.place p) (book.place p)
      by None e on same = absurd (none_some t (sym (ap content_tree e) ∙ is))
      by (Some content) e true same = absurd (false≢true (sym out ∙ of_sheet a (book.place p) at (eqb-true p.sheet sheet same) (ap is_some e)))
      by (Some content) e false same = (inside.cells p content e, ap (λ on. cond on None (Some p)) same)
  is_kept a (book.name key) t at out is = by (scope_sheet key.scope == sheet) refl
    where
      by : (on : Bool) → (scope_sheet key.scope == sheet) ≡ on → Pair drop (book.name key) (book.name key)
      by true same = absurd (false≢true (sym out ∙ of_sheet a (book.name key) at (eqb-true (scope_sheet key.scope) sheet same) (ap is_some is)))
      by false same = (same, refl)

  module _ (a : Node) (x : book.Node) (t : Term Corner) (at : node_at words a ≡ Some x) (is : tree_at b x ≡ Some t) where
    tree : Pair drop x x → tree_at c x ≡ Some (rewritten drop t)
    tree pair = pair_tree drop b c over x x pair ∙ ap (option_map (rewritten drop)) is

    -- where a formula had lost a reference without the sheet, it is marked
    lost_marked : Pair drop x x → has_lost (rewritten drop t) ≡ true → IsTrue (has a new)
    lost_marked pair lost = ⊎_elim
        (λ (was : has a old ≡ true). of_old a was)
        (λ (out : has a old ≡ false). with_losing a ∙ or_right (has a mid) (loses_in v a) (follows.loses.all a x (rewritten drop t) out at (tree pair) lost))
        (cases_Bool (has a old))

    -- what a dropped sheet bends it loses
    gone : (d : Node) → IsLinkOf words b.names (sheet_of (home_of x)) t d → Bends drop d → node_after drop d ≡ None
    gone (Cell p) link bends = ap (option_map Cell) bends
    gone (Name scope word) link bends = absurd bends
    gone (Range block) link bends = by (block_after drop block) refl
      where
        by : (o : Option Block) → block_after drop block ≡ o → node_after drop (Range block) ≡ None
        by None e = ap (option_map Range) e
        by (Some after) e =
            let (probe, named, bends_then) = bent_are_probed drop block after tt (linked_inside words b.names (sheet_of (home_of x)) t (Range block) (inside.trees x t is) link) bends e in
            absurd (none-some probe named)
    gone (Whole r) link bends = by (whole_after drop r) refl
      where
        by : (o : Option ranges.Whole) → whole_after drop r ≡ o → node_after drop (Whole r) ≡ None
        by None e = ap (option_map Whole) e
        by (Some after) e =
            let (probe, named, bends_then) = bent_wholes_are_probed drop r after tt (linked_inside words b.names (sheet_of (home_of x)) t (Whole r) (inside.trees x t is) link) bends e in
            absurd (none-some probe named)

    bent_marked : (d : Node) → IsLinkOf words b.names (sheet_of (home_of x)) t d → Bends drop d → IsTrue (has a new)
    bent_marked d link bends = ⊎_elim
        (λ (one : has a nodes ≡ true). of_nodes a one)
        (λ (out : has a nodes ≡ false). lost_marked (is_kept a x t at out is) (lost_are_seen drop words b.names (sheet_of (home_of x)) t d link (gone d link bends)))
        (cases_Bool (has a nodes))

    asks_marked : asks_place t ≡ true → IsTrue (has a new)
    asks_marked asks = ⊎_elim
        (λ (one : has a nodes ≡ true). of_nodes a one)
        (λ (out : has a nodes ≡ false).
        of_gathered a (gathering.all_asking c words customs today v old mid nodes [] kept nodes_known follows (none_linked v) gathered a x (rewritten drop t) at (tree (is_kept a x t at out is)) (asks_still drop t ∙ asks)))
        (cases_Bool (has a nodes))

    loses_marked : has_lost t ≡ true → IsTrue (has a new)
    loses_marked lost = ⊎_elim
        (λ (one : has a nodes ≡ true). of_nodes a one)
        (λ (out : has a nodes ≡ false). lost_marked (is_kept a x t at out is) (lost_stays drop t lost))
        (cases_Bool (has a nodes))

    outside : has a new ≡ false → has a nodes ≡ false
    outside isnt = false_from_ne_true (has a nodes) (λ one. false≢true (sym isnt ∙ of_nodes a one))

    seeks_noted : (word : List ℕ) → has a new ≡ false → seeks_at b word x t ≡ true → seeks_in w word a ≡ true
    seeks_noted word isnt seek =
        let pair = is_kept a x t at (outside isnt) is in
        ap (λ (f : List ℕ → Node → Bool). f word a) sought
        ∙ (follows.seeks word).all a x (rewritten drop t) (false_from_ne_true (has a old) (λ was. false≢true (sym isnt ∙ of_old a was))) at (tree pair) (still_seeks drop b c over x x t word (finds x pair) ∙ seek)
      where
        finds : (y : book.Node) → Pair drop y y → FindsSame drop b c over y y
        finds (book.place p) pair = pair_finds drop b c over (book.place p) (book.place p) pair refl
        finds (book.name key) pair = pair_finds drop b c over (book.name key) (book.name key) pair tt

  marked : AreMarksReturned sheet b words old new
  marked = record {
    stay = of_old;
    returned = λ a x at on here. of_nodes a (of_sheet a x at on here);
    bent = λ a d (x, t, at, is, link) bends. bent_marked a x t at is d link bends;
    asking = asks_marked;
  }

  pub follows_with : FollowsBut b words customs today w new kept
  follows_with = record {
    follow = subst (λ (l : Links). Follow b words customs today l new kept) (sym links) (returns_follow sheet b c words customs today (links_in v) old new kept inside over numbered marked known follows.follow);
    asks = record { all = λ a x t isnt at is asks. absurd (false≢true (sym isnt ∙ asks_marked a x t at is asks)); known = λ a asks. absurd (false≢true (sym (none_asks a) ∙ asks)) };
    loses = record { all = λ a x t isnt at is lost. absurd (false≢true (sym isnt ∙ loses_marked a x t at is lost)); known = λ a lost. absurd (false≢true (sym (none_loses a) ∙ lost)) };
    seeks = λ word. record {
      all = λ a x t isnt at is seek. seeks_noted a x t at is word isnt seek;
      known = λ a h. (follows.seeks word).known a (sym (ap (λ (f : List ℕ → Node → Bool). f word a) sought) ∙ h);
    };
  }

-- v before, m with what is gathered, and w with what had lost a reference too
pub comes_back : (nodes : List Node) (v m w : Values) → HasGathered nodes [] v (marks_in v) (marks_in m) → HasGathered nodes [] v (unlinked_in v) (unlinked_in m)
    → ((a : Node) → has a (marks_in w) ≡ (has a (marks_in m) || loses_in v a)) → ((a : Node) → has a (unlinked_in w) ≡ (has a (unlinked_in m) || loses_in v a))
    → links_in w ≡ links_in v → kept_in w ≡ kept_in v → ((a : Node) → asks_in w a ≡ false) → ((a : Node) → loses_in w a ≡ false) → seeks_in w ≡ seeks_in v → (sheet : ℕ) → FollowsReturn sheet nodes v w
comes_back nodes v m w marks unlinked lost_marks lost_unlinked links kept asks loses sought sheet b c words customs today inside over numbered of_sheet nodes_known =
    follow_over c b words words customs today v w (numbered_after (DropSheet sheet) b c words over numbered) kept
    (λ among.
    among_losing v (unlinked_in m) (marks_in m) (unlinked_in w) (marks_in w) lost_unlinked lost_marks
    (among_gathered v (unlinked_in v) (marks_in v) (unlinked_in m) (marks_in m) nodes [] unlinked marks among))
    (λ was but. follows_with sheet b c words customs today v w (marks_in v) (marks_in m) (marks_in w) nodes was inside over numbered of_sheet nodes_known but marks lost_marks links asks loses sought)
    (λ was but. follows_with sheet b c words customs today v w (unlinked_in v) (unlinked_in m) (unlinked_in w) nodes was inside over numbered of_sheet nodes_known but unlinked lost_unlinked links asks loses sought)

-- and what is marked then
pub marks_return : (nodes : List Node) (v m w : Values) → HasGathered nodes [] v (marks_in v) (marks_in m) → ((a : Node) → has a (marks_in w) ≡ (has a (marks_in m) || loses_in v a)) → MarksReturn nodes v w
marks_return nodes v m w marks lost_marks a h = by (or_cases (has a (marks_in m)) (loses_in v a) (sym (lost_marks a) ∙ h))
  where
    within : IsTrue (has a (marks_in v)) ⊎ (IsTrue (has a nodes) ⊎ (IsTrue (has a []) ⊎ (asks_in v a ≡ true))) → IsTrue (has a (marks_in v)) ⊎ (IsTrue (has a nodes) ⊎ ((asks_in v a ≡ true) ⊎ (loses_in v a ≡ true)))
    within (inl mark) = inl mark
    within (inr (inl one)) = inr (inl one)
    within (inr (inr (inl none))) = absurd (false≢true none)
    within (inr (inr (inr asks))) = inr (inr (inl asks))

    by : (has a (marks_in m) ≡ true) ⊎ (loses_in v a ≡ true) → IsTrue (has a (marks_in v)) ⊎ (IsTrue (has a nodes) ⊎ ((asks_in v a ≡ true) ⊎ (loses_in v a ≡ true)))
    by (inl front) = within (gathered_cases v (marks_in v) (marks_in m) nodes [] marks a front)
    by (inr lost) = inr (inr (inr lost))
