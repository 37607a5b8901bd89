-- What is kept of values follows over changes of cells, and over reads. Serves the laws, and what reads values.
use Rattle.std.proofs.Common.{◌≡◌, ◌∙◌, sym, ap, refl, subst, ℕ, ℤ, Bool, true, false, List, [], ◌++◌, Option, Some, None, is_some, ⊎_elim}
use Rattle.std.specs.Prelude.{IsTrue, slice_get}
use Rattle.std.specs.FinMap as fin
use Rattle.std.proofs.lemmas.Bool.{cases_Bool, false≢true}
use Rattle.cell_addr.specs.declared.place.Place.{Place}
use Rattle.custom_fn.specs.declared.rule.Rule.{Rule}
use Rattle.formula_tree.specs.Reference.{sheet_of}
use Rattle.formula_tree.specs.Term.{Term}
use Rattle.formula_tree.specs.declared.reference.Corner.{Corner}
use Rattle.book_values.specs.Names.{tree_in}
use Rattle.book_values.specs.Workbook as book
use Rattle.book_values.specs.Workbook.{Workbook, content_tree, home_of, tree_at}
use Rattle.dep_graph.specs.Nodes.{has}
use Rattle.dep_graph.specs.declared.node.Node.{Node}
use Rattle.dep_graph.specs.declared.node.Node.TheVariants.{Cell, Name, Range, Whole}
use Rattle.dep_graph.proofs.Places.{has-append_cases}
use Rattle.kept_book.specs.Kept.{IsMore}
use Rattle.name_table.specs.Named.{words_of}
use Rattle.book_values.specs.Book.{Content}
use Rattle.book_model.specs.Answers.{valued}
use Rattle.book_model.specs.Workbook.{State}
use Rattle.recalc_core.specs.Kept.{Kept, stands}
use Rattle.recalc_core.specs.Laws.{AreKnown, KeepNumbers}
use Rattle.recalc_core.specs.Nodes.{AreNumbered, name_at, node_at}
use Rattle.recalc_core.proofs.Bridge.{none_some, same_some}
use Rattle.recalc_core.proofs.Linking.{one_node}
use Rattle.marked_values.specs.Marks.{Follow}
use Rattle.marked_values.specs.Shifts.{asks_place}
use Rattle.restored_values.specs.Suspects.{has_lost}
use Rattle.marked_values.proofs.Alone.{cells_alone}
use Rattle.marked_values.proofs.Changed.{changes_follow}
use Rattle.marked_values.proofs.Fitting.{more_marks}
use Rattle.marked_values.proofs.Linked.{all_marked}
use Rattle.kept_values.proofs.Following.{AreAmong, FollowsBut, follow_over, from_follow, there}
use Rattle.kept_values.specs.Values.{AreNoted, Follows, asks_in, kept_in, links_in, loses_in, marks_in, seeks, seeks_at, seeks_in, unlinked_in}
use Rattle.kept_values.specs.declared.values.Values.{Values}
use Rattle.session_values.specs.Following.{CellsFollow, FollowsIn, ReadsFollow, book_of, words_in}
use Rattle.session_values.specs.Touched.{IsMarkedIn, IsTouched}

-- words that keep their numbers keep the nodes of names
pub keep_numbers : (words more : List (List ℕ)) → IsMore words more → KeepNumbers words more
keep_numbers words more keeps (Cell p) x at = at
keep_numbers words more keeps (Range b) x at = absurd (none_some x at)
keep_numbers words more keeps (Whole w) x at = absurd (none_some x at)
keep_numbers words more keeps (Name scope number) x at = by (slice_get words number) refl
  where
    by : (o : Option (List ℕ)) → slice_get words number ≡ o → node_at more (Name scope number) ≡ Some x
    by None e = absurd (none_some x (sym (ap (name_at scope) e) ∙ at))
    by (Some word) e = ap (name_at scope) (keeps number word e) ∙ sym (ap (name_at scope) e) ∙ at

module _ (b c : Workbook) (words more : List (List ℕ)) (customs : List (List ℕ × Rule)) (today : ℤ) (numbered : AreNumbered words b.names) (now : AreNumbered more c.names) (keeps : IsMore words more)
    (names : b.names ≡ c.names) where
  numbers : KeepNumbers words more
  numbers = keep_numbers words more keeps

  -- a node that has a tree was the same node before
  was_known : (a : Node) (x : book.Node) (t : Term Corner) → node_at more a ≡ Some x → tree_at c x ≡ Some t → node_at words a ≡ Some x
  was_known (Cell p) x t at is = at
  was_known (Range r) x t at is = absurd (none_some x at)
  was_known (Whole w) x t at is = absurd (none_some x at)
  was_known (Name scope number) (book.place p) t at is = absurd (no_place (slice_get more number) at)
    where
      no_place : (o : Option (List ℕ)) → name_at scope o ≡ Some (book.place p) → ⊥
      no_place None e = none_some (book.place p) e
      no_place (Some word) e = let h = same_some _ _ e in cc
  was_known (Name scope number) (book.name key) t at is =
      let (a, known) = numbered.all key (ap is_some (ap (λ ns. tree_in ns key) names ∙ is)) in
      subst (λ n. node_at words n ≡ Some (book.name key)) (one_node more a (Name scope number) (book.name key) now.once (numbers a (book.name key) known) at) known

  -- but for some nodes before, and for more of them after it, so it is where cells alone are others that are among these
  module _ (places : Place → Bool) (v w : Values) (old new : List Node) (kept : Kept) (touch : IsTouched places v w) (stay : (a : Node) → IsTrue (has a old) → IsTrue (has a new)) (known : AreKnown more new)
      (cells : (q : Place) → ¬ IsTrue (has (Cell q) new) → fin.get b.cells q ≡ fin.get c.cells q) (follows : FollowsBut b words customs today v old kept) where
    joined : (a : Node) → IsTrue (has a (old ++ new)) → IsTrue (has a new)
    joined a h = ⊎_elim (λ (was : has a old ≡ true). stay a was) (λ (is : has a new ≡ true). is) (has-append_cases a old new h)

    free : (a : Node) → has a new ≡ false → has a old ≡ false
    free a isnt = ⊎_elim (λ (was : has a old ≡ true). absurd (false≢true (sym isnt ∙ stay a was))) (λ (out : has a old ≡ false). out) (cases_Bool (has a old))

    same_tree : (a : Node) (x : book.Node) → has a new ≡ false → node_at more a ≡ Some x → tree_at c x ≡ tree_at b x
    same_tree (Cell p) (book.place q) isnt at =
        let one : p ≡ q = same_place_in p q (same_some _ _ at) in
        sym (ap content_tree (subst (λ r. fin.get b.cells r ≡ fin.get c.cells r) one (cells p (λ h. false≢true (sym isnt ∙ h)))))
      where
        same_place_in : (r s : Place) → book.place r ≡ book.place s → r ≡ s
        same_place_in r s h = cc
    same_tree a (book.name key) isnt at = ap (λ ns. tree_in ns key) (sym names)
    same_tree (Name scope number) (book.place q) isnt at = absurd (no_place (slice_get more number) at)
      where
        no_place : (o : Option (List ℕ)) → name_at scope o ≡ Some (book.place q) → ⊥
        no_place None e = none_some (book.place q) e
        no_place (Some word) e = let h = same_some _ _ e in cc
    same_tree (Range r) (book.place q) isnt at = absurd (none_some (book.place q) at)
    same_tree (Whole w) (book.place q) isnt at = absurd (none_some (book.place q) at)

    noted : (first test : book.Node → Term Corner → Bool) → ((x : book.Node) (t : Term Corner) → test x t ≡ true → first x t ≡ true) → (was now : Node → Bool) → now ≡ was → AreNoted first b words old was → AreNoted test c more new now
    noted first test as_before was now same before = record {
      all = λ a x t isnt at is passes. ap (λ f. f a) same ∙ before.all a x t (free a isnt) (was_known a x t at is) (sym (same_tree a x isnt at) ∙ is) (as_before x t passes);
      known = λ a h. let (x, at) = there (node_at words a) (before.known a (sym (ap (λ f. f a) same) ∙ h)) in ap is_some (numbers a x at);
    }

    touched_but : FollowsBut c more customs today w new kept
    touched_but = record {
      follow = subst (λ links. Follow c more customs today links new kept) (sym touch.links)
          (more_marks c more customs today (links_in v) (old ++ new) new kept
          (changes_follow b c words more customs today (links_in v) old new kept follows.follow numbers now (cells_alone b c more new names cells) known)
          joined known);
      asks = noted (λ x. asks_place) (λ x. asks_place) (λ x t h. h) (asks_in v) (asks_in w) touch.asking follows.asks;
      loses = noted (λ x. has_lost) (λ x. has_lost) (λ x t h. h) (loses_in v) (loses_in w) touch.losing follows.loses;
      seeks = λ word. noted (seeks_at b word) (seeks_at c word) (λ x t h. ap (λ ns. seeks ns (sheet_of (home_of x)) word t) names ∙ h) (seeks_in v word) (seeks_in w word) (ap (λ (f : List ℕ → Node → Bool). f word) touch.seeking) (follows.seeks word);
    }

  touched : (places : Place → Bool) (v w : Values) → IsTouched places v w → ((q : Place) → (IsMarkedIn (Some w) q → ⊥) → fin.get b.cells q ≡ fin.get c.cells q) → Follows b words customs today v → Follows c more customs today w
  touched places v w touch cells follows =
      follow_over b c words more customs today v w numbered touch.kept among
      (λ kept but. touched_but places v w (marks_in v) (marks_in w) kept touch touch.stay known (λ q out. cells q (λ both. out both.0)) but)
      (λ kept but. touched_but places v w (unlinked_in v) (unlinked_in w) kept touch touch.linking (λ a h. known a (among follows.among a h)) (λ q out. cells q (λ both. out both.1)) but) follows
    where
      known : AreKnown more (marks_in w)
      known a h = ⊎_elim
          (λ (before : IsTrue (has a (marks_in v))). let (x, at) = there (node_at words a) (follows.known a before) in (x, numbers a x at))
          (λ (p, is, listed). (book.place p, ap (node_at more) is))
          (touch.only a h)

      among : AreAmong (unlinked_in v) (marks_in v) → AreAmong (unlinked_in w) (marks_in w)
      among was a h = ⊎_elim (λ (old : IsTrue (has a (unlinked_in v))). touch.stay a (was a old)) (λ (new : IsTrue (has a (marks_in w))). new) (touch.among a h)

pub cells_follow : CellsFollow
cells_follow b c words more customs today places v None numbered now keeps touch names cells follows = tt
cells_follow b c words more customs today places None (Some w) numbered now keeps touch names cells follows = absurd touch
cells_follow b c words more customs today places (Some v) (Some w) numbered now keeps touch names cells follows = touched b c words more customs today numbered now keeps names places v w touch cells follows

pub reads_follow : ReadsFollow
reads_follow s t customs today values reads follows =
    subst (λ b. FollowsIn b (words_in t) customs today values) (sym (λ i. book_in (reads.state i)))
    (subst (λ ws. FollowsIn (book_of s) ws customs today values) (sym (ap words_of reads.names)) follows)
  where
    book_in : State → Workbook
    book_in d = valued d.book

-- where nothing is linked and kept, and all that stands is marked
pub all_follow : (b : Workbook) (words : List (List ℕ)) (customs : List (List ℕ × Rule)) (today : ℤ) (v : Values) (nodes : List Node) → AreNumbered words b.names → ((a : Node) → links_in v a ≡ []) → ((a : Node) → kept_in v a ≡ None) → ((a : Node) → asks_in v a ≡ false) → ((a : Node) → loses_in v a ≡ false) → ((word : List ℕ) (a : Node) → seeks_in v word a ≡ false)
    → ((a : Node) → has a (marks_in v) ≡ has a ([] ++ nodes)) → ((a : Node) → has a (unlinked_in v) ≡ has a ([] ++ nodes)) → ((a : Node) (x : book.Node) → node_at words a ≡ Some x → stands b x ≡ true → IsTrue (has a nodes)) → AreKnown words nodes → Follows b words customs today v
all_follow b words customs today v nodes numbered links kept asking losing seeking marks unlinked all known =
    let marked = follow (marks_in v) marks in
    from_follow b words customs today v (kept_in v)
    (record {
      follow = follow (unlinked_in v) unlinked;
      asks = none_noted (λ x. asks_place) (asks_in v) asking;
      loses = none_noted (λ x. has_lost) (loses_in v) losing;
      seeks = λ word. none_noted (seeks_at b word) (seeks_in v word) (seeking word);
    })
    (λ a h. marks a ∙ sym (unlinked a) ∙ h) marked.known marked.fit
  where
    follow : (ns : List Node) → ((a : Node) → has a ns ≡ has a ([] ++ nodes)) → Follow b words customs today (links_in v) ns (kept_in v)
    follow ns are = all_marked b words customs today (links_in v) ns (kept_in v) numbered links kept (λ a x at standing. are a ∙ all a x at standing) (λ a h. known a (sym (are a) ∙ h))

    has_tree : (x : book.Node) (t : Term Corner) → tree_at b x ≡ Some t → stands b x ≡ true
    has_tree (book.place p) t is = by (fin.get b.cells p) refl is
      where
        by : (o : Option Content) → fin.get b.cells p ≡ o → content_tree o ≡ Some t → is_some (fin.get b.cells p) ≡ true
        by None e h = absurd (none_some t h)
        by (Some content) e h = ap is_some e
    has_tree (book.name key) t is = ap is_some is

    none_noted : (test : book.Node → Term Corner → Bool) (noted : Node → Bool) → ((a : Node) → noted a ≡ false) → AreNoted test b words (unlinked_in v) noted
    none_noted test noted none = record {
      all = λ a x t isnt at is passes. absurd (false≢true (sym isnt ∙ unlinked a ∙ all a x at (has_tree x t is)));
      known = λ a h. absurd (false≢true (sym (none a) ∙ h));
    }
