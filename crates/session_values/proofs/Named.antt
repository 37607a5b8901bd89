-- What is kept of values follows over a change of one name. Serves the calls that take it along.
use Rattle.std.proofs.Common.{◌≡◌, ◌≢◌, ◌∙◌, sym, ap, refl, subst, ℕ, ℤ, ◌||◌, ◌&&◌, Bool, true, false, cond, List, [], ◌∷◌, ◌++◌, Option, Some, None, is_some, Result, Ok, Err, ◌⊎◌, inl, inr, ⊎_elim, append_assoc}
use Rattle.std.specs.Prelude.{IfSome, IsTrue, OnOk, bytes_eq, pos, slice_get, unwrap_or}
use Rattle.cell_addr.specs.Sheets.{same_name}
use Rattle.cell_addr.specs.Text.{folded}
use Rattle.name_table.proofs.WordNumbers.{folded-folded, number-spelled, spelled-number}
use Rattle.name_table.specs.declared.key.NameKey.{NameKey}
use Rattle.cell_addr.specs.declared.place.TheConstants.{NO_SHEET}
use Rattle.std.proofs.lemmas.Option.{same_Some}
use Rattle.kept_steps.proofs.GivenNodes.{scope-back}
use Rattle.kept_steps.specs.Turned.{key_spelt}
use Rattle.recalc_core.proofs.ReadNames.{found_alike}
use Rattle.marked_values.specs.NameMarks.{is_scope_for}
use Rattle.std.specs.List.{list_any}
use Rattle.std.specs.Option.{is_none}
use Rattle.std.proofs.lemmas.Bool.{and_from, and_parts, cases_Bool, false≢true, or_cases, or_left, or_right}
use Rattle.std.proofs.lemmas.List.Folds.{list_any-append}
use Rattle.custom_fn.specs.declared.rule.Rule.{Rule}
use Rattle.formula_tree.proofs.SameLinks.{names_alike}
use Rattle.formula_tree.specs.Links.{names_in}
use Rattle.formula_tree.specs.Reference.{sheet_of}
use Rattle.formula_tree.specs.Term.{Term}
use Rattle.formula_tree.specs.declared.reference.Corner.{Corner}
use Rattle.book_values.proofs.Keys.{same_key-self}
use Rattle.book_values.specs.Names.{Key, found, is_found, key_of, tree_in}
use Rattle.book_values.specs.Workbook as book
use Rattle.book_values.specs.Workbook.{Workbook, home_of, tree_at}
use Rattle.dep_graph.specs.Nodes.{has, same_node}
use Rattle.dep_graph.specs.Users.{AreLinkedTo}
use Rattle.dep_graph.specs.declared.node.Node.{Node}
use Rattle.dep_graph.specs.declared.node.Node.TheVariants.{Cell, Name, Range, Whole}
use Rattle.dep_graph.proofs.Places.{has-append_cases, has-append_left, has-append_right, has_first, has_one}
use Rattle.kept_book.specs.Kept.{IsMore}
use Rattle.kept_steps.specs.declared.session.Session.{Session}
use Rattle.recalc_core.specs.Edits.{DifferInName, UsesWord}
use Rattle.recalc_core.specs.Kept.{Kept}
use Rattle.recalc_core.specs.Links.{IsLinkOf}
use Rattle.recalc_core.specs.Laws.{AreKnown, KeepNumbers}
use Rattle.recalc_core.specs.Nodes.{AreNumbered, name_at, node_at}
use Rattle.recalc_core.proofs.Bridge.{none_some}
use Rattle.recalc_core.proofs.Linking.{one_node}
use Rattle.recalc_core.proofs.Worked.{tree_stands}
use Rattle.marked_values.specs.Marks.{Follow}
use Rattle.marked_values.specs.Shifts.{asks_place}
use Rattle.marked_values.proofs.Finding.{added_is_found, changed_is_found_alike, removed_was_found}
use Rattle.marked_values.proofs.NameMarks.{added_follow, changed_follow, removed_follow}
use Rattle.marked_values.proofs.Reaching.{known_before}
use Rattle.restored_values.specs.Suspects.{has_lost}
use Rattle.kept_values.specs.Values.{AreNoted, Follows, asks_in, kept_in, links_in, loses_in, marks_in, seeks_at, seeks_in, unlinked_in}
use Rattle.kept_values.specs.declared.values.Values.{Values}
use Rattle.kept_values.proofs.Following.{AreAmong, FollowsBut, follow_over, marked_follow, there}
use Rattle.kept_values.proofs.Gathered.{among_after}
use Rattle.session_values.specs.declared.naming.NameTurn.{NameTurn}
use Rattle.session_values.specs.declared.naming.NameTurn.TheVariants.{Absent, Added, Changed, Removed}
use Rattle.session_values.specs.Following.{book_of, words_in}
use Rattle.session_values.specs.Naming.{FollowsAddition, FollowsChange, FollowsName, FollowsRemoval, FollowsTurn, IsLinkedIn, IsMarkedFor, IsNameIn, MarksAddition, MarksChange, MarksRemoval, MarksTurn, had_formula, has_formula}
use Rattle.session_values.specs.internal.Marked.{AreSought, HasMarked, HasMarkedLinked, HasSought, HasTurned, HaveMarked, HaveSought, own_node, whole_node}
use Rattle.session_values.proofs.Followed.{keep_numbers}

-- what passes one test passes one of two others
any_either : (p q r : List ℕ → Bool) → ((w : List ℕ) → p w ≡ true → (q w ≡ true) ⊎ (r w ≡ true)) → (ws : List (List ℕ)) → list_any p ws ≡ true → (list_any q ws ≡ true) ⊎ (list_any r ws ≡ true)
any_either p q r each [] h = absurd (false≢true h)
any_either p q r each (w ∷ ws) h = ⊎_elim
    (λ (first : p w ≡ true). ⊎_elim (λ (one : q w ≡ true). inl (or_left (q w) (list_any q ws) one)) (λ (other : r w ≡ true). inr (or_left (r w) (list_any r ws) other)) (each w first))
    (λ (rest : list_any p ws ≡ true). ⊎_elim (λ (one : list_any q ws ≡ true). inl (or_right (q w) (list_any q ws) one)) (λ (other : list_any r ws ≡ true). inr (or_right (r w) (list_any r ws) other)) (any_either p q r each ws rest))
    (or_cases (p w) (list_any p ws) h)

-- what the graph links to something is known
linked_is_known : (b : Workbook) (words : List (List ℕ)) (customs : List (List ℕ × Rule)) (today : ℤ) (v : Values) (nodes : List Node) (kept : Kept) → FollowsBut b words customs today v nodes kept → (a d : Node) → IsTrue (has d (links_in v a))
    → (x : book.Node) × (node_at words a ≡ Some x)
linked_is_known b words customs today v nodes kept before a d link = ⊎_elim
    (λ (within : has a nodes ≡ true). before.follow.known a within)
    (λ (out : has a nodes ≡ false). let (x, t, is, tree, to) = (before.follow.linked.exact a d (λ within. false≢true (sym out ∙ within))).0 link in (x, is))
    (cases_Bool (has a nodes))

-- where nodes are marked, of links and notes that follow but for some nodes first, and for these and the marked ones then
module _ (b c : Workbook) (words more : List (List ℕ)) (customs : List (List ℕ × Rule)) (today : ℤ) (key : Key) (n : Node) (v w : Values) (nodes : List Node)
    (numbered : AreNumbered words b.names) (now : AreNumbered more c.names) (keeps : IsMore words more) (differ : DifferInName b c key) (at : node_at more n ≡ Some (book.name key))
    (marked : HaveMarked nodes v w) (itself : IsTrue (has n nodes)) (old new : List Node) (kept : Kept) (grown : (a : Node) → has a new ≡ has a (old ++ nodes)) (follows : FollowsBut b words customs today v old kept) where
  numbers : KeepNumbers words more
  numbers = keep_numbers words more keeps

  stay : (a : Node) → IsTrue (has a old) → IsTrue (has a new)
  stay a h = grown a ∙ has-append_left a old nodes h

  added : (a : Node) → IsTrue (has a nodes) → IsTrue (has a new)
  added a h = grown a ∙ has-append_right a old nodes h

  -- each then was there, or is one of the nodes
  known : AreKnown more nodes → AreKnown more new
  known nodes_known a h = ⊎_elim
      (λ (was : has a old ≡ true). let (x, is) = follows.follow.known a was in (x, numbers a x is))
      (λ (is : has a nodes ≡ true). nodes_known a is)
      (has-append_cases a old nodes (sym (grown a) ∙ h))

  free : (a : Node) → has a new ≡ false → has a old ≡ false
  free a isnt = ⊎_elim (λ (was : has a old ≡ true). absurd (false≢true (sym isnt ∙ stay a was))) (λ (is : has a old ≡ false). is) (cases_Bool (has a old))

  -- another node has the formula that it had
  same_tree : (a : Node) (x : book.Node) → has a new ≡ false → node_at more a ≡ Some x → tree_at b x ≡ tree_at c x
  same_tree a (book.place p) isnt is = ap (λ cells. tree_at (record { cells = cells; names = b.names }) (book.place p)) differ.cells
  same_tree a (book.name other) isnt is = differ.trees other (λ same. false≢true (sym isnt ∙ added a (subst (λ m. IsTrue (has m nodes)) (sym (one a (is ∙ ap (λ k. Some (book.name k)) same))) itself)))
    where
      one : (a : Node) → node_at more a ≡ Some (book.name key) → a ≡ n
      one a to = one_node more a n (book.name key) now.once to at

  noted : (first test : book.Node → Term Corner → Bool) → ((a : Node) (x : book.Node) (t : Term Corner) → has a new ≡ false → node_at more a ≡ Some x → tree_at b x ≡ Some t → test x t ≡ true → first x t ≡ true)
      → (was is : Node → Bool) → is ≡ was → AreNoted first b words old was → AreNoted test c more new is
  noted first test as_before was is same all = record {
    all = λ a x t isnt to tree passes.
        let had = same_tree a x isnt to ∙ tree in
        ap (λ f. f a) same ∙ all.all a x t (free a isnt) (known_before b words more numbered numbers now.once a x to (tree_stands b [] (pos 0) x t had)) had (as_before a x t isnt to had passes);
    known = λ a h. let (x, to) = there (node_at words a) (all.known a (sym (ap (λ f. f a) same) ∙ h)) in ap is_some (numbers a x to);
  }

  still : Follow c more customs today (links_in v) new kept
      → ((word : List ℕ) (a : Node) (x : book.Node) (t : Term Corner) → has a new ≡ false → node_at more a ≡ Some x → tree_at b x ≡ Some t → seeks_at c word x t ≡ true → seeks_at b word x t ≡ true) → FollowsBut c more customs today w new kept
  still follow seek_before = record {
    follow = subst (λ links. Follow c more customs today links new kept) (sym marked.links) follow;
    asks = noted (λ x. asks_place) (λ x. asks_place) (λ a x t isnt to is h. h) (asks_in v) (asks_in w) marked.asking follows.asks;
    loses = noted (λ x. has_lost) (λ x. has_lost) (λ a x t isnt to is h. h) (loses_in v) (loses_in w) marked.losing follows.loses;
    seeks = λ word. noted (seeks_at b word) (seeks_at c word) (seek_before word) (seeks_in v word) (seeks_in w word) (ap (λ (f : List ℕ → Node → Bool). f word) marked.seeking) (follows.seeks word);
  }

  change_follows_but : AreKnown more nodes → is_some (tree_in b.names key) ≡ true → is_some (tree_in c.names key) ≡ true → FollowsBut c more customs today w new kept
  change_follows_but nodes_known had has_it = still
      (changed_follow b c words more customs today (links_in v) old new kept n key follows.follow numbers now differ had has_it at stay (added n itself) (known nodes_known))
      (λ word a x t isnt to is seek. (λ i. list_any (λ u. same_name word u && is_none (changed_is_found_alike b c key u (sheet_of (home_of x)) differ had has_it i)) (names_in t)) ∙ seek)

  removal_follows_but : ((a : Node) → IsTrue (has n (links_in v a)) → IsTrue (has a nodes)) → AreKnown more nodes → is_some (tree_in b.names key) ≡ true → is_some (tree_in c.names key) ≡ false → FollowsBut c more customs today w new kept
  removal_follows_but linked nodes_known had gone = still
      (removed_follow b c words more customs today (links_in v) old new kept n key follows.follow numbers now differ gone at
      (record {
        stay = stay;
        itself = added n itself;
        users = λ a link. added a (linked a link);
      })
      (known nodes_known))
      sought_before
    where
      -- a word that found the name was linked to it
      sought_before : (asked : List ℕ) (a : Node) (x : book.Node) (t : Term Corner) → has a new ≡ false → node_at more a ≡ Some x → tree_at b x ≡ Some t → seeks_at c asked x t ≡ true → seeks_at b asked x t ≡ true
      sought_before asked a x t isnt to is seek = ⊎_elim (λ (before_too : seeks_at b asked x t ≡ true). before_too)
          (λ (used : list_any (λ word. is_found (found b.names word (sheet_of (home_of x))) key) (names_in t) ≡ true).
          let known_a = known_before b words more numbered numbers now.once a x to (tree_stands b [] (pos 0) x t is) in
          let known_n = known_before b words more numbered numbers now.once n (book.name key) at had in
          let link = (follows.follow.linked.exact a n (λ was. false≢true (sym (free a isnt) ∙ was))).1 (x, t, known_a, is, link_of n known_n used) in
          absurd (false≢true (sym isnt ∙ added a (linked a link))))
          (any_either (λ word. same_name asked word && is_none (found c.names word (sheet_of (home_of x)))) (λ word. same_name asked word && is_none (found b.names word (sheet_of (home_of x))))
          (λ word. is_found (found b.names word (sheet_of (home_of x))) key)
          (λ word none. ⊎_elim
          (λ (same : found b.names word (sheet_of (home_of x)) ≡ found c.names word (sheet_of (home_of x))). inl (ap (λ o. same_name asked word && is_none o) same ∙ none))
          (λ (it : found b.names word (sheet_of (home_of x)) ≡ Some key). inr (ap (λ o. is_found o key) it ∙ same_key-self key))
          (removed_was_found b c key word (sheet_of (home_of x)) differ gone)) (names_in t) seek)
        where
          link_of : (m : Node) → node_at words m ≡ Some (book.name key) → list_any (λ word. is_found (found b.names word (sheet_of (home_of x))) key) (names_in t) ≡ true → IsLinkOf words b.names (sheet_of (home_of x)) t m
          link_of (Cell p) it used = absurd (cc)
          link_of (Range r) it used = absurd (none_some (book.name key) it)
          link_of (Whole w) it used = absurd (none_some (book.name key) it)
          link_of (Name scope word) it used = (key, it, used)

module _ (b c : Workbook) (words more : List (List ℕ)) (customs : List (List ℕ × Rule)) (today : ℤ) (key : Key) (n : Node) (v w : Values) (nodes : List Node)
    (numbered : AreNumbered words b.names) (now : AreNumbered more c.names) (keeps : IsMore words more) (differ : DifferInName b c key) (at : node_at more n ≡ Some (book.name key))
    (marked : HaveMarked nodes v w) (itself : IsTrue (has n nodes)) (follows : Follows b words customs today v) where
  among : AreAmong (unlinked_in v) (marks_in v) → AreAmong (unlinked_in w) (marks_in w)
  among within a h = marked.marks a ∙ among_after (unlinked_in v) (marks_in v) nodes within a (sym (marked.unlinked a) ∙ h)

  pub change_follows : AreKnown more nodes → is_some (tree_in b.names key) ≡ true → is_some (tree_in c.names key) ≡ true → Follows c more customs today w
  change_follows nodes_known had has_it = follow_over b c words more customs today v w numbered marked.kept among
      (λ kept but. change_follows_but b c words more customs today key n v w nodes numbered now keeps differ at marked itself (marks_in v) (marks_in w) kept marked.marks but nodes_known had has_it)
      (λ kept but. change_follows_but b c words more customs today key n v w nodes numbered now keeps differ at marked itself (unlinked_in v) (unlinked_in w) kept marked.unlinked but nodes_known had has_it)
      follows

  -- what the graph links to something is known
  pub linked_known : (a d : Node) → IsTrue (has d (links_in v a)) → (x : book.Node) × (node_at more a ≡ Some x)
  linked_known a d link =
      let (x, is) = linked_is_known b words customs today v (marks_in v) (kept_in v) (marked_follow b words customs today v numbered follows) a d link in
      (x, keep_numbers words more keeps a x is)

  pub removal_follows : ((a : Node) → IsTrue (has n (links_in v a)) → IsTrue (has a nodes)) → AreKnown more nodes → is_some (tree_in b.names key) ≡ true → is_some (tree_in c.names key) ≡ false → Follows c more customs today w
  removal_follows linked nodes_known had gone = follow_over b c words more customs today v w numbered marked.kept among
      (λ kept but. removal_follows_but b c words more customs today key n v w nodes numbered now keeps differ at marked itself (marks_in v) (marks_in w) kept marked.marks but linked nodes_known had gone)
      (λ kept but. removal_follows_but b c words more customs today key n v w nodes numbered now keeps differ at marked itself (unlinked_in v) (unlinked_in w) kept marked.unlinked but linked nodes_known had gone)
      follows

-- where what seeks a word is marked, likewise
module _ (b c : Workbook) (words more : List (List ℕ)) (customs : List (List ℕ × Rule)) (today : ℤ) (key : Key) (n m : Node) (v w : Values)
    (numbered : AreNumbered words b.names) (now : AreNumbered more c.names) (keeps : IsMore words more) (differ : DifferInName b c key) (at : node_at more n ≡ Some (book.name key))
    (whole : node_at more m ≡ Some (book.name (key_of None key.word))) (fresh : is_some (tree_in b.names key) ≡ false) (word : List ℕ) (of_word : folded word ≡ key.word) (have : HaveSought n m word v w)
    (old new : List Node) (kept : Kept) (sought : AreSought n m word v old new) (follows : FollowsBut b words customs today v old kept) where
  all_numbers : KeepNumbers words more
  all_numbers = keep_numbers words more keeps

  was_free : (a : Node) → has a new ≡ false → has a old ≡ false
  was_free a isnt = ⊎_elim (λ (was : has a old ≡ true). absurd (false≢true (sym isnt ∙ sought.stay a was))) (λ (is : has a old ≡ false). is) (cases_Bool (has a old))

  had_tree : (a : Node) (x : book.Node) → has a new ≡ false → node_at more a ≡ Some x → tree_at b x ≡ tree_at c x
  had_tree a (book.place p) isnt is = ap (λ cells. tree_at (record { cells = cells; names = b.names }) (book.place p)) differ.cells
  had_tree a (book.name other) isnt is = differ.trees other (λ same. false≢true (sym isnt ∙ subst (λ m. IsTrue (has m new)) (sym (one a (is ∙ ap (λ k. Some (book.name k)) same))) sought.itself))
    where
      one : (a : Node) → node_at more a ≡ Some (book.name key) → a ≡ n
      one a to = one_node more a n (book.name key) now.once to at

  spelt : folded key.word ≡ key.word
  spelt = ap folded (sym of_word) ∙ folded-folded word ∙ of_word

  -- a formula that uses the word where it finds no name is among the nodes then
  seeking_marked : (a : Node) (x : book.Node) (t : Term Corner) → node_at more a ≡ Some x → tree_at b x ≡ Some t → seeks_at b word x t ≡ true → IsTrue (has a new)
  seeking_marked a x t to is seek = ⊎_elim
      (λ (was : has a old ≡ true). sought.stay a was)
      (λ (out : has a old ≡ false). sought.sought a ((follows.seeks word).all a x t out (known_before b words more numbered all_numbers now.once a x to (tree_stands b [] (pos 0) x t is)) is seek))
      (cases_Bool (has a old))

  -- so is one that uses the word of the name where that finds none
  finding : (a : Node) (x : book.Node) (t : Term Corner) → node_at more a ≡ Some x → tree_at b x ≡ Some t → UsesWord t key.word → found b.names key.word (sheet_of (home_of x)) ≡ None → is_scope_for key.scope (sheet_of (home_of x)) ≡ true → IsTrue (has a new)
  finding a x t to is uses none within = seeking_marked a x t to is (⊎_elim (λ (h : seeks_at b word x t ≡ true). h) (λ (h : list_any (λ u. false) (names_in t) ≡ true). absurd (none_passes (names_in t) h))
      (any_either (λ u. bytes_eq (folded u) key.word) (λ u. same_name word u && is_none (found b.names u (sheet_of (home_of x)))) (λ u. false)
      (λ u same. inl (and_from (same_name word u) (is_none (found b.names u (sheet_of (home_of x)))) (names_alike.symm word u ∙ ap (bytes_eq (folded u)) of_word ∙ same)
      (ap is_none (found_alike b.names u key.word (sheet_of (home_of x)) (ap (bytes_eq (folded u)) spelt ∙ same) ∙ none)))) (names_in t) uses))
    where
      none_passes : (ws : List (List ℕ)) → list_any (λ u. false) ws ≡ true → ⊥
      none_passes [] h = false≢true h
      none_passes (u ∷ ws) h = none_passes ws h

  all_known : AreKnown more new
  all_known a h = by (sought.only a h)
    where
      by : IsTrue (has a old) ⊎ ((seeks_in v word a ≡ true) ⊎ (IsTrue (has m (links_in v a)) ⊎ (a ≡ n))) → (x : book.Node) × (node_at more a ≡ Some x)
      by (inl was) = let (x, is) = follows.follow.known a was in (x, all_numbers a x is)
      by (inr (inl seek)) = let (x, is) = there (node_at words a) ((follows.seeks word).known a seek) in (x, all_numbers a x is)
      by (inr (inr (inl link))) = let (x, is) = linked_is_known b words customs today v old kept follows a m link in (x, all_numbers a x is)
      by (inr (inr (inr same))) = (book.name key, ap (node_at more) same ∙ at)

  still_noted : (test : Term Corner → Bool) (first is : Node → Bool) → is ≡ first → AreNoted (λ x. test) b words old first → AreNoted (λ x. test) c more new is
  still_noted test first is same all = record {
    all = λ a x t isnt to tree passes.
        let had = had_tree a x isnt to ∙ tree in
        ap (λ f. f a) same ∙ all.all a x t (was_free a isnt) (known_before b words more numbered all_numbers now.once a x to (tree_stands b [] (pos 0) x t had)) had passes;
    known = λ a h. let (x, to) = there (node_at words a) (all.known a (sym (ap (λ f. f a) same) ∙ h)) in ap is_some (all_numbers a x to);
  }

  -- where a word finds none now, it found none before
  sought_too : (other : List ℕ) (x : book.Node) (t : Term Corner) → seeks_at c other x t ≡ true → seeks_at b other x t ≡ true
  sought_too other x t seek = ⊎_elim (λ (h : seeks_at b other x t ≡ true). h) (λ (h : seeks_at b other x t ≡ true). h)
      (any_either (λ u. same_name other u && is_none (found c.names u (sheet_of (home_of x)))) (λ u. same_name other u && is_none (found b.names u (sheet_of (home_of x))))
      (λ u. same_name other u && is_none (found b.names u (sheet_of (home_of x))))
      (λ u none. ⊎_elim
      (λ (same : found b.names u (sheet_of (home_of x)) ≡ found c.names u (sheet_of (home_of x))). inl (ap (λ o. same_name other u && is_none o) same ∙ none))
      (λ (now_it, way). absurd (false≢true (sym (ap is_none now_it) ∙ (and_parts (same_name other u) (is_none (found c.names u (sheet_of (home_of x)))) none).1)))
      (added_is_found b c key u (sheet_of (home_of x)) differ fresh)) (names_in t) seek)

  -- and what uses another word is noted still
  still_sought : (other : List ℕ) → AreNoted (seeks_at c other) c more new (seeks_in w other)
  still_sought other = ⊎_elim here elsewhere (cases_Bool (same_name word other))
    where
      here : same_name word other ≡ true → AreNoted (seeks_at c other) c more new (seeks_in w other)
      here same = record {
        all = λ a x t isnt to tree seek.
            let had = had_tree a x isnt to ∙ tree in
            absurd (false≢true (sym isnt ∙ seeking_marked a x t to had ((λ i. list_any (λ u. names_alike.congr word other u same i && is_none (found b.names u (sheet_of (home_of x)))) (names_in t)) ∙ sought_too other x t seek)));
        known = λ a h. absurd (false≢true (sym (have.seeking other a ∙ ap (λ q. cond q false (seeks_in v other a)) same) ∙ h));
      }

      elsewhere : same_name word other ≡ false → AreNoted (seeks_at c other) c more new (seeks_in w other)
      elsewhere apart = record {
        all = λ a x t isnt to tree seek.
            let had = had_tree a x isnt to ∙ tree in
            stays a ∙ (follows.seeks other).all a x t (was_free a isnt) (known_before b words more numbered all_numbers now.once a x to (tree_stands b [] (pos 0) x t had)) had (sought_too other x t seek);
        known = λ a h. let (x, to) = there (node_at words a) ((follows.seeks other).known a (sym (stays a) ∙ h)) in ap is_some (all_numbers a x to);
      }
        where
          stays : (a : Node) → seeks_in w other a ≡ seeks_in v other a
          stays a = have.seeking other a ∙ ap (λ q. cond q false (seeks_in v other a)) apart

  addition_follows_but : FollowsBut c more customs today w new kept
  addition_follows_but = record {
    follow = subst (λ links. Follow c more customs today links new kept) (sym have.links)
        (added_follow b c words more customs today (links_in v) old new kept n key follows.follow all_numbers now differ fresh at
        (record { stay = sought.stay; itself = sought.itself; finding = finding; hidden = λ a d x to own at_whole link. sought.linked a (subst (λ e. IsTrue (has e (links_in v a))) (one_node more d m (book.name (key_of None key.word)) now.once at_whole whole) link) }) all_known);
    asks = still_noted asks_place (asks_in v) (asks_in w) have.asking follows.asks;
    loses = still_noted has_lost (loses_in v) (loses_in w) have.losing follows.loses;
    seeks = still_sought;
  }

module _ (b c : Workbook) (words more : List (List ℕ)) (customs : List (List ℕ × Rule)) (today : ℤ) (key : Key) (n m : Node) (v w : Values)
    (numbered : AreNumbered words b.names) (now : AreNumbered more c.names) (keeps : IsMore words more) (differ : DifferInName b c key) (at : node_at more n ≡ Some (book.name key))
    (whole : node_at more m ≡ Some (book.name (key_of None key.word))) (fresh : is_some (tree_in b.names key) ≡ false) (word : List ℕ) (of_word : folded word ≡ key.word) (have : HaveSought n m word v w) (follows : Follows b words customs today v) where
  among_sought : AreAmong (unlinked_in v) (marks_in v) → AreAmong (unlinked_in w) (marks_in w)
  among_sought within a h = by (have.unlinked.only a h)
    where
      by : IsTrue (has a (unlinked_in v)) ⊎ ((seeks_in v word a ≡ true) ⊎ (IsTrue (has m (links_in v a)) ⊎ (a ≡ n))) → IsTrue (has a (marks_in w))
      by (inl was) = have.marks.stay a (within a was)
      by (inr (inl seek)) = have.marks.sought a seek
      by (inr (inr (inl link))) = have.marks.linked a link
      by (inr (inr (inr same))) = subst (λ d. IsTrue (has d (marks_in w))) (sym same) have.marks.itself

  pub addition_follows : Follows c more customs today w
  addition_follows = follow_over b c words more customs today v w numbered have.kept among_sought
      (λ kept but. addition_follows_but b c words more customs today key n m v w numbered now keeps differ at whole fresh word of_word have (marks_in v) (marks_in w) kept have.marks but)
      (λ kept but. addition_follows_but b c words more customs today key n m v w numbered now keeps differ at whole fresh word of_word have (unlinked_in v) (unlinked_in w) kept have.unlinked but)
      follows

-- where nothing is kept any more
pub nothing_named : (key : Key) (s : Session) (had has : Bool) (old : Option Values) → FollowsName key s had has old None
nothing_named key s had has old b words customs today numbered now keeps differ was is follows = tt

-- where it is marked with what uses its word where that finds no name, and what is linked to the whole workbook's name
pub follows_addition : (scope : Option ℕ) (word : List ℕ) (s : Session) (name whole : Option Node) (v : Values) (new : Option Values) → IfSome name (λ n. node_at (words_in s) n ≡ Some (book.name (key_of scope word)))
    → IfSome whole (λ m. node_at (words_in s) m ≡ Some (book.name (key_of None word))) → IfSome new (λ w. HasSought name whole word v w) → FollowsAddition (key_of scope word) s (Some v) new × MarksAddition scope word s (Some v) new
follows_addition scope word s name whole v None at over marked = (λ b words customs today numbered now keeps differ fresh has_it follows. tt, tt)
follows_addition scope word s None whole v (Some w) at over marked = absurd marked
follows_addition scope word s (Some n) None v (Some w) at over marked = absurd marked
follows_addition scope word s (Some n) (Some m) v (Some w) at over marked = (
  λ b words customs today numbered now keeps differ fresh has_it follows.
      addition_follows b (book_of s) words (words_in s) customs today (key_of scope word) n m v w numbered now keeps differ at (over ∙ ap (λ (f : List ℕ). Some (book.name (record { scope = None; word = f }))) (sym (folded-folded word))) fresh word refl marked follows,
  record {
    links = marked.links;
    asking = marked.asking;
    losing = marked.losing;
    kept = marked.kept;
    stay = marked.marks.stay;
    only = λ a h. by a (marked.marks.only a h);
  },
)
  where
    by : (a : Node) → IsTrue (has a (marks_in v)) ⊎ ((seeks_in v word a ≡ true) ⊎ (IsTrue (has m (links_in v a)) ⊎ (a ≡ n)))
        → IsTrue (has a (marks_in v)) ⊎ (IsNameIn s (key_of scope word) a ⊎ ((seeks_in v word a ≡ true) ⊎ IsLinkedIn s (key_of None word) v a))
    by a (inl old) = inl old
    by a (inr (inl seek)) = inr (inr (inl seek))
    by a (inr (inr (inl link))) = inr (inr (inr (m, over, link)))
    by a (inr (inr (inr same))) = inr (inl (ap (node_at (words_in s)) same ∙ at))

-- where nodes of which something holds were marked, they may be
marks_for : (which : Node → Type 0) (nodes : List Node) (v w : Values) → HaveMarked nodes v w → ((a : Node) → IsTrue (has a nodes) → which a) → IsMarkedFor which v w
marks_for which nodes v w marked each = record {
  links = marked.links;
  asking = marked.asking;
  losing = marked.losing;
  kept = marked.kept;
  stay = λ a h. marked.marks a ∙ has-append_left a (marks_in v) nodes h;
  only = λ a h. ⊎_elim (λ (old : has a (marks_in v) ≡ true). inl old) (λ (new : has a nodes ≡ true). inr (each a new)) (has-append_cases a (marks_in v) nodes (sym (marked.marks a) ∙ h));
}

-- where the name is marked alone
pub follows_change : (key : Key) (s : Session) (name : Option Node) (v : Values) (new : Option Values) → IfSome name (λ n. node_at (words_in s) n ≡ Some (book.name key)) → IfSome new (λ w. HasMarked name v w)
    → FollowsChange key s (Some v) new × MarksChange key s (Some v) new
follows_change key s name v None at marked = (λ b words customs today numbered now keeps differ had has_it follows. tt, tt)
follows_change key s None v (Some w) at marked = absurd marked
follows_change key s (Some n) v (Some w) at marked = (
  λ b words customs today numbered now keeps differ had has_it follows.
      change_follows b (book_of s) words (words_in s) customs today key n v w (n ∷ []) numbered now keeps differ at marked (has_first n []) follows (λ a h. (book.name key, is a h)) had has_it,
  marks_for (IsNameIn s key) (n ∷ []) v w marked is,
)
  where
    is : (a : Node) → IsTrue (has a (n ∷ [])) → node_at (words_in s) a ≡ Some (book.name key)
    is a h = ap (node_at (words_in s)) (has_one a n h) ∙ at

-- where what is linked to it is marked too
pub follows_removal : (key : Key) (s : Session) (name : Option Node) (v : Values) (new : Option Values) → IfSome name (λ n. node_at (words_in s) n ≡ Some (book.name key)) → IfSome new (λ w. HasMarkedLinked name v w)
    → FollowsRemoval key s (Some v) new × MarksRemoval key s (Some v) new
follows_removal key s name v None at marked = (λ b words customs today numbered now keeps differ had gone follows. tt, tt)
follows_removal key s None v (Some w) at marked = absurd marked
follows_removal key s (Some n) v (Some w) at marked =
    let (nodes, linked, have) = marked in (
      λ b words customs today numbered now keeps differ had gone follows.
          removal_follows b (book_of s) words (words_in s) customs today key n v w (nodes ++ n ∷ []) numbered now keeps differ at have (has-append_right n nodes (n ∷ []) (has_first n [])) follows
          (λ a link. has-append_left a nodes (n ∷ []) ((linked.0 a).1 link))
          (λ a h. ⊎_elim
          (λ (one : has a nodes ≡ true). linked_known b (book_of s) words (words_in s) customs today key n v w (nodes ++ n ∷ []) numbered now keeps differ at have (has-append_right n nodes (n ∷ []) (has_first n [])) follows a n ((linked.0 a).0 one))
          (λ (last : has a (n ∷ []) ≡ true). (book.name key, itself a last))
          (has-append_cases a nodes (n ∷ []) h)) had gone,
      marks_for (λ a. IsNameIn s key a ⊎ IsLinkedIn s key v a) (nodes ++ n ∷ []) v w have (λ a h. ⊎_elim
          (λ (one : has a nodes ≡ true). inr (n, at, (linked.0 a).0 one))
          (λ (last : has a (n ∷ []) ≡ true). inl (itself a last))
          (has-append_cases a nodes (n ∷ []) h)),
    )
  where
    itself : (a : Node) → IsTrue (has a (n ∷ [])) → node_at (words_in s) a ≡ Some (book.name key)
    itself a h = ap (node_at (words_in s)) (has_one a n h) ∙ at

-- over a step back or forth: what is marked is what a change of the name marks
module _ (key : NameKey) (s : Session) (word : List ℕ) (spelt : slice_get (words_in s) key.word ≡ Some word) where
  small : folded word ≡ word
  small = same_Some (folded word) word (sym (number-spelled (words_in s) word key.word s.book.names.words.proper (spelled-number (words_in s) word key.word s.book.names.words.proper spelt)) ∙ spelt)

  pub own_at : key.scope ≢ Some NO_SHEET → node_at (words_in s) (own_node key) ≡ Some (book.name (key_spelt key word))
  own_at scoped =
      ap (name_at (unwrap_or key.scope NO_SHEET)) spelt ∙ ap (λ (own : Option ℕ). Some (book.name (record { scope = own; word = word }))) (scope-back key.scope scoped)

  pub own_small : key.scope ≢ Some NO_SHEET → node_at (words_in s) (own_node key) ≡ Some (book.name (key_of key.scope word))
  own_small scoped = own_at scoped ∙ ap (λ (w : List ℕ). Some (book.name (record { scope = key.scope; word = w }))) (sym small)

  pub whole_at : node_at (words_in s) (whole_node key) ≡ Some (book.name (key_of None word))
  whole_at = ap (name_at NO_SHEET) spelt ∙ ap (λ (own : Option ℕ). Some (book.name (record { scope = own; word = word }))) (scope-back None (λ e. cc)) ∙ ap (λ (w : List ℕ). Some (book.name (record { scope = None; word = w }))) (sym small)

  pub small_key : key_of key.scope word ≡ key_spelt key word
  small_key i = record { scope = key.scope; word = small i }

pub follows_turn : (key : NameKey) (turn : NameTurn) (s : Session) (v : Values) (new : Option Values) → ((had_formula turn || has_formula turn) ≡ true → key.scope ≢ Some NO_SHEET) → IfSome new (λ w. HasTurned (words_in s) key turn v w)
    → FollowsTurn key turn s (Some v) new × MarksTurn key turn s (Some v) new
follows_turn key Changed s v new scoped marked = (
  λ word spelt. (follows_change (key_spelt key word) s (Some (own_node key)) v new (own_at key s word spelt (scoped refl)) marked).0,
  λ word spelt. (follows_change (key_spelt key word) s (Some (own_node key)) v new (own_at key s word spelt (scoped refl)) marked).1,
)
follows_turn key Removed s v new scoped marked = (
  λ word spelt. (follows_removal (key_spelt key word) s (Some (own_node key)) v new (own_at key s word spelt (scoped refl)) marked).0,
  λ word spelt. (follows_removal (key_spelt key word) s (Some (own_node key)) v new (own_at key s word spelt (scoped refl)) marked).1,
)
follows_turn key Added s v new scoped marked = (
  λ word spelt.
      subst (λ (k : Key). FollowsAddition k s (Some v) new) (small_key key s word spelt)
      (follows_addition key.scope word s (Some (own_node key)) (Some (whole_node key)) v new (own_small key s word spelt (scoped refl)) (whole_at key s word spelt) (sought_in new marked word spelt)).0,
  λ word spelt. (follows_addition key.scope word s (Some (own_node key)) (Some (whole_node key)) v new (own_small key s word spelt (scoped refl)) (whole_at key s word spelt) (sought_in new marked word spelt)).1,
)
  where
    sought_in : (o : Option Values) → IfSome o (λ w. HasTurned (words_in s) key Added v w) → (word : List ℕ) → slice_get (words_in s) key.word ≡ Some word → IfSome o (λ w. HasSought (Some (own_node key)) (Some (whole_node key)) word v w)
    sought_in None none word spelt = tt
    sought_in (Some w) turns word spelt = turns word spelt
follows_turn key Absent s v None scoped marked = (λ word spelt b words customs today numbered now keeps differ had has follows. tt, refl)
follows_turn key Absent s v (Some w) scoped marked = absurd marked

pub nothing_turns : (key : NameKey) (turn : NameTurn) (s : Session) (old : Option Values) → FollowsTurn key turn s old None × MarksTurn key turn s old None
nothing_turns key Changed s old = (λ word spelt b words customs today numbered now keeps differ had has follows. tt, λ word spelt. tt)
nothing_turns key Removed s old = (λ word spelt b words customs today numbered now keeps differ had has follows. tt, λ word spelt. tt)
nothing_turns key Added s old = (λ word spelt b words customs today numbered now keeps differ had has follows. tt, λ word spelt. tt)
nothing_turns key Absent s old = (λ word spelt b words customs today numbered now keeps differ had has follows. tt, refl)

-- ---- what is marked

pub have_marked : {X E : Type 0} (r : Result X E) (v w : Values) (nodes : List Node) → links_in w ≡ links_in v → asks_in w ≡ asks_in v → loses_in w ≡ loses_in v → seeks_in w ≡ seeks_in v → kept_in w ≡ kept_in v
    → OnOk r ((a : Node) → has a (marks_in w) ≡ has a (marks_in v ++ nodes)) → OnOk r ((a : Node) → has a (unlinked_in w) ≡ has a (unlinked_in v ++ nodes)) → OnOk r (HaveMarked nodes v w)
have_marked (Ok x) v w nodes links asking losing seeking kept marks unlinked = record { links = links; asking = asking; losing = losing; seeking = seeking; kept = kept; marks = marks; unlinked = unlinked }
have_marked (Err e) v w nodes links asking losing seeking kept marks unlinked = tt

-- one node after a list of them
marked_after : (n : Node) (nodes was middle is : List Node) → ((a : Node) → has a middle ≡ has a (was ++ nodes)) → ((a : Node) → has a is ≡ has a (middle ++ n ∷ [])) → (a : Node) → has a is ≡ has a (was ++ (nodes ++ n ∷ []))
marked_after n nodes was middle is first then a =
    then a ∙ list_any-append (same_node a) middle (n ∷ []) ∙ ap (λ t. t || has a (n ∷ [])) (first a) ∙ sym (list_any-append (same_node a) (was ++ nodes) (n ∷ []))
    ∙ ap (has a) (append_assoc was nodes (n ∷ []))

pub have_linked : {X E : Type 0} (r : Result X E) (n : Node) (v u w : Values) (nodes shown : List Node) → AreLinkedTo n (links_in v) nodes → shown ≡ nodes → HaveMarked shown v u → OnOk r (HaveMarked (n ∷ []) u w) → OnOk r (HasMarkedLinked (Some n) v w)
have_linked (Err e) n v u w nodes shown linked same first marked = tt
have_linked (Ok x) n v u w nodes shown linked same first marked = (
  nodes,
  linked,
  record {
    links = marked.links ∙ first.links;
    asking = marked.asking ∙ first.asking;
    losing = marked.losing ∙ first.losing;
    seeking = marked.seeking ∙ first.seeking;
    kept = marked.kept ∙ first.kept;
    marks = marked_after n nodes (marks_in v) (marks_in u) (marks_in w) (λ a. first.marks a ∙ ap (λ ns. has a (marks_in v ++ ns)) same) marked.marks;
    unlinked = marked_after n nodes (unlinked_in v) (unlinked_in u) (unlinked_in w) (λ a. first.unlinked a ∙ ap (λ ns. has a (unlinked_in v ++ ns)) same) marked.unlinked;
  },
)

-- first what seeks the word, then what is linked to the second node, and then the first one
are_sought : (n whole : Node) (word : List ℕ) (v : Values) (nodes was first then is : List Node) → AreLinkedTo whole (links_in v) nodes → ((a : Node) → has a first ≡ (has a was || seeks_in v word a)) → ((a : Node) → has a then ≡ has a (first ++ nodes))
    → ((a : Node) → has a is ≡ has a (then ++ n ∷ [])) → AreSought n whole word v was is
are_sought n whole word v nodes was first then is linked one two three = record {
  stay = λ a h. all a ∙ has-append_left a first more (one a ∙ or_left (has a was) (seeks_in v word a) h);
  sought = λ a h. all a ∙ has-append_left a first more (one a ∙ or_right (has a was) (seeks_in v word a) h);
  linked = λ a link. all a ∙ has-append_right a first more (has-append_left a nodes (n ∷ []) ((linked.0 a).1 link));
  itself = all n ∙ has-append_right n first more (has-append_right n nodes (n ∷ []) (has_first n []));
  only = λ a h. ⊎_elim
      (λ (front : has a first ≡ true). ⊎_elim (λ (old : has a was ≡ true). inl old) (λ (seek : seeks_in v word a ≡ true). inr (inl seek)) (or_cases (has a was) (seeks_in v word a) (sym (one a) ∙ front)))
      (λ (last : has a more ≡ true). ⊎_elim
      (λ (link : has a nodes ≡ true). inr (inr (inl ((linked.0 a).0 link))))
      (λ (it : has a (n ∷ []) ≡ true). inr (inr (inr (has_one a n it))))
      (has-append_cases a nodes (n ∷ []) last))
      (has-append_cases a first more (sym (all a) ∙ h));
}
  where
    more : List Node
    more = nodes ++ n ∷ []

    all : (a : Node) → has a is ≡ has a (first ++ more)
    all = marked_after n nodes first then is two three

pub have_sought : {X E : Type 0} (r : Result X E) (n whole : Node) (word : List ℕ) (v u x w : Values) (nodes shown : List Node) → AreLinkedTo whole (links_in v) nodes → shown ≡ nodes → ((a : Node) → has a (marks_in u) ≡ (has a (marks_in v) || seeks_in v word a))
    → ((a : Node) → has a (unlinked_in u) ≡ (has a (unlinked_in v) || seeks_in v word a)) → ((other : List ℕ) (a : Node) → seeks_in u other a ≡ cond (same_name word other) false (seeks_in v other a))
    → links_in u ≡ links_in v → asks_in u ≡ asks_in v → loses_in u ≡ loses_in v → kept_in u ≡ kept_in v → HaveMarked shown u x → OnOk r (HaveMarked (n ∷ []) x w) → OnOk r (HasSought (Some n) (Some whole) word v w)
have_sought (Err e) n whole word v u x w nodes shown linked same first to_link none links asking losing kept second third = tt
have_sought (Ok o) n whole word v u x w nodes shown linked same first to_link none links asking losing kept second third = record {
  links = third.links ∙ second.links ∙ links;
  asking = third.asking ∙ second.asking ∙ asking;
  losing = third.losing ∙ second.losing ∙ losing;
  kept = third.kept ∙ second.kept ∙ kept;
  seeking = λ other a. ap (λ (f : List ℕ → Node → Bool). f other a) (third.seeking ∙ second.seeking) ∙ none other a;
  marks = are_sought n whole word v nodes (marks_in v) (marks_in u) (marks_in x) (marks_in w) linked first (λ a. second.marks a ∙ ap (λ ns. has a (marks_in u ++ ns)) same) third.marks;
  unlinked = are_sought n whole word v nodes (unlinked_in v) (unlinked_in u) (unlinked_in x) (unlinked_in w) linked to_link (λ a. second.unlinked a ∙ ap (λ ns. has a (unlinked_in u ++ ns)) same) third.unlinked;
}
