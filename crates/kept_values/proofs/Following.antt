-- Values that follow a workbook, with tests of links in place of what the links are. Serves what refreshes them.
use Rattle.std.proofs.Common.{◌≡◌, ◌∙◌, sym, ap, refl, subst, ℕ, ℤ, Bool, true, false, List, Option, Some, None, is_some, Result, Ok, Err}
use Rattle.std.specs.Prelude.{IsTrue, OnErr, OnOk, slice_get}
use Rattle.std.proofs.lemmas.Bool.{false≢true, false_from_ne_true}
use Rattle.custom_fn.specs.declared.rule.Rule.{Rule}
use Rattle.formula_tree.specs.Reference.{sheet_of}
use Rattle.formula_tree.specs.Term.{Term}
use Rattle.formula_tree.specs.declared.reference.Corner.{Corner}
use Rattle.book_values.specs.Names.{Names}
use Rattle.book_values.specs.Workbook as book
use Rattle.book_values.specs.Workbook.{Workbook, home_of, mentions_node, tree_at}
use Rattle.dep_graph.specs.Nodes.{has}
use Rattle.dep_graph.specs.declared.node.Node.{Node}
use Rattle.dep_graph.specs.declared.node.Node.TheVariants.{Cell, Name, Range, Whole}
use Rattle.recalc_core.specs.Kept.{Kept, expected_at}
use Rattle.recalc_core.specs.Laws.{AreKnown}
use Rattle.recalc_core.specs.Links.{IsLinkAt, IsLinkOf}
use Rattle.recalc_core.specs.Nodes.{AreNumbered, name_at, node_at, scope_at}
use Rattle.marked_values.specs.Marks.{FitsMarks, Follow}
use Rattle.marked_values.specs.Shifts.{asks_place}
use Rattle.restored_values.specs.Suspects.{has_lost}
use Rattle.kept_values.specs.Values.{AreNoted, Follows, asks_in, is_link_at, is_link_from, is_link_of, kept_in, links_in, loses_in, marks_in, passes, seeks_at, seeks_in, unlinked_in}
use Rattle.kept_values.specs.declared.values.Values.{Values}

-- ---- tests of links

pub of_tested : (words : List (List ℕ)) (names : Names) (sheet : ℕ) (t : Term Corner) (c : Node) → IsLinkOf words names sheet t c → is_link_of words names sheet t c ≡ true
of_tested words names sheet t (Cell p) h = h
of_tested words names sheet t (Range block) h = h
of_tested words names sheet t (Whole w) h = h
of_tested words names sheet t (Name scope word) (key, at, h) = ap (passes (mentions_node names sheet t)) at ∙ h

pub of_holds : (words : List (List ℕ)) (names : Names) (sheet : ℕ) (t : Term Corner) (c : Node) → is_link_of words names sheet t c ≡ true → IsLinkOf words names sheet t c
of_holds words names sheet t (Cell p) h = h
of_holds words names sheet t (Range block) h = h
of_holds words names sheet t (Whole w) h = h
of_holds words names sheet t (Name scope number) h = by (slice_get words number) refl
  where
    test : Option (List ℕ) → Bool
    test o = passes (mentions_node names sheet t) (name_at scope o)

    by : (o : Option (List ℕ)) → slice_get words number ≡ o → IsLinkOf words names sheet t (Name scope number)
    by None e = absurd (false≢true (sym (ap test e) ∙ h))
    by (Some word) e = (record { scope = scope_at scope; word = word }, ap (name_at scope) e, sym (ap test e) ∙ h)

module _ (b : Workbook) (words : List (List ℕ)) where
  pub at_tested : (a c : Node) → IsLinkAt b words a c → is_link_at b words a c ≡ true
  at_tested a c (x, t, at, is, link) =
      ap (passes (is_link_from b words c)) at ∙ ap (passes (λ u. is_link_of words b.names (sheet_of (home_of x)) u c)) is ∙ of_tested words b.names (sheet_of (home_of x)) t c link

  pub at_holds : (a c : Node) → is_link_at b words a c ≡ true → IsLinkAt b words a c
  at_holds a c h = by (node_at words a) refl
    where
      from : (x : book.Node) (o : Option (Term Corner)) → node_at words a ≡ Some x → tree_at b x ≡ o → passes (λ u. is_link_of words b.names (sheet_of (home_of x)) u c) o ≡ true → IsLinkAt b words a c
      from x None at is link = absurd (false≢true link)
      from x (Some t) at is link = (x, t, at, is, of_holds words b.names (sheet_of (home_of x)) t c link)

      by : (o : Option book.Node) → node_at words a ≡ o → IsLinkAt b words a c
      by None at = absurd (false≢true (sym (ap (passes (is_link_from b words c)) at) ∙ h))
      by (Some x) at = from x (tree_at b x) at refl (sym (ap (passes (is_link_from b words c)) at) ∙ h)

-- ---- values that follow

-- something is there
pub there : {X : Type 0} (o : Option X) → is_some o ≡ true → (x : X) × (o ≡ Some x)
there None h = absurd (false≢true h)
there (Some x) h = (x, refl)

-- each of some nodes is one of others
abbrev pub AreAmong : List Node → List Node → Type 0
AreAmong few many = (a : Node) → IsTrue (has a few) → IsTrue (has a many)

pub same_tests : (p q : Bool) → (p ≡ true → q ≡ true) → (q ≡ true → p ≡ true) → p ≡ q
same_tests true q forth back = sym (forth refl)
same_tests false true forth back = back refl
same_tests false false forth back = refl

-- links and what is noted follow a workbook but for these nodes, and what is kept of each place and each name that reaches none of them
-- is its value
pub record FollowsBut (b : Workbook) (words : List (List ℕ)) (customs : List (List ℕ × Rule)) (today : ℤ) (v : Values) (nodes : List Node) (kept : Kept) : Type 0 where
  pub follow : Follow b words customs today (links_in v) nodes kept
  pub asks : AreNoted (λ x. asks_place) b words nodes (asks_in v)
  pub loses : AreNoted (λ x. has_lost) b words nodes (loses_in v)
  pub seeks : (word : List ℕ) → AreNoted (seeks_at b word) b words nodes (seeks_in v word)

-- what is kept where it is right of every place and every name
abbrev pub all_right : Workbook → List (List ℕ) → List (List ℕ × Rule) → ℤ → Kept
all_right b words customs today a = expected_at b customs today (node_at words a)

module _ (b : Workbook) (words : List (List ℕ)) (customs : List (List ℕ × Rule)) (today : ℤ) (v : Values) where
  marks_known : Follows b words customs today v → AreKnown words (marks_in v)
  marks_known follows a h = there (node_at words a) (follows.known a h)

  -- what is linked and noted follows but for what is to be linked, whatever is kept
  pub unlinked_follow : AreNumbered words b.names → Follows b words customs today v → FollowsBut b words customs today v (unlinked_in v) (all_right b words customs today)
  unlinked_follow numbered follows = record {
    follow = record {
      linked = record {
        numbered = numbered;
        exact = λ a c free.
            let same = follows.linked a c (false_from_ne_true (has a (unlinked_in v)) free) in
            (λ (h : IsTrue (has c (links_in v a))). at_holds b words a c (sym same ∙ h), λ (h : IsLinkAt b words a c). same ∙ at_tested b words a c h);
      };
      inside = follows.inside;
      known = λ a h. marks_known follows a (follows.among a h);
      fit = λ a apart plain. refl;
    };
    asks = follows.asks;
    loses = follows.loses;
    seeks = follows.seeks;
  }

  -- as all of it is marked, it follows but for the marks too
  pub marked_follow : AreNumbered words b.names → Follows b words customs today v → FollowsBut b words customs today v (marks_in v) (kept_in v)
  marked_follow numbered follows = record {
    follow = record {
      linked = record { numbered = numbered; exact = λ a c free. unlinked.follow.linked.exact a c (λ h. free (follows.among a h)) };
      inside = follows.inside;
      known = marks_known follows;
      fit = follows.fit;
    };
    asks = fewer follows.asks;
    loses = fewer follows.loses;
    seeks = λ word. fewer (follows.seeks word);
  }
    where
      unlinked : FollowsBut b words customs today v (unlinked_in v) (all_right b words customs today)
      unlinked = unlinked_follow numbered follows

      fewer : {test : book.Node → Term Corner → Bool} {noted : Node → Bool} → AreNoted test b words (unlinked_in v) noted → AreNoted test b words (marks_in v) noted
      fewer all = record {
        all = λ a x t free. all.all a x t (false_from_ne_true (has a (unlinked_in v)) (λ h. false≢true (sym free ∙ follows.among a h)));
        known = all.known;
      }

  pub to_follow : AreNumbered words b.names → Follows b words customs today v → Follow b words customs today (links_in v) (marks_in v) (kept_in v)
  to_follow numbered follows = (marked_follow numbered follows).follow

  -- what follows but for what is to be linked, where all of that is marked and the marks fit what is kept
  pub from_follow : (kept : Kept) → FollowsBut b words customs today v (unlinked_in v) kept → AreAmong (unlinked_in v) (marks_in v) → AreKnown words (marks_in v) → FitsMarks b words customs today (marks_in v) (kept_in v)
      → Follows b words customs today v
  from_follow kept but among known fit = record {
    linked = λ a c isnt.
        let both = but.follow.linked.exact a c (λ h. false≢true (sym isnt ∙ h)) in
        same_tests (has c (links_in v a)) (is_link_at b words a c) (λ h. at_tested b words a c (both.0 h)) (λ h. both.1 (at_holds b words a c h));
    inside = but.follow.inside;
    asks = but.asks;
    loses = but.loses;
    seeks = but.seeks;
    among = among;
    known = λ a h. ap is_some (known a h).1;
    fit = fit;
  }

-- what makes links and notes that follow but for some nodes follow another workbook but for others makes values follow it, where it does so
-- with the marks and with what is to be linked
pub follow_over : (b c : Workbook) (words more : List (List ℕ)) (customs : List (List ℕ × Rule)) (today : ℤ) (v w : Values) → AreNumbered words b.names → kept_in w ≡ kept_in v
    → (AreAmong (unlinked_in v) (marks_in v) → AreAmong (unlinked_in w) (marks_in w))
    → ((kept : Kept) → FollowsBut b words customs today v (marks_in v) kept → FollowsBut c more customs today w (marks_in w) kept)
    → ((kept : Kept) → FollowsBut b words customs today v (unlinked_in v) kept → FollowsBut c more customs today w (unlinked_in w) kept)
    → Follows b words customs today v → Follows c more customs today w
follow_over b c words more customs today v w numbered same among over_marks over_links follows =
    let marked = (over_marks (kept_in v) (marked_follow b words customs today v numbered follows)).follow in
    from_follow c more customs today w (all_right b words customs today) (over_links (all_right b words customs today) (unlinked_follow b words customs today v numbered follows)) (among follows.among) marked.known
    (subst (λ kept. FitsMarks c more customs today (marks_in w) kept) (sym same) marked.fit)

-- what holds on success, and want of memory, of an answer
pub on_ok : {X E : Type 0} (r : Result X E) (P Q : Type 0) → (P → Q) → OnOk r P → OnOk r Q
on_ok (Ok x) P Q f h = f h
on_ok (Err e) P Q f h = tt

pub both_ok : {X E : Type 0} (r : Result X E) (P Q : Type 0) → OnOk r P → OnOk r Q → OnOk r (P × Q)
both_ok (Ok x) P Q f h = (f, h)
both_ok (Err e) P Q f h = tt

pub on_err : {X E : Type 0} (r : Result X E) (P Q : Type 0) → (P → Q) → OnErr r P → OnErr r Q
on_err (Ok x) P Q f h = tt
on_err (Err e) P Q f h = f h
