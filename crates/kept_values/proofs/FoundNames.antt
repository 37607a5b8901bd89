-- The nodes that a formula is linked to: those of its places, blocks and whole ranges, and of the names that its words find. Serves what links.
use Rattle.std.proofs.Common.{◌≡◌, ◌≢◌, ◌∙◌, sym, ap, refl, subst, ℕ, Bool, true, false, cond, ◌||◌, List, [], ◌∷◌, ◌++◌, Option, Some, None, ◌⊎◌, inl, inr, ⊎_elim}
use Rattle.std.specs.Prelude.{IsTrue, ◌↔◌, option_to_list}
use Rattle.std.specs.List.{AllPairs, cons_option, filter_map, list_any}
use Rattle.std.proofs.lemmas.Bool.{false≢true, or_cases, or_left, or_right}
use Rattle.std.proofs.lemmas.List.{append-nil, append_assoc}
use Rattle.std.proofs.lemmas.List.Elements.{filter_map-append}
use Rattle.std.proofs.lemmas.List.Folds.{list_any-append}
use Rattle.cell_addr.specs.Place.{same_block, same_place}
use Rattle.cell_addr.specs.Sheets.{same_name}
use Rattle.cell_addr.specs.declared.place.Block.{Block}
use Rattle.cell_addr.specs.declared.place.Place.{Place}
use Rattle.cell_addr.specs.Whole.{same_whole}
use Rattle.cell_addr.specs.declared.whole.Whole as ranges
use Rattle.formula_tree.proofs.Once.{lists_once}
use Rattle.formula_tree.proofs.SameLinks.{links_alike, names_alike}
use Rattle.formula_tree.specs.Links.{links_in, names_in, once, same_link}
use Rattle.formula_tree.specs.Term.{Term}
use Rattle.formula_tree.specs.declared.link.Link.{Link}
use Rattle.formula_tree.specs.declared.link.Link.TheVariants as links
use Rattle.formula_tree.specs.declared.reference.Corner.{Corner}
use Rattle.book_values.specs.Names.{Key, Names, found, is_found}
use Rattle.book_values.specs.Workbook as book
use Rattle.book_values.specs.Workbook.{Workbook}
use Rattle.book_values.proofs.Keys.{same_key-equal, same_key-self}
use Rattle.dep_graph.specs.Nodes.{has}
use Rattle.dep_graph.specs.declared.node.Node.{Node}
use Rattle.dep_graph.specs.declared.node.Node.TheVariants.{Cell, Name, Range, Whole}
use Rattle.dep_graph.proofs.Places.{has-append_cases, has-append_left, has-append_right, has_first, has_one}
use Rattle.recalc_core.specs.Given.{IsFound}
use Rattle.recalc_core.specs.Links.{AreLinksFor, IsLinkOf}
use Rattle.recalc_core.specs.Nodes.{node_at}
use Rattle.recalc_core.specs.Recalc.{with_mark}
use Rattle.recalc_core.proofs.Bridge.{none_some, same_some}
use Rattle.recalc_core.proofs.Linking.{one_node}
use Rattle.recalc_core.proofs.ReadNames.{found_alike}
use Rattle.kept_values.specs.internal.Linking.{AddsFound, IsFoundBy, node_of}
use Rattle.kept_values.proofs.Following.{same_tests}

-- ---- nodes of places, blocks and whole ranges

-- a list of these has a cell's node exactly where it has the cell, a block's where it has the block, and a whole range's
-- where it has that
has_cell : (p : Place) (ls : List Link) → has (Cell p) (filter_map node_of ls) ≡ list_any (same_link (links.Cell p)) ls
has_cell p [] = refl
has_cell p (links.Cell q ∷ ls) = ap (λ t. same_place p q || t) (has_cell p ls)
has_cell p (links.Area d ∷ ls) = has_cell p ls
has_cell p (links.Whole w ∷ ls) = has_cell p ls
has_cell p (links.Name s w ∷ ls) = has_cell p ls

has_block : (b : Block) (ls : List Link) → has (Range b) (filter_map node_of ls) ≡ list_any (same_link (links.Area b)) ls
has_block b [] = refl
has_block b (links.Cell q ∷ ls) = has_block b ls
has_block b (links.Area d ∷ ls) = ap (λ t. same_block b d || t) (has_block b ls)
has_block b (links.Whole w ∷ ls) = has_block b ls
has_block b (links.Name s w ∷ ls) = has_block b ls

has_whole : (v : ranges.Whole) (ls : List Link) → has (Whole v) (filter_map node_of ls) ≡ list_any (same_link (links.Whole v)) ls
has_whole v [] = refl
has_whole v (links.Cell q ∷ ls) = has_whole v ls
has_whole v (links.Area d ∷ ls) = has_whole v ls
has_whole v (links.Whole w ∷ ls) = ap (λ t. same_whole v w || t) (has_whole v ls)
has_whole v (links.Name s w ∷ ls) = has_whole v ls

-- one item more of a list of which some items give nodes
pub some_more : {X : Type 0} (f : X → Option Node) (xs : List X) (x : X) (start old new : List Node) → old ≡ start ++ filter_map f xs → new ≡ old ++ option_to_list (f x) → new ≡ start ++ filter_map f (xs ++ x ∷ [])
some_more f xs x start old new so_far more =
    more ∙ ap (λ ns. ns ++ option_to_list (f x)) so_far ∙ append_assoc start (filter_map f xs) (option_to_list (f x))
    ∙ ap (λ ns. start ++ (filter_map f xs ++ ns)) (last (f x)) ∙ ap (λ ns. start ++ ns) (sym (filter_map-append f xs (x ∷ [])))
  where
    last : (o : Option Node) → option_to_list o ≡ cons_option o []
    last None = refl
    last (Some n) = refl

-- and no name
no_name : (scope word : ℕ) (ls : List Link) → has (Name scope word) (filter_map node_of ls) ≡ false
no_name scope word [] = refl
no_name scope word (links.Cell q ∷ ls) = no_name scope word ls
no_name scope word (links.Area d ∷ ls) = no_name scope word ls
no_name scope word (links.Whole w ∷ ls) = no_name scope word ls
no_name scope word (links.Name s w ∷ ls) = no_name scope word ls

-- ---- names that words find

-- a word that passes, among the words
any_which : (test : List ℕ → Bool) (xs : List (List ℕ)) → list_any test xs ≡ true → (word : List ℕ) × (list_any (same_name word) xs ≡ true) × (test word ≡ true)
any_which test [] h = absurd (false≢true h)
any_which test (x ∷ xs) h = by (test x) refl (λ later. any_which test xs later)
  where
    by : (m : Bool) → test x ≡ m → (list_any test xs ≡ true → (word : List ℕ) × (list_any (same_name word) xs ≡ true) × (test word ≡ true))
        → (word : List ℕ) × (list_any (same_name word) (x ∷ xs) ≡ true) × (test word ≡ true)
    by true e on = (x, or_left (same_name x x) (list_any (same_name x) xs) (names_alike.refl x), e)
    by false e on =
        let (word, listed, holds) = on (sym (ap (λ m. m || list_any test xs) e) ∙ h) in
        (word, or_right (same_name word x) (list_any (same_name word) xs) listed, holds)

any_from : (test : List ℕ → Bool) → ((v w : List ℕ) → same_name v w ≡ true → test v ≡ test w) → (xs : List (List ℕ)) (word : List ℕ) → list_any (same_name word) xs ≡ true → test word ≡ true → list_any test xs ≡ true
any_from test alike [] word listed holds = absurd (false≢true listed)
any_from test alike (x ∷ xs) word listed holds = ⊎_elim
    (λ (same : same_name word x ≡ true). or_left (test x) (list_any test xs) (sym (alike word x same) ∙ holds))
    (λ (later : list_any (same_name word) xs ≡ true). or_right (test x) (list_any test xs) (any_from test alike xs word later holds))
    (or_cases (same_name word x) (list_any (same_name word) xs) listed)

-- what a test says of one of words that are the same it says of each, so that each once is as good as all
pub any_once : (test : List ℕ → Bool) → ((v w : List ℕ) → same_name v w ≡ true → test v ≡ test w) → (all asked : List (List ℕ)) → asked ≡ once same_name all → list_any test asked ≡ list_any test all
any_once test alike all asked is = same_tests (list_any test asked) (list_any test all) forth back
  where
    forth : list_any test asked ≡ true → list_any test all ≡ true
    forth h =
        let (word, listed, holds) = any_which test asked h in
        any_from test alike all word (sym ((lists_once same_name names_alike).members all word) ∙ ap (list_any (same_name word)) (sym is) ∙ listed) holds

    back : list_any test all ≡ true → list_any test asked ≡ true
    back h =
        let (word, listed, holds) = any_which test all h in
        any_from test alike asked word (ap (list_any (same_name word)) is ∙ (lists_once same_name names_alike).members all word ∙ listed) holds

module _ (words : List (List ℕ)) (names : Names) (sheet : ℕ) (numbered : AllPairs (λ v w. v ≢ w) words) where
  -- no word finds none
  pub none_found : (old : List Node) → AddsFound words names sheet [] old old
  none_found old c = (λ h. inl h, λ h. ⊎_elim (λ (here : IsTrue (has c old)). here) (λ (key, at, is). absurd (false≢true is)) h)

  -- one list of words after another
  pub found_both : (asked more : List (List ℕ)) (old mid new : List Node) → AddsFound words names sheet asked old mid → AddsFound words names sheet more mid new → AddsFound words names sheet (asked ++ more) old new
  found_both asked more old mid new one two c = (forth, back)
    where
      test : Key → List ℕ → Bool
      test key word = is_found (found names word sheet) key

      forth : IsTrue (has c new) → IsTrue (has c old) ⊎ IsFoundBy words names sheet (asked ++ more) c
      forth h = ⊎_elim
          (λ (before : IsTrue (has c mid)). ⊎_elim (λ (first : IsTrue (has c old)). inl first)
          (λ (key, at, is). inr (key, at, list_any-append (test key) asked more ∙ or_left (list_any (test key) asked) (list_any (test key) more) is)) ((one c).0 before))
          (λ (key, at, is). inr (key, at, list_any-append (test key) asked more ∙ or_right (list_any (test key) asked) (list_any (test key) more) is)) ((two c).0 h)

      back : IsTrue (has c old) ⊎ IsFoundBy words names sheet (asked ++ more) c → IsTrue (has c new)
      back h = ⊎_elim (λ (first : IsTrue (has c old)). (two c).1 (inl ((one c).1 (inl first))))
          (λ (key, at, is). ⊎_elim (λ (low : list_any (test key) asked ≡ true). (two c).1 (inl ((one c).1 (inr (key, at, low)))))
          (λ (high : list_any (test key) more ≡ true). (two c).1 (inr (key, at, high))) (or_cases (list_any (test key) asked) (list_any (test key) more) (sym (list_any-append (test key) asked more) ∙ is))) h

  -- one word: the name that it finds is added, where it finds one
  pub one_found : (word : List ℕ) (b : Workbook) (o : Option Node) (old new : List Node) → b.names ≡ names → IsFound b words word sheet o → new ≡ old ++ option_to_list o → AddsFound words names sheet (word ∷ []) old new
  one_found word b None old new same found_none is c = (λ h. inl (subst (λ l. IsTrue (has c l)) (is ∙ append-nil old) h), back)
    where
      back : IsTrue (has c old) ⊎ IsFoundBy words names sheet (word ∷ []) c → IsTrue (has c new)
      back h = ⊎_elim (λ (here : IsTrue (has c old)). subst (λ l. IsTrue (has c l)) (sym (is ∙ append-nil old)) here)
          (λ (key, at, tested). absurd (false≢true (sym (ap (λ o. is_found o key || false) (ap (λ n. found n word sheet) (sym same) ∙ found_none)) ∙ tested))) h
  one_found word b (Some a) old new same (key, found_key, at) is c = (forth, back)
    where
      here : found names word sheet ≡ Some key
      here = ap (λ n. found n word sheet) (sym same) ∙ found_key

      forth : IsTrue (has c new) → IsTrue (has c old) ⊎ IsFoundBy words names sheet (word ∷ []) c
      forth h = ⊎_elim (λ (before : has c old ≡ true). inl before)
          (λ (last : has c (a ∷ []) ≡ true). inr (key, ap (node_at words) (has_one c a last) ∙ at, or_left (is_found (found names word sheet) key) false (ap (λ o. is_found o key) here ∙ same_key-self key)))
          (has-append_cases c old (a ∷ []) (subst (λ l. IsTrue (has c l)) is h))

      back : IsTrue (has c old) ⊎ IsFoundBy words names sheet (word ∷ []) c → IsTrue (has c new)
      back h = subst (λ l. IsTrue (has c l)) (sym is) (⊎_elim (λ (before : IsTrue (has c old)). has-append_left c old (a ∷ []) before)
          (λ (other, there, tested). at_once other there (⊎_elim (λ (t : is_found (found names word sheet) other ≡ true). t) (λ (f : false ≡ true). absurd (false≢true f)) (or_cases (is_found (found names word sheet) other) false tested))) h)
        where
          at_once : (other : Key) → node_at words c ≡ Some (book.name other) → is_found (found names word sheet) other ≡ true → IsTrue (has c (old ++ a ∷ []))
          at_once other there tested =
              let one : key ≡ other = same_key-equal key other (sym (ap (λ o. is_found o other) here) ∙ tested) in
              subst (λ n. IsTrue (has n (old ++ a ∷ []))) (sym (one_node words c a (book.name key) numbered (there ∙ ap (λ k. Some (book.name k)) (sym one)) at)) (has-append_right a old (a ∷ []) (has_first a []))

  -- a formula's links: those of its places, blocks and whole ranges, and the names that its words find
  pub links_for : (t : Term Corner) (places : List Link) (asked : List (List ℕ)) (needs : List Node) → places ≡ once same_link (links_in t) → asked ≡ once same_name (names_in t)
      → AddsFound words names sheet asked (filter_map node_of places) needs → AreLinksFor words names sheet (Some t) needs
  links_for t places asked needs is_places is_asked found_all c = by c (found_all c)
    where
      all_words : (key : Key) → list_any (λ word. is_found (found names word sheet) key) asked ≡ list_any (λ word. is_found (found names word sheet) key) (names_in t)
      all_words key = any_once (λ word. is_found (found names word sheet) key) (λ v w same. ap (λ o. is_found o key) (found_alike names v w sheet same)) (names_in t) asked is_asked

      by : (d : Node) → (IsTrue (has d needs) ↔ (IsTrue (has d (filter_map node_of places)) ⊎ IsFoundBy words names sheet asked d)) → IsTrue (has d needs) ↔ IsLinkOf words names sheet t d
      by (Cell p) both = (
        λ h. ⊎_elim (λ (here : IsTrue (has (Cell p) (filter_map node_of places))). sym (listed p) ∙ here) (λ (key, at, is). absurd (no_key p key at)) (both.0 h),
        λ h. both.1 (inl (listed p ∙ h)),
      )
        where
          listed : (q : Place) → has (Cell q) (filter_map node_of places) ≡ list_any (same_link (links.Cell q)) (links_in t)
          listed q = has_cell q places ∙ ap (list_any (same_link (links.Cell q))) is_places ∙ (lists_once same_link links_alike).members (links_in t) (links.Cell q)

          no_key : (q : Place) (key : Key) → node_at words (Cell q) ≡ Some (book.name key) → ⊥
          no_key q key at = apart (same_some (book.place q) (book.name key) at)
            where
              apart : book.place q ≡ book.name key → ⊥
              apart h = cc
      by (Range block) both = (
        λ h. ⊎_elim (λ (here : IsTrue (has (Range block) (filter_map node_of places))). sym listed ∙ here) (λ (key, at, is). absurd (none_some (book.name key) at)) (both.0 h),
        λ h. both.1 (inl (listed ∙ h)),
      )
        where
          listed : has (Range block) (filter_map node_of places) ≡ list_any (same_link (links.Area block)) (links_in t)
          listed = has_block block places ∙ ap (list_any (same_link (links.Area block))) is_places ∙ (lists_once same_link links_alike).members (links_in t) (links.Area block)
      by (Whole w) both = (
        λ h. ⊎_elim (λ (here : IsTrue (has (Whole w) (filter_map node_of places))). sym listed ∙ here) (λ (key, at, is). absurd (none_some (book.name key) at)) (both.0 h),
        λ h. both.1 (inl (listed ∙ h)),
      )
        where
          listed : has (Whole w) (filter_map node_of places) ≡ list_any (same_link (links.Whole w)) (links_in t)
          listed = has_whole w places ∙ ap (list_any (same_link (links.Whole w))) is_places ∙ (lists_once same_link links_alike).members (links_in t) (links.Whole w)
      by (Name scope word) both = (
        λ h. ⊎_elim (λ (here : IsTrue (has (Name scope word) (filter_map node_of places))). absurd (false≢true (sym (no_name scope word places) ∙ here)))
            (λ (key, at, is). (key, at, sym (all_words key) ∙ is)) (both.0 h),
        λ (key, at, is). both.1 (inr (key, at, all_words key ∙ is)),
      )

-- ---- marks

-- a mark that stands once is there as one that is added
pub marked_more : (a : Node) (old new : List Node) → new ≡ with_mark a old → (c : Node) → has c new ≡ has c (old ++ a ∷ [])
marked_more a old new is c = ap (has c) is ∙ by (has a old) refl
  where
    by : (t : Bool) → has a old ≡ t → has c (cond t old (old ++ a ∷ [])) ≡ has c (old ++ a ∷ [])
    by true e = same_tests (has c old) (has c (old ++ a ∷ [])) (λ h. has-append_left c old (a ∷ []) h)
        (λ h. ⊎_elim (λ (before : has c old ≡ true). before) (λ (last : has c (a ∷ []) ≡ true). subst (λ n. has n old ≡ true) (sym (has_one c a last)) e) (has-append_cases c old (a ∷ []) h))
    by false e = refl
