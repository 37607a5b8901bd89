-- Changes made of the entries of a map, one after another. Serves the linking of few nodes.
use Rattle.std.proofs.Common.{◌≡◌, ◌∙◌, sym, ap, refl, subst, arith, ℕ, ◌<◌, ⊎_elim, Bool, true, false, cond, ◌||◌, List, [], ◌∷◌, ◌++◌, eqb, Option, Some, None, option_map, is_some, unwrap_or}
use Rattle.std.specs.BTreeMap as tree
use Rattle.std.specs.BTreeMap.{is_at}
use Rattle.std.specs.List.{AllByRecursion, list_any}
use Rattle.std.specs.List.Sorted.{IsStrictlySortedBy}
use Rattle.std.specs.Map.{keys_of, lookup}
use Rattle.std.specs.Ordering.{nat_cmp}
use Rattle.std.specs.declared.cmp.Ordering.TheVariants.{Less}
use Rattle.smallvec.specs.SmallVec.{SmallVec}
use Rattle.std.proofs.lemmas.Bool.{eq-eqb, eqb-true, false≢true, or_cases}
use Rattle.std.proofs.lemmas.Bool.Decides.{nat_tests}
use Rattle.std.proofs.lemmas.Map.Keys.{sorted_head, sorted_tail}
use Rattle.needs_order.specs.Needs.{has}
use Rattle.node_links.specs.declared.change.Change.{Change}
use Rattle.node_links.specs.internal.Few.{AreChanges, AreReady, AreRows, KnowBefore, given, list_at, listed_at}
use Rattle.node_links.specs.internal.Sets.{nodes_in}

abbrev pub Lists : Type 0
Lists = tree.BTreeMap ℕ (SmallVec ℕ)

abbrev pub Row : Type 0
Row = ℕ × SmallVec ℕ

abbrev pub row_list : Option (SmallVec ℕ) → Option (List ℕ)
row_list o = option_map (λ l. l.items) o

-- the first list, if there is one, else the other
abbrev pub or_other : Option (List ℕ) → Option (List ℕ) → Option (List ℕ)
or_other (Some l) o = Some l
or_other None o = o

abbrev pub is_ahead : List Row → ℕ → Bool
is_ahead es a = list_any (λ e. is_at (nat_cmp a) e.0) es

at_eqb : (a b : ℕ) → is_at (nat_cmp a) b ≡ eqb a b
at_eqb a b = grind (arith, nat_tests)

-- ---- a change more at the end

push_given : (cs : List Change) (c : Change) (a : ℕ) → given (cs ++ c ∷ []) a ≡ or_other (given cs a) (cond (eqb a c.node) (Some c.needs.items) None)
push_given [] c a = refl
push_given (d ∷ cs) c a = by (eqb a d.node) (push_given cs c a)
  where
    by : (t : Bool) → given (cs ++ c ∷ []) a ≡ or_other (given cs a) (cond (eqb a c.node) (Some c.needs.items) None)
        → cond t (Some d.needs.items) (given (cs ++ c ∷ []) a) ≡ or_other (cond t (Some d.needs.items) (given cs a)) (cond (eqb a c.node) (Some c.needs.items) None)
    by true e = refl
    by false e = e

given_parts : (t : Bool) (l : List ℕ) (o : Option (List ℕ)) → cond t (Some l) o ≡ None → (t ≡ false) × (o ≡ None)
given_parts true l o e = cc
given_parts false l o e = (refl, e)

flip_false : (a b : ℕ) → eqb a b ≡ false → eqb b a ≡ false
flip_false a b h = grind (arith, nat_tests)

push_ready : (n : ℕ) (cs : List Change) (c : Change) → AreReady n cs → given cs c.node ≡ None → c.node < n → ((x : ℕ) → has x (nodes_in c.now) ≡ has x c.needs.items) → ((x : ℕ) → has x c.needs.items ≡ true → x < n) → AreReady n (cs ++ c ∷ [])
push_ready n [] c ready none node now low = (node, now, low, refl, tt)
push_ready n (d ∷ cs) c ready none node now low =
    let parts = given_parts (eqb c.node d.node) d.needs.items (given cs c.node) none in
    let apart : given (cs ++ c ∷ []) d.node ≡ None
    = push_given cs c d.node ∙ (ap (λ o. or_other o (cond (eqb d.node c.node) (Some c.needs.items) None)) ready.3 ∙ ap (λ t. cond t (Some c.needs.items) None) (flip_false c.node d.node parts.0)) in
    (ready.0, ready.1, ready.2, apart, push_ready n cs c ready.4 parts.1 node now low)

push_known : (needed : ℕ → ℕ → Bool) (cs : List Change) (c : Change) → KnowBefore needed cs → ((x : ℕ) → has x (nodes_in c.was) ≡ needed c.node x) → KnowBefore needed (cs ++ c ∷ [])
push_known needed [] c known was = (was, tt)
push_known needed (d ∷ cs) c known was = (known.0, push_known needed cs c known.1 was)

-- ---- one entry after another

pub record AreMade (n : ℕ) (needs : ℕ → List ℕ) (all : Lists) (done : List Change) (rest : List Row) : Type 0 where
  pub ready : AreReady n done
  pub known : KnowBefore (λ a x. has x (needs a)) done
  pub ahead : (a : ℕ) → is_ahead rest a ≡ true → given done a ≡ None
  pub whole : (a : ℕ) → or_other (given done a) (row_list (lookup (is_at (nat_cmp a)) rest)) ≡ list_at all a
  pub sorted : IsStrictlySortedBy nat_cmp (keys_of rest)

pub made_first : (n : ℕ) (needs : ℕ → List ℕ) (all : Lists) (done : List Change) (rest : List Row) → done ≡ [] → rest ≡ all.entries → IsStrictlySortedBy nat_cmp (keys_of all.entries) → AreMade n needs all done rest
made_first n needs all done rest none same sorted = subst (λ cs. AreMade n needs all cs rest) (sym none) (record {
  ready = tt;
  known = tt;
  ahead = λ a h. refl;
  whole = λ a. ap (λ es. row_list (lookup (is_at (nat_cmp a)) es)) same;
  sorted = subst (λ es. IsStrictlySortedBy nat_cmp (keys_of es)) (sym same) sorted;
})

module _ (n : ℕ) (needs : ℕ → List ℕ) (all : Lists) (done : List Change) (e : Row) (rest : List Row) (w : AreMade n needs all done (e ∷ rest)) where
  here : is_at (nat_cmp e.0) e.0 ≡ true
  here = at_eqb e.0 e.0 ∙ eq-eqb e.0 e.0 refl

  none_yet : given done e.0 ≡ None
  none_yet = w.ahead e.0 (ap (λ t. t || is_ahead rest e.0) here)

  -- the entry's list is that of its node
  pub row_is : list_at all e.0 ≡ Some e.1.items
  row_is =
      sym (w.whole e.0) ∙ (ap (λ o. or_other o (row_list (lookup (is_at (nat_cmp e.0)) (e ∷ rest)))) none_yet
      ∙ ap (λ t. row_list (cond t (Some e.1) (lookup (is_at (nat_cmp e.0)) rest))) here)

  pub row_below : AreRows n all → e.0 < n
  row_below rows = rows e.0 (ap is_some row_is)

  not_after : (a : ℕ) (es : List Row) → AllByRecursion (λ y. nat_cmp e.0 y ≡ Less) (keys_of es) → is_ahead es a ≡ true → eqb a e.0 ≡ false
  not_after a [] less h = absurd (false≢true h)
  not_after a (f ∷ es) less h = ⊎_elim
      (λ (at : is_at (nat_cmp a) f.0 ≡ true). other a f.0 at less.0)
      (λ (later : is_ahead es a ≡ true). not_after a es less.1 later)
      (or_cases (is_at (nat_cmp a) f.0) (is_ahead es a) h)
    where
      other : (a b : ℕ) → is_at (nat_cmp a) b ≡ true → nat_cmp e.0 b ≡ Less → eqb a e.0 ≡ false
      other a b at less = grind (arith, nat_tests)

  pub made_next : (new : List Change) (c : Change) → new ≡ done ++ c ∷ [] → c.node ≡ e.0 → c.needs ≡ e.1 → AreRows n all → ((a b : ℕ) → has b (listed_at all a) ≡ true → b < n)
      → ((x : ℕ) → has x (nodes_in c.now) ≡ has x c.needs.items) → ((x : ℕ) → has x (nodes_in c.was) ≡ has x (needs c.node)) → AreMade n needs all new rest
  made_next new c pushed node list rows below now was = subst (λ cs. AreMade n needs all cs rest) (sym pushed) (record {
    ready = push_ready n done c w.ready (ap (given done) node ∙ none_yet) (subst (λ a. a < n) (sym node) (row_below rows)) now
        (λ x h. below e.0 x (subst (λ o. has x (unwrap_or o []) ≡ true) (sym row_is) (subst (λ l. has x l.items ≡ true) list h)));
    known = push_known (λ a x. has x (needs a)) done c w.known was;
    ahead = λ a h.
        let apart : eqb a e.0 ≡ false = not_after a rest (sorted_head nat_cmp e.0 (keys_of rest) w.sorted) h in
        let before : given done a ≡ None = w.ahead a (ap (λ t. t || is_ahead rest a) (at_eqb a e.0 ∙ apart) ∙ h) in
        push_given done c a ∙ (ap (λ o. or_other o (cond (eqb a c.node) (Some c.needs.items) None)) before
        ∙ (ap (λ m. cond (eqb a m) (Some c.needs.items) None) node ∙ ap (λ t. cond t (Some c.needs.items) None) apart));
    whole = λ a. whole a (eqb a e.0) refl;
    sorted = sorted_tail nat_cmp e.0 (keys_of rest) w.sorted;
  })
    where
      joined : (o : Option (List ℕ)) (p : Option (List ℕ)) → or_other (or_other o None) p ≡ or_other o p
      joined None p = refl
      joined (Some l) p = refl

      whole : (a : ℕ) (t : Bool) → eqb a e.0 ≡ t → or_other (given (done ++ c ∷ []) a) (row_list (lookup (is_at (nat_cmp a)) rest)) ≡ list_at all a
      whole a true at =
          let same : a ≡ e.0 = eqb-true a e.0 at in
          let own : given (done ++ c ∷ []) a ≡ Some e.1.items
          = push_given done c a ∙ (ap (λ o. or_other o (cond (eqb a c.node) (Some c.needs.items) None)) (ap (given done) same ∙ none_yet)
          ∙ (ap (λ m. cond (eqb a m) (Some c.needs.items) None) node ∙ (ap (λ t. cond t (Some c.needs.items) None) at ∙ ap (λ l. Some l.items) list))) in
          ap (λ o. or_other o (row_list (lookup (is_at (nat_cmp a)) rest))) own ∙ (sym row_is ∙ ap (list_at all) (sym same))
      whole a false at =
          let own : given (done ++ c ∷ []) a ≡ or_other (given done a) None
          = push_given done c a ∙ ap (or_other (given done a)) (ap (λ m. cond (eqb a m) (Some c.needs.items) None) node ∙ ap (λ t. cond t (Some c.needs.items) None) at) in
          ap (λ o. or_other o (row_list (lookup (is_at (nat_cmp a)) rest))) own
          ∙ (joined (given done a) (row_list (lookup (is_at (nat_cmp a)) rest))
          ∙ (sym (ap (λ t. or_other (given done a) (row_list (cond t (Some e.1) (lookup (is_at (nat_cmp a)) rest)))) (at_eqb a e.0 ∙ at)) ∙ w.whole a))

pub made_last : (n : ℕ) (needs : ℕ → List ℕ) (all : Lists) (done : List Change) → AreMade n needs all done [] → AreChanges n needs all done
made_last n needs all done w = (λ a. sym (alone (given done a)) ∙ w.whole a, w.ready, w.known)
  where
    alone : (o : Option (List ℕ)) → or_other o None ≡ o
    alone None = refl
    alone (Some l) = refl
