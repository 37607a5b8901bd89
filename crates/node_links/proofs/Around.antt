-- Lists of needs for the nodes around few that get other targets. Serves the redirection of few nodes.
use Rattle.std.proofs.Common.{◌≡◌, ◌∙◌, sym, ap, refl, subst, arith, ℕ, ◌+◌, ◌<◌, ◌⊎◌, inl, inr, ⊎_elim, Bool, true, false, cond, ◌||◌, List, [], ◌∷◌, ◌++◌, length, get_or, take, Option, Some, None, option_map, is_some, unwrap_or, IsTrue, IsSome, ◌↔◌}
use Rattle.std.specs.BTreeMap as tree
use Rattle.std.specs.BTreeMap.{is_at}
use Rattle.std.specs.List.{All, AllByRecursion, filter_map, list_any}
use Rattle.std.specs.Map.{lookup}
use Rattle.std.proofs.lemmas.List.Elements.{recursion_from_All}
use Rattle.std.specs.Ordering.{nat_cmp}
use Rattle.smallvec.specs.SmallVec.{SmallVec}
use Rattle.std.proofs.lemmas.Bool.{cases_Bool, cases_eq, false≢true, or_cases}
use Rattle.std.proofs.lemmas.Bool.Decides.{nat_tests}
use Rattle.std.proofs.lemmas.List.{take_more}
use Rattle.std.proofs.lemmas.Option.{same_Some}
use Rattle.needs_order.specs.Needs.{has}
use Rattle.needs_order.proofs.Lists.{has-append_cases, has-append_left, has-append_right, has_cases, has_first}
use Rattle.node_links.specs.Redirect.{AreRedirected, few_target, is_among}
use Rattle.node_links.specs.internal.Few.{AreAround, AreOwn, AreRows, GathersFew, IsMarked, IsRedirectedTo, StillMarked, list_at, listed_at, own_list}
use Rattle.node_links.proofs.Redirecting.{came_from, goes_to}

abbrev pub Few : Type 0
Few = tree.BTreeMap ℕ (Option ℕ)

abbrev pub Lists : Type 0
Lists = tree.BTreeMap ℕ (SmallVec ℕ)

-- ---- marking

pub still_still : (a b c : Lists) → StillMarked a b → StillMarked b c → StillMarked a c
still_still a b c f g x h = g x (f x h)

pub marked_still : (few : Few) (a b : Lists) (n : ℕ) → StillMarked a b → IsMarked few a n → IsMarked few b n
marked_still few a b n still marked = (still n marked.0, λ t is. still t (marked.1 t is))

pub around_still : (few : Few) (needs : ℕ → List ℕ) (a b : Lists) (n : ℕ) → StillMarked a b → AreAround few needs a n → AreAround few needs b n
around_still few needs a b n still around = (marked_still few a b n still around.0, λ u h. marked_still few a b u still (around.1 u h))

-- a list was put for a node
module _ (old new : Lists) (node : ℕ) (v : SmallVec ℕ) (updates : tree.Updates nat_cmp old new node (Some v)) where
  put_cases : (a : ℕ) → ((a ≡ node) × (list_at new a ≡ Some v.items)) ⊎ (list_at new a ≡ list_at old a)
  put_cases a = by (is_at (nat_cmp node) a) refl
    where
      by : (t : Bool) → is_at (nat_cmp node) a ≡ t → ((a ≡ node) × (list_at new a ≡ Some v.items)) ⊎ (list_at new a ≡ list_at old a)
      by true e = inl (same_at node a e, ap (option_map (λ l. l.items)) (updates.0 a ∙ ap (λ t. cond t (Some v) (tree.get nat_cmp old a)) e))
        where
          same_at : (n a : ℕ) → is_at (nat_cmp n) a ≡ true → a ≡ n
          same_at n a h = grind (arith, nat_tests)
      by false e = inr (ap (option_map (λ l. l.items)) (updates.0 a ∙ ap (λ t. cond t (Some v) (tree.get nat_cmp old a)) e))

  some_is : (o : Option (List ℕ)) (l : List ℕ) → o ≡ Some l → IsSome o
  some_is o l e = ap is_some e

  pub put_own : (few : Few) (needs : ℕ → List ℕ) → v.items ≡ own_list few needs node → AreOwn few needs old → AreOwn few needs new
  put_own few needs is own a = ⊎_elim
      (λ (here : (a ≡ node) × (list_at new a ≡ Some v.items)). inr (here.1 ∙ ap Some (is ∙ ap (own_list few needs) (sym here.0))))
      (λ (same : list_at new a ≡ list_at old a). ⊎_elim (λ was. inl (same ∙ was)) (λ was. inr (same ∙ was)) (own a))
      (put_cases a)

  pub put_rows : (n : ℕ) → node < n → AreRows n old → AreRows n new
  put_rows n low rows a some = ⊎_elim
      (λ (here : (a ≡ node) × (list_at new a ≡ Some v.items)). subst (λ x. x < n) (sym here.0) low)
      (λ (same : list_at new a ≡ list_at old a). rows a (subst IsSome same some))
      (put_cases a)

  pub put_still : StillMarked old new
  put_still a some = ⊎_elim
      (λ (here : (a ≡ node) × (list_at new a ≡ Some v.items)). some_is (list_at new a) v.items here.1)
      (λ (same : list_at new a ≡ list_at old a). subst IsSome (sym same) some)
      (put_cases a)

  pub put_there : IsSome (list_at new node)
  put_there = ap (λ t. is_some (option_map (λ (l : SmallVec ℕ). l.items) t)) (updates.0 node ∙ ap (λ t. cond t (Some v) (tree.get nat_cmp old node)) (at_itself node))
    where
      at_itself : (n : ℕ) → is_at (nat_cmp n) n ≡ true
      at_itself n = grind (arith, nat_tests)

pub some_list : (o : Option (SmallVec ℕ)) → is_some o ≡ true → IsSome (option_map (λ (l : SmallVec ℕ). l.items) o)
some_list (Some v) h = refl
some_list None h = cc

-- ---- what stays and what is marked

-- a node with needs stays with them, or it and its target are marked
module _ (few : Few) (needs : ℕ → List ℕ) (lists : Lists) (around : (a : ℕ) → is_among few a ≡ true → AreAround few needs lists a) where
  own_target : (a : ℕ) → is_among few a ≡ false → few_target few a ≡ Some a
  own_target a h = by (tree.get nat_cmp few a) h
    where
      by : (o : Option (Option ℕ)) → is_some o ≡ false → unwrap_or o (Some a) ≡ Some a
      by None e = refl
      by (Some x) e = cc

  -- one of the needs is among the few, or each is its own target
  among_needs : (ns : List ℕ) → ((m : ℕ) × (has m ns ≡ true) × (is_among few m ≡ true)) ⊎ ((m : ℕ) → has m ns ≡ true → few_target few m ≡ Some m)
  among_needs [] = inr (λ m h. absurd (false≢true h))
  among_needs (n ∷ ns) = ⊎_elim
      (λ (moved : is_among few n ≡ true). inl (n, has_first n ns, moved))
      (λ (own : is_among few n ≡ false). ⊎_elim
      (λ (later : (m : ℕ) × (has m ns ≡ true) × (is_among few m ≡ true)). inl (later.0, has-append_right later.0 (n ∷ []) ns later.1, later.2))
      (λ (others : (m : ℕ) → has m ns ≡ true → few_target few m ≡ Some m). inr (λ m h. ⊎_elim
      (λ (same : n ≡ m). subst (λ k. few_target few k ≡ Some k) same (own_target n own))
      (λ (later : has m ns ≡ true). others m later)
      (has_cases m n ns h)))
      (among_needs ns))
      (cases_Bool (is_among few n))

  abbrev StaysAt : ℕ → Type 0
  StaysAt n = (few_target few n ≡ Some n) × ((m : ℕ) → has m (needs n) ≡ true → few_target few m ≡ Some m)

  pub stays_or_marked : (n : ℕ) → StaysAt n ⊎ IsMarked few lists n
  stays_or_marked n = ⊎_elim
      (λ (moved : is_among few n ≡ true). inr (around n moved).0)
      (λ (own : is_among few n ≡ false). ⊎_elim
      (λ (need : (m : ℕ) × (has m (needs n) ≡ true) × (is_among few m ≡ true)). inr ((around need.0 need.2).1 n need.1))
      (λ (stay : (m : ℕ) → has m (needs n) ≡ true → few_target few m ≡ Some m). inl (own_target n own, stay))
      (among_needs (needs n)))
      (cases_Bool (is_among few n))

not_none : (o : Option (List ℕ)) → o ≡ None → IsSome o → ⊥
not_none o is some = false≢true (sym (ap is_some is) ∙ some)

some_if : (o : Option (List ℕ)) (l : List ℕ) → o ≡ Some l → IsSome o
some_if o l is = ap is_some is

-- the lists put in place of the needs redirect all links
module _ (few : Few) (needs new : ℕ → List ℕ) (lists : Lists) (gathered : GathersFew few needs lists) (around : (a : ℕ) → is_among few a ≡ true → AreAround few needs lists a)
    (linked : (a : ℕ) → new a ≡ unwrap_or (list_at lists a) (needs a)) where
  pub redirected : AreRedirected (few_target few) needs new
  redirected t u = by (list_at lists t) refl
    where
      by : (o : Option (List ℕ)) → list_at lists t ≡ o → IsTrue (has u (new t)) ↔ IsRedirectedTo few needs t u
      by None e =
          let same : new t ≡ needs t = linked t ∙ ap (λ o. unwrap_or o (needs t)) e in (
            λ h.
                let was : has u (needs t) ≡ true = subst (λ l. has u l ≡ true) same h in
                ⊎_elim
                (λ (stays : (few_target few t ≡ Some t) × ((m : ℕ) → has m (needs t) ≡ true → few_target few m ≡ Some m)). (t, u, stays.0, was, stays.1 u was))
                (λ (marked : IsMarked few lists t). absurd (not_none (list_at lists t) e marked.0))
                (stays_or_marked few needs lists around t),
            λ (link : IsRedirectedTo few needs t u). ⊎_elim
                (λ (stays : (few_target few link.0 ≡ Some link.0) × ((m : ℕ) → has m (needs link.0) ≡ true → few_target few m ≡ Some m)).
                let first : link.0 ≡ t = same_Some link.0 t (sym stays.0 ∙ link.2) in
                let second : link.1 ≡ u = same_Some link.1 u (sym (stays.1 link.1 link.3) ∙ link.4) in
                subst (λ l. has u l ≡ true) (sym same) (subst (λ k. has u (needs k) ≡ true) first (subst (λ k. has k (needs link.0) ≡ true) second link.3)))
                (λ (marked : IsMarked few lists link.0). absurd (not_none (list_at lists t) e (marked.1 t link.2)))
                (stays_or_marked few needs lists around link.0),
          )
      by (Some l) e =
          let now : new t ≡ listed_at lists t = linked t ∙ (ap (λ o. unwrap_or o (needs t)) e ∙ sym (ap (λ o. unwrap_or o []) e)) in (
            λ h. ((gathered t u).0 (subst (λ l. has u l ≡ true) now h)).1,
            λ (link : IsRedirectedTo few needs t u). subst (λ l. has u l ≡ true) (sym now) ((gathered t u).1 (some_if (list_at lists t) l e, link)),
          )

-- ---- the few, one after another

abbrev pub Entry : Type 0
Entry = ℕ × Option ℕ

-- the node is one of those that are left
abbrev pub is_left : List Entry → ℕ → Bool
is_left es a = list_any (λ e. is_at (nat_cmp a) e.0) es

same_number : (a b : ℕ) → is_at (nat_cmp a) b ≡ true → a ≡ b
same_number a b h = grind (arith, nat_tests)

some_left : (a : ℕ) (es : List Entry) → is_some (lookup (is_at (nat_cmp a)) es) ≡ true → is_left es a ≡ true
some_left a [] h = absurd (false≢true h)
some_left a (e ∷ es) h = by (is_at (nat_cmp a) e.0) refl (some_left a es)
  where
    by : (t : Bool) → is_at (nat_cmp a) e.0 ≡ t → (is_some (lookup (is_at (nat_cmp a)) es) ≡ true → is_left es a ≡ true) → (is_at (nat_cmp a) e.0 || is_left es a) ≡ true
    by true here later = ap (λ t. t || is_left es a) here
    by false here later = ap (λ t. t || is_left es a) here ∙ later (subst (λ t. is_some (cond t (Some e.1) (lookup (is_at (nat_cmp a)) es)) ≡ true) here h)

left_cases : (a : ℕ) (e : Entry) (es : List Entry) → is_left (e ∷ es) a ≡ true → (a ≡ e.0) ⊎ (is_left es a ≡ true)
left_cases a e es h = ⊎_elim (λ (here : is_at (nat_cmp a) e.0 ≡ true). inl (same_number a e.0 here)) (λ (later : is_left es a ≡ true). inr later) (or_cases (is_at (nat_cmp a) e.0) (is_left es a) h)

-- those that are left are entries of the map
abbrev pub AreEntries : Few → List Entry → Type 0
AreEntries few es = AllByRecursion (λ e. tree.get nat_cmp few e.0 ≡ Some e.1) es

pub entries_first : (few : Few) (rest : List Entry) → rest ≡ few.entries → All (λ e. tree.get nat_cmp few e.0 ≡ Some e.1) few.entries → AreEntries few rest
entries_first few rest same all = subst (AreEntries few) (sym same) (recursion_from_All (λ e. tree.get nat_cmp few e.0 ≡ Some e.1) few.entries all)

is_entry : (few : Few) (a : ℕ) (x : Option ℕ) → tree.get nat_cmp few a ≡ Some x → is_among few a ≡ true
is_entry few a x e = ap is_some e

-- ---- marking, one of the few after another

pub record AreMarkedUpTo (few : Few) (needs : ℕ → List ℕ) (n : ℕ) (lists : Lists) (rest : List Entry) : Type 0 where
  pub own : AreOwn few needs lists
  pub rows : AreRows n lists
  pub entries : AreEntries few rest
  pub around : (a : ℕ) → is_among few a ≡ true → AreAround few needs lists a ⊎ (is_left rest a ≡ true)

pub marked_first : (few : Few) (needs : ℕ → List ℕ) (n : ℕ) (lists : Lists) (rest : List Entry) → lists.entries ≡ [] → rest ≡ few.entries → All (λ e. tree.get nat_cmp few e.0 ≡ Some e.1) few.entries → AreMarkedUpTo few needs n lists rest
marked_first few needs n lists rest none same all = record {
  own = λ a. inl (nothing a);
  rows = λ a some. absurd (not_none (list_at lists a) (nothing a) some);
  entries = entries_first few rest same all;
  around = λ a among. inr (subst (λ es. is_left es a ≡ true) (sym same) (some_left a few.entries among));
}
  where
    nothing : (a : ℕ) → list_at lists a ≡ None
    nothing a = ap (λ es. option_map (λ (l : SmallVec ℕ). l.items) (lookup (is_at (nat_cmp a)) es)) none

pub marked_next : (few : Few) (needs : ℕ → List ℕ) (n : ℕ) (old new : Lists) (e : Entry) (rest : List Entry) → AreMarkedUpTo few needs n old (e ∷ rest) → AreOwn few needs new → AreRows n new → StillMarked old new → AreAround few needs new e.0
    → AreMarkedUpTo few needs n new rest
marked_next few needs n old new e rest before own rows still around = record {
  own = own;
  rows = rows;
  entries = before.entries.1;
  around = λ a among. ⊎_elim
      (λ (gone : AreAround few needs old a). inl (around_still few needs old new a still gone))
      (λ (left : is_left (e ∷ rest) a ≡ true). ⊎_elim
      (λ (here : a ≡ e.0). inl (subst (AreAround few needs new) (sym here) around))
      (λ (later : is_left rest a ≡ true). inr later)
      (left_cases a e rest left))
      (before.around a among);
}

pub marked_last : (few : Few) (needs : ℕ → List ℕ) (n : ℕ) (lists : Lists) → AreMarkedUpTo few needs n lists [] → (a : ℕ) → is_among few a ≡ true → AreAround few needs lists a
marked_last few needs n lists w a among = ⊎_elim (λ (gone : AreAround few needs lists a). gone) (λ (left : false ≡ true). absurd (false≢true left)) (w.around a among)

-- ---- gathering, one of the few after another

cases_target : (o : Option ℕ) (a : ℕ) → (o ≡ Some a) ⊎ (o ≡ Some a → ⊥)
cases_target None a = inr (λ is. cc)
cases_target (Some x) a = ⊎_elim (λ same. inl (ap Some same)) (λ other. inr (λ is. other (same_Some x a is))) (cases_eq x a)

listed_some : (o : Option (List ℕ)) (u : ℕ) → has u (unwrap_or o []) ≡ true → IsSome o
listed_some None u h = absurd (false≢true h)
listed_some (Some l) u h = refl

module _ (few : Few) (needs : ℕ → List ℕ) where
  pub record AreGatheredUpTo (n : ℕ) (first lists : Lists) (rest : List Entry) : Type 0 where
    pub rows : AreRows n lists
    pub same : (a : ℕ) → is_some (list_at lists a) ≡ is_some (list_at first a)
    pub entries : AreEntries few rest
    pub sound : (t u : ℕ) → has u (listed_at lists t) ≡ true → IsRedirectedTo few needs t u
    pub complete : (n m t u : ℕ) → few_target few n ≡ Some t → has m (needs n) ≡ true → few_target few m ≡ Some u → IsSome (list_at lists t) → (has u (listed_at lists t) ≡ true) ⊎ (is_left rest n ≡ true)

  own_of : (a : ℕ) → is_among few a ≡ false → few_target few a ≡ Some a
  own_of a h = by (tree.get nat_cmp few a) h
    where
      by : (o : Option (Option ℕ)) → is_some o ≡ false → unwrap_or o (Some a) ≡ Some a
      by None e = refl
      by (Some x) e = cc

  own_sound : (t u : ℕ) → has u (own_list few needs t) ≡ true → IsRedirectedTo few needs t u
  own_sound t u h = by (is_among few t) refl h
    where
      by : (b : Bool) → is_among few t ≡ b → has u (cond b [] (filter_map (few_target few) (needs t))) ≡ true → IsRedirectedTo few needs t u
      by true e g = absurd (false≢true g)
      by false e g = let w = came_from (few_target few) (needs t) u g in (t, w.0, own_of t e, w.1, w.2)

  own_complete : (n m u : ℕ) → is_among few n ≡ false → has m (needs n) ≡ true → few_target few m ≡ Some u → has u (own_list few needs n) ≡ true
  own_complete n m u e h is = subst (λ b. has u (cond b [] (filter_map (few_target few) (needs n))) ≡ true) (sym e) (goes_to (few_target few) (needs n) m u h is)

  pub gathered_first : (n : ℕ) (lists : Lists) (rest : List Entry) → AreOwn few needs lists → AreRows n lists → rest ≡ few.entries → All (λ e. tree.get nat_cmp few e.0 ≡ Some e.1) few.entries → AreGatheredUpTo n lists lists rest
  gathered_first n lists rest own rows same all = record {
    rows = rows;
    same = λ a. refl;
    entries = entries_first few rest same all;
    sound = λ t u h. ⊎_elim
        (λ (none : list_at lists t ≡ None). absurd (false≢true (subst (λ o. has u (unwrap_or o []) ≡ true) none h)))
        (λ (some : list_at lists t ≡ Some (own_list few needs t)). own_sound t u (subst (λ o. has u (unwrap_or o []) ≡ true) some h))
        (own t);
    complete = λ k m t u to need is has_list. ⊎_elim
        (λ (moved : is_among few k ≡ true). inr (subst (λ es. is_left es k ≡ true) (sym same) (some_left k few.entries moved)))
        (λ (stays : is_among few k ≡ false).
        let at : k ≡ t = same_Some k t (sym (own_of k stays) ∙ to) in
        ⊎_elim
        (λ (none : list_at lists t ≡ None). absurd (not_none (list_at lists t) none has_list))
        (λ (some : list_at lists t ≡ Some (own_list few needs t)). inl (subst (λ o. has u (unwrap_or o []) ≡ true) (sym some) (subst (λ x. has u (own_list few needs x) ≡ true) at (own_complete k m u stays need is))))
        (own t))
        (cases_Bool (is_among few k));
  }

  module _ (n : ℕ) (first old new : Lists) (e : Entry) (rest : List Entry) (before : AreGatheredUpTo n first old (e ∷ rest)) (adds : (t : ℕ) → e.1 ≡ Some t → list_at new t ≡ option_map (λ list. list ++ filter_map (few_target few) (needs e.0)) (list_at old t))
      (others : (a : ℕ) → (e.1 ≡ Some a → ⊥) → list_at new a ≡ list_at old a) where
    target_is : few_target few e.0 ≡ e.1
    target_is = ap (λ o. unwrap_or o (Some e.0)) before.entries.0

    some_map : (g : List ℕ → List ℕ) (o : Option (List ℕ)) → is_some (option_map g o) ≡ is_some o
    some_map g None = refl
    some_map g (Some l) = refl

    same_places : (a : ℕ) → is_some (list_at new a) ≡ is_some (list_at old a)
    same_places a = ⊎_elim
        (λ is. ap is_some (adds a is) ∙ some_map (λ list. list ++ filter_map (few_target few) (needs e.0)) (list_at old a))
        (λ other. ap is_some (others a other))
        (cases_target e.1 a)

    next_sound : (t u : ℕ) → has u (listed_at new t) ≡ true → IsRedirectedTo few needs t u
    next_sound t u h = ⊎_elim here (λ other. before.sound t u (subst (λ o. has u (unwrap_or o []) ≡ true) (others t other) h)) (cases_target e.1 t)
      where
        here : e.1 ≡ Some t → IsRedirectedTo few needs t u
        here is = by (list_at old t) refl (subst (λ o. has u (unwrap_or o []) ≡ true) (adds t is) h)
          where
            by : (o : Option (List ℕ)) → list_at old t ≡ o → has u (unwrap_or (option_map (λ list. list ++ filter_map (few_target few) (needs e.0)) o) []) ≡ true → IsRedirectedTo few needs t u
            by None was g = absurd (false≢true g)
            by (Some l) was g = ⊎_elim
                (λ (there : has u l ≡ true). before.sound t u (subst (λ o. has u (unwrap_or o []) ≡ true) (sym was) there))
                (λ (added : has u (filter_map (few_target few) (needs e.0)) ≡ true). let w = came_from (few_target few) (needs e.0) u added in (e.0, w.0, target_is ∙ is, w.1, w.2))
                (has-append_cases u l (filter_map (few_target few) (needs e.0)) g)

    kept_found : (t u : ℕ) → has u (listed_at old t) ≡ true → has u (listed_at new t) ≡ true
    kept_found t u h = ⊎_elim here (λ other. subst (λ o. has u (unwrap_or o []) ≡ true) (sym (others t other)) h) (cases_target e.1 t)
      where
        here : e.1 ≡ Some t → has u (listed_at new t) ≡ true
        here is = subst (λ o. has u (unwrap_or o []) ≡ true) (sym (adds t is)) (by (list_at old t) h)
          where
            by : (o : Option (List ℕ)) → has u (unwrap_or o []) ≡ true → has u (unwrap_or (option_map (λ list. list ++ filter_map (few_target few) (needs e.0)) o) []) ≡ true
            by None g = g
            by (Some l) g = has-append_left u l (filter_map (few_target few) (needs e.0)) g

    added_found : (m t u : ℕ) → e.1 ≡ Some t → has m (needs e.0) ≡ true → few_target few m ≡ Some u → IsSome (list_at old t) → has u (listed_at new t) ≡ true
    added_found m t u is need to some = subst (λ o. has u (unwrap_or o []) ≡ true) (sym (adds t is)) (by (list_at old t) some)
      where
        by : (o : Option (List ℕ)) → IsSome o → has u (unwrap_or (option_map (λ list. list ++ filter_map (few_target few) (needs e.0)) o) []) ≡ true
        by None g = absurd (false≢true g)
        by (Some l) g = has-append_right u l (filter_map (few_target few) (needs e.0)) (goes_to (few_target few) (needs e.0) m u need to)

    pub gathered_next : AreGatheredUpTo n first new rest
    gathered_next = record {
      rows = λ a some. before.rows a (sym (same_places a) ∙ some);
      same = λ a. same_places a ∙ before.same a;
      entries = before.entries.1;
      sound = next_sound;
      complete = λ k m t u to need is some. ⊎_elim
          (λ (found : has u (listed_at old t) ≡ true). inl (kept_found t u found))
          (λ (left : is_left (e ∷ rest) k ≡ true). ⊎_elim
          (λ (here : k ≡ e.0). inl (added_found m t u (sym target_is ∙ (ap (few_target few) (sym here) ∙ to)) (subst (λ x. has m (needs x) ≡ true) here need) is (sym (same_places t) ∙ some)))
          (λ (later : is_left rest k ≡ true). inr later)
          (left_cases k e rest left))
          (before.complete k m t u to need is (sym (same_places t) ∙ some));
    }

  pub gathered_last : (n : ℕ) (first lists : Lists) → AreGatheredUpTo n first lists [] → GathersFew few needs lists
  gathered_last n first lists w t u = (
    λ h. (listed_some (list_at lists t) u h, w.sound t u h),
    λ (from : IsSome (list_at lists t) × IsRedirectedTo few needs t u). ⊎_elim
        (λ (found : has u (listed_at lists t) ≡ true). found)
        (λ (left : false ≡ true). absurd (false≢true left))
        (w.complete from.1.0 from.1.1 t u from.1.2 from.1.3 from.1.4 from.0),
  )

-- ---- users gone by

pub has_next : (xs : List ℕ) (k u : ℕ) → k < length xs → has u (take (k + 1) xs) ≡ true → (has u (take k xs) ≡ true) ⊎ (get_or xs k 0 ≡ u)
has_next xs k u inside h = ⊎_elim
    (λ (before : has u (take k xs) ≡ true). inl before)
    (λ (here : has u (get_or xs k 0 ∷ []) ≡ true). ⊎_elim (λ (is : get_or xs k 0 ≡ u). inr is) (λ (none : has u [] ≡ true). absurd (false≢true none)) (has_cases u (get_or xs k 0) [] here))
    (has-append_cases u (take k xs) (get_or xs k 0 ∷ []) (subst (λ l. has u l ≡ true) (take_more xs k 0 inside) h))
