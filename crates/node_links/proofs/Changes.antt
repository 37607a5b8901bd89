-- Changes of nodes put, taken back and made, one after another. Serves the linking of few nodes.
use Rattle.std.proofs.Common.{◌≡◌, ◌∙◌, sym, ap, refl, subst, arith, ℕ, zero, suc, ◌+◌, ◌<◌, ◌≤◌, inl, inr, ⊎_elim, Bool, true, false, cond, not, ◌&&◌, ◌||◌, List, [], ◌∷◌, length, get_or, set, take, eqb, None, Some, unwrap_or}
use Rattle.std.specs.List.{All}
use Rattle.smallvec.specs.SmallVec.{SmallVec}
use Rattle.std.proofs.lemmas.Bool.{and_from, and_parts, eq-eqb, eqb-true, false≢true, or_cases, or_left, or_right, true≢false}
use Rattle.std.proofs.lemmas.List.{length-set, take_all}
use Rattle.std.proofs.lemmas.List.Folds.{list_any_at, list_any_more}
use Rattle.needs_order.specs.Needs.{has}
use Rattle.node_links.specs.Links.{needs_at}
use Rattle.node_links.specs.declared.change.Change.{Change}
use Rattle.node_links.specs.declared.node_set.NodeSet.{NodeSet}
use Rattle.node_links.specs.internal.Few.{ArePutInPart, AreReady, KnowBefore, drops, given, puts}
use Rattle.node_links.specs.internal.Sets.{is_in, nodes_in, IsPartlyPut}
use Rattle.node_links.proofs.Relinking.{all_of, needs-set}

-- ---- what is said of a change at a place

pub ready_at : (n : ℕ) (cs : List Change) (k : ℕ) (d : Change) → AreReady n cs → k < length cs → All (λ b. b < n) (get_or cs k d).needs.items
ready_at n [] k d ready inside = absurd (omega (arith, inside))
ready_at n (c ∷ cs) zero d ready inside = all_of n c.needs.items ready.2
ready_at n (c ∷ cs) (suc k) d ready inside = ready_at n cs k d ready.4 (omega (arith, inside))

-- ---- nodes put

or_or : (o h e : Bool) → ((o || h) || e) ≡ (o || (h || e))
or_or true h e = refl
or_or false h e = refl

not_or : (o h e : Bool) → ((o && not h) && not e) ≡ (o && not (h || e))
not_or false h e = refl
not_or true true e = refl
not_or true false e = refl

module _ (cs : List Change) (k : ℕ) (c : Change) (inside : k < length cs) (is : c ≡ get_or cs k c) where
  -- the changes gone by and this one
  puts_more : (i x : ℕ) → puts (take (k + 1) cs) i x ≡ (puts (take k cs) i x || (has i c.needs.items && eqb x c.node))
  puts_more i x = list_any_more (λ d. has i d.needs.items && eqb x d.node) cs k c inside ∙ ap (λ d. puts (take k cs) i x || (has i d.needs.items && eqb x d.node)) (sym is)

  drops_more : (i x : ℕ) → drops (take (k + 1) cs) i x ≡ (drops (take k cs) i x || ((has i c.needs.items && not (has i (nodes_in c.was))) && eqb x c.node))
  drops_more i x =
      list_any_more (λ d. (has i d.needs.items && not (has i (nodes_in d.was))) && eqb x d.node) cs k c inside
      ∙ ap (λ d. drops (take k cs) i x || ((has i d.needs.items && not (has i (nodes_in d.was))) && eqb x d.node)) (sym is)

  pub next_put : (old mid new : List NodeSet) (items : List ℕ) → items ≡ c.needs.items → ((i x : ℕ) → is_in mid i x ≡ (is_in old i x || puts (take k cs) i x))
      → ((i x : ℕ) → is_in new i x ≡ (is_in mid i x || (has i items && eqb x c.node))) → (i x : ℕ) → is_in new i x ≡ (is_in old i x || puts (take (k + 1) cs) i x)
  next_put old mid new items same before put i x =
      put i x ∙ (ap (λ b. b || (has i items && eqb x c.node)) (before i x) ∙ (ap (λ l. (is_in old i x || puts (take k cs) i x) || (has i l && eqb x c.node)) same
      ∙ (or_or (is_in old i x) (puts (take k cs) i x) (has i c.needs.items && eqb x c.node) ∙ ap (λ b. is_in old i x || b) (sym (puts_more i x)))))

  pub next_dropped : (old mid new : List NodeSet) (items : List ℕ) → items ≡ c.needs.items → ((i x : ℕ) → is_in mid i x ≡ (is_in old i x && not (drops (take k cs) i x)))
      → ((i x : ℕ) → is_in new i x ≡ (is_in mid i x && not ((has i items && not (has i (nodes_in c.was))) && eqb x c.node))) → (i x : ℕ) → is_in new i x ≡ (is_in old i x && not (drops (take (k + 1) cs) i x))
  next_dropped old mid new items same before dropped i x =
      dropped i x ∙ (ap (λ b. b && not ((has i items && not (has i (nodes_in c.was))) && eqb x c.node)) (before i x)
      ∙ (ap (λ l. (is_in old i x && not (drops (take k cs) i x)) && not ((has i l && not (has i (nodes_in c.was))) && eqb x c.node)) same
      ∙ (not_or (is_in old i x) (drops (take k cs) i x) ((has i c.needs.items && not (has i (nodes_in c.was))) && eqb x c.node) ∙ ap (λ b. is_in old i x && not b) (sym (drops_more i x)))))

  pub put_in_part : (old mid new : List NodeSet) (items : List ℕ) → items ≡ c.needs.items → ((i x : ℕ) → is_in mid i x ≡ (is_in old i x || puts (take k cs) i x)) → IsPartlyPut mid items c.node new → ArePutInPart old cs new
  put_in_part old mid new items same before partly = record {
    kept = λ i x h. partly.kept i x (before i x ∙ or_left (is_in old i x) (puts (take k cs) i x) h);
    only = λ i x h. ⊎_elim
        (λ (put : is_in mid i x ≡ true). ⊎_elim
        (λ (o : is_in old i x ≡ true). inl o)
        (λ (earlier : puts (take k cs) i x ≡ true). inr (puts_front cs k i x earlier))
        (or_cases (is_in old i x) (puts (take k cs) i x) (sym (before i x) ∙ put)))
        (λ (own : (has i items ≡ true) × (x ≡ c.node)).
        let both : (has i c.needs.items && eqb x c.node) ≡ true = and_from (has i c.needs.items) (eqb x c.node) (subst (λ l. has i l ≡ true) same own.0) (eq-eqb x c.node own.1) in
        inr (list_any_at (λ d. has i d.needs.items && eqb x d.node) cs k c inside (subst (λ d. (has i d.needs.items && eqb x d.node) ≡ true) is both)))
        (partly.only i x h);
  }
    where
      puts_front : (cs : List Change) (k i x : ℕ) → puts (take k cs) i x ≡ true → puts cs i x ≡ true
      puts_front [] zero i x h = h
      puts_front [] (suc k) i x h = h
      puts_front (d ∷ cs) zero i x h = absurd (false≢true h)
      puts_front (d ∷ cs) (suc k) i x h = ⊎_elim
          (λ (here : (has i d.needs.items && eqb x d.node) ≡ true). or_left (has i d.needs.items && eqb x d.node) (puts cs i x) here)
          (λ (later : puts (take k cs) i x ≡ true). or_right (has i d.needs.items && eqb x d.node) (puts cs i x) (puts_front cs k i x later))
          (or_cases (has i d.needs.items && eqb x d.node) (puts (take k cs) i x) h)

pub all_put : (old new : List NodeSet) (cs : List Change) (k : ℕ) → ((i x : ℕ) → is_in new i x ≡ (is_in old i x || puts (take k cs) i x)) → length cs ≤ k → (i x : ℕ) → is_in new i x ≡ (is_in old i x || puts cs i x)
all_put old new cs k before past i x = before i x ∙ ap (λ l. is_in old i x || puts l i x) (take_all k cs past)

pub all_dropped : (old new : List NodeSet) (cs : List Change) (k : ℕ) → ((i x : ℕ) → is_in new i x ≡ (is_in old i x && not (drops (take k cs) i x))) → length cs ≤ k → (i x : ℕ) → is_in new i x ≡ (is_in old i x && not (drops cs i x))
all_dropped old new cs k before past i x = before i x ∙ ap (λ l. is_in old i x && not (drops l i x)) (take_all k cs past)

-- ---- nodes put back

-- what was there isn't taken, and what was put is
drops_none : (needed : ℕ → ℕ → Bool) (cs : List Change) (i x : ℕ) → KnowBefore needed cs → needed x i ≡ true → drops cs i x ≡ false
drops_none needed [] i x known was = refl
drops_none needed (c ∷ cs) i x known was = ap (λ b. b || drops cs i x) (by (eqb x c.node) refl) ∙ drops_none needed cs i x known.1 was
  where
    kept : (h k : Bool) → k ≡ true → ((h && not k) && true) ≡ false
    kept true true e = refl
    kept false k e = refl
    kept true false e = absurd (false≢true e)

    other : (h k : Bool) → ((h && not k) && false) ≡ false
    other true true = refl
    other true false = refl
    other false k = refl

    by : (t : Bool) → eqb x c.node ≡ t → ((has i c.needs.items && not (has i (nodes_in c.was))) && eqb x c.node) ≡ false
    by true e = ap (λ t. (has i c.needs.items && not (has i (nodes_in c.was))) && t) e ∙ kept (has i c.needs.items) (has i (nodes_in c.was)) (known.0 i ∙ (ap (λ a. needed a i) (sym (eqb-true x c.node e)) ∙ was))
    by false e = ap (λ t. (has i c.needs.items && not (has i (nodes_in c.was))) && t) e ∙ other (has i c.needs.items) (has i (nodes_in c.was))

drops_all : (needed : ℕ → ℕ → Bool) (cs : List Change) (i x : ℕ) → KnowBefore needed cs → needed x i ≡ false → puts cs i x ≡ true → drops cs i x ≡ true
drops_all needed [] i x known was put = absurd (false≢true put)
drops_all needed (c ∷ cs) i x known was put = ⊎_elim
    (λ (here : (has i c.needs.items && eqb x c.node) ≡ true).
    let parts = and_parts (has i c.needs.items) (eqb x c.node) here in
    let none : has i (nodes_in c.was) ≡ false = known.0 i ∙ (ap (λ a. needed a i) (sym (eqb-true x c.node parts.1)) ∙ was) in
    or_left ((has i c.needs.items && not (has i (nodes_in c.was))) && eqb x c.node) (drops cs i x)
    (and_from (has i c.needs.items && not (has i (nodes_in c.was))) (eqb x c.node) (and_from (has i c.needs.items) (not (has i (nodes_in c.was))) parts.0 (ap not none)) parts.1))
    (λ (later : puts cs i x ≡ true). or_right ((has i c.needs.items && not (has i (nodes_in c.was))) && eqb x c.node) (drops cs i x) (drops_all needed cs i x known.1 was later))
    (or_cases (has i c.needs.items && eqb x c.node) (puts cs i x) put)

pub all_put_back : (old mid new : List NodeSet) (cs : List Change) → KnowBefore (λ a x. is_in old x a) cs → ArePutInPart old cs mid
    → ((i x : ℕ) → is_in new i x ≡ (is_in mid i x && not (drops cs i x))) → (i x : ℕ) → is_in new i x ≡ is_in old i x
all_put_back old mid new cs known partly dropped i x = dropped i x ∙ by (is_in old i x) (is_in mid i x) refl refl
  where
    by : (o m : Bool) → is_in old i x ≡ o → is_in mid i x ≡ m → (is_in mid i x && not (drops cs i x)) ≡ is_in old i x
    by true m eo em = ap (λ b. b && not (drops cs i x)) (partly.kept i x eo) ∙ (ap not (drops_none (λ a y. is_in old y a) cs i x known eo) ∙ sym eo)
    by false false eo em = ap (λ b. b && not (drops cs i x)) em ∙ sym eo
    by false true eo em = ⊎_elim
        (λ (was : is_in old i x ≡ true). absurd (true≢false (sym was ∙ eo)))
        (λ (put : puts cs i x ≡ true). ap (λ b. b && not (drops cs i x)) em ∙ (ap not (drops_all (λ a y. is_in old y a) cs i x known eo put) ∙ sym eo))
        (partly.only i x em)

-- ---- what changes give

-- a change puts its node exactly where it gives it a need
pub puts_given : (n : ℕ) (cs : List Change) (i x : ℕ) → AreReady n cs → puts cs i x ≡ has i (unwrap_or (given cs x) [])
puts_given n [] i x ready = refl
puts_given n (c ∷ cs) i x ready = by (eqb x c.node) refl (puts_given n cs i x ready.4)
  where
    here : (h b : Bool) → b ≡ false → ((h && true) || b) ≡ h
    here true b e = refl
    here false b e = e

    other : (h b : Bool) → ((h && false) || b) ≡ b
    other true b = refl
    other false b = refl

    by : (t : Bool) → eqb x c.node ≡ t → puts cs i x ≡ has i (unwrap_or (given cs x) []) → ((has i c.needs.items && eqb x c.node) || puts cs i x) ≡ has i (unwrap_or (cond (eqb x c.node) (Some c.needs.items) (given cs x)) [])
    by true e later =
        let none : puts cs i x ≡ false = later ∙ (ap (λ a. has i (unwrap_or (given cs a) [])) (eqb-true x c.node e) ∙ ap (λ o. has i (unwrap_or o [])) ready.3) in
        ap (λ t. (has i c.needs.items && t) || puts cs i x) e ∙ (here (has i c.needs.items) (puts cs i x) none ∙ ap (λ t. has i (unwrap_or (cond t (Some c.needs.items) (given cs x)) [])) (sym e))
    by false e later =
        ap (λ t. (has i c.needs.items && t) || puts cs i x) e ∙ (other (has i c.needs.items) (puts cs i x) ∙ (later ∙ ap (λ t. has i (unwrap_or (cond t (Some c.needs.items) (given cs x)) [])) (sym e)))

-- ---- changes made, one after another

-- those that are left are put, and what comes of all is told
pub record AreChangedTo (first needs : List (SmallVec ℕ)) (users : List NodeSet) (all left : List Change) : Type 0 where
  pub ready : AreReady (length first) left
  pub put : (a b : ℕ) → is_in users b a ≡ (has b (needs_at needs a) || has b (unwrap_or (given left a) []))
  pub value : (a : ℕ) → unwrap_or (given left a) (needs_at needs a) ≡ unwrap_or (given all a) (needs_at first a)
  pub known : (a b : ℕ) → has b (needs_at needs a) ≡ true → b < length first
  pub needs_count : length needs ≡ length first
  pub users_count : length users ≡ length first

pub changed_first : (first : List (SmallVec ℕ)) (users : List NodeSet) (all left : List Change) → left ≡ all → AreReady (length first) all → ((a b : ℕ) → is_in users b a ≡ (has b (needs_at first a) || puts all b a))
    → ((a b : ℕ) → has b (needs_at first a) ≡ true → b < length first) → length users ≡ length first → AreChangedTo first first users all left
changed_first first users all left same ready put known count = subst (λ l. AreChangedTo first first users all l) (sym same) (record {
  ready = ready;
  put = λ a b. put a b ∙ ap (λ t. has b (needs_at first a) || t) (puts_given (length first) all b a ready);
  value = λ a. refl;
  known = known;
  needs_count = refl;
  users_count = count;
})

after_here : (h w : Bool) → ((h || w) && not ((h && not w) && true)) ≡ (w || false)
after_here true true = refl
after_here true false = refl
after_here false true = refl
after_here false false = refl

after_there : (o h k : Bool) → (o && not ((h && not k) && false)) ≡ o
after_there true true true = refl
after_there true true false = refl
after_there true false k = refl
after_there false h k = refl

pub changed_next : (first needs : List (SmallVec ℕ)) (users new : List NodeSet) (all left : List Change) (c : Change) (before : List ℕ) → before ≡ needs_at needs c.node → AreChangedTo first needs users all (c ∷ left)
    → ((i x : ℕ) → is_in new i x ≡ (is_in users i x && not ((has i before && not (has i (nodes_in c.now))) && eqb x c.node))) → length new ≡ length users → AreChangedTo first (set needs c.node c.needs) new all left
changed_next first needs users new all left c before was w taken count = record {
  ready = w.ready.4;
  put = λ a b. taken b a ∙ put a b (eqb a c.node) refl;
  value = λ a. value a (eqb a c.node) refl;
  known = λ a b h. known a b (eqb a c.node) refl (subst (λ l. has b l ≡ true) (at a) h);
  needs_count = length-set needs c.node c.needs ∙ w.needs_count;
  users_count = count ∙ w.users_count;
}
  where
    inside : c.node < length needs
    inside = subst (λ m. c.node < m) (sym w.needs_count) w.ready.0

    at : (a : ℕ) → needs_at (set needs c.node c.needs) a ≡ cond (eqb a c.node) c.needs.items (needs_at needs a)
    at a = needs-set needs c.node c.needs a inside

    put : (a b : ℕ) (t : Bool) → eqb a c.node ≡ t → (is_in users b a && not ((has b before && not (has b (nodes_in c.now))) && eqb a c.node)) ≡ (has b (needs_at (set needs c.node c.needs) a) || has b (unwrap_or (given left a) []))
    put a b true e =
        let is_node = eqb-true a c.node e in
        let old : is_in users b a ≡ (has b before || has b c.needs.items)
        = w.put a b ∙ (ap (λ t. has b (needs_at needs a) || has b (unwrap_or (cond t (Some c.needs.items) (given left a)) [])) e ∙ ap (λ l. has b l || has b c.needs.items) (ap (needs_at needs) is_node ∙ sym was)) in
        let none : has b (unwrap_or (given left a) []) ≡ false = ap (λ x. has b (unwrap_or (given left x) [])) is_node ∙ ap (λ o. has b (unwrap_or o [])) w.ready.3 in
        ap (λ t. is_in users b a && not ((has b before && not (has b (nodes_in c.now))) && t)) e
        ∙ (ap (λ o. o && not ((has b before && not (has b (nodes_in c.now))) && true)) old
        ∙ (ap (λ k. (has b before || has b c.needs.items) && not ((has b before && not k) && true)) (w.ready.1 b)
        ∙ (after_here (has b before) (has b c.needs.items)
        ∙ (ap (λ n. has b c.needs.items || n) (sym none) ∙ ap (λ l. has b l || has b (unwrap_or (given left a) [])) (sym (at a ∙ ap (λ t. cond t c.needs.items (needs_at needs a)) e))))))
    put a b false e =
        ap (λ t. is_in users b a && not ((has b before && not (has b (nodes_in c.now))) && t)) e
        ∙ (after_there (is_in users b a) (has b before) (has b (nodes_in c.now))
        ∙ (w.put a b ∙ (ap (λ t. has b (needs_at needs a) || has b (unwrap_or (cond t (Some c.needs.items) (given left a)) [])) e
        ∙ ap (λ l. has b l || has b (unwrap_or (given left a) [])) (sym (at a ∙ ap (λ t. cond t c.needs.items (needs_at needs a)) e)))))

    value : (a : ℕ) (t : Bool) → eqb a c.node ≡ t → unwrap_or (given left a) (needs_at (set needs c.node c.needs) a) ≡ unwrap_or (given all a) (needs_at first a)
    value a true e =
        let none : given left a ≡ None = ap (given left) (eqb-true a c.node e) ∙ w.ready.3 in
        ap (λ o. unwrap_or o (needs_at (set needs c.node c.needs) a)) none
        ∙ (at a ∙ (ap (λ t. cond t c.needs.items (needs_at needs a)) e
        ∙ (sym (ap (λ t. unwrap_or (cond t (Some c.needs.items) (given left a)) (needs_at needs a)) e) ∙ w.value a)))
    value a false e =
        ap (unwrap_or (given left a)) (at a ∙ ap (λ t. cond t c.needs.items (needs_at needs a)) e)
        ∙ (sym (ap (λ t. unwrap_or (cond t (Some c.needs.items) (given left a)) (needs_at needs a)) e) ∙ w.value a)

    known : (a b : ℕ) (t : Bool) → eqb a c.node ≡ t → has b (cond (eqb a c.node) c.needs.items (needs_at needs a)) ≡ true → b < length first
    known a b true e h = w.ready.2 b (subst (λ t. has b (cond t c.needs.items (needs_at needs a)) ≡ true) e h)
    known a b false e h = w.known a b (subst (λ t. has b (cond t c.needs.items (needs_at needs a)) ≡ true) e h)

or_none : (b : Bool) → (b || false) ≡ b
or_none true = refl
or_none false = refl

-- where none is left, all are made
pub changed_last : (first needs : List (SmallVec ℕ)) (users : List NodeSet) (all : List Change) → AreChangedTo first needs users all []
    → ((a : ℕ) → needs_at needs a ≡ unwrap_or (given all a) (needs_at first a)) × ((a b : ℕ) → is_in users b a ≡ has b (needs_at needs a)) × ((a b : ℕ) → has b (needs_at needs a) ≡ true → b < length needs)
changed_last first needs users all w = (w.value, λ a b. w.put a b ∙ or_none (has b (needs_at needs a)), λ a b h. subst (λ m. b < m) (sym w.needs_count) (w.known a b h))

-- the numbers that a change at a place gives are low
pub low_at : (n count : ℕ) (cs : List Change) (k : ℕ) (c : Change) (items : List ℕ) → AreReady n cs → k < length cs → c ≡ get_or cs k c → items ≡ c.needs.items → count ≡ n → All (λ b. b < count) items
low_at n count cs k c items ready inside is same equal =
    subst (λ l. All (λ b. b < count) l) (sym (same ∙ ap (λ d. d.needs.items) is)) (subst (λ m. All (λ b. b < m) (get_or cs k c).needs.items) (sym equal) (ready_at n cs k c ready inside))

-- changes of the entries of a map, one after another
pub known_as : (f g : ℕ → ℕ → Bool) (cs : List Change) → ((a x : ℕ) → f a x ≡ g a x) → KnowBefore f cs → KnowBefore g cs
known_as f g [] same known = tt
known_as f g (c ∷ cs) same known = (λ x. known.0 x ∙ same c.node x, known_as f g cs same known.1)
