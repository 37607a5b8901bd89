-- Nodes added, filed and linked. Serves the changes of a net.
use Rattle.std.proofs.Common.{◌≡◌, ◌∙◌, sym, ap, refl, subst, arith, ℕ, zero, suc, ◌+◌, ◌<◌, ◌≤◌, ◌↔◌, inl, inr, ◌⊎◌, ⊎_elim, Bool, true, false, cond, not, ◌||◌, List, [], ◌∷◌, ◌++◌, map, length, get_or, take, eqb, Result, Ok, Err, OnOk, OnErr, Option, Some, None}
use Rattle.std.specs.Prelude.{IsSome, slice_get, unwrap_or}
use Rattle.std.specs.List.{list_any, position_or_len}
use Rattle.std.proofs.lemmas.Bool.{cases_lt, eq-eqb, eqb-true, false≢true, or_cases, or_left}
use Rattle.std.proofs.lemmas.Bool.Decides.{nat_tests}
use Rattle.std.proofs.lemmas.List.{get_or_past, length-append, length_push, map-append, take_more}
use Rattle.std.proofs.lemmas.List.Folds.{position_or_len_push}
use Rattle.std.proofs.lemmas.Option.{same_Some}
use Rattle.needs_order.specs.Needs as plain
use Rattle.needs_order.proofs.Lists as lists
use Rattle.node_links.specs.Nodes.{needs_of}
use Rattle.std.specs.declared.alloc.Global.{Global}
use Rattle.std.specs.declared.vec.Vec.{Vec}
use Rattle.dep_graph.specs.declared.files.Files.{Files}
use Rattle.dep_graph.specs.declared.key.Key.{Key}
use Rattle.dep_graph.specs.declared.net.Net.{Net}
use Rattle.dep_graph.specs.declared.node.Node.{Node}
use Rattle.dep_graph.specs.declared.node.Node.TheVariants.{Name}
use Rattle.dep_graph.specs.declared.table.NodeTable.{NodeTable}
use Rattle.dep_graph.specs.internal.Files.{FilesOn, FindsBy, HoldsNode, IsServing}
use Rattle.dep_graph.specs.internal.Filings.{filing_of, owner_at, serves_at, since}
use Rattle.dep_graph.specs.internal.Keys.{AreNarrow, is_narrow, own_key, same_key}
use Rattle.dep_graph.specs.internal.Nets.{Grows}
use Rattle.dep_graph.specs.internal.Numbers.{AreFilings, IsAlive, IsFiled, IsHeld, count_of, found_at, found_under, is_range, node_at, place_of}
use Rattle.dep_graph.specs.internal.Touches.{AreIndexed, IsIndexed}
use Rattle.dep_graph.proofs.Filed.{finds_alike, held_node, holds_as, kept_holds, node_held, present_serving}
use Rattle.dep_graph.proofs.Growing.{found_more, grown_map, known_inside}
use Rattle.dep_graph.proofs.Numbers.{alive_inside, at_place, gets-more, got}
use Rattle.dep_graph.proofs.Served.{holds_by, holds_node}

-- ---- one key more

pub absent_key : (keys : List Key) (k : Key) → position_or_len (same_key k) keys ≡ length keys → list_any (same_key k) keys ≡ false
absent_key [] k last = refl
absent_key (x ∷ keys) k last = by (same_key k x) refl last (absent_key keys k)
  where
    by : (t : Bool) → same_key k x ≡ t → cond (not t) (1 + position_or_len (same_key k) keys) 0 ≡ suc (length keys) → (position_or_len (same_key k) keys ≡ length keys → list_any (same_key k) keys ≡ false)
        → (t || list_any (same_key k) keys) ≡ false
    by true e is rest = absurd (omega (arith, is))
    by false e is rest = rest (omega (arith, is))

pub place_last : (keys : List Key) (k : Key) → position_or_len (same_key k) keys ≡ length keys → position_or_len (same_key k) (keys ++ k ∷ []) ≡ length keys
place_last keys a last = position_or_len_push (same_key a) keys a ∙ at_end (position_or_len (same_key a) keys) (length keys) (same_key a a) last (own_key a)
  where
    either : (i n : ℕ) → i ≡ n → cond (eqb i n) (n + 0) i ≡ n
    either i n same = grind (arith, nat_tests)

    at_end : (i n : ℕ) (t : Bool) → i ≡ n → t ≡ true → cond (eqb i n) (n + cond t 0 1) i ≡ n
    at_end i n t same own = ap (λ j. cond (eqb i n) (n + cond j 0 1) i) own ∙ either i n same

pub narrow_push : (keys longer : List Key) (k : Key) → AreNarrow keys → is_narrow k ≡ true → longer ≡ keys ++ k ∷ [] → AreNarrow longer
narrow_push keys longer k narrow one is n x e = ⊎_elim
    (λ (low : n < length keys). narrow n x (sym (gets-more keys (k ∷ []) n low) ∙ (ap (λ ks. slice_get ks n) (sym is) ∙ e)))
    (λ (past : length keys ≤ n). subst (λ y. is_narrow y ≡ true) (same_Some k x (sym (last keys n past (got longer n x x e).0 (ap length is ∙ length_push keys k)) ∙ (ap (λ ks. slice_get ks n) (sym is) ∙ e))) one)
    (cases_lt n (length keys))
  where
    last : (l : List Key) (n : ℕ) → length l ≤ n → n < length longer → length longer ≡ length l + 1 → slice_get (l ++ k ∷ []) n ≡ Some k
    last l n past low count = at l n (omega (arith, past, low, count))
      where
        at : (l : List Key) (n : ℕ) → n ≡ length l → slice_get (l ++ k ∷ []) n ≡ Some k
        at [] zero e = refl
        at [] (suc n) e = absurd (omega (arith, e))
        at (x ∷ l) zero e = absurd (omega (arith, e))
        at (x ∷ l) (suc n) e = at l n (omega (arith, e))

-- ---- filings where nodes were added behind

some_is : {A : Type 0} (x : A) (o : Option A) → o ≡ Some x → IsSome o
some_is x (Some y) e = refl
some_is x None e = absurd (none e)
  where
    none : None ≡ Some x → ⊥
    none e = cc

-- a number with a present filing is that of a node
pub filed_inside : (net : Net) (n f : ℕ) → filing_of net.files.current n ≡ Some f → n < count_of net.nodes
filed_inside net n f e = ⊎_elim
    (λ (low : n < count_of net.nodes). low)
    (λ (past : count_of net.nodes ≤ n). absurd (none (sym (get_or_past net.files.current.items n None (omega (arith, past, net.rooms))) ∙ e)))
    (cases_lt n (count_of net.nodes))
  where
    none : None ≡ Some f → ⊥
    none e = cc

-- the same files where other nodes got room
abbrev with_current : (files : Files) (current : Vec (Option ℕ) Global) → ((n : ℕ) → filing_of current n ≡ filing_of files.current n) → Files
with_current files current same = record {
  alloc = files.alloc;
  index = files.index;
  wholes = files.wholes;
  owners = files.owners;
  serves = files.serves;
  current = current;
  filed = files.filed;
  rooms = files.rooms;
  owned = λ n f e. files.owned n f (sym (same n) ∙ e);
  served = λ n f e. files.served n f (sym (same n) ∙ e);
  within = files.within;
  within_wholes = files.within_wholes;
}

module _ (net : Net) (keys more : List Key) (behind : keys ≡ net.nodes.keys.keys ++ more) where
  same_found : (n : ℕ) → n < count_of net.nodes → found_under net.nodes.lines keys n ≡ found_at net.nodes n
  same_found n low = found_more net.nodes.lines net.nodes.keys.keys keys more n behind low

  still_alive : (n : ℕ) → IsAlive net.nodes n → found_under net.nodes.lines keys n ≡ Some (unwrap_or (found_under net.nodes.lines keys n) (Name 0 0))
  still_alive n alive =
      let same : found_under net.nodes.lines keys n ≡ found_at net.nodes n = same_found n (alive_inside net.nodes n alive) in
      same ∙ (alive ∙ ap (λ o. Some (unwrap_or o (Name 0 0))) (sym same))

  pub alive_more : (links : ℕ → List ℕ) → ((n : ℕ) → links n ≡ needs_of net.links n) → (a n : ℕ) → plain.has n (links a) ≡ true
      → (found_under net.nodes.lines keys a ≡ Some (unwrap_or (found_under net.nodes.lines keys a) (Name 0 0))) × (found_under net.nodes.lines keys n ≡ Some (unwrap_or (found_under net.nodes.lines keys n) (Name 0 0)))
  alive_more links same a n h =
      let (first, second) = net.alive a n (subst (λ l. plain.has n l ≡ true) (same a) h) in
      (still_alive a first, still_alive n second)

  pub filed_more : (current : Vec (Option ℕ) Global) (n : ℕ) → n < count_of net.nodes → filing_of current n ≡ filing_of net.files.current n → IsFiled net.nodes net.files n
      → is_range (found_under net.nodes.lines keys n) ≡ true → IsSome (filing_of current n)
  filed_more current n low same filed range = subst IsSome (sym same) (filed (ap is_range (sym (same_found n low)) ∙ range))

  pub filings_more : (current : Vec (Option ℕ) Global) → (same : (n : ℕ) → filing_of current n ≡ filing_of net.files.current n) → (n f : ℕ) → filing_of current n ≡ Some f
      → IsHeld net.nodes.lines keys (with_current net.files current same) n
  filings_more current same n f e =
      let was : filing_of net.files.current n ≡ Some f = sym (same n) ∙ e in
      let (a, at, holds) = held_node net.nodes.lines net.nodes.keys.keys net.files n (net.filed n f was) in
      node_held net.nodes.lines keys (with_current net.files current same) n a (same_found n (filed_inside net n f was) ∙ at)
      (holds_node (with_current net.files current same) net.nodes.lines n f a e (holds_by net.files net.nodes.lines n f a was holds))

  pub used_more : (links : ℕ → List ℕ) (current : Vec (Option ℕ) Global) → ((n : ℕ) → links n ≡ needs_of net.links n) → ((n : ℕ) → filing_of current n ≡ filing_of net.files.current n)
      → (a n : ℕ) → plain.has n (links a) ≡ true → is_range (found_under net.nodes.lines keys n) ≡ true → IsSome (filing_of current n)
  used_more links current same filings a n h =
      let before : plain.has n (needs_of net.links a) ≡ true = subst (λ l. plain.has n l ≡ true) (same a) h in
      filed_more current n (known_inside net a n before) (filings n) (net.used a n before)

-- what operations find by keys, where maybe some come behind them
pub indexed_grown : (net : Net) (t : NodeTable) (more : List Key) → t.keys.keys ≡ net.nodes.keys.keys ++ more → t.lines ≡ net.nodes.lines → AreIndexed t net.touches
indexed_grown net t more is lines = record {
  reached = omega (arith, net.indexed.reached, ap length is ∙ length-append net.nodes.keys.keys more);
  each = λ n k early at.
      subst (λ l. IsIndexed l net.touches n k) (sym lines)
      (net.indexed.each n k early (sym (gets-more net.nodes.keys.keys more n (omega (arith, early, net.indexed.reached))) ∙ (ap (λ l. slice_get l n) (sym is) ∙ at)));
}

-- ---- links of one node replaced

pub either_need : {A B : Type 0} (r : Result A B) (new old : ℕ → List ℕ) (node : ℕ) (needs : List ℕ) → OnOk r ((n : ℕ) → new n ≡ cond (eqb n node) needs (old n)) → OnErr r ((n : ℕ) → new n ≡ old n)
    → (a n : ℕ) → plain.has n (new a) ≡ true → (plain.has n (old a) ≡ true) ⊎ ((a ≡ node) × (plain.has n needs ≡ true))
either_need (Err e) new old node needs ok err a n h = inl (subst (λ l. plain.has n l ≡ true) (err a) h)
either_need (Ok x) new old node needs ok err a n h = by (eqb a node) refl (subst (λ l. plain.has n l ≡ true) (ok a) h)
  where
    by : (t : Bool) → eqb a node ≡ t → plain.has n (cond t needs (old a)) ≡ true → (plain.has n (old a) ≡ true) ⊎ ((a ≡ node) × (plain.has n needs ≡ true))
    by true e h = inr (eqb-true a node e, h)
    by false e h = inl h

pub was_need : (new old : ℕ → List ℕ) (node : ℕ) → ((n : ℕ) → new n ≡ cond (eqb n node) [] (old n)) → (a n : ℕ) → plain.has n (new a) ≡ true → plain.has n (old a) ≡ true
was_need new old node is a n h = by (eqb a node) (subst (λ l. plain.has n l ≡ true) (is a) h)
  where
    by : (t : Bool) → plain.has n (cond t [] (old a)) ≡ true → plain.has n (old a) ≡ true
    by true h = absurd (false≢true h)
    by false h = h

-- ---- ranges filed

-- what is no range needs no filing
pub cell_filed : (t : NodeTable) (files : Files) (n : ℕ) (a : Node) → found_at t n ≡ Some a → is_range (Some a) ≡ false → IsFiled t files n
cell_filed t files n a is none range = absurd (false≢true (sym none ∙ (ap is_range (sym is) ∙ range)))

-- ---- by results

pub on_err : {A B : Type 0} (r : Result A B) (P : Type 0) → P → OnErr r P
on_err (Ok _) P p = tt
on_err (Err _) P p = p

pub on_ok : {A B : Type 0} (r : Result A B) (P F : Type 0) → OnOk r P → (P → F) → OnOk r F
on_ok (Ok _) P F ok f = f ok
on_ok (Err _) P F ok f = tt

pub err_on : {A B : Type 0} (r : Result A B) (P F : Type 0) → OnErr r P → (P → F) → OnErr r F
err_on (Ok _) P F err f = tt
err_on (Err _) P F err f = f err

-- ---- numbers of nodes that some node is going to be linked to

pub use_next : (a b : Net) (numbers more : List ℕ) (number : ℕ) (needs : List Node) (i : ℕ) (d x : Node) → Grows a b → map (node_at a.nodes) numbers ≡ take i needs
    → ((n : ℕ) → plain.has n numbers ≡ true → n < count_of a.nodes) → i < length needs → get_or needs i d ≡ x → number ≡ place_of b.nodes x → number < count_of b.nodes → more ≡ numbers ++ number ∷ []
    → map (node_at b.nodes) more ≡ take (i + 1) needs
use_next a b numbers more number needs i d x grows before inside i_in at place low is =
    ap (map (node_at b.nodes)) is ∙ (map-append (node_at b.nodes) numbers (number ∷ [])
    ∙ (ap (λ l. l ++ node_at b.nodes number ∷ []) (grown_map a b numbers grows inside ∙ before)
    ∙ (ap (λ y. take i needs ++ y ∷ []) (ap (node_at b.nodes) place ∙ (at_place b.nodes x (subst (λ n. n < count_of b.nodes) place low) ∙ sym at)) ∙ sym (take_more needs i d i_in))))

pub each_number : (numbers more : List ℕ) (number : ℕ) (P : ℕ → Type 0) → more ≡ numbers ++ number ∷ [] → ((n : ℕ) → plain.has n numbers ≡ true → P n) → P number → (n : ℕ) → plain.has n more ≡ true → P n
each_number numbers more number P is before here n h = ⊎_elim
    (λ (front : plain.has n numbers ≡ true). before n front)
    (λ (last : plain.has n (number ∷ []) ≡ true). ⊎_elim (λ (same : number ≡ n). subst P same here) (λ (none : false ≡ true). absurd (false≢true none)) (lists.has_cases n number [] last))
    (lists.has-append_cases n numbers (number ∷ []) (subst (λ l. plain.has n l ≡ true) is h))

-- ---- a node that is filed anew

-- where filings were added
pub filings_on : (t : NodeTable) (old new : Files) → AreFilings t old → FilesOn old new → AreFilings t new
filings_on t old new filed on n f e =
    let was : filing_of old.current n ≡ Some f = sym (ap (λ c. filing_of c n) on.current) ∙ e in
    let (a, at, holds) = held_node t.lines t.keys.keys old n (filed n f was) in
    node_held t.lines t.keys.keys new n a at (holds_node new t.lines n f a e (kept_holds t.lines old new n (since f) a on (present_serving old n f was) (holds_by old t.lines n f a was holds)))

-- where one of them serves a node, and those of the node before no longer do
module _ (t : NodeTable) (mid new : Files) (number filing : ℕ) (index : new.index ≡ mid.index) (wholes : new.wholes ≡ mid.wholes) (owners : new.owners ≡ mid.owners) (serves : (f : ℕ) → serves_at new.serves f ≡ (serves_at mid.serves f || eqb f filing))
    (kept : (n : ℕ) → filing_of new.current n ≡ cond (eqb n number) (Some filing) (filing_of mid.current n)) (owner : owner_at mid.owners filing ≡ Some number) where
  -- the filings of the node from this one on
  own_serving : (f : ℕ) → IsServing mid number (since filing) f ↔ IsServing new number (since filing) f
  own_serving f = (
    λ h. let (owns, from, which) = h in (ap (λ v. owner_at v f) owners ∙ owns, from, elim which [ inl same ↦ inl same | inr was ↦ inr (serves f ∙ or_left (serves_at mid.serves f) (eqb f filing) was) ]),
    λ h. let (owns, from, which) = h in (
      sym (ap (λ v. owner_at v f) owners) ∙ owns,
      from,
      elim which [
        | inl same ↦ inl same
        | inr now ↦ elim (or_cases (serves_at mid.serves f) (eqb f filing) (sym (serves f) ∙ now)) [ inl was ↦ inr was | inr same ↦ inl (eqb-true f filing same) ]
      ],
    ),
  )

  -- and those of others
  others_serving : (n f g : ℕ) → (n ≡ number → ⊥) → IsServing mid n (since f) g ↔ IsServing new n (since f) g
  others_serving n f g other = (
    λ h. let (owns, from, which) = h in (ap (λ v. owner_at v g) owners ∙ owns, from, elim which [ inl same ↦ inl same | inr was ↦ inr (serves g ∙ or_left (serves_at mid.serves g) (eqb g filing) was) ]),
    λ h. let (owns, from, which) = h in
        let owned : owner_at mid.owners g ≡ Some n = sym (ap (λ v. owner_at v g) owners) ∙ owns in (
          owned,
          from,
          elim which [
            | inl same ↦ inl same
            | inr now ↦ elim (or_cases (serves_at mid.serves g) (eqb g filing) (sym (serves g) ∙ now)) [
              | inl was ↦ inr was
              | inr same ↦ absurd (other (same_Some n number (sym owned ∙ (ap (owner_at mid.owners) (eqb-true g filing same) ∙ owner))))
            ]
          ],
        ),
  )

  pub filings_kept : (range : Node) → AreFilings t mid → found_at t number ≡ Some range → HoldsNode t.lines (FindsBy mid number (since filing)) range → AreFilings t new
  filings_kept range filed found holds n f e = held (by (eqb n number) refl (sym (kept n) ∙ e))
    where
      Held : ℕ → ℕ → Type 0
      Held m g = (a : Node) × (found_at t m ≡ Some a) × HoldsNode t.lines (FindsBy new m (since g)) a

      held : Held n f → IsHeld t.lines t.keys.keys new n
      held (a, at, holds) = node_held t.lines t.keys.keys new n a at (holds_node new t.lines n f a e holds)

      own : Held number filing
      own = (
        range,
        found,
        holds_as t.lines (FindsBy mid number (since filing)) (FindsBy new number (since filing)) range (λ spot. finds_alike mid new number (since filing) (since filing) spot index wholes own_serving) holds,
      )

      by : (c : Bool) → eqb n number ≡ c → cond c (Some filing) (filing_of mid.current n) ≡ Some f → Held n f
      by true is same = subst (λ m. Held m f) (sym (eqb-true n number is)) (subst (Held number) (same_Some filing f same) own)
      by false is same =
          let (a, at, holds) = held_node t.lines t.keys.keys mid n (filed n f same) in (
            a,
            at,
            holds_as t.lines (FindsBy mid n (since f)) (FindsBy new n (since f)) a
                (λ spot. finds_alike mid new n (since f) (since f) spot index wholes (λ g. others_serving n f g (λ here. false≢true (sym is ∙ eq-eqb n number here)))) (holds_by mid t.lines n f a same holds),
          )

pub still_filed : (t : NodeTable) (mid new : Files) (number filing : ℕ) → ((n : ℕ) → filing_of new.current n ≡ cond (eqb n number) (Some filing) (filing_of mid.current n)) → (n : ℕ) → IsFiled t mid n → IsFiled t new n
still_filed t mid new number filing kept n filed range = subst IsSome (sym (kept n)) (by (eqb n number) (filed range))
  where
    by : (c : Bool) → IsSome (filing_of mid.current n) → IsSome (cond c (Some filing) (filing_of mid.current n))
    by true h = refl
    by false h = h

pub now_filed : (t : NodeTable) (mid new : Files) (number filing : ℕ) → ((n : ℕ) → filing_of new.current n ≡ cond (eqb n number) (Some filing) (filing_of mid.current n)) → IsFiled t new number
now_filed t mid new number filing kept range = subst IsSome (sym (kept number ∙ ap (λ c. cond c (Some filing) (filing_of mid.current number)) (eq-eqb number number refl))) refl
