-- Changes that are made together under their keys. Serves what puts a draft's changes in place.
use Rattle.std.proofs.Common.{◌≡◌, ◌∙◌, sym, ap, refl, subst, Bool, true, false, cond, not, ◌||◌, ◌&&◌, List, [], ◌∷◌, ◌++◌, Option, Some, None, option_map, option_to_list, IsSome, is_some, is_none, filter_map, map, unwrap_or}
use Rattle.std.specs.BTreeMap as tree
use Rattle.std.specs.BTreeMap.{BTreeMap, is_at}
use Rattle.std.specs.List.{AllByRecursion, cons_option}
use Rattle.std.specs.List.Sorted.{IsStrictlySortedBy}
use Rattle.std.specs.Map.{keys_of}
use Rattle.shift_core.proofs.CarriedEntries.{eq_by_cmp-decides, same_test}
use Rattle.grid_store.specs.Draft.{is_one_of}
use Rattle.stable_lines.specs.declared.sheets.SheetLines.{SheetLines}
use Rattle.grid_store.specs.Keys.{key_cmp, place_at}
use Rattle.grid_store.specs.declared.key.CellKey.{CellKey}
use Rattle.grid_store.specs.internal.Drafting.{AreAllFresh, AreAllKept, AreKeptOver, KeepsAll, emptied_by, emptied_of, fresh_of, over_of, placed_if, under}
use Rattle.grid_store.specs.internal.Lists.{or_else}
use Rattle.grid_store.proofs.KeyOrder.{key_cmp-IsTotalOrder, key_cmp-IsAntisymmetric}
use Rattle.grid_store.proofs.Views.{above_none}

-- the key that a loop names where there is none
abbrev pub no_key : CellKey
no_key = record { sheet = 0; row = 0; col = 0 }

pub same_key_tests : (a b : CellKey) → is_at (key_cmp a) b ≡ is_at (key_cmp b) a
same_key_tests a b =
    same_test (is_at (key_cmp a) b) (is_at (key_cmp b) a) (eq_by_cmp-decides key_cmp-IsTotalOrder key_cmp-IsAntisymmetric a b) (eq_by_cmp-decides key_cmp-IsTotalOrder key_cmp-IsAntisymmetric b a) (
      λ same. sym same,
      λ same. sym same,
    )

same_key : (k l : CellKey) → is_at (key_cmp k) l ≡ true → k ≡ l
same_key k l h = (eq_by_cmp-decides key_cmp-IsTotalOrder key_cmp-IsAntisymmetric k l).0 h

-- the last entry of a list
last-or : {X : Type 0} (b : Bool) (x : X) (r s : Option X) → cond b (Some x) (or_else r s) ≡ or_else (cond b (Some x) r) s
last-or true x r s = refl
last-or false x r s = refl

pub under-last : {X : Type 0} (front : List (CellKey × X)) (e : CellKey × X) (k : CellKey) → under (front ++ e ∷ []) k ≡ or_else (under front k) (cond (is_at (key_cmp k) e.0) (Some e.1) None)
under-last [] e k = refl
under-last (f ∷ front) e k =
    ap (cond (is_at (key_cmp k) f.0) (Some f.1)) (under-last front e k) ∙ last-or (is_at (key_cmp k) f.0) f.1 (under front k) (cond (is_at (key_cmp k) e.0) (Some e.1) None)

pub in-turn : {X : Type 0} (r : Option X) (b : Bool) (x : X) (s : Option X) → or_else r (cond b (Some x) s) ≡ or_else (or_else r (cond b (Some x) None)) s
in-turn None true x s = refl
in-turn None false x s = refl
in-turn (Some y) b x s = refl

-- the last cell of a list, kept before the others
pub last-kept : {X : Type 0} (front : List (CellKey × X)) (key : CellKey) (x : X) (old new : BTreeMap CellKey X) → ((k : CellKey) → tree.get key_cmp new k ≡ cond (is_at (key_cmp key) k) (Some x) (tree.get key_cmp old k))
    → (k : CellKey) → or_else (under front k) (tree.get key_cmp new k) ≡ or_else (under (front ++ (key, x) ∷ []) k) (tree.get key_cmp old k)
last-kept front key x old new h k =
    ap (or_else (under front k)) (h k ∙ ap (λ b. cond b (Some x) (tree.get key_cmp old k)) (same_key_tests key k)) ∙ in-turn (under front k) (is_at (key_cmp k) key) x (tree.get key_cmp old k)
    ∙ ap (λ r. or_else r (tree.get key_cmp old k)) (sym (under-last front (key, x) k))

none-front : {X : Type 0} (r s : Option X) → or_else r s ≡ None → r ≡ None
none-front None s h = refl
none-front (Some x) s h = cc

none-last : {X : Type 0} (r : Option X) (b : Bool) (x : X) → or_else r (cond b (Some x) None) ≡ None → b ≡ false
none-last None true x h = cc
none-last None false x h = refl
none-last (Some y) b x h = cc

-- under a key that none of a list has, neither has its front one, and its last entry has another
pub front-none : {X : Type 0} (front : List (CellKey × X)) (e : CellKey × X) (k : CellKey) → under (front ++ e ∷ []) k ≡ None → under front k ≡ None
front-none front e k h = none-front (under front k) _ (sym (under-last front e k) ∙ h)

pub last-other : {X : Type 0} (front : List (CellKey × X)) (key : CellKey) (x : X) (k : CellKey) → under (front ++ (key, x) ∷ []) k ≡ None → is_at (key_cmp key) k ≡ false
last-other front key x k h = same_key_tests key k ∙ none-last (under front k) (is_at (key_cmp k) key) x (sym (under-last front (key, x) k) ∙ h)

pub still_some : {X : Type 0} (b : Bool) (x : X) (r : Option X) → IsSome r → IsSome (cond b (Some x) r)
still_some true x r h = refl
still_some false x r h = h

-- what is kept stays kept as another cell is
pub kept-still : {X : Type 0} (es : List (CellKey × X)) (old new : BTreeMap CellKey X) → ((k : CellKey) → IsSome (tree.get key_cmp old k) → IsSome (tree.get key_cmp new k)) → AreAllKept es old → AreAllKept es new
kept-still [] old new h all = tt
kept-still (e ∷ es) old new h all = (h e.0 all.0, kept-still es old new h all.1)

pub each_front : {Y : Type 0} (P : Y → Type 0) (front : List Y) (e : Y) → AllByRecursion P (front ++ e ∷ []) → AllByRecursion P front × P e
each_front P [] e h = (tt, h.0)
each_front P (f ∷ front) e h = let w = each_front P front e h.1 in ((h.0, w.0), w.1)

-- one key of a list that is taken out
pub taken-or : {X : Type 0} (a b : Bool) (r : Option X) → cond a None (cond b None r) ≡ cond (b || a) None r
taken-or true true r = refl
taken-or true false r = refl
taken-or false true r = refl
taken-or false false r = refl

-- the keys of entries are those under which they have something
pub one_of-keys : {X : Type 0} (es : List (CellKey × X)) (k : CellKey) → is_one_of (map (λ e. e.0) es) k ≡ is_some (under es k)
one_of-keys [] k = refl
one_of-keys (e ∷ es) k = ap (λ b. is_at (key_cmp k) e.0 || b) (one_of-keys es k) ∙ either (is_at (key_cmp k) e.0) e.1 (under es k)
  where
    either : {X : Type 0} (b : Bool) (x : X) (r : Option X) → (b || is_some r) ≡ is_some (cond b (Some x) r)
    either true x r = refl
    either false x r = refl

-- cells that were kept where nothing was, taken out again
pub taken_again : {X : Type 0} (es : List (CellKey × X)) (old mid new : BTreeMap CellKey X) → AreAllFresh es old → ((k : CellKey) → under es k ≡ None → tree.get key_cmp mid k ≡ tree.get key_cmp old k)
    → ((k : CellKey) → tree.get key_cmp new k ≡ cond (is_one_of (map (λ e. e.0) es) k) None (tree.get key_cmp mid k)) → KeepsAll old new
taken_again es old mid new fresh others taken k = taken k ∙ ap (λ b. cond b None (tree.get key_cmp mid k)) (one_of-keys es k) ∙ by (under es k) refl
  where
    by : (r : Option _) → under es k ≡ r → cond (is_some r) None (tree.get key_cmp mid k) ≡ tree.get key_cmp old k
    by None e = others k e
    by (Some x) e = sym (fresh k (ap is_some e))

-- the parts of changes, of which each key has one
module _ {X : Type 0} (cells : BTreeMap CellKey X) where
  add-placed : (r : Option (CellKey × X)) (rest : List (CellKey × X)) (k : CellKey) → (IsSome r → under (cons_option r []) k ≡ None) → under (cons_option r rest) k ≡ under rest k
  add-placed None rest k h = refl
  add-placed (Some e) rest k h = other (is_at (key_cmp k) e.0) e.1 (under rest k) (h refl)
    where
      other : (b : Bool) (x : X) (r : Option X) → cond b (Some x) None ≡ None → cond b (Some x) r ≡ r
      other true x r h = cc
      other false x r h = refl

  -- a change under another key adds nothing under this one
  placed-beside : (wanted : Bool) (e : CellKey × Option X) (rest : List (CellKey × X)) (k : CellKey) → is_at (key_cmp k) e.0 ≡ false → under (cons_option (placed_if wanted e) rest) k ≡ under rest k
  placed-beside false e rest k other = refl
  placed-beside true e rest k other = by e.1
    where
      by : (r : Option X) → under (cons_option (option_map (λ x. (e.0, x)) r) rest) k ≡ under rest k
      by None = refl
      by (Some x) = ap (λ b. cond b (Some x) (under rest k)) other

  emptied-beside : (e : CellKey × Option X) (rest : List CellKey) (k : CellKey) → is_at (key_cmp k) e.0 ≡ false → is_one_of (cons_option (emptied_by e) rest) k ≡ is_one_of rest k
  emptied-beside e rest k other = by (is_none e.1)
    where
      by : (b : Bool) → is_one_of (cons_option (cond b (Some e.0) None) rest) k ≡ is_one_of rest k
      by true = ap (λ b. b || is_one_of rest k) other
      by false = refl

  -- and one under this key, where the rest has none, decides
  placed-here : (wanted : Bool) (e : CellKey × Option X) (rest : List (CellKey × X)) (k : CellKey) → is_at (key_cmp k) e.0 ≡ true → under rest k ≡ None → under (cons_option (placed_if wanted e) rest) k ≡ cond wanted e.1 None
  placed-here false e rest k here none = none
  placed-here true e rest k here none = by e.1
    where
      by : (r : Option X) → under (cons_option (option_map (λ x. (e.0, x)) r) rest) k ≡ r
      by None = none
      by (Some x) = ap (λ b. cond b (Some x) (under rest k)) here

  emptied-here : (e : CellKey × Option X) (rest : List CellKey) (k : CellKey) → is_at (key_cmp k) e.0 ≡ true → is_one_of rest k ≡ false → is_one_of (cons_option (emptied_by e) rest) k ≡ is_none e.1
  emptied-here e rest k here none = by (is_none e.1)
    where
      by : (b : Bool) → is_one_of (cons_option (cond b (Some e.0) None) rest) k ≡ b
      by true = ap (λ b. b || is_one_of rest k) here
      by false = none

  placed-none : (wanted : CellKey → Bool) (es : List (CellKey × Option X)) (k : CellKey) → under es k ≡ None → under (filter_map (λ e. placed_if (wanted e.0) e) es) k ≡ None
  placed-none wanted [] k h = refl
  placed-none wanted (e ∷ es) k h =
      let w = apart (is_at (key_cmp k) e.0) (under es k) refl h in placed-beside (wanted e.0) e (filter_map (λ x. placed_if (wanted x.0) x) es) k w.0 ∙ placed-none wanted es k w.1
    where
      apart : (b : Bool) (r : Option (Option X)) → is_at (key_cmp k) e.0 ≡ b → cond b (Some e.1) r ≡ None → (is_at (key_cmp k) e.0 ≡ false) × (r ≡ None)
      apart true r same h = cc
      apart false r same h = (same, h)

  emptied-none : (es : List (CellKey × Option X)) (k : CellKey) → under es k ≡ None → is_one_of (emptied_of es) k ≡ false
  emptied-none [] k h = refl
  emptied-none (e ∷ es) k h =
      let w = apart (is_at (key_cmp k) e.0) (under es k) refl h in emptied-beside e (emptied_of es) k w.0 ∙ emptied-none es k w.1
    where
      apart : (b : Bool) (r : Option (Option X)) → is_at (key_cmp k) e.0 ≡ b → cond b (Some e.1) r ≡ None → (is_at (key_cmp k) e.0 ≡ false) × (r ≡ None)
      apart true r same h = cc
      apart false r same h = (same, h)

  -- what the parts make of what is kept under a key
  made : (change : Option X) (held : Option X) → cond (is_none change) None (or_else (cond (is_some held) change None) (or_else (cond (is_none held) change None) held)) ≡ change
  made None held = refl
  made (Some x) None = refl
  made (Some x) (Some y) = refl

  pub parts-make : (es : List (CellKey × Option X)) → IsStrictlySortedBy key_cmp (keys_of es) → (k : CellKey)
      → cond (is_one_of (emptied_of es) k) None (or_else (under (over_of cells es) k) (or_else (under (fresh_of cells es) k) (tree.get key_cmp cells k))) ≡ unwrap_or (under es k) (tree.get key_cmp cells k)
  unfolding IsStrictlySortedBy
  parts-make [] sorted k = refl
  parts-make (e ∷ es) sorted k = by (is_at (key_cmp k) e.0) refl (parts-make es sorted.1 k)
    where
      by : (b : Bool) → is_at (key_cmp k) e.0 ≡ b
          → cond (is_one_of (emptied_of es) k) None (or_else (under (over_of cells es) k) (or_else (under (fresh_of cells es) k) (tree.get key_cmp cells k))) ≡ unwrap_or (under es k) (tree.get key_cmp cells k)
          → cond (is_one_of (emptied_of (e ∷ es)) k) None (or_else (under (over_of cells (e ∷ es)) k) (or_else (under (fresh_of cells (e ∷ es)) k) (tree.get key_cmp cells k)))
          ≡ unwrap_or (cond b (Some e.1) (under es k)) (tree.get key_cmp cells k)
      by true here more =
          let same : k ≡ e.0 = same_key k e.0 here in
          let none : under es k ≡ None = ap (under es) same ∙ above_none e.0 es sorted.0 in
          let own : tree.get key_cmp cells e.0 ≡ tree.get key_cmp cells k = ap (tree.get key_cmp cells) (sym same) in
          (λ i. cond (emptied-here e (emptied_of es) k here (emptied-none es k none) i) None
          (or_else (placed-here (is_some (tree.get key_cmp cells e.0)) e (over_of cells es) k here (placed-none (λ l. is_some (tree.get key_cmp cells l)) es k none) i)
          (or_else (placed-here (is_none (tree.get key_cmp cells e.0)) e (fresh_of cells es) k here (placed-none (λ l. is_none (tree.get key_cmp cells l)) es k none) i) (tree.get key_cmp cells k))))
          ∙ (λ i. cond (is_none e.1) None (or_else (cond (is_some (own i)) e.1 None) (or_else (cond (is_none (own i)) e.1 None) (tree.get key_cmp cells k))))
          ∙ made e.1 (tree.get key_cmp cells k)
      by false other more =
          (λ i. cond (emptied-beside e (emptied_of es) k other i) None
          (or_else (placed-beside (is_some (tree.get key_cmp cells e.0)) e (over_of cells es) k other i)
          (or_else (placed-beside (is_none (tree.get key_cmp cells e.0)) e (fresh_of cells es) k other i) (tree.get key_cmp cells k))))
          ∙ more

  -- nothing is kept under the keys of the fresh part
  fresh-one : (held change : Option X) (e : CellKey × Option X) (rest : List (CellKey × X)) (k : CellKey) → IsSome (under (cons_option (cond (is_none held) (option_map (λ x. (e.0, x)) change) None) rest) k)
      → (k ≡ e.0 → held ≡ None → tree.get key_cmp cells k ≡ None) → (IsSome (under rest k) → tree.get key_cmp cells k ≡ None) → tree.get key_cmp cells k ≡ None
  fresh-one (Some y) change e rest k some own more = more some
  fresh-one None None e rest k some own more = more some
  fresh-one None (Some x) e rest k some own more = by (is_at (key_cmp k) e.0) refl some
    where
      by : (b : Bool) → is_at (key_cmp k) e.0 ≡ b → IsSome (cond b (Some x) (under rest k)) → tree.get key_cmp cells k ≡ None
      by true here s = own (same_key k e.0 here) refl
      by false other s = more s

  pub fresh-fresh : (es : List (CellKey × Option X)) → AreAllFresh (fresh_of cells es) cells
  fresh-fresh [] k some = cc
  fresh-fresh (e ∷ es) k some = fresh-one (tree.get key_cmp cells e.0) e.1 e (fresh_of cells es) k some (λ same none. ap (tree.get key_cmp cells) same ∙ none) (fresh-fresh es k)

  over-one : (held change : Option X) (e : CellKey × Option X) (rest : List (CellKey × X)) → tree.get key_cmp cells e.0 ≡ held → AreAllKept rest cells
      → AreAllKept (cons_option (cond (is_some held) (option_map (λ x. (e.0, x)) change) None) rest) cells
  over-one None change e rest is more = more
  over-one (Some y) None e rest is more = more
  over-one (Some y) (Some x) e rest is more = (ap is_some is, more)

  pub over-kept : (es : List (CellKey × Option X)) → AreAllKept (over_of cells es) cells
  over-kept [] = tt
  over-kept (e ∷ es) = over-one (tree.get key_cmp cells e.0) e.1 e (over_of cells es) refl (over-kept es)

-- what is kept is kept still with cells over it
some_else : {X : Type 0} (r s : Option X) → IsSome s → IsSome (or_else r s)
some_else None s h = h
some_else (Some x) s h = refl

pub kept-under : {X : Type 0} (es fs : List (CellKey × X)) (old new : BTreeMap CellKey X) → AreKeptOver fs old new → AreAllKept es old → AreAllKept es new
kept-under es fs old new over all = kept-still es old new (λ k some. subst IsSome (sym (over k)) (some_else (under fs k) (tree.get key_cmp old k) some)) all

-- a part that goes on by one more change
one-first : {X : Type 0} (r : Option X) (rest : List X) → option_to_list r ++ rest ≡ cons_option r rest
one-first None rest = refl
one-first (Some x) rest = refl

pub part-on : {X : Type 0} (done : List X) (r : Option X) (rest : List X) → (done ++ option_to_list r) ++ rest ≡ done ++ cons_option r rest
part-on [] r rest = one-first r rest
part-on (x ∷ done) r rest = ap (λ z. x ∷ z) (part-on done r rest)

pub not_some : {X : Type 0} (r : Option X) → not (is_some r) ≡ is_none r
not_some None = refl
not_some (Some x) = refl

-- one key that is taken out where its lines stand nowhere
gone-here : (r n : Bool) {X : Type 0} (s : Option X) → cond (r && n) None (cond n None s) ≡ cond n None s
gone-here true true s = refl
gone-here true false s = refl
gone-here false true s = refl
gone-here false false s = refl

pub one-gone : {X : Type 0} (rows cols : SheetLines) (key k : CellKey) (rest : List CellKey) (s : Option X) (b : Bool) → is_at (key_cmp key) k ≡ b
    → cond (is_one_of rest k && is_none (place_at rows cols k)) None (cond (b && is_none (place_at rows cols key)) None s) ≡ cond ((is_at (key_cmp k) key || is_one_of rest k) && is_none (place_at rows cols k)) None s
one-gone rows cols key k rest s true here =
    let same : key ≡ k = same_key key k here in
    (λ i. cond (is_one_of rest k && is_none (place_at rows cols k)) None (cond (is_none (place_at rows cols (same i))) None s)) ∙ gone-here (is_one_of rest k) (is_none (place_at rows cols k)) s
    ∙ ap (λ b. cond ((b || is_one_of rest k) && is_none (place_at rows cols k)) None s) (sym (sym (same_key_tests key k) ∙ here))
one-gone rows cols key k rest s false other = ap (λ b. cond ((b || is_one_of rest k) && is_none (place_at rows cols k)) None s) (sym (sym (same_key_tests key k) ∙ other))
