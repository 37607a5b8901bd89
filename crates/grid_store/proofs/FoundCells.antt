-- Lists of found cells: what they have at a place, and in which order they are. Serves the lists of cells.
use Rattle.std.proofs.Common.{◌≡◌, ◌∙◌, sym, ap, refl, Bool, true, false, cond, ◌&&◌, List, [], ◌∷◌, ◌++◌, Option, Some, None, option_copied}
use Rattle.std.specs.Borrow.{Bor}
use Rattle.std.specs.BTreeMap.{BTreeMap, is_at}
use Rattle.std.specs.List.{AllByRecursion}
use Rattle.std.specs.List.Sorted.{IsStrictlySortedBy}
use Rattle.std.specs.Map.{keys_of, lookup}
use Rattle.std.specs.Ordering.{is_lt}
use Rattle.std.specs.declared.cmp.Ordering.{Ordering}
use Rattle.std.specs.declared.cmp.Ordering.TheVariants.{Less, Equal, Greater}
use Rattle.cell_addr.specs.Order.{place_cmp}
use Rattle.cell_addr.specs.declared.place.Place.{Place}
use Rattle.cell_addr.proofs.Places.{place_cmp-IsTotalOrder}
use Rattle.grid_store.specs.internal.Drafting.{IsLaidOver}
use Rattle.grid_store.specs.internal.Listing.{Found, IsAdded, IsInOrder, follows, look_in, rises}
use Rattle.grid_store.specs.internal.Lists.{or_else}
use Rattle.grid_store.proofs.Exchanges.{turned-test}
use Rattle.grid_store.proofs.KeyChanges.{in-turn}

copied-or : {X : Type 0} (r s : Option (Bor X)) → option_copied (or_else r s) ≡ or_else (option_copied r) (option_copied s)
copied-or None s = refl
copied-or (Some x) s = refl

one-or : {X : Type 0} (b : Bool) (x : Bor X) → option_copied (cond b (Some x) None) ≡ cond b (Some x.now) None
one-or true x = refl
one-or false x = refl

first-or : {Y : Type 0} (b : Bool) (y : Y) (r s : Option Y) → cond b (Some y) (or_else r s) ≡ or_else (cond b (Some y) r) s
first-or true y r s = refl
first-or false y r s = refl

-- the last cell of a list
lookup-last : {X : Type 0} (front : List (Place × Bor X)) (e : Place × Bor X) (q : Place) → lookup (is_at (place_cmp q)) (front ++ e ∷ []) ≡ or_else (lookup (is_at (place_cmp q)) front) (cond (is_at (place_cmp q) e.0) (Some e.1) None)
lookup-last [] e q = refl
lookup-last (f ∷ front) e q =
    ap (cond (is_at (place_cmp q) f.0) (Some f.1)) (lookup-last front e q) ∙ first-or (is_at (place_cmp q) f.0) f.1 (lookup (is_at (place_cmp q)) front) (cond (is_at (place_cmp q) e.0) (Some e.1) None)

look-last : {X : Type 0} (front : List (Place × Bor X)) (e : Place × Bor X) (q : Place) → look_in (front ++ e ∷ []) q ≡ or_else (look_in front q) (cond (is_at (place_cmp e.0) q) (Some e.1.now) None)
look-last front e q =
    ap option_copied (lookup-last front e q) ∙ copied-or (lookup (is_at (place_cmp q)) front) (cond (is_at (place_cmp q) e.0) (Some e.1) None)
    ∙ ap (or_else (look_in front q)) (one-or (is_at (place_cmp q) e.0) e.1 ∙ ap (λ b. cond b (Some e.1.now) None) (turned-test q e.0))

-- a cell at the end is added
pub put_last : {X : Type 0} (found new : Found X) (at : Place) (cell : Bor X) → new.items ≡ found.items ++ (at, cell) ∷ [] → IsAdded found at cell.now new
put_last found new at cell is = λ q. ap (λ es. look_in es q) is ∙ look-last found.items (at, cell) q

-- the last cell of a list, laid over the others that come to a map before it
pub last_laid : {X : Type 0} (front : List (Place × Bor X)) (at : Place) (cell : Bor X) (old new : BTreeMap Place (Bor X)) → IsLaidOver at (Some cell.now) old new
    → (q : Place) → or_else (look_in front q) (look_in new.entries q) ≡ or_else (look_in (front ++ (at, cell) ∷ []) q) (look_in old.entries q)
last_laid front at cell old new laid q =
    ap (or_else (look_in front q)) (laid q) ∙ in-turn (look_in front q) (is_at (place_cmp at) q) cell.now (look_in old.entries q)
    ∙ ap (λ r. or_else r (look_in old.entries q)) (sym (look-last front (at, cell) q))

both-true : (a b : Bool) → (a && b) ≡ true → (a ≡ true) × (b ≡ true)
both-true true b h = (refl, h)
both-true false b h = cc

less : (o : Ordering) → is_lt o ≡ true → o ≡ Less
less Less h = refl
less Equal h = cc
less Greater h = cc

later : (p q : Place) (ks : List Place) → place_cmp p q ≡ Less → AllByRecursion (λ k. place_cmp q k ≡ Less) ks → AllByRecursion (λ k. place_cmp p k ≡ Less) ks
later p q [] lt h = tt
later p q (k ∷ ks) lt h = (place_cmp-IsTotalOrder.trans p q k lt h.0, later p q ks lt h.1)

all_later : {X : Type 0} (p : Place) (es : List (Place × X)) → rises (Some p) es ≡ true → AllByRecursion (λ k. place_cmp p k ≡ Less) (keys_of es)
all_later p [] h = tt
all_later p (e ∷ es) h =
    let w = both-true (follows (Some p) e.0) (rises (Some e.0) es) h in
    let lt = less (place_cmp p e.0) w.0 in (lt, later p e.0 (keys_of es) lt (all_later e.0 es w.1))

-- places each of which comes after the one before it are in order
pub risen : {X : Type 0} (last : Option Place) (es : List (Place × X)) → rises last es ≡ true → IsInOrder es
unfolding IsStrictlySortedBy
risen last [] h = tt
risen last (e ∷ es) h =
    let w = both-true (follows last e.0) (rises (Some e.0) es) h in (all_later e.0 es w.1, risen (Some e.0) es w.1)
