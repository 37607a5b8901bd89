-- Holders under their keys: what stays of them over a change at one key, and those of one scope, which stand side by side.
-- Serves the named expressions of a table of names.
use Rattle.std.proofs.Common.{◌≡◌, ◌∙◌, sym, ap, subst, refl, arith, ℕ, ◌<◌, ◌≤◌, ◌&&◌, Bool, true, false, not, cond, List, [], ◌∷◌, ◌++◌, filter, map, Option, Some, None, IsSome, Result, Ok, Err, OnOk, OnErr, append_assoc}
use Rattle.std.specs.Prelude.{nat_eq}
use Rattle.std.specs.BTreeMap.{insert_entry, is_at}
use Rattle.std.specs.BTreeMap.Range.{entries_between}
use Rattle.std.specs.declared.cmp.Ordering.{Ordering}
use Rattle.std.specs.declared.cmp.Ordering.TheVariants.{Less, Equal, Greater}
use Rattle.std.specs.declared.ops.Bound.TheVariants.{Included, Unbounded}
use Rattle.std.specs.Cmp.{nat_cmp_is, ranks}
use Rattle.std.specs.List.{AllByRecursion}
use Rattle.std.specs.List.Sorted.{IsStrictlySortedBy}
use Rattle.std.specs.Map.{keys_of}
use Rattle.std.specs.Option.{option_cmp, option_eq}
use Rattle.std.specs.Ordering.{MatchOrdering, is_eq, is_le, match_ordering, nat_cmp, ordering_reverse, ordering_then}
use Rattle.std.proofs.lemmas.Bool.{both_ways, eq-eqb, false_from_ne_true, eqb-true, ne_eqb}
use Rattle.std.proofs.lemmas.List.{append-nil}
use Rattle.name_table.specs.Scopes.{key_cmp, key_of}
use Rattle.name_table.specs.declared.key.NameKey.{NameKey}
use Rattle.name_table.specs.internal.Fresh.{under}
use Rattle.name_table.proofs.KeyOrder.{key_cmp-IsTotalOrder, key_cmp-IsAntisymmetric}

-- the word of each key is one of so many
abbrev pub AreKnown : ℕ → List (NameKey × ℕ) → Type 0
AreKnown n es = (k : NameKey) → IsSome (under es k) → k.word < n

pub is-equal : (r : Ordering) → is_eq r ≡ true → r ≡ Equal
is-equal Less e = cc
is-equal Equal e = refl
is-equal Greater e = cc

known-or : (n : ℕ) (key k : NameKey) (b : Bool) (change old : Option ℕ) → is_at (key_cmp key) k ≡ b → (IsSome change → key.word < n) → (IsSome old → k.word < n) → IsSome (cond b change old) → k.word < n
known-or n key k true change old e here there some = subst (λ (z : NameKey). z.word < n) (key_cmp-IsAntisymmetric key k (is-equal (key_cmp key k) e)) (here some)
known-or n key k false change old e here there some = there some

-- the words are known after a change at a key whose word is
pub known-after : (n : ℕ) (es fs : List (NameKey × ℕ)) (key : NameKey) (change : Option ℕ) → ((k : NameKey) → under fs k ≡ cond (is_at (key_cmp key) k) change (under es k))
    → (IsSome change → key.word < n) → AreKnown n es → AreKnown n fs
known-after n es fs key change h here known k some = known-or n key k (is_at (key_cmp key) k) change (under es k) refl here (known k) (subst IsSome (h k) some)

-- and where the change may want memory
pub known-inserted : {A B : Type 0} (r : Result A B) (n : ℕ) (es fs : List (NameKey × ℕ)) (key : NameKey) (holder : ℕ)
    → OnOk r ((k : NameKey) → under fs k ≡ cond (is_at (key_cmp key) k) (Some holder) (under es k)) → OnErr r (fs ≡ es) → key.word < n → AreKnown n es → AreKnown n fs
known-inserted (Ok x) n es fs key holder ok err below known = known-after n es fs key (Some holder) ok (λ some. below) known
known-inserted (Err y) n es fs key holder ok err below known = λ k some. known k (subst (λ z. IsSome (under z k)) err some)

rises : (k : NameKey) (es : List (NameKey × ℕ)) (e : NameKey × ℕ) (rest : List (NameKey × ℕ)) → AllByRecursion (λ x. key_cmp k x ≡ Less) (keys_of (es ++ (e ∷ rest))) → key_cmp k e.0 ≡ Less
rises k [] e rest h = h.0
rises k (f ∷ es) e rest h = rises k es e rest h.1

-- a key that follows all others goes to the end
insert-last : (es : List (NameKey × ℕ)) (e : NameKey × ℕ) (rest : List (NameKey × ℕ)) → IsStrictlySortedBy key_cmp (keys_of (es ++ (e ∷ rest))) → insert_entry key_cmp es e.0 e.1 ≡ es ++ e ∷ []
unfolding IsStrictlySortedBy
insert-last [] e rest h = refl
insert-last (f ∷ es) e rest h =
    ap (λ o. match_ordering o ((e.0, e.1) ∷ f ∷ es) ((f.0, e.1) ∷ es) (f ∷ insert_entry key_cmp es e.0 e.1)) (key_cmp-IsTotalOrder.antisymm e.0 f.0 ∙ ap ordering_reverse (rises f.0 es e rest h.0))
    ∙ ap (λ z. f ∷ z) (insert-last es e rest h.1)

-- the next of all entries goes behind those gone by
pub kept-last : (all es fs : List (NameKey × ℕ)) (e : NameKey × ℕ) (rest : List (NameKey × ℕ)) → IsStrictlySortedBy key_cmp (keys_of all) → es ++ (e ∷ rest) ≡ all → fs ≡ insert_entry key_cmp es e.0 e.1 → fs ++ rest ≡ all
kept-last all es fs e rest sorted parts new =
    ap (λ z. z ++ rest) (new ∙ insert-last es e rest (subst (λ z. IsStrictlySortedBy key_cmp (keys_of z)) (sym parts) sorted)) ∙ append_assoc es (e ∷ []) rest ∙ parts

-- the key is one of the scope
abbrev pub is_of : Option ℕ → NameKey × ℕ → Bool
is_of scope e = option_eq nat_eq e.0.scope scope

-- entries that rise from the first key that the scope can have
abbrev pub RiseFrom : Option ℕ → List (NameKey × ℕ) → Type 0
RiseFrom scope es = IsStrictlySortedBy key_cmp (keys_of es) × AllByRecursion (λ e. is_le (key_cmp (key_of scope 0) e.0) ≡ true) es

pub rest-rises : (scope : Option ℕ) (e : NameKey × ℕ) (es : List (NameKey × ℕ)) → RiseFrom scope (e ∷ es) → RiseFrom scope es
unfolding IsStrictlySortedBy
rest-rises scope e es h = (h.0.1, h.1.1)

le-from : (s y : ℕ) (r w : Ordering) → nat_cmp s y ≡ r → is_le (ordering_then r w) ≡ true → s ≤ y
le-from s y Less w e h = let k = subst (λ o. MatchOrdering o (s < y) (s ≡ y) (y < s)) e (ranks s y) in omega (arith, k)
le-from s y Equal w e h = let k = subst (λ o. MatchOrdering o (s < y) (s ≡ y) (y < s)) e (ranks s y) in omega (arith, k)
le-from s y Greater w e h = cc

lt-from : (y z : ℕ) (r w : Ordering) → nat_cmp y z ≡ r → ordering_then r w ≡ Less → y ≤ z
lt-from y z Less w e h = let k = subst (λ o. MatchOrdering o (y < z) (y ≡ z) (z < y)) e (ranks y z) in omega (arith, k)
lt-from y z Equal w e h = let k = subst (λ o. MatchOrdering o (y < z) (y ≡ z) (z < y)) e (ranks y z) in omega (arith, k)
lt-from y z Greater w e h = cc

-- behind a key past the scope stand keys past it
past : (s k e : Option ℕ) (v w u : Ordering) → is_le (ordering_then (option_cmp nat_cmp s k) v) ≡ true → option_eq nat_eq k s ≡ false → ordering_then (option_cmp nat_cmp k e) w ≡ Less → option_eq nat_eq e s ≡ false
past None None e v w u from other less = absurd (both_ways _ other refl)
past None (Some y) None v w u from other less = cc
past None (Some y) (Some z) v w u from other less = refl
past (Some s) None e v w u from other less = absurd (both_ways _ refl from)
past (Some s) (Some y) None v w u from other less = refl
past (Some s) (Some y) (Some z) v w u from other less =
    let a = le-from s y (nat_cmp s y) v refl from in
    let b = lt-from y z (nat_cmp y z) w refl less in
    ne_eqb z s (λ same. both_ways _ other (eq-eqb y s (omega (arith, a, b, same))))

none-left : (scope : Option ℕ) (k : NameKey) (es : List (NameKey × ℕ)) → is_le (key_cmp (key_of scope 0) k) ≡ true → option_eq nat_eq k.scope scope ≡ false → AllByRecursion (λ x. key_cmp k x ≡ Less) (keys_of es) → filter (is_of scope) es ≡ []
none-left scope k [] from other less = refl
none-left scope k (e ∷ es) from other less =
    ap (λ b. cond b (e ∷ filter (is_of scope) es) (filter (is_of scope) es)) (past scope k.scope e.0.scope (nat_cmp 0 k.word) (nat_cmp k.word e.0.word) Equal from other less.0)
    ∙ none-left scope k es from other less.1

-- from a key past the scope on there is none of it
pub past-scope : (scope : Option ℕ) (e : NameKey × ℕ) (es : List (NameKey × ℕ)) → RiseFrom scope (e ∷ es) → is_of scope e ≡ false → filter (is_of scope) (e ∷ es) ≡ []
unfolding IsStrictlySortedBy
past-scope scope e es h other =
    ap (λ b. cond b (e ∷ filter (is_of scope) es) (filter (is_of scope) es)) other ∙ none-left scope e.0 es h.1.0 other h.0.0

same-scope : (a b : Option ℕ) → option_eq nat_eq a b ≡ true → a ≡ b
same-scope None None e = refl
same-scope None (Some y) e = cc
same-scope (Some x) None e = cc
same-scope (Some x) (Some y) e = ap Some (eqb-true x y e)

own-order : (a : Option ℕ) → option_cmp nat_cmp a a ≡ Equal
own-order None = refl
own-order (Some x) = sym (nat_cmp_is x x Equal refl)

zero-least : (w : ℕ) (r : Ordering) → MatchOrdering r (0 < w) (0 ≡ w) (w < 0) → is_le r ≡ true
zero-least w Less h = refl
zero-least w Equal h = refl
zero-least w Greater h = absurd (omega (arith, h))

-- the keys of a scope follow the first that it can have
follows : (scope : Option ℕ) (k : NameKey) → option_eq nat_eq k.scope scope ≡ true → is_le (key_cmp (key_of scope 0) k) ≡ true
follows scope k h =
    ap (λ r. is_le (ordering_then r (nat_cmp 0 k.word))) (ap (option_cmp nat_cmp scope) (same-scope k.scope scope h) ∙ own-order scope)
    ∙ zero-least k.word (nat_cmp 0 k.word) (ranks 0 k.word)

twice-or : (p : NameKey × ℕ → Bool) (b : Bool) (e : NameKey × ℕ) (r t : List (NameKey × ℕ)) → (p e ≡ true → b ≡ true) → filter p r ≡ t → filter p (cond b (e ∷ r) r) ≡ cond (p e) (e ∷ t) t
twice-or p true e r t h more = ap (λ z. cond (p e) (e ∷ z) z) more
twice-or p false e r t h more = more ∙ sym (ap (λ b. cond b (e ∷ t) t) (false_from_ne_true (p e) (λ yes. both_ways _ refl (h yes))))

twice : (p q : NameKey × ℕ → Bool) → ((e : NameKey × ℕ) → p e ≡ true → q e ≡ true) → (es : List (NameKey × ℕ)) → filter p (filter q es) ≡ filter p es
twice p q h [] = refl
twice p q h (e ∷ es) = twice-or p (q e) e (filter q es) (filter p es) (h e) (twice p q h es)

both-true : (a : Bool) → a ≡ true → (a && true) ≡ true
both-true a e = ap (λ b. b && true) e

-- all entries of a scope are among those from its first key on
pub from-first : (scope : Option ℕ) (es : List (NameKey × ℕ)) → filter (is_of scope) (entries_between key_cmp (Included (key_of scope 0)) Unbounded es) ≡ filter (is_of scope) es
from-first scope es = twice (is_of scope) _ (λ e own. both-true _ (follows scope e.0 own)) es

rises-or : (b : Bool) (P : NameKey → Type 0) (e : NameKey × ℕ) (es : List (NameKey × ℕ)) → P e.0 → AllByRecursion P (keys_of es) → AllByRecursion P (keys_of (cond b (e ∷ es) es))
rises-or true P e es here more = (here, more)
rises-or false P e es here more = more

rises-filter : (q : NameKey × ℕ → Bool) (P : NameKey → Type 0) (es : List (NameKey × ℕ)) → AllByRecursion P (keys_of es) → AllByRecursion P (keys_of (filter q es))
rises-filter q P [] h = tt
rises-filter q P (e ∷ es) h = rises-or (q e) P e (filter q es) h.0 (rises-filter q P es h.1)

sorted-or : (b : Bool) (e : NameKey × ℕ) (es : List (NameKey × ℕ)) → AllByRecursion (λ x. key_cmp e.0 x ≡ Less) (keys_of es) → IsStrictlySortedBy key_cmp (keys_of es) → IsStrictlySortedBy key_cmp (keys_of (cond b (e ∷ es) es))
unfolding IsStrictlySortedBy
sorted-or true e es here more = (here, more)
sorted-or false e es here more = more

sorted-filter : (q : NameKey × ℕ → Bool) (es : List (NameKey × ℕ)) → IsStrictlySortedBy key_cmp (keys_of es) → IsStrictlySortedBy key_cmp (keys_of (filter q es))
unfolding IsStrictlySortedBy
sorted-filter q [] h = tt
sorted-filter q (e ∷ es) h = sorted-or (q e) e (filter q es) (rises-filter q (λ x. key_cmp e.0 x ≡ Less) es h.0) (sorted-filter q es h.1)

from-or : (scope : Option ℕ) (e : NameKey × ℕ) (es : List (NameKey × ℕ)) (b : Bool) → is_le (key_cmp (key_of scope 0) e.0) ≡ b → AllByRecursion (λ e. is_le (key_cmp (key_of scope 0) e.0) ≡ true) es
    → AllByRecursion (λ e. is_le (key_cmp (key_of scope 0) e.0) ≡ true) (cond (b && true) (e ∷ es) es)
from-or scope e es true here h = (here, h)
from-or scope e es false other h = h

all-from : (scope : Option ℕ) (es : List (NameKey × ℕ)) → AllByRecursion (λ e. is_le (key_cmp (key_of scope 0) e.0) ≡ true) (entries_between key_cmp (Included (key_of scope 0)) Unbounded es)
all-from scope [] = tt
all-from scope (e ∷ es) = from-or scope e _ (is_le (key_cmp (key_of scope 0) e.0)) refl (all-from scope es)

-- the entries from the first key of a scope on rise from it
pub rise-from : (scope : Option ℕ) (es : List (NameKey × ℕ)) → IsStrictlySortedBy key_cmp (keys_of es) → RiseFrom scope (entries_between key_cmp (Included (key_of scope 0)) Unbounded es)
rise-from scope es sorted = (sorted-filter _ es sorted, all-from scope es)

-- word and holder of the entries of a scope
abbrev pub pairs_of : Option ℕ → List (NameKey × ℕ) → List (ℕ × ℕ)
pairs_of scope es = map (λ e. (e.0.word, e.1)) (filter (is_of scope) es)

-- the next entry of the scope goes behind those gone by
pub take-up : (scope : Option ℕ) (done more : List (ℕ × ℕ)) (e : NameKey × ℕ) (es : List (NameKey × ℕ)) (all : List (ℕ × ℕ)) → is_of scope e ≡ true → more ≡ done ++ (e.0.word, e.1) ∷ []
    → done ++ pairs_of scope (e ∷ es) ≡ all → more ++ pairs_of scope es ≡ all
take-up scope done more e es all own new parts =
    ap (λ z. z ++ pairs_of scope es) new ∙ append_assoc done ((e.0.word, e.1) ∷ []) (pairs_of scope es)
    ∙ ap (λ b. done ++ map (λ e. (e.0.word, e.1)) (cond b (e ∷ filter (is_of scope) es) (filter (is_of scope) es))) (sym own) ∙ parts

-- and where the next is of another scope, all have gone by
pub all-done : (scope : Option ℕ) (done : List (ℕ × ℕ)) (e : NameKey × ℕ) (es : List (NameKey × ℕ)) (all : List (ℕ × ℕ)) → is_of scope e ≡ false → RiseFrom scope (e ∷ es)
    → done ++ pairs_of scope (e ∷ es) ≡ all → done ≡ all
all-done scope done e es all other rising parts =
    sym (append-nil done) ∙ ap (λ z. done ++ map (λ e. (e.0.word, e.1)) z) (sym (past-scope scope e es rising other)) ∙ parts

-- a test that `!=` told
pub told-same : (b r : Bool) → r ≡ not b → r ≡ false → b ≡ true
told-same true r e f = refl
told-same false r e f = absurd (both_ways r f e)

pub told-other : (b r : Bool) → r ≡ not b → r ≡ true → b ≡ false
told-other true r e f = absurd (both_ways r e f)
told-other false r e f = refl
