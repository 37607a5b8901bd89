-- Two orders of the same keys: what a change at one key does to both. Serves cells under their keys.
use Rattle.std.proofs.Common.{◌≡◌, ◌∙◌, sym, ap, refl, Bool, true, false, cond, not, Option, Some, None, is_some, Result, Ok, Err, OnErr, IsOk}
use Rattle.std.specs.BTreeMap as tree
use Rattle.std.specs.BTreeMap.{BTreeMap, is_at}
use Rattle.std.specs.BTreeSet.{BTreeSet, contains}
use Rattle.std.specs.Map.{lookup}
use Rattle.std.proofs.lemmas.Bool.{both_ways}
use Rattle.shift_core.proofs.CarriedEntries.{eq_by_cmp-decides, same_test}
use Rattle.grid_store.specs.Keys.{key_cmp}
use Rattle.grid_store.specs.declared.key.CellKey.{CellKey}
use Rattle.grid_store.specs.internal.Turned.{AreTurned, turned}
use Rattle.grid_store.proofs.KeyOrder.{key_cmp-IsTotalOrder, key_cmp-IsAntisymmetric}

pub same_key : (k l : CellKey) → is_at (key_cmp k) l ≡ true → k ≡ l
same_key k l h = (eq_by_cmp-decides key_cmp-IsTotalOrder key_cmp-IsAntisymmetric k l).0 h

-- turned keys are the same where the keys are
same_turned : (key k : CellKey) → is_at (key_cmp (turned key)) (turned k) ≡ is_at (key_cmp key) k
same_turned key k =
    same_test (is_at (key_cmp (turned key)) (turned k)) (is_at (key_cmp key) k) (eq_by_cmp-decides key_cmp-IsTotalOrder key_cmp-IsAntisymmetric (turned key) (turned k))
    (eq_by_cmp-decides key_cmp-IsTotalOrder key_cmp-IsAntisymmetric key k) ((λ same. ap turned same), (λ same. ap turned same))

some_or : {X : Type 0} (t : Bool) (v r : Option X) → cond t (is_some v) (is_some r) ≡ is_some (cond t v r)
some_or true v r = refl
some_or false v r = refl

at_turned : (key t : CellKey) → t ≡ turned key → (k : CellKey) → is_at (key_cmp t) (turned k) ≡ is_at (key_cmp key) k
at_turned key t e k = ap (λ x. is_at (key_cmp x) (turned k)) e ∙ same_turned key k

-- a change at a key of both orders
pub turned-changed : {X : Type 0} (cells cells' : BTreeMap CellKey X) (cols cols' : BTreeSet CellKey) (key t : CellKey) (v : Option X) → t ≡ turned key → AreTurned cells cols
    → ((q : CellKey) → contains key_cmp cols' q ≡ cond (is_at (key_cmp t) q) (is_some v) (contains key_cmp cols q))
    → ((q : CellKey) → tree.get key_cmp cells' q ≡ cond (is_at (key_cmp key) q) v (tree.get key_cmp cells q)) → AreTurned cells' cols'
turned-changed cells cells' cols cols' key t v e both of_cols of_cells k =
    of_cols (turned k) ∙ (λ i. cond (at_turned key t e k i) (is_some v) (both k i)) ∙ some_or (is_at (key_cmp key) k) v (tree.get key_cmp cells k) ∙ sym (ap is_some (of_cells k))

taken_out : (t c : Bool) → (t ≡ true → c ≡ false) → cond t false (cond t true c) ≡ c
taken_out true c h = sym (h refl)
taken_out false c h = refl

not_true : (b c : Bool) → b ≡ not c → b ≡ true → c ≡ false
not_true b true e f = absurd (both_ways b e f)
not_true b false e f = refl

-- a fresh key that is put in and taken out again
pub turned-again : {X : Type 0} (cells cells' : BTreeMap CellKey X) (cols mid cols' : BTreeSet CellKey) (t : CellKey) (fresh : Bool) → AreTurned cells cols → fresh ≡ not (contains key_cmp cols t) → fresh ≡ true
    → ((q : CellKey) → contains key_cmp mid q ≡ cond (is_at (key_cmp t) q) true (contains key_cmp cols q))
    → ((q : CellKey) → contains key_cmp cols' q ≡ cond (is_at (key_cmp t) q) false (contains key_cmp mid q)) → cells'.entries ≡ cells.entries → AreTurned cells' cols'
turned-again cells cells' cols mid cols' t fresh both is new of_mid of_cols same k =
    of_cols (turned k) ∙ ap (cond (is_at (key_cmp t) (turned k)) false) (of_mid (turned k))
    ∙ taken_out (is_at (key_cmp t) (turned k)) (contains key_cmp cols (turned k)) (λ here. ap (contains key_cmp cols) (sym (same_key t (turned k) here)) ∙ not_true fresh (contains key_cmp cols t) is new)
    ∙ both k ∙ ap (λ es. is_some (lookup (is_at (key_cmp k)) es)) (sym same)

none_from : {X : Type 0} (r : Option X) → is_some r ≡ false → r ≡ None
none_from None h = refl
none_from (Some x) h = cc

-- what isn't in one order isn't in the other
pub turned-absent : {X : Type 0} (cells : BTreeMap CellKey X) (cols : BTreeSet CellKey) (key t : CellKey) → t ≡ turned key → AreTurned cells cols → contains key_cmp cols t ≡ false → tree.get key_cmp cells key ≡ None
turned-absent cells cols key t e both fresh = none_from (tree.get key_cmp cells key) (sym (both key) ∙ ap (contains key_cmp cols) (sym e) ∙ fresh)

pub on_err : {A B P : Type 0} (r : Result A B) → P → OnErr r P
on_err (Ok x) p = tt
on_err (Err y) p = p

-- no error where it says what isn't so
pub ok_unless : {A B P : Type 0} (r : Result A B) → OnErr r P → (P → ⊥) → IsOk r
ok_unless (Ok x) h never = refl
ok_unless (Err y) h never = absurd (never h)
