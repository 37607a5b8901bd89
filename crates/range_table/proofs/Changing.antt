-- Changes made one after another. Serves what operations make of numbers.
use Rattle.std.proofs.Common.{◌≡◌, ◌∙◌, sym, ap, arith, refl, subst, ℕ, ◌+◌, ◌<◌, Bool, true, false, cond, ◌||◌, List, [], ◌∷◌, take, get_or, length, eqb, unwrap_or, Some, None}
use Rattle.std.specs.BTreeMap as tree
use Rattle.std.specs.BTreeMap.{is_at}
use Rattle.std.specs.List.{All, AllByRecursion, list_any}
use Rattle.std.specs.Map.{lookup}
use Rattle.std.specs.Ordering.{nat_cmp}
use Rattle.std.proofs.lemmas.Bool.{eqb-true, false≢true}
use Rattle.std.proofs.lemmas.Bool.Decides.{nat_tests}
use Rattle.std.proofs.lemmas.List.Elements.{recursion_from_All}
use Rattle.std.proofs.lemmas.List.Folds.{list_any_more}
use Rattle.needs_order.specs.Needs.{has}
use Rattle.range_table.specs.declared.state.State.{State}
use Rattle.range_table.specs.declared.state.State.TheVariants.{Left}
use Rattle.range_table.specs.declared.table.Table.{Table}
use Rattle.range_table.specs.internal.Tables.{known}

-- ---- numbers that leave

-- the states where the numbers of a list left
pub record AreLeft (left : List ℕ) (old new : Table) : Type 0 where
  pub lines : new.lines ≡ old.lines
  pub keys : new.keys.keys ≡ old.keys.keys
  pub count : length new.states.items ≡ length old.states.items
  pub states : (n : ℕ) → known new n ≡ cond (has n left) Left (known old n)

pub none_left : (t : Table) → AreLeft [] t t
none_left t = record { lines = refl; keys = refl; count = refl; states = λ n. refl }

twice_left : (a b : Bool) (st : State) → cond (b || false) Left (cond a Left st) ≡ cond (a || b) Left st
twice_left true true st = refl
twice_left true false st = refl
twice_left false true st = refl
twice_left false false st = refl

pub left_next : (left : List ℕ) (i : ℕ) (old mid new : Table) → i < length left → AreLeft (take i left) old mid → AreLeft (get_or left i 0 ∷ []) mid new → AreLeft (take (i + 1) left) old new
left_next left i old mid new inside f g = record {
  lines = g.lines ∙ f.lines;
  keys = g.keys ∙ f.keys;
  count = g.count ∙ f.count;
  states = λ n.
      g.states n ∙ ap (λ st. cond (has n (get_or left i 0 ∷ [])) Left st) (f.states n)
      ∙ twice_left (has n (take i left)) (eqb (get_or left i 0) n) (known old n)
      ∙ ap (λ t. cond t Left (known old n)) (sym (list_any_more (λ k. eqb k n) left i 0 inside));
}

-- ---- states that are set

abbrev Few : Type 0
Few = tree.BTreeMap ℕ State

abbrev Entry : Type 0
Entry = ℕ × State

-- the number is one of those to come
abbrev is_to_come : List Entry → ℕ → Bool
is_to_come rest n = list_any (λ e. is_at (nat_cmp n) e.0) rest

-- some are to come, and the others are set
pub record ArePut (arrived : Few) (old new : Table) (rest : List Entry) : Type 0 where
  pub lines : new.lines ≡ old.lines
  pub keys : new.keys.keys ≡ old.keys.keys
  pub count : length new.states.items ≡ length old.states.items
  pub entries : AllByRecursion (λ e. tree.get nat_cmp arrived e.0 ≡ Some e.1) rest
  pub put : (n : ℕ) → is_to_come rest n ≡ false → known new n ≡ unwrap_or (tree.get nat_cmp arrived n) (known old n)

none_to_come : (a : ℕ) (es : List Entry) → is_to_come es a ≡ false → lookup (is_at (nat_cmp a)) es ≡ None
none_to_come a [] h = refl
none_to_come a (e ∷ es) h = by (is_at (nat_cmp a) e.0) (λ later. none_to_come a es later) h
  where
    by : (t : Bool) → (is_to_come es a ≡ false → lookup (is_at (nat_cmp a)) es ≡ None) → (t || is_to_come es a) ≡ false → cond t (Some e.1) (lookup (is_at (nat_cmp a)) es) ≡ None
    by true rest h = absurd (false≢true (sym h))
    by false rest h = rest h

pub put_first : (arrived : Few) (old : Table) (rest : List Entry) → rest ≡ arrived.entries → All (λ e. tree.get nat_cmp arrived e.0 ≡ Some e.1) arrived.entries → ArePut arrived old old rest
put_first arrived old rest same all = record {
  lines = refl;
  keys = refl;
  count = refl;
  entries = subst (AllByRecursion (λ e. tree.get nat_cmp arrived e.0 ≡ Some e.1)) (sym same) (recursion_from_All (λ e. tree.get nat_cmp arrived e.0 ≡ Some e.1) arrived.entries all);
  put = λ n h. sym (ap (λ o. unwrap_or o (known old n)) (none_to_come n arrived.entries (subst (λ es. is_to_come es n ≡ false) same h)));
}

pub put_inside : (arrived : Few) (old new : Table) (e : Entry) (rest : List Entry) → ArePut arrived old new (e ∷ rest)
    → ((n : ℕ) (st : State) → tree.get nat_cmp arrived n ≡ Some st → n < length old.states.items) → e.0 < length new.states.items
put_inside arrived old new e rest are inside = subst (λ k. e.0 < k) (sym are.count) (inside e.0 e.1 are.entries.0)

other_to_come : (n m : ℕ) → eqb n m ≡ false → is_at (nat_cmp n) m ≡ false
other_to_come n m h = grind (arith, nat_tests)

pub put_next : (arrived : Few) (old mid new : Table) (e : Entry) (rest : List Entry) → ArePut arrived old mid (e ∷ rest) → new.lines ≡ mid.lines → new.keys.keys ≡ mid.keys.keys
    → length new.states.items ≡ length mid.states.items → ((n : ℕ) → known new n ≡ cond (eqb n e.0) e.1 (known mid n)) → ArePut arrived old new rest
put_next arrived old mid new e rest are lines keys count kept = record {
  lines = lines ∙ are.lines;
  keys = keys ∙ are.keys;
  count = count ∙ are.count;
  entries = are.entries.1;
  put = λ n h. kept n ∙ by n (eqb n e.0) refl h;
}
  where
    by : (n : ℕ) (t : Bool) → eqb n e.0 ≡ t → is_to_come rest n ≡ false → cond t e.1 (known mid n) ≡ unwrap_or (tree.get nat_cmp arrived n) (known old n)
    by n true here h = sym (ap (λ o. unwrap_or o (known old n)) (ap (tree.get nat_cmp arrived) (eqb-true n e.0 here) ∙ are.entries.0))
    by n false other h = are.put n (ap (λ t. t || is_to_come rest n) (other_to_come n e.0 other) ∙ h)
