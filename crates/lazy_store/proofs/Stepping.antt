-- What a holder's steps are made of. Serves the bodies that take a holder over one operation.
use Rattle.std.proofs.Common.{◌≡◌, ◌≢◌, ◌∙◌, sym, ap, refl, subst, arith, ℕ, ◌+◌, ◌-◌, ◌<◌, ◌≤◌, nat_le, ⊎_elim, cond, is_some, false, List, [], ◌∷◌, ◌++◌, append_assoc, append-nil, Option, Some, None, option_map, option_and_then}
use Rattle.std.proofs.lemmas.Option.{none-some}
use Rattle.std.proofs.lemmas.Bool.{cases_lt}
use Rattle.std.proofs.lemmas.Bool.Decides.{nat_tests}
use Rattle.std.specs.BTreeMap as tree
use Rattle.std.specs.BTreeMap.{BTreeMap}
use Rattle.std.specs.BTreeMap.Range.{IsRangeOf}
use Rattle.std.specs.Option.{IsSome}
use Rattle.std.specs.Ordering.{nat_cmp, is_eq, is_gt, is_lt}
use Rattle.std.specs.declared.cmp.Ordering.TheVariants.{Less}
use Rattle.std.specs.declared.ops.Bound.TheVariants.{Excluded, Included}
use Rattle.std.proofs.lemmas.Map.Keys.{ge_from_not_lt}
use Rattle.std.specs.declared.alloc.Global.{Global}
use Rattle.std.specs.declared.rc.Rc.{Rc}
use Rattle.formula_tree.specs.Relative.{relative}
use Rattle.formula_tree.specs.StandsFor.{StandsFor, at_home}
use Rattle.formula_tree.specs.Term.{Term}
use Rattle.formula_tree.specs.declared.node.Node.{Node}
use Rattle.formula_tree.specs.declared.reference.Home.{Home}
use Rattle.formula_tree.specs.declared.reference.Ref.{Ref}
use Rattle.shift_core.specs.declared.shift.Shift.{Shift}
use Rattle.shift_line.specs.Track.{Track, shift_at}
use Rattle.tree_rewrite.specs.Pooled.{HoldsChanged}
use Rattle.tree_rewrite.specs.Rewritten.{ComesBack, Loses, home_after, home_before, returned, rewritten}
use Rattle.lazy_store.specs.Holders.{IsFront, kept_of}
use Rattle.lazy_store.specs.Kept.{IsCoherent, IsSoundLine, Kept, at, history, lowest, over, standing, standing_at}
use Rattle.lazy_store.specs.Standing.{IsSavedOver, Standing, after, before, returned_at, rewritten_at}
use Rattle.lazy_store.specs.declared.holder.Holder.{Holder}
use Rattle.lazy_store.specs.internal.Steps.{GoesBack, GoesOn, Saves, Takes}
use Rattle.lazy_store.proofs.Histories.{at-below, at-is, at-next, at_tree}
use Rattle.lazy_store.proofs.Reaching.{at-has}

-- ---- what a pool held stays at its front

pub front-refl : (ts : List (Term Ref)) → IsFront ts ts
front-refl ts = ([], sym (append-nil ts))

pub front-trans : (ts us vs : List (Term Ref)) → IsFront ts us → IsFront us vs → IsFront ts vs
front-trans ts us vs a b = (a.0 ++ b.0, b.1 ∙ ap (λ xs. xs ++ b.0) a.1 ∙ append_assoc ts a.0 b.0)

pub front-changed : (old new : List (Term Ref)) (t u : Term Ref) → HoldsChanged old t u new → IsFront old new
front-changed old new t u h = ⊎_elim
    (λ (same : (u ≡ t) × (new ≡ old)). subst (IsFront old) (sym same.1) (front-refl old))
    (λ more. ⊎_elim
    (λ known. subst (IsFront old) (sym known.1) (front-refl old))
    (λ added. (u ∷ [], added.1))
    more.1)
    h

-- ---- one step

pub not-equal : (a b : ℕ) → (a ≡ b → ⊥) → is_eq (nat_cmp a b) ≡ false
not-equal a b ne = grind (arith, nat_tests)

-- nothing is to be saved where the tree comes back
pub saves-none : (s : Shift) (h : Kept) → h.saved h.position ≡ None → ComesBack s (standing h).tree → Saves s h h
saves-none s h none back = record { saved = subst (IsSavedOver s (standing h)) (sym none) back; others = λ k apart. refl }

-- and else the tree itself
pub saves-some : (s : Shift) (h m : Holder) (t : Rc Node Global) → Loses s (standing (kept_of h)).tree → tree.get nat_cmp m.saved h.position ≡ Some t → relative t.value ≡ relative h.tree.value
    → ((k : ℕ) → is_eq (nat_cmp h.position k) ≡ false → tree.get nat_cmp m.saved k ≡ tree.get nat_cmp h.saved k) → Saves s (kept_of h) (kept_of m)
saves-some s h m t lost there same apart = record {
  saved = subst (λ o. IsSavedOver s (standing (kept_of h)) (option_map (λ t. relative t.value) o)) (sym there) (lost, ap (at_home h.home) same);
  others = λ k ne. ap (option_map (λ t. relative t.value)) (apart k (not-equal h.position k (λ e. ne (sym e))));
}

-- nothing is saved any more where it was taken out
pub takes-out : (k : ℕ) (h m : Holder) → tree.get nat_cmp m.saved k ≡ None → ((j : ℕ) → is_eq (nat_cmp k j) ≡ false → tree.get nat_cmp m.saved j ≡ tree.get nat_cmp h.saved j) → Takes k (kept_of h) (kept_of m)
takes-out k h m none apart = record {
  saved = ap (option_map (λ t. relative t.value)) none;
  others = λ j ne. ap (option_map (λ t. relative t.value)) (apart j (not-equal k j (λ e. ne (sym e))));
}

-- the standing before an operation, by the saved tree or by the way back
pub before-saved : (s : Shift) (saved : Option (Term Ref)) (x : Standing) (home : Home) (t : Term Ref) → saved ≡ Some t → home_before s x.home ≡ Some home → before s saved x ≡ Some (standing_at home t)
before-saved s saved x home t is there = ap (λ o. before s o x) is ∙ ap (option_map (returned_at s (Some t) x)) there

pub before-back : (s : Shift) (saved : Option (Term Ref)) (x : Standing) (home : Home) (t : Term Ref) → saved ≡ None → home_before s x.home ≡ Some home → at_home home t ≡ returned s x.tree → before s saved x ≡ Some (standing_at home t)
before-back s saved x home t none there stands = ap (λ o. before s o x) none ∙ ap (option_map (returned_at s None x)) there ∙ ap (λ u. Some (at_tree home u)) (sym stands)

pub goes-on-from : (s : Shift) (h m : Holder) (home : Home) (tree : Rc Node Global) → m ≡ record h { saved = m.saved } → Saves s (kept_of h) (kept_of m) → home_after s h.home ≡ Some home
    → StandsFor tree home (rewritten s (at_home h.home (relative h.tree.value))) → GoesOn s (kept_of h) (kept_of (record m { tree = tree; home = home; position = m.position + 1 }))
goes-on-from s h m home tree rest saves there stands = record {
  position = ap (λ x. x.position + 1) rest;
  here = ap (option_map (rewritten_at s (standing (kept_of h)))) there ∙ ap (λ t. Some (at_tree home t)) (sym stands);
  saved = saves.saved;
  others = saves.others;
  birth = ap (λ x. x.birth) rest;
  live = ap (λ x. x.live) rest;
}

pub goes-back-from : (s : Shift) (h m : Holder) (home : Home) (tree : Rc Node Global) → m ≡ record h { saved = m.saved } → Takes (h.position - 1) (kept_of h) (kept_of m) → 0 < h.position
    → before s ((kept_of h).saved (h.position - 1)) (standing (kept_of h)) ≡ Some (standing_at home (relative tree.value)) → GoesBack s (kept_of h) (kept_of (record m { tree = tree; home = home; position = m.position - 1 }))
goes-back-from s h m home tree rest takes some is = record {
  position = omega (arith, same, some);
  here = ap (λ p. before s ((kept_of h).saved (p - 1)) (standing (kept_of h))) same ∙ is;
  saved = ap (λ p. (kept_of m).saved (p - 1)) same ∙ takes.saved;
  others = λ k apart. takes.others k (λ e. apart (e ∙ ap (λ p. p - 1) (sym same)));
  birth = ap (λ x. x.birth) rest;
  live = ap (λ x. x.live) rest;
}
  where
    same : m.position ≡ h.position
    same = ap (λ x. x.position) rest

-- ---- on the way to a position

-- a position at which a formula has a standing isn't below its lowest
pub lowest-below : (line : Track) (h : Kept) (k : ℕ) → IsCoherent line h → at line h k ≢ None → lowest line h ≤ k
lowest-below line h k coherent some = ⊎_elim
    (λ (under : k < lowest line h). let from = coherent.along.from in absurd (some (at-below line h k (omega (arith, under, from)) under)))
    (λ (above : lowest line h ≤ k). above)
    (cases_lt k (lowest line h))

-- ---- looked up

-- where no operation leads on there is no standing further on
pub none-further : (line : Track) (h : Kept) (k to : ℕ) (x : Standing) → h.position ≤ k → k < to → at line h k ≡ Some x → over line k x ≡ None → at line h to ≡ None
none-further line h k to x from past there lost = by (at line h to) refl
  where
    by : (o : Option Standing) → at line h to ≡ o → at line h to ≡ None
    by None e = e
    by (Some y) e = absurd (at-has line h (k + 1) to (omega (arith, from)) (omega (arith, past)) (λ none. none-some y (sym none ∙ e)) (at-next line h k from ∙ ap (option_and_then (over line k)) there ∙ lost))

-- nor is there one behind a position at which there is none
pub none-past : (line : Track) (h : Kept) (k to : ℕ) → h.position ≤ k → k ≤ to → at line h k ≡ None → at line h to ≡ None
none-past line h k to from past none = by (at line h to) refl
  where
    by : (o : Option Standing) → at line h to ≡ o → at line h to ≡ None
    by None e = e
    by (Some y) e = absurd (at-has line h k to from past (λ gone. none-some y (sym gone ∙ e)) none)

-- in front of its own position a formula stands from its lowest one on
pub stands-earlier : (line : Track) (h : Kept) (k : ℕ) → IsSoundLine line → IsCoherent line h → k < h.position → nat_le (lowest line h) k ≡ is_some (at line h k)
stands-earlier line h k sound coherent down = ⊎_elim
    (λ (below : k < lowest line h). grind (arith, nat_tests, below) ∙ sym (ap is_some (at-below line h k down below)))
    (λ (from : lowest line h ≤ k). grind (arith, nat_tests, from) ∙ sym (ap is_some (at-is line sound (lowest line h) h.position (history line h) h coherent.along refl k from (omega (arith, down)))))
    (cases_lt k (lowest line h))

-- there is none where the line has no operation
pub ends-there : (line : Track) (k : ℕ) (x : Standing) → shift_at line k ≡ None → over line k x ≡ None
ends-there line k x none = ap (option_and_then (λ t. after t x)) none

-- ---- saved trees

ge-range : (a b : ℕ) → a ≤ b → is_gt (nat_cmp a b) ≡ false
ge-range a b le = grind (arith, nat_tests)

from-range : (a b : ℕ) → is_gt (nat_cmp a b) ≡ false → a ≤ b
from-range a b le = grind (arith, nat_tests)

lt-range : (a b : ℕ) → a < b → nat_cmp a b ≡ Less
lt-range a b lt = grind (arith, nat_tests)

-- behind the last of a range, up to its end, nothing is saved
module _ {X : Type 0} (m : BTreeMap ℕ X) (from to last : ℕ) (v : X) (front all : List (ℕ × X)) (of : IsRangeOf nat_cmp (Included from) (Excluded to) m all) (ends : all ≡ front ++ (last, v) ∷ []) where
  pub none-behind : (k : ℕ) → last + 1 ≤ k → k < to → tree.get nat_cmp m k ≡ None
  none-behind k past under = by (tree.get nat_cmp m k) refl
    where
      start : from ≤ last
      start = from-range from last (of.3 (last, v) front ends).0.0

      none-greater : IsSome (tree.get nat_cmp m k) → is_lt (nat_cmp last k) ≡ false
      none-greater some = of.4 (last, v) front ends k (ge-range from k (omega (arith, start, past)), lt-range k to under) some

      by : (o : Option X) → tree.get nat_cmp m k ≡ o → tree.get nat_cmp m k ≡ None
      by None e = e
      by (Some x) e = let least = ge_from_not_lt last k (none-greater (subst IsSome (sym e) refl)) in absurd (omega (arith, least, past))

-- ---- saved trees dropped

-- what has an entry taken out has fewer
pub fewer : {X : Type 0} (o : Option X) (n m : ℕ) → o ≢ None → n + cond (is_some o) 1 0 ≡ m → n < m
fewer None n m some e = absurd (some refl)
fewer (Some x) n m some e = omega (arith, e)
