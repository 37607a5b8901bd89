-- Standings of formulas once some came under new ids. Serves the calls that set, paste and name formulas.
use Rattle.std.proofs.Common.{◌≡◌, ◌≢◌, ◌⊎◌, ◌∙◌, sym, ap, refl, arith, inl, inr, ℕ, ◌+◌, ◌-◌, ◌<◌, ◌≤◌, nat_le, Bool, true, false, cond, List, ◌∷◌, length, Option, Some, None, option_map, is_some}
use Rattle.std.proofs.lemmas.List.Elements.{All-tail}
use Rattle.std.specs.List.{All}
use Rattle.std.proofs.lemmas.Bool.{cases_lt}
use Rattle.std.proofs.lemmas.Option.{none-some}
use Rattle.std.specs.Prelude.{option_and_then}
use Rattle.std.specs.declared.alloc.Global.{Global}
use Rattle.std.specs.declared.rc.Rc.{Rc}
use Rattle.cell_addr.specs.declared.place.Place.{Place}
use Rattle.formula_tree.specs.Relative.{relative}
use Rattle.formula_tree.specs.Term.{Term}
use Rattle.formula_tree.specs.declared.node.Node.{Node}
use Rattle.formula_tree.specs.declared.reference.Home.{Home}
use Rattle.formula_tree.specs.declared.reference.Home.TheVariants as homes
use Rattle.formula_tree.specs.declared.reference.Ref.{Ref}
use Rattle.lazy_store.proofs.Histories.{at-up}
use Rattle.lazy_store.specs.Kept.{Kept, at, fresh, later, standing_at}
use Rattle.lazy_store.specs.Standing.{Standing}
use Rattle.lazy_store.specs.Store.{KeepsOthers, at_in, if_born_by, kept_in, live_in, spare_in}
use Rattle.lazy_store.specs.declared.lazy.Lazy.{Lazy}
use Rattle.shift_line.specs.Track.{Track}
use Rattle.kept_book.specs.Frame.{numbered_at, stood_of}
use Rattle.kept_book.specs.Ids.{AreBelow, AreLive}
use Rattle.kept_book.specs.internal.Writing.{CanStand, Inserts, fresh_at, under_id}
use Rattle.kept_book.proofs.Written.{stood_given, under-first, under-later}

cases_less : (k n : ℕ) → k ≤ n → (k < n) ⊎ (k ≡ n)
cases_less k n l = elim (cases_lt k n) [
  | inl less ↦ inl less
  | inr more ↦ inr (omega (arith, l, more))
]

-- a formula that comes at a position stands there as it comes
pub at-fresh : (line : Track) (k : ℕ) (home : Home) (t : Term Ref) → at line (fresh k home t) k ≡ Some (standing_at home t)
at-fresh line k home t = let none : k - k ≡ 0 = omega arith in at-up line (fresh k home t) k (omega arith) ∙ ap (later line k (standing_at home t)) none

pub none-is : {X : Type 0} (r : Option X) → is_some r ≡ false → r ≡ None
none-is None e = refl
none-is (Some x) e = cc

-- no formula that comes later stands anywhere
pub none-stands : (n : ℕ) (store : Lazy) (id j : ℕ) (x : Standing) → AreBelow n store → at_in store id j ≡ Some x → id < n
none-stands n store id j x below e = elim (cases_lt id n) [
  | inl l ↦ l
  | inr from ↦ absurd (none-some x (sym (ap (option_and_then (λ h. at store.line h j)) (none-is (kept_in store id) (below id from))) ∙ e))
]

module _ (n : ℕ) (formulas : List (Place × Rc Node Global)) (old new : Lazy) (comes : Inserts n formulas old new) (fresh : AreBelow n old) where
  pub below-same : (id j : ℕ) → id < n → at_in new id j ≡ at_in old id j
  below-same id j l i = option_and_then (λ h. at (comes.line i) h j) (comes.below id l i)

  pub inserted-stays : (id j : ℕ) (x : Standing) → at_in old id j ≡ Some x → at_in new id j ≡ Some x
  inserted-stays id j x e = below-same id j (none-stands n old id j x fresh e) ∙ e

  pub inserted-numbered : (id : ℕ) → n ≤ id → numbered_at (at_in new) old.line.cursor id ≡ option_map stood_given (under_id n formulas id)
  inserted-numbered id from =
      ap (λ r. option_and_then stood_of (option_and_then (λ h. at new.line h old.line.cursor) r)) (comes.from id from) ∙ go (under_id n formulas id)
    where
      go : (r : Option (Place × Rc Node Global)) → option_and_then stood_of (option_and_then (λ h. at new.line h old.line.cursor) (option_map (fresh_at old.line.cursor) r)) ≡ option_map stood_given r
      go None = refl
      go (Some f) = ap (option_and_then stood_of) (at-fresh new.line old.line.cursor (homes.Cell f.0) (relative f.1.value))

-- formulas that come one after the other: those of the rest are still to come, under ids from this one on
pub record Inserting (n : ℕ) (all : List (Place × Rc Node Global)) (old now : Lazy) (id : ℕ) (rest : List (Place × Rc Node Global)) : Type 0 where
  pub line : now.line ≡ old.line
  pub below : AreBelow id now
  pub kept : (k : ℕ) → k < n → kept_in now k ≡ kept_in old k
  pub come : (k : ℕ) → n ≤ k → k < id → kept_in now k ≡ option_map (fresh_at old.line.cursor) (under_id n all k)
  pub ahead : (k : ℕ) → id ≤ k → under_id n all k ≡ under_id id rest k
  pub stand : All CanStand rest
  pub room : length rest ≤ spare_in now
  pub number : id + length rest ≡ n + length all
  pub least : n ≤ id

pub inserting-first : (n : ℕ) (all : List (Place × Rc Node Global)) (old : Lazy) → AreBelow n old → All CanStand all → length all ≤ spare_in old → Inserting n all old old n all
inserting-first n all old below stand room = record {
  line = refl;
  below = below;
  kept = λ k l. refl;
  come = λ k from l. absurd (omega (arith, from, l));
  ahead = λ k from. refl;
  stand = stand;
  room = room;
  number = refl;
  least = omega arith;
}

module _ (n : ℕ) (all : List (Place × Rc Node Global)) (old now next : Lazy) (id : ℕ) (f : Place × Rc Node Global) (rest : List (Place × Rc Node Global)) (so : Inserting n all old now id (f ∷ rest))
    (here : kept_in next id ≡ Some (fresh_at now.line.cursor f)) (others : KeepsOthers id now next) (line : next.line ≡ now.line) (spare : spare_in now ≤ spare_in next + 1) where
  come-next : (k : ℕ) → n ≤ k → (k < id) ⊎ (k ≡ id) → kept_in next k ≡ option_map (fresh_at old.line.cursor) (under_id n all k)
  come-next k from (inl l) = others k (λ same. absurd (omega (arith, l, same))) ∙ so.come k from l
  come-next k from (inr same) =
      ap (kept_in next) same ∙ here ∙ ap (λ t. Some (fresh_at t.cursor f)) so.line
      ∙ sym (ap (option_map (fresh_at old.line.cursor)) (so.ahead k (omega (arith, same)) ∙ ap (under_id id (f ∷ rest)) same ∙ under-first id f rest))

  pub inserting-next : Inserting n all old next (id + 1) rest
  inserting-next = record {
    line = line ∙ so.line;
    below = λ k from. ap is_some (others k (λ same. absurd (omega (arith, from, same)))) ∙ so.below k (omega (arith, from));
    kept = λ k l. let least = so.least in others k (λ same. absurd (omega (arith, l, same, least))) ∙ so.kept k l;
    come = λ k from l. come-next k from (cases_less k id (omega (arith, l)));
    ahead = λ k from. so.ahead k (omega (arith, from)) ∙ under-later id f rest k from;
    stand = All-tail CanStand f rest so.stand;
    room = let room = so.room in omega (arith, room, spare);
    number = let number = so.number in omega (arith, number);
    least = let least = so.least in omega (arith, least);
  }

-- where no formula was, none is, live or removed
pub none-live : (r s : Option Kept) → option_map (λ h. h.live) r ≡ option_map (λ h. h.live) s → is_some s ≡ false → r ≡ None
none-live None s e none = refl
none-live (Some h) None e none = absurd (none-some h.live (sym e))
none-live (Some h) (Some g) e none = cc

-- a formula that is dropped for its birth isn't a removed one
pub born-live : (k : ℕ) (r : Option Kept) → option_map (λ h. h.live) (option_and_then (if_born_by k) r) ≡ Some false → option_map (λ h. h.live) r ≡ Some false
born-live k None e = e
born-live k (Some h) e = go (nat_le h.birth k) e
  where
    go : (b : Bool) → option_map (λ g. g.live) (cond b (Some h) None) ≡ Some false → Some h.live ≡ Some false
    go true f = f
    go false f = absurd (none-some false f)

-- a formula that stands somewhere is live where none is a removed one
pub live-there : (store : Lazy) (id : ℕ) → AreLive store → (k : ℕ) (x : Standing) → at_in store id k ≡ Some x → live_in store id ≡ Some true
live-there store id live k x there = go (kept_in store id) refl there (live id)
  where
    by : (b : Bool) → Some b ≢ Some false → Some b ≡ Some true
    by true not = refl
    by false not = absurd (not refl)

    go : (r : Option Kept) → kept_in store id ≡ r → option_and_then (λ h. at store.line h k) r ≡ Some x → option_map (λ h. h.live) r ≢ Some false → option_map (λ h. h.live) r ≡ Some true
    go None is e not = absurd (none-some x e)
    go (Some h) is e not = by h.live not
