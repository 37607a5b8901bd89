-- Tables in which one formula came, changed or left, and what stays coherent then. Serves the calls that add, remove and
-- forget formulas.
use Rattle.std.proofs.Common.{◌≡◌, ◌≢◌, ◌∙◌, sym, ap, refl, subst, arith, ℕ, ◌≤◌, ◌⊎◌, inl, inr, Bool, false, nat_eq, ne_eqb, Result, Ok, Err, Some, None, option_map}
use Rattle.std.proofs.lemmas.Bool.{cases_eq}
use Rattle.std.proofs.lemmas.Option.{none-some, same_Some}
use Rattle.std.specs.HashMap as hash
use Rattle.std.specs.HashMap.{HashMap}
use Rattle.std.specs.Map.{lookup}
use Rattle.std.specs.Prelude.{OnErr, OnOk}
use Rattle.formula_tree.specs.Reference.{IsHomeInside}
use Rattle.formula_tree.specs.StandsFor.{at_home}
use Rattle.formula_tree.specs.Term.{Term}
use Rattle.formula_tree.specs.declared.reference.Home.{Home}
use Rattle.formula_tree.specs.declared.reference.Ref.{Ref}
use Rattle.shift_line.specs.Track.{Track, last}
use Rattle.tree_rewrite.specs.References.{FitsSheets}
use Rattle.lazy_store.specs.Holders.{AreCoherent, kept_of, kept_under}
use Rattle.lazy_store.specs.Kept.{IsAlong, IsCoherent, IsSoundLine, Kept, fresh, lowest, standing_at, with_live}
use Rattle.lazy_store.specs.declared.holder.Holder.{Holder}
use Rattle.lazy_store.proofs.Histories.{coherent-from}

-- a formula that comes at a position of the line
pub fresh-coherent : (line : Track) (k : ℕ) (home : Home) (tree : Term Ref) → IsSoundLine line → line.first ≤ k → k ≤ last line → IsHomeInside home → FitsSheets (at_home home tree) → IsCoherent line (fresh k home tree)
fresh-coherent line k home tree sound from within inside fits = coherent-from line sound (lowest line (fresh k home tree)) k (λ _. standing_at home tree) (fresh k home tree) along refl within
  where
    along : IsAlong line (lowest line (fresh k home tree)) k (λ _. standing_at home tree) (fresh k home tree)
    along = record {
      runs = λ j low under. absurd (omega (arith, low, under));
      fits = λ j low under. record { home = inside; tree = fits };
      from = omega (arith, from);
      to = omega arith;
      here = refl;
      saved = λ j low under. absurd (omega (arith, low, under));
      below = λ j under. refl;
      above = λ j ahead. refl;
    }

-- one that is removed, or put back
pub live-coherent : (line : Track) (h : Kept) (live : Bool) → IsCoherent line h → IsCoherent line (with_live live h)
live-coherent line h live coherent = record {
  along = record {
    runs = coherent.along.runs;
    fits = coherent.along.fits;
    from = coherent.along.from;
    to = coherent.along.to;
    here = coherent.along.here;
    saved = coherent.along.saved;
    below = coherent.along.below;
    above = coherent.along.above;
  };
  within = coherent.within;
}

-- neither the cursor of a line nor its room matters to a formula
pub coherent-anywhere : (line : Track) (cursor spare : ℕ) (h : Kept) → IsCoherent line h → IsCoherent (record line { cursor = cursor; spare = spare }) h
coherent-anywhere line cursor spare h coherent = record {
  along = record {
    runs = coherent.along.runs;
    fits = coherent.along.fits;
    from = coherent.along.from;
    to = coherent.along.to;
    here = coherent.along.here;
    saved = coherent.along.saved;
    below = coherent.along.below;
    above = coherent.along.above;
  };
  within = coherent.within;
}

pub all-anywhere : {S : Type 0} (line : Track) (cursor spare : ℕ) (m : HashMap ℕ Holder S) → AreCoherent line m → AreCoherent (record line { cursor = cursor; spare = spare }) m
all-anywhere line cursor spare m all id h there = coherent-anywhere line cursor spare (kept_of h) (all id h there)

module _ {S : Type 0} (id : ℕ) (old new : HashMap ℕ Holder S) (apart : (other : ℕ) → nat_eq id other ≡ false → hash.get nat_eq new other ≡ hash.get nat_eq old other) where
  -- the other formulas are kept as they were
  pub others-kept : (other : ℕ) → other ≢ id → kept_under new other ≡ kept_under old other
  others-kept other ne = ap (option_map kept_of) (apart other (ne_eqb id other (λ e. ne (sym e))))

  -- and all are coherent where the one that came or changed is
  pub changed-coherent : (line : Track) (y : Holder) → AreCoherent line old → hash.get nat_eq new id ≡ Some y → IsCoherent line (kept_of y) → AreCoherent line new
  changed-coherent line y all is one other h there = by (cases_eq other id)
    where
      by : (other ≡ id) ⊎ (other ≡ id → ⊥) → IsCoherent line (kept_of h)
      by (inl e) = subst (λ z. IsCoherent line (kept_of z)) (same_Some y h (sym is ∙ ap (hash.get nat_eq new) (sym e) ∙ there)) one
      by (inr ne) = all other h (sym (apart other (ne_eqb id other (λ e. ne (sym e)))) ∙ there)

  -- or where it left
  pub left-coherent : (line : Track) → AreCoherent line old → hash.get nat_eq new id ≡ None → AreCoherent line new
  left-coherent line all none other h there = by (cases_eq other id)
    where
      by : (other ≡ id) ⊎ (other ≡ id → ⊥) → IsCoherent line (kept_of h)
      by (inl e) = absurd (none-some h (sym none ∙ ap (hash.get nat_eq new) (sym e) ∙ there))
      by (inr ne) = all other h (sym (apart other (ne_eqb id other (λ e. ne (sym e)))) ∙ there)

-- a table with the same entries keeps the same formulas
pub unchanged-coherent : {S : Type 0} (line : Track) (old new : HashMap ℕ Holder S) → new.entries ≡ old.entries → AreCoherent line old → AreCoherent line new
unchanged-coherent line old new same all id h there = all id h (sym (ap (lookup (nat_eq id)) same) ∙ there)

-- a table to which a formula was to be added: it was, or the table is as it was
pub inserted-coherent : {S T E : Type 0} (r : Result T E) (line : Track) (id : ℕ) (old new : HashMap ℕ Holder S) (y : Holder) → AreCoherent line old → IsCoherent line (kept_of y) → OnOk r (hash.Updates nat_eq old new id (Some y)) → OnErr r (hash.IsUnchanged old new)
    → AreCoherent line new
inserted-coherent (Ok x) line id old new y all one ok err = changed-coherent id old new ok.2 line y all ok.1 one
inserted-coherent (Err x) line id old new y all one ok err = unchanged-coherent line old new err all
