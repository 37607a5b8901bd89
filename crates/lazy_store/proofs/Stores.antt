-- Tables of holders whose line gets one more operation, or loses the oldest ones. Serves the promises on cutting and
-- settling.
use Rattle.std.proofs.Common.{◌≡◌, ◌∙◌, sym, ap, refl, subst, arith, ℕ, ◌+◌, ◌-◌, ◌<◌, ◌≤◌, ◌⊎◌, inl, inr, le-ltb, nat_eq, false, Result, Ok, Err, Option, Some, None, option_map, option_and_then}
use Rattle.std.proofs.lemmas.Bool.{ltb-false}
use Rattle.std.specs.HashMap as hash
use Rattle.std.specs.HashMap.{HashMap}
use Rattle.std.specs.Prelude.{OnErr, OnOk}
use Rattle.formula_tree.specs.Term.{Term}
use Rattle.formula_tree.specs.declared.reference.Home.{Home}
use Rattle.formula_tree.specs.declared.reference.Ref.{Ref}
use Rattle.shift_core.specs.Sound.{IsSound}
use Rattle.shift_core.specs.declared.shift.Shift.{Shift}
use Rattle.shift_line.specs.Track.{Track, forgotten, last, pushed, with_spare}
use Rattle.lazy_store.specs.Holders.{AreCoherent, kept_of, kept_under}
use Rattle.lazy_store.specs.Kept.{IsCoherent, IsSoundLine, Kept, at, later, standing}
use Rattle.lazy_store.specs.Standing.{after}
use Rattle.lazy_store.specs.Store.{AreBehind, StandsAsBefore, StandsOneOn, at_in}
use Rattle.lazy_store.specs.declared.holder.Holder.{Holder}
use Rattle.lazy_store.specs.declared.holders.Side.TheVariants.{Before, Beyond}
use Rattle.lazy_store.specs.declared.lazy.Lazy.{Lazy}
use Rattle.lazy_store.specs.internal.Steps.{CutsOff}
use Rattle.lazy_store.specs.internal.Sweeps.{Both, CutsAll, Sweeps, at_under, is_off, live_under}
use Rattle.lazy_store.proofs.Changes.{all-anywhere}
use Rattle.lazy_store.proofs.Histories.{at-up}
use Rattle.lazy_store.proofs.Lines.{IsForgotten, IsPushed, is-forgotten, is-pushed, pushed-sound, forgotten-at, forgotten-coherent, forgotten-sound, pushed-before, pushed-coherent, pushed-next, pushed-past}
use Rattle.lazy_store.proofs.Tables.{mapped-some}

-- no formula is kept as of a position beyond this one
abbrev pub StandBehind : {S : Type 0} → ℕ → HashMap ℕ Holder S → Type 0
StandBehind k m = (id : ℕ) (h : Kept) → kept_under m id ≡ Some h → h.position ≤ k

-- none is as of one before it
abbrev pub StandFrom : {S : Type 0} → ℕ → HashMap ℕ Holder S → Type 0
StandFrom k m = (id : ℕ) (h : Kept) → kept_under m id ≡ Some h → k ≤ h.position

-- where a formula is kept it has the standing that is kept
pub at-own : (line : Track) (h : Kept) (k : ℕ) → h.position ≡ k → at line h k ≡ Some (standing h)
at-own line h k e =
    let none : h.position - h.position ≡ 0 = omega arith in
    subst (λ j. at line h j ≡ Some (standing h)) e (at-up line h h.position (omega arith) ∙ ap (later line h.position (standing h)) none)

-- ---- on one side of a position

module _ {S : Type 0} (line : Track) (m : HashMap ℕ Holder S) where
  -- no formula of a coherent table is beyond the last position of the line
  pub all-within : AreCoherent line m → StandBehind (last line) m
  all-within coherent id h is = let (x, found, same) = mapped-some kept_of (hash.get nat_eq m id) h is in subst (λ k. k.position ≤ last line) same (coherent id x found).within

  module _ (k : ℕ) where
    pub none-beyond : ((id : ℕ) (h : Kept) → kept_under m id ≡ Some h → is_off Beyond k h ≡ false) → StandBehind k m
    none-beyond on id h is = ltb-false k h.position (on id h is)

    pub stays-behind : (new : HashMap ℕ Holder S) → Sweeps line Beyond k m new → (id : ℕ) (h : Kept) → kept_under m id ≡ Some h → h.position ≤ k → kept_under new id ≡ Some h
    stays-behind new swept id h is behind = swept.others id h is (le-ltb k h.position behind)

-- ---- one more operation

module _ {S : Type 0} (s : Shift) (line new : Track) (m : HashMap ℕ Holder S) (push : IsPushed s line new) (sound : IsSoundLine line) (other : IsSoundLine new) (coherent : AreCoherent line m) (behind : StandBehind line.cursor m) where
  pub table-coherent : AreCoherent new m
  table-coherent id h there = pushed-coherent s line new push (kept_of h) (behind id (kept_of h) (ap (option_map kept_of) there)) other (coherent id h there)

  pub table-before : (id k : ℕ) → k ≤ line.cursor → at_under new m id k ≡ at_under line m id k
  table-before id k within = by (hash.get nat_eq m id) refl
    where
      by : (o : Option Holder) → hash.get nat_eq m id ≡ o → option_and_then (λ h. at new h k) (option_map kept_of o) ≡ option_and_then (λ h. at line h k) (option_map kept_of o)
      by None e = refl
      by (Some h) e = pushed-before s line new push (kept_of h) (behind id (kept_of h) (ap (option_map kept_of) e)) sound other (coherent id h e) k within

  pub table-next : (id : ℕ) → at_under new m id (line.cursor + 1) ≡ option_and_then (after s) (at_under line m id line.cursor)
  table-next id = by (hash.get nat_eq m id) refl
    where
      by : (o : Option Holder) → hash.get nat_eq m id ≡ o → option_and_then (λ h. at new h (line.cursor + 1)) (option_map kept_of o) ≡ option_and_then (after s) (option_and_then (λ h. at line h line.cursor) (option_map kept_of o))
      by None e = refl
      by (Some h) e = pushed-next s line new push (kept_of h) (behind id (kept_of h) (ap (option_map kept_of) e)) sound other (coherent id h e)

  pub table-past : (id k : ℕ) → line.cursor + 1 < k → at_under new m id k ≡ None
  table-past id k past = by (hash.get nat_eq m id) refl
    where
      by : (o : Option Holder) → hash.get nat_eq m id ≡ o → option_and_then (λ h. at new h k) (option_map kept_of o) ≡ None
      by None e = refl
      by (Some h) e = pushed-past s line new push (kept_of h) (behind id (kept_of h) (ap (option_map kept_of) e)) k past

module _ {S : Type 0} (k : ℕ) (line new : Track) (m n : HashMap ℕ Holder S) (cut : IsForgotten k line new) (cuts : CutsAll k m n) (from : line.first ≤ k) (sound : IsSoundLine line) (other : IsSoundLine new) (coherent : AreCoherent line m) (placed : StandFrom k m) where
  pub cut-coherent : AreCoherent new n
  cut-coherent id g there = by (hash.get nat_eq m id) refl (subst (λ o. Both (CutsOff k) (kept_under m id) (option_map kept_of o)) there (cuts id))
    where
      by : (o : Option Holder) → hash.get nat_eq m id ≡ o → Both (CutsOff k) (option_map kept_of o) (Some (kept_of g)) → IsCoherent new (kept_of g)
      by None e both = absurd both
      by (Some h) e both = forgotten-coherent k line new cut (kept_of h) (kept_of g) from (placed id (kept_of h) (ap (option_map kept_of) e)) both other (coherent id h e)

  pub cut-at : (id j : ℕ) → k ≤ j → at_under new n id j ≡ at_under line m id j
  cut-at id j above = by (hash.get nat_eq m id) (hash.get nat_eq n id) refl (cuts id)
    where
      by : (o p : Option Holder) → hash.get nat_eq m id ≡ o → Both (CutsOff k) (option_map kept_of o) (option_map kept_of p) → option_and_then (λ h. at new h j) (option_map kept_of p) ≡ option_and_then (λ h. at line h j) (option_map kept_of o)
      by None None e both = refl
      by None (Some g) e both = absurd both
      by (Some h) None e both = absurd both
      by (Some h) (Some g) e both = forgotten-at k line new cut (kept_of h) (kept_of g) from (placed id (kept_of h) (ap (option_map kept_of) e)) both sound other (coherent id h e) j above

pub cut-live : {S : Type 0} (k : ℕ) (m n : HashMap ℕ Holder S) → CutsAll k m n → (id : ℕ) → live_under n id ≡ live_under m id
cut-live k m n cuts id = by (kept_under m id) (kept_under n id) (cuts id)
  where
    by : (o p : Option Kept) → Both (CutsOff k) o p → option_map (λ h. h.live) p ≡ option_map (λ h. h.live) o
    by None None both = refl
    by None (Some g) both = absurd both
    by (Some h) None both = absurd both
    by (Some h) (Some g) both = ap (λ b. Some b) both.live

-- ---- a line that was to get an operation

-- it got it, or is as it was
abbrev pub IsTried : Shift → Track → Track → Type 0
IsTried s line new = (new ≡ with_spare new.spare (pushed s line)) ⊎ (new ≡ with_spare new.spare line)

pub tried : {T E : Type 0} (r : Result T E) (s : Shift) (line new : Track) → OnOk r (new ≡ with_spare new.spare (pushed s line)) → OnErr r (new ≡ with_spare new.spare line) → IsTried s line new
tried (Ok x) s line new ok err = inl ok
tried (Err x) s line new ok err = inr err

module _ (s : Shift) (line new : Track) (possible : IsSound s) (sound : IsSoundLine line) (from : line.first ≤ line.cursor) (within : line.cursor ≤ last line) where
  push : new ≡ with_spare new.spare (pushed s line) → IsPushed s line new
  push e = subst (IsPushed s line) (sym e) (is-pushed new.spare s line from within)

  pub tried-sound : IsTried s line new → IsSoundLine new
  tried-sound (inl e) = pushed-sound s line new (push e) possible sound
  tried-sound (inr e) = subst IsSoundLine (sym e) sound

  pub tried-coherent : {S : Type 0} (m : HashMap ℕ Holder S) → AreCoherent line m → StandBehind line.cursor m → IsTried s line new → AreCoherent new m
  tried-coherent m coherent behind (inl e) = table-coherent s line new m (push e) sound (tried-sound (inl e)) coherent behind
  tried-coherent m coherent behind (inr e) = subst (λ (l : Track). AreCoherent l m) (sym e) (all-anywhere line line.cursor new.spare m coherent)

-- a store with the formulas of another one, and one more operation
pub one-on : (s : Shift) (old mid new : Lazy) → IsSound s → mid.line ≡ old.line → old.line.first ≤ old.line.cursor → old.line.cursor ≤ last old.line → new.line ≡ with_spare new.line.spare (pushed s mid.line) → new.holders ≡ mid.holders
    → AreBehind old.line.cursor mid → StandsAsBefore old mid → StandsOneOn s old new
one-on s old mid new possible same from within got table behind stands = record {
  live = λ id. ap (λ m. live_under m id) table ∙ stands.live id;
  before = λ id k under. ap (λ m. at_under new.line m id k) table ∙ table-before s mid.line new.line mid.holders pushes mid.sound other mid.coherent behind_it id k (subst (λ (l : Track). k ≤ l.cursor) (sym same) under) ∙ stands.at id k;
  next = λ id. subst (λ (l : Track). at_in new id (l.cursor + 1) ≡ option_and_then (after s) (at_in old id l.cursor)) same
      (ap (λ m. at_under new.line m id (mid.line.cursor + 1)) table ∙ table-next s mid.line new.line mid.holders pushes mid.sound other mid.coherent behind_it id ∙ ap (option_and_then (after s)) (stands.at id mid.line.cursor));
  beyond = λ id k past. ap (λ m. at_under new.line m id k) table ∙ table-past s mid.line new.line mid.holders pushes mid.sound other mid.coherent behind_it id k (subst (λ (l : Track). l.cursor + 1 < k) (sym same) past);
}
  where
    pushes : IsPushed s mid.line new.line
    pushes = push s mid.line new.line possible mid.sound (subst (λ (l : Track). l.first ≤ l.cursor) (sym same) from) (subst (λ (l : Track). l.cursor ≤ last l) (sym same) within) got

    other : IsSoundLine new.line
    other = tried-sound s mid.line new.line possible mid.sound (subst (λ (l : Track). l.first ≤ l.cursor) (sym same) from) (subst (λ (l : Track). l.cursor ≤ last l) (sym same) within) (inl got)

    behind_it : StandBehind mid.line.cursor mid.holders
    behind_it = subst (λ (l : Track). StandBehind l.cursor mid.holders) (sym same) behind

-- ---- the oldest operations forgotten

-- as of which position a formula is kept, and its home and tree as of that
abbrev pub place_of : Kept → ℕ × (Home × Term Ref)
place_of h = (h.position, (h.home, h.tree))

abbrev pub placed_at : ℕ → Home → Term Ref → Option (ℕ × (Home × Term Ref))
placed_at k home tree = Some (k, (home, tree))

-- formulas that had old trees cut off are kept where they were
shown-as-before : (k : ℕ) (o p : Option Kept) → Both (CutsOff k) o p → option_map place_of p ≡ option_map place_of o
shown-as-before k None None both = refl
shown-as-before k None (Some g) both = absurd both
shown-as-before k (Some h) None both = absurd both
shown-as-before k (Some h) (Some g) both = ap (λ j. placed_at j g.home g.tree) both.position ∙ ap (λ home. placed_at h.position home g.tree) both.home ∙ ap (placed_at h.position h.home) both.tree

module _ {S : Type 0} (k : ℕ) (line new : Track) (old mid after : HashMap ℕ Holder S) (from : line.first ≤ k) (within : k ≤ last line) (sound : IsSoundLine line) (got : new ≡ with_spare new.spare (forgotten k line))
    (swept : Sweeps line Before k old mid) (on : (id : ℕ) (h : Kept) → kept_under mid id ≡ Some h → is_off Before k h ≡ false) (cuts : CutsAll k mid after) where
  forgets : IsForgotten k line new
  forgets = subst (IsForgotten k line) (sym got) (is-forgotten new.spare k line from within)

  placed : StandFrom k mid
  placed id h is = ltb-false h.position k (on id h is)

  pub settled-sound : IsSoundLine new
  settled-sound = forgotten-sound k line new forgets sound

  pub settled-coherent : AreCoherent new after
  settled-coherent = cut-coherent k line new mid after forgets cuts from sound settled-sound swept.along.coherent placed

  pub settled-live : (id : ℕ) → live_under after id ≡ live_under old id
  settled-live id = cut-live k mid after cuts id ∙ swept.along.live id

  pub settled-at : (id j : ℕ) → k ≤ j → at_under new after id j ≡ at_under line old id j
  settled-at id j above = cut-at k line new mid after forgets cuts from sound settled-sound swept.along.coherent placed id j above ∙ swept.along.at id j

  pub settled-shown : (id : ℕ) (h : Kept) → kept_under old id ≡ Some h → k ≤ h.position → option_map place_of (kept_under after id) ≡ option_map place_of (kept_under old id)
  settled-shown id h is above =
      shown-as-before k (kept_under mid id) (kept_under after id) (cuts id) ∙ ap (option_map place_of) (swept.others id h is (le-ltb h.position k above) ∙ sym is)
