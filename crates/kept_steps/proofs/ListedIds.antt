-- Sets to which the ids of lists are added, and that all formulas in use are among the ids that a session lists. Serves the
-- sweep.
use Rattle.std.proofs.Common.{Bor, ◌≡◌, ◌∙◌, sym, ap, subst, refl, arith, inl, inr, ℕ, ◌+◌, ◌<◌, Bool, true, false, ◌||◌, ◌⊎◌, List, [], ◌∷◌, ◌++◌, length, get_or, take, map, Option, Some, None, IsSome, IfSome}
use Rattle.std.proofs.lemmas.List.{flat_map_more, map-append, take_all, take_more}
use Rattle.std.proofs.lemmas.List.Folds.{list_any-append}
use Rattle.std.specs.FinMap as fin
use Rattle.std.specs.HashSet.{HashSet, contains}
use Rattle.std.specs.List.{flat_map}
use Rattle.std.specs.Prelude.{nat_eq}
use Rattle.cell_addr.specs.declared.place.Place.{Place}
use Rattle.grid_store.specs.declared.cell.Cell.{Cell}
use Rattle.kept_book.specs.Frame.{Frame}
use Rattle.name_table.specs.declared.key.NameKey.{NameKey}
use Rattle.undo_book.specs.History.{History}
use Rattle.kept_steps.specs.Fits.{open_changes, start_of}
use Rattle.kept_steps.specs.InUse.{HasAny, HasFormula, HereHas}
use Rattle.kept_steps.specs.Timeline.{Timeline}
use Rattle.kept_steps.specs.declared.entry.Entry.{Entry}
use Rattle.kept_book.specs.declared.passing.Side.TheVariants.{Before, After}
use Rattle.kept_steps.specs.internal.Listed.{Adds, has, id_in, ids_of_step, ids_on, ids_open}
use Rattle.kept_steps.proofs.Including.{ahead-listed, cells-listed, here-parts, names-listed, past-listed}
use Rattle.kept_steps.proofs.Walks.{before_has}

or-none : (a : Bool) → a ≡ (a || false)
or-none true = refl
or-none false = refl

or-three : (a b c : Bool) → ((a || b) || c) ≡ (a || (b || c))
or-three true b c = refl
or-three false b c = refl

or-kept : (a b : Bool) → a ≡ true → (a || b) ≡ true
or-kept a b e = ap (λ x. x || b) e

or-come : (a b : Bool) → b ≡ true → (a || b) ≡ true
or-come true b e = refl
or-come false b e = e

module _ {S : Type 0} where
  pub adds-none : (s : HashSet ℕ S) → Adds [] s s
  adds-none s id = or-none (contains nat_eq s id)

  pub adds-then : (xs ys : List ℕ) (a b c : HashSet ℕ S) → Adds xs a b → Adds ys b c → Adds (xs ++ ys) a c
  adds-then xs ys a b c f g id =
      g id ∙ ap (λ x. x || has ys id) (f id) ∙ or-three (contains nat_eq a id) (has xs id) (has ys id)
      ∙ ap (λ x. contains nat_eq a id || x) (sym (list_any-append (nat_eq id) xs ys))

  pub adds-step : {X : Type 0} (f : X → List ℕ) (xs : List X) (i : ℕ) (x : X) (a b c : HashSet ℕ S) → i < length xs → x ≡ get_or xs i x → Adds (flat_map f (take i xs)) a b → Adds (f x) b c
      → Adds (flat_map f (take (i + 1) xs)) a c
  adds-step f xs i x a b c l is before here =
      subst (λ ys. Adds ys a c) (ap (λ y. flat_map f (take i xs) ++ f y) is ∙ flat_map_more f [] (take i xs) (get_or xs i x) ∙ ap (flat_map f) (sym (take_more xs i x l))) (adds-then (flat_map f (take i xs)) (f x) a b c before here)

  pub adds-name : (xs : List (NameKey × ℕ)) (i : ℕ) (x : NameKey × ℕ) (a b c : HashSet ℕ S) → i < length xs → x ≡ get_or xs i x → Adds (map (λ e. e.1) (take i xs)) a b → Adds (x.1 ∷ []) b c
      → Adds (map (λ e. e.1) (take (i + 1) xs)) a c
  adds-name xs i x a b c l is before here =
      subst (λ ys. Adds ys a c) (ap (λ y. map (λ e. e.1) (take i xs) ++ y.1 ∷ []) is ∙ sym (map-append (λ e. e.1) (take i xs) (get_or xs i x ∷ [])) ∙ ap (map (λ e. e.1)) (sym (take_more xs i x l)))
      (adds-then (map (λ e. e.1) (take i xs)) (x.1 ∷ []) a b c before here)

  pub adds-all : {X : Type 0} (f : X → List ℕ) (xs : List X) (i : ℕ) (a b : HashSet ℕ S) → length xs ≡ i → Adds (flat_map f (take i xs)) a b → Adds (flat_map f xs) a b
  adds-all f xs i a b end all = subst (λ l. Adds (flat_map f l) a b) (take_all i xs (omega (arith, end))) all

  -- by an entry that is there
  pub adds-entry : (es : List Entry) (i : ℕ) (r : Option (Bor Entry)) (a b c : HashSet ℕ S) → IsSome r → IfSome r (λ x. x.now ≡ get_or es i x.now) → i < length es → Adds (flat_map (ids_of_step Before) (take i es)) a b
      → IfSome r (λ e. Adds (ids_of_step Before e.now) b c) → Adds (flat_map (ids_of_step Before) (take (i + 1) es)) a c
  adds-entry es i None a b c some at l before here = absurd (cc)
  adds-entry es i (Some x) a b c some at l before here = adds-step (ids_of_step Before) es i x.now a b c l at before here

  pub kept-in : (xs : List ℕ) (a b : HashSet ℕ S) → Adds xs a b → (id : ℕ) → contains nat_eq a id ≡ true → contains nat_eq b id ≡ true
  kept-in xs a b adds id e = adds id ∙ or-kept (contains nat_eq a id) (has xs id) e

  pub come-in : (xs : List ℕ) (a b : HashSet ℕ S) → Adds xs a b → (id : ℕ) → has xs id ≡ true → contains nat_eq b id ≡ true
  come-in xs a b adds id e = adds id ∙ or-come (contains nat_eq a id) (has xs id) e

  -- what the present frame has
  pub present-there : (f : Frame) (items : List (Place × Cell)) (named : List (NameKey × ℕ)) (a b c : HashSet ℕ S) → fin.from_entries items ≡ f.cells → named ≡ fin.entries f.names
      → Adds (flat_map id_in items) a b → Adds (map (λ e. e.1) named) b c → (id : ℕ) → HasFormula f id → contains nat_eq c id ≡ true
  present-there f items named a b c cells names first then id (inl h) = kept-in (map (λ e. e.1) named) b c then id (come-in (flat_map id_in items) a b first id (cells-listed f.cells items id cells h))
  present-there f items named a b c cells names first then id (inr h) =
      come-in (map (λ e. e.1) named) b c then id (subst (λ l. has (map (λ e. e.1) l) id ≡ true) (sym names) (names-listed f.names h.0 id h.1))

  -- all that is in use
  module _ (t : Timeline) (f : Frame) (steps : History Entry) (batch : Option Entry) (a b c d : HashSet ℕ S) (present : (id : ℕ) → HasFormula f id → contains nat_eq a id ≡ true) (done : Adds (flat_map (ids_of_step Before) steps.done) a b)
      (undone : Adds (flat_map (ids_of_step After) steps.undone) b c) (begun : Adds (ids_open batch) c d) where
    from-done : (id : ℕ) → contains nat_eq b id ≡ true → contains nat_eq d id ≡ true
    from-done id e = kept-in (ids_open batch) c d begun id (kept-in (flat_map (ids_of_step After) steps.undone) b c undone id e)

    now-there : (id : ℕ) → HasFormula f id → contains nat_eq d id ≡ true
    now-there id h = from-done id (kept-in (flat_map (ids_of_step Before) steps.done) a b done id (present id h))

    along-there : (id : ℕ) → HereHas t (open_changes batch) f id → contains nat_eq d id ≡ true
    along-there id h = by batch refl h
      where
        listed : (e : Entry) → batch ≡ Some e → (has (flat_map (ids_on Before) e.parts.items) id ≡ true) ⊎ HasFormula f id → contains nat_eq d id ≡ true
        listed e is (inl x) = come-in (ids_open batch) c d begun id (subst (λ o. has (ids_open o) id ≡ true) (sym is) x)
        listed e is (inr x) = now-there id x

        by : (o : Option Entry) → batch ≡ o → HereHas t (open_changes o) f id → contains nat_eq d id ≡ true
        by None is x = now-there id x
        by (Some e) is x = listed e is (here-parts t e.parts.items f id x)

    pub in-use-there : (id : ℕ) → HasAny t f steps batch id → contains nat_eq d id ≡ true
    in-use-there id (inl h) = along-there id h
    in-use-there id (inr (inl h)) = by (past-listed t steps.done (start_of t batch f) id h)
      where
        by : (has (flat_map (ids_of_step Before) steps.done) id ≡ true) ⊎ HasFormula (start_of t batch f) id → contains nat_eq d id ≡ true
        by (inl x) = from-done id (come-in (flat_map (ids_of_step Before) steps.done) a b done id x)
        by (inr x) = along-there id (before_has t (open_changes batch) f id x)
    in-use-there id (inr (inr h)) = by (ahead-listed t steps.undone f id h)
      where
        by : (has (flat_map (ids_of_step After) steps.undone) id ≡ true) ⊎ HasFormula f id → contains nat_eq d id ≡ true
        by (inl x) = kept-in (ids_open batch) c d begun id (come-in (flat_map (ids_of_step After) steps.undone) b c undone id x)
        by (inr x) = now-there id x
