-- Cells that are emptied and given something else, and formulas that come under new ids. Serves the calls that set, clear and
-- paste cells.
use Rattle.std.proofs.Common.{◌≡◌, ◌∙◌, sym, ap, subst, refl, arith, ℕ, ◌+◌, ◌≤◌, ◌==◌, Bool, true, false, cond, List, [], ◌∷◌, map, Option, Some, None, option_map, is_some, IsSome}
use Rattle.std.proofs.lemmas.Bool.Decides.{nat_tests}
use Rattle.std.proofs.lemmas.List.Elements.{All-cons, All-head, All-tail}
use Rattle.std.proofs.lemmas.Option.{none-some}
use Rattle.std.specs.FinMap as fin
use Rattle.std.specs.FinMap.{find}
use Rattle.std.specs.FinMap.Entries.{is_some-find}
use Rattle.std.specs.List.{All}
use Rattle.std.specs.declared.alloc.Global.{Global}
use Rattle.std.specs.declared.rc.Rc.{Rc}
use Rattle.cell_addr.specs.Order.{place_cmp}
use Rattle.cell_addr.specs.Place.{IsInside}
use Rattle.cell_addr.specs.declared.place.Place.{Place}
use Rattle.book_values.specs.Book.{formula}
use Rattle.clip_board.specs.declared.clip.CopyItem.{CopyItem}
use Rattle.clip_board.specs.declared.clip.CopyItem.TheVariants as item
use Rattle.formula_tree.specs.declared.node.Node.{Node}
use Rattle.grid_store.proofs.Exchanges.{get-without_places}
use Rattle.grid_store.proofs.Fills.{first_of_two, get-with}
use Rattle.grid_store.proofs.PlaceMaps.{same_places}
use Rattle.grid_store.specs.Grid.{with_entries, without_places}
use Rattle.grid_store.specs.declared.cell.Cell.{Cell}
use Rattle.grid_store.specs.declared.cell.Cell.TheVariants as cell
use Rattle.grid_store.specs.internal.Exchange.{is_among}
use Rattle.shift_core.specs.Maps.{PlaceMap}
use Rattle.tree_rewrite.proofs.CallerLemmas.{proper-fit}
use Rattle.kept_book.specs.Change.{places_of}
use Rattle.kept_book.specs.Copied.{IsCopied, entry_copied}
use Rattle.kept_book.specs.Formula.{tree_at}
use Rattle.kept_book.specs.Numbered.{Numbered, Stood}
use Rattle.kept_book.specs.Stored.{AllStand, StandsAt, content_of, contents_of, tree_of}
use Rattle.kept_book.specs.internal.Cells.{cells_given, trees_given, with_given}
use Rattle.kept_book.specs.internal.Writing.{AreReplaced, CanStand, under_id}
use Rattle.kept_book.proofs.Contents.{content_plain, contents-insert, contents-remove, same_number, stand-insert, stands_at, stands_too}
use Rattle.kept_book.proofs.Staying.{cells-stay}

among-places : (es : List (Place × Cell)) (q : Place) → is_among (places_of es) q ≡ is_some (find place_cmp q es)
among-places es q = sym (is_some-find place_cmp q es)

module _ (m : PlaceMap Cell) (replaced written : List (Place × Cell)) (fair : AreReplaced m replaced (places_of written)) where
  back-at : (q : Place) (r w : Option Cell) → find place_cmp q replaced ≡ r → find place_cmp q written ≡ w
      → first_of_two r (cond (is_some w) None (first_of_two w (cond (is_some r) None (fin.get m q)))) ≡ fin.get m q
  back-at q (Some c) w is now = sym is ∙ fair.listed q (subst IsSome (sym is) refl)
  back-at q None (Some d) is now = sym is ∙ fair.there q (among-places written q ∙ ap is_some now)
  back-at q None None is now = refl

  -- what was replaced comes back in place of what was written
  pub written-back : with_entries replaced (without_places (places_of written) (with_entries written (without_places (places_of replaced) m))) ≡ m
  written-back = same_places _ _ (λ q.
      get-with replaced (without_places (places_of written) (with_entries written (without_places (places_of replaced) m))) q
      ∙ ap (first_of_two (find place_cmp q replaced))
      (get-without_places (places_of written) (with_entries written (without_places (places_of replaced) m)) q
      ∙ ap (λ r. cond (is_among (places_of written) q) None r)
      (get-with written (without_places (places_of replaced) m) q
      ∙ ap (first_of_two (find place_cmp q written)) (get-without_places (places_of replaced) m q ∙ ap (λ b. cond b None (fin.get m q)) (among-places replaced q)))
      ∙ ap (λ b. cond b None (first_of_two (find place_cmp q written) (cond (is_some (find place_cmp q replaced)) None (fin.get m q)))) (among-places written q))
      ∙ back-at q (find place_cmp q replaced) (find place_cmp q written) refl refl)

-- contents with those of the cells of a list over them
contents-with : (two : Numbered) (es : List (Place × Cell)) (m : PlaceMap Cell) → contents_of two (with_entries es m) ≡ with_given (map (λ e. (e.0, content_of two e.1)) es) (contents_of two m)
contents-with two [] m = refl
contents-with two (e ∷ es) m =
    contents-insert two two (with_entries es m) e.0 e.1 (content_of two e.1) (λ q n far is. refl) refl ∙ ap (λ x. fin.insert x e.0 (content_of two e.1)) (contents-with two es m)

-- contents of emptied cells
contents-without : (one : Numbered) (ps : List Place) (m : PlaceMap Cell) → contents_of one (without_places ps m) ≡ without_places ps (contents_of one m)
contents-without one [] m = refl
contents-without one (p ∷ ps) m = contents-without one ps (fin.remove m p) ∙ ap (without_places ps) (contents-remove one one m p (λ q n far is. refl))

left-there : (b : Bool) (r : Option Cell) (c : Cell) → cond b None r ≡ Some c → r ≡ Some c
left-there true r c e = absurd (none-some c e)
left-there false r c e = e

kept-there : (ps : List Place) (m : PlaceMap Cell) (q : Place) (c : Cell) → fin.get (without_places ps m) q ≡ Some c → fin.get m q ≡ Some c
kept-there ps m q c e = left-there (is_among ps q) (fin.get m q) c (sym (get-without_places ps m q) ∙ e)

-- what stands under the id of a given formula
abbrev pub stood_given : Place × Rc Node Global → Stood
stood_given f = (f.0, tree_at f.0 f.1)

abbrev pub StandFrom : ℕ → List (Place × CopyItem) → Numbered → Type 0
StandFrom n items two = (id : ℕ) → n ≤ id → two id ≡ option_map stood_given (under_id n (trees_given items) id)

pub under-first : (n : ℕ) (f : Place × Rc Node Global) (fs : List (Place × Rc Node Global)) → under_id n (f ∷ fs) n ≡ Some f
under-first n f fs = go (n == n) refl
  where
    go : (b : Bool) → (n == n) ≡ b → cond b (Some f) (under_id (n + 1) fs n) ≡ Some f
    go true is = refl
    go false is = absurd (grind (arith, nat_tests))

pub under-later : (n : ℕ) (f : Place × Rc Node Global) (fs : List (Place × Rc Node Global)) (id : ℕ) → n + 1 ≤ id → under_id n (f ∷ fs) id ≡ under_id (n + 1) fs id
under-later n f fs id from = go (id == n) refl
  where
    go : (b : Bool) → (id == n) ≡ b → cond b (Some f) (under_id (n + 1) fs id) ≡ under_id (n + 1) fs id
    go true is = let same : id ≡ n = grind (arith, nat_tests) in absurd (omega (arith, same, from))
    go false is = refl

stand-later : (n : ℕ) (at : Place) (tree : Rc Node Global) (items : List (Place × CopyItem)) (two : Numbered) → StandFrom n ((at, item.Formula tree) ∷ items) two → StandFrom (n + 1) items two
stand-later n at tree items two from id more = from id (omega (arith, more)) ∙ ap (option_map stood_given) (under-later n (at, tree) (trees_given items) id more)

-- what the given cells hold
given-contents : (two : Numbered) (items : List (Place × CopyItem)) (n : ℕ) → All IsCopied items → StandFrom n items two → map (λ e. (e.0, content_of two e.1)) (cells_given n items) ≡ map entry_copied items
given-contents two [] n all from = refl
given-contents two ((at, item.Formula tree) ∷ items) n all from =
    let here : two n ≡ Some (at, tree_at at tree) = from n (omega arith) ∙ ap (option_map stood_given) (under-first n (at, tree) (trees_given items)) in
    (λ i. (at, formula (tree_of (here i))) ∷ map (λ e. (e.0, content_of two e.1)) (cells_given (n + 1) items))
    ∙ ap (λ l. (at, formula (tree_at at tree)) ∷ l) (given-contents two items (n + 1) (All-tail IsCopied (at, item.Formula tree) items all) (stand-later n at tree items two from))
given-contents two ((at, item.Kept c) ∷ items) n all from =
    let plain = (All-head IsCopied (at, item.Kept c) items all).1 in
    (λ i. (at, content_plain (λ k. None) two c plain i) ∷ map (λ e. (e.0, content_of two e.1)) (cells_given n items))
    ∙ ap (λ l. (at, content_of (λ k. None) c) ∷ l) (given-contents two items n (All-tail IsCopied (at, item.Kept c) items all) from)

given-stand : (two : Numbered) (items : List (Place × CopyItem)) (n : ℕ) (m : PlaceMap Cell) → All IsCopied items → StandFrom n items two → AllStand two m → AllStand two (with_entries (cells_given n items) m)
given-stand two [] n m all from stand = stand
given-stand two ((at, item.Formula tree) ∷ items) n m all from stand =
    let here : two n ≡ Some (at, tree_at at tree) = from n (omega arith) ∙ ap (option_map stood_given) (under-first n (at, tree) (trees_given items)) in
    let rest = given-stand two items (n + 1) m (All-tail IsCopied (at, item.Formula tree) items all) (stand-later n at tree items two from) stand in
    stand-insert two two (with_entries (cells_given (n + 1) items) m) at (cell.Formula n) rest (λ q k far is. refl)
    (λ k e. subst (λ j. StandsAt two j at) (same_number n k e) (stands_at two n at (tree_at at tree) here))
given-stand two ((at, item.Kept c) ∷ items) n m all from stand =
    let plain = (All-head IsCopied (at, item.Kept c) items all).1 in
    let rest = given-stand two items n m (All-tail IsCopied (at, item.Kept c) items all) from stand in
    stand-insert two two (with_entries (cells_given n items) m) at c rest (λ q k far is. refl) (λ k e. absurd (plain k e))

module _ (one two : Numbered) (items : List (Place × CopyItem)) (n : ℕ) (ps : List Place) (m : PlaceMap Cell) (all : All IsCopied items) (from : StandFrom n items two) (stand : AllStand one m)
    (same : (q : Place) (id : ℕ) → fin.get m q ≡ Some (cell.Formula id) → two id ≡ one id) where
  -- the contents after cells were emptied and given something
  pub written-contents : contents_of two (with_entries (cells_given n items) (without_places ps m)) ≡ with_given (map entry_copied items) (without_places ps (contents_of one m))
  written-contents =
      contents-with two (cells_given n items) (without_places ps m)
      ∙ ap (λ es. with_given es (contents_of two (without_places ps m))) (given-contents two items n all from)
      ∙ ap (with_given (map entry_copied items)) (cells-stay one two (without_places ps m) (λ q id e. same q id (kept-there ps m q (cell.Formula id) e)) ∙ contents-without one ps m)

  -- and all formulas stand at their cells
  pub written-stand : AllStand two (with_entries (cells_given n items) (without_places ps m))
  written-stand = given-stand two items n (without_places ps m) all from (λ q id e.
      let was = kept-there ps m q (cell.Formula id) e in
      stands_too one two id q (same q id was) (stand q id was))

-- places and insides of given cells
pub given-places : (n : ℕ) (items : List (Place × CopyItem)) → map (λ e. e.0) (cells_given n items) ≡ map (λ e. e.0) items
given-places n [] = refl
given-places n ((at, item.Formula tree) ∷ items) = ap (λ l. at ∷ l) (given-places (n + 1) items)
given-places n ((at, item.Kept c) ∷ items) = ap (λ l. at ∷ l) (given-places n items)

-- all of what is given stands within the limits of a sheet
pub given-inside : (n : ℕ) (items : List (Place × CopyItem)) → All IsCopied items → All (λ e. IsInside e.0) (cells_given n items)
given-inside n [] all = λ k d l. absurd (omega arith)
given-inside n ((at, item.Formula tree) ∷ items) all =
    All-cons (λ e. IsInside e.0) (at, cell.Formula n) (cells_given (n + 1) items) (All-head IsCopied (at, item.Formula tree) items all).0
    (given-inside (n + 1) items (All-tail IsCopied (at, item.Formula tree) items all))
given-inside n ((at, item.Kept c) ∷ items) all =
    All-cons (λ e. IsInside e.0) (at, c) (cells_given n items) (All-head IsCopied (at, item.Kept c) items all).0 (given-inside n items (All-tail IsCopied (at, item.Kept c) items all))

pub given-can-stand : (items : List (Place × CopyItem)) → All IsCopied items → All CanStand (trees_given items)
given-can-stand [] all = λ k d l. absurd (omega arith)
given-can-stand ((at, item.Formula tree) ∷ items) all =
    let formula = All-head IsCopied (at, item.Formula tree) items all in
    All-cons CanStand (at, tree) (trees_given items) (formula.0, proper-fit (tree_at at tree) formula.1) (given-can-stand items (All-tail IsCopied (at, item.Formula tree) items all))
given-can-stand ((at, item.Kept c) ∷ items) all = given-can-stand items (All-tail IsCopied (at, item.Kept c) items all)

-- what is replaced at the places of what is given
pub replaced-given : (m : PlaceMap Cell) (n : ℕ) (replaced : List (Place × Cell)) (items : List (Place × CopyItem)) (written : List (Place × Cell)) → written ≡ cells_given n items
    → AreReplaced m replaced (map (λ e. e.0) items) → AreReplaced m replaced (places_of written)
replaced-given m n replaced items written is fair = subst (AreReplaced m replaced) (sym (ap places_of is ∙ given-places n items)) fair
