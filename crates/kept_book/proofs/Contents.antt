-- What the contents of kept cells are at a place, and what they are after one cell or some change. Serves the calls
-- of a kept workbook.
use Rattle.std.proofs.Common.{◌≡◌, ◌∙◌, sym, ap, subst, refl, ℕ, Bool, true, false, cond, List, [], ◌∷◌, map, Option, Some, None, option_map}
use Rattle.std.proofs.lemmas.Option.{same_Some}
use Rattle.std.specs.FinMap as fin
use Rattle.std.specs.FinMap.{find, get-empty, get-entries, get-from_entries, get-insert, get-remove, same_map}
use Rattle.std.specs.Ordering.{eq_by_cmp}
use Rattle.cell_addr.specs.Order.{place_cmp}
use Rattle.cell_addr.specs.declared.place.Place.{Place}
use Rattle.cell_addr.proofs.Places.{place_cmp-IsTotalOrder, place_cmp-IsAntisymmetric}
use Rattle.book_values.specs.Book.{Book as Contents, Content, formula}
use Rattle.formula_tree.specs.Term.{Term}
use Rattle.formula_tree.specs.declared.reference.Corner.{Corner}
use Rattle.grid_store.specs.declared.cell.Cell.{Cell}
use Rattle.grid_store.specs.declared.cell.Cell.TheVariants as cell
use Rattle.shift_core.specs.Maps.{PlaceMap}
use Rattle.book_model.proofs.Contents.{is_at}
use Rattle.kept_book.specs.Numbered.{Numbered, Stood}
use Rattle.kept_book.specs.Stored.{AllStand, StandsAt, content_of, contents_of, tree_of}
use Rattle.kept_book.specs.Copied.{IsPlain}

find-each : {X Y : Type 0} (h : X → Y) (p : Place) (es : List (Place × X)) → find place_cmp p (map (λ e. (e.0, h e.1)) es) ≡ option_map h (find place_cmp p es)
find-each h p [] = refl
find-each h p (e ∷ es) = go (eq_by_cmp place_cmp p e.0) (find-each h p es)
  where
    go : (b : Bool) → find place_cmp p (map (λ e. (e.0, h e.1)) es) ≡ option_map h (find place_cmp p es)
        → cond b (Some (h e.1)) (find place_cmp p (map (λ e. (e.0, h e.1)) es)) ≡ option_map h (cond b (Some e.1) (find place_cmp p es))
    go true i = refl
    go false i = i

-- the content at a place is that of the cell there
pub get-contents : (stands : Numbered) (cells : PlaceMap Cell) (p : Place) → fin.get (contents_of stands cells) p ≡ option_map (content_of stands) (fin.get cells p)
get-contents stands cells p =
    get-from_entries place_cmp-IsTotalOrder (map (λ e. (e.0, content_of stands e.1)) (fin.entries cells)) p
    ∙ find-each (content_of stands) p (fin.entries cells)
    ∙ ap (option_map (content_of stands)) (sym (get-entries cells p))

-- what stands under a number that is a formula's at the place
pub standing : (stands : Numbered) (n : ℕ) (p : Place) → StandsAt stands n p → (t : Term Corner) × (stands n ≡ Some (p, t))
standing stands n p h = go (stands n) refl h
  where
    go : (r : Option Stood) → stands n ≡ r → option_map (λ f. f.0) r ≡ Some p → (t : Term Corner) × (stands n ≡ Some (p, t))
    go None e f = cc
    go (Some x) e f = (x.1, e ∙ ap (λ q. Some (q, x.1)) (same_Some x.0 p f))

pub stands_at : (stands : Numbered) (n : ℕ) (p : Place) (t : Term Corner) → stands n ≡ Some (p, t) → StandsAt stands n p
stands_at stands n p t e = ap (option_map (λ f. f.0)) e

-- what stands under two numbers that are the same stands at the same place
pub stands_too : (one two : Numbered) (n : ℕ) (p : Place) → two n ≡ one n → StandsAt one n p → StandsAt two n p
stands_too one two n p e h = ap (option_map (λ f. f.0)) e ∙ h

-- a cell holds the same where its formula's number stands for the same
pub content_same : (one two : Numbered) (r : Option Cell) → ((n : ℕ) → r ≡ Some (cell.Formula n) → two n ≡ one n) → option_map (content_of two) r ≡ option_map (content_of one) r
content_same one two None h = refl
content_same one two (Some (cell.Number m)) h = refl
content_same one two (Some (cell.Truth b)) h = refl
content_same one two (Some (cell.Text w)) h = refl
content_same one two (Some (cell.Formula n)) h = ap (λ r. Some (formula (tree_of r))) (h n refl)
content_same one two (Some (cell.Broken w)) h = refl

-- numbers of other cells stand for the same
abbrev pub Agree : Place → PlaceMap Cell → Numbered → Numbered → Type 0
Agree at cells one two = (q : Place) (n : ℕ) → eq_by_cmp place_cmp q at ≡ false → fin.get cells q ≡ Some (cell.Formula n) → two n ≡ one n

pub contents-insert : (one two : Numbered) (cells : PlaceMap Cell) (at : Place) (c : Cell) (x : Content) → Agree at cells one two → content_of two c ≡ x
    → contents_of two (fin.insert cells at c) ≡ fin.insert (contents_of one cells) at x
contents-insert one two cells at c x same is = same_map place_cmp-IsTotalOrder place_cmp-IsAntisymmetric _ _ (λ q.
    get-contents two (fin.insert cells at c) q
    ∙ ap (option_map (content_of two)) (get-insert place_cmp-IsTotalOrder cells at c q)
    ∙ go q (eq_by_cmp place_cmp q at) refl
    ∙ ap (cond (eq_by_cmp place_cmp q at) (Some x)) (sym (get-contents one cells q))
    ∙ sym (get-insert place_cmp-IsTotalOrder (contents_of one cells) at x q))
  where
    go : (q : Place) (b : Bool) → eq_by_cmp place_cmp q at ≡ b → option_map (content_of two) (cond b (Some c) (fin.get cells q)) ≡ cond b (Some x) (option_map (content_of one) (fin.get cells q))
    go q true e = ap Some is
    go q false e = content_same one two (fin.get cells q) (λ n h. same q n e h)

pub stand-insert : (one two : Numbered) (cells : PlaceMap Cell) (at : Place) (c : Cell) → AllStand one cells → Agree at cells one two → ((n : ℕ) → c ≡ cell.Formula n → StandsAt two n at)
    → AllStand two (fin.insert cells at c)
stand-insert one two cells at c all same new p n e = go (eq_by_cmp place_cmp p at) refl (sym (get-insert place_cmp-IsTotalOrder cells at c p) ∙ e)
  where
    go : (b : Bool) → eq_by_cmp place_cmp p at ≡ b → cond b (Some c) (fin.get cells p) ≡ Some (cell.Formula n) → StandsAt two n p
    go true is f = subst (StandsAt two n) (is_at at p is) (new n (same_Some c (cell.Formula n) f))
    go false is f = stands_too one two n p (same p n is f) (all p n f)

pub contents-remove : (one two : Numbered) (cells : PlaceMap Cell) (at : Place) → Agree at cells one two → contents_of two (fin.remove cells at) ≡ fin.remove (contents_of one cells) at
contents-remove one two cells at same = same_map place_cmp-IsTotalOrder place_cmp-IsAntisymmetric _ _ (λ q.
    get-contents two (fin.remove cells at) q
    ∙ ap (option_map (content_of two)) (get-remove place_cmp-IsTotalOrder cells at q)
    ∙ go q (eq_by_cmp place_cmp q at) refl
    ∙ ap (cond (eq_by_cmp place_cmp q at) None) (sym (get-contents one cells q))
    ∙ sym (get-remove place_cmp-IsTotalOrder (contents_of one cells) at q))
  where
    go : (q : Place) (b : Bool) → eq_by_cmp place_cmp q at ≡ b → option_map (content_of two) (cond b None (fin.get cells q)) ≡ cond b None (option_map (content_of one) (fin.get cells q))
    go q true e = refl
    go q false e = content_same one two (fin.get cells q) (λ n h. same q n e h)

-- a cell without a formula holds the same whatever stands under numbers
pub content_plain : (one two : Numbered) (c : Cell) → IsPlain c → content_of two c ≡ content_of one c
content_plain one two (cell.Number m) plain = refl
content_plain one two (cell.Truth b) plain = refl
content_plain one two (cell.Text w) plain = refl
content_plain one two (cell.Formula n) plain = absurd (plain n refl)
content_plain one two (cell.Broken w) plain = refl

abbrev number_of : ℕ → Cell → ℕ
number_of d (cell.Formula n) = n
number_of d _ = d

pub same_number : (n m : ℕ) → cell.Formula n ≡ cell.Formula m → n ≡ m
same_number n m e = ap (number_of n) e

-- no cells have no contents
pub contents_none : (stands : Numbered) (cells : PlaceMap Cell) → cells ≡ fin.empty → contents_of stands cells ≡ fin.empty
contents_none stands cells none = same_map place_cmp-IsTotalOrder place_cmp-IsAntisymmetric _ _ (λ q.
    get-contents stands cells q ∙ ap (λ m. option_map (content_of stands) (fin.get m q)) none ∙ ap (option_map (content_of stands)) (get-empty place_cmp q) ∙ sym (get-empty place_cmp q))

pub stands_nothing : (stands : Numbered) (cells : PlaceMap Cell) → cells ≡ fin.empty → AllStand stands cells
stands_nothing stands cells none p n e = let nothing = sym e ∙ ap (λ m. fin.get m p) none ∙ get-empty place_cmp p in cc

-- contents are the same where they are at each place
pub same_contents : (m n : Contents) → ((q : Place) → fin.get m q ≡ fin.get n q) → m ≡ n
same_contents m n h = same_map place_cmp-IsTotalOrder place_cmp-IsAntisymmetric m n h
