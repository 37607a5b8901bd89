-- Changes of cells leave all other nodes alone. Serves the laws.
use Rattle.std.proofs.Common.{◌≡◌, ◌∙◌, sym, ap, refl, subst, Bool, true, false, cond, not, [], ◌∷◌, Option, Some, None, is_some, inl, inr}
use Rattle.std.specs.Prelude.{◌⊎◌, IsTrue}
use Rattle.std.specs.FinMap as map
use Rattle.std.specs.FinMap.{get-insert, get-remove, get-retain_keys}
use Rattle.std.specs.Ordering.{eq_by_cmp}
use Rattle.std.proofs.lemmas.Bool.{false≢true}
use Rattle.cell_addr.specs.Order.{place_cmp}
use Rattle.cell_addr.specs.Place.{IsBlockInside, covers}
use Rattle.cell_addr.specs.declared.place.Block.{Block}
use Rattle.cell_addr.specs.declared.place.Place.{Place}
use Rattle.cell_addr.proofs.Places.{place_cmp-IsAntisymmetric, place_cmp-IsTotalOrder}
use Rattle.shift_core.specs.Carried.{destination}
use Rattle.book_values.specs.Book.{Book as Contents, Content}
use Rattle.dep_graph.specs.Nodes.{has}
use Rattle.dep_graph.specs.declared.node.Node.TheVariants.{Cell}
use Rattle.dep_graph.proofs.Places.{has_first}
use Rattle.marked_values.proofs.Alone.{cells_alone}
use Rattle.book_model.specs.Answers.{valued}
use Rattle.book_model.specs.Changes.{emptied, placed, with_content, with_copy}
use Rattle.book_model.specs.Workbook.{Workbook}
use Rattle.book_model.specs.Content.{content_given, content_of}
use Rattle.book_model.proofs.Contents.{is_at}
use Rattle.book_model.proofs.PastedCells.{get-pasted}
use Rattle.marked_books.specs.Operations.{EmptyingLeavesAlone, PastingLeavesAlone, SettingLeavesAlone, SheetsLeaveAlone}

-- another place isn't changed
pub other_place : (at p : Place) (c : Option Content) (cells : Contents) → ¬ (p ≡ at) → map.get cells p ≡ map.get (placed at c cells) p
other_place at p c cells apart = by (eq_by_cmp place_cmp p at) refl c
  where
    by : (t : Bool) → eq_by_cmp place_cmp p at ≡ t → (c : Option Content) → map.get cells p ≡ map.get (placed at c cells) p
    by true e c = absurd (apart (sym (is_at at p e)))
    by false e None = sym (get-remove place_cmp-IsTotalOrder cells at p ∙ ap (λ t. cond t None (map.get cells p)) e)
    by false e (Some x) = sym (get-insert place_cmp-IsTotalOrder cells at x p ∙ ap (λ t. cond t (Some x) (map.get cells p)) e)

pub setting_leaves_alone : SettingLeavesAlone
setting_leaves_alone at text b words =
    cells_alone (valued b) (valued (with_content at text b)) words (Cell at ∷ []) refl
    (λ p out. other_place at p (content_given b.sheets at.sheet (content_of text)) b.cells (λ same. out (subst (λ q. IsTrue (has (Cell q) (Cell at ∷ []))) (sym same) (has_first (Cell at) []))))

-- what wasn't filled stays so
unfilled : (o : Option Content) → ¬ (is_some o ≡ true) → o ≡ None
unfilled None h = refl
unfilled (Some x) h = absurd (h refl)

not_chosen : (t : Bool) (x y : Option Content) → t ≡ false → cond t x y ≡ y
not_chosen true x y e = absurd (false≢true (sym e))
not_chosen false x y e = refl

-- a cell that isn't emptied, or is empty, stays
pub unemptied : (test : Place → Bool) (b : Workbook) (p : Place) → (test p ≡ true → ¬ (is_some (map.get b.cells p) ≡ true)) → map.get b.cells p ≡ map.get (emptied test b).cells p
unemptied test b p out = sym (left ∙ by (test p) refl)
  where
    left : map.get (emptied test b).cells p ≡ cond (not (test p)) (map.get b.cells p) None
    left = get-retain_keys b.cells (λ q. not (test q)) p (λ q t. ap (λ r. not (test r)) (sym (place_cmp-IsAntisymmetric p q t)))

    by : (t : Bool) → test p ≡ t → cond (not (test p)) (map.get b.cells p) None ≡ map.get b.cells p
    by false e = ap (λ t. cond (not t) (map.get b.cells p) None) e
    by true e = ap (λ t. cond (not t) (map.get b.cells p) None) e ∙ sym (unfilled (map.get b.cells p) (out e))

pub emptying_leaves_alone : EmptyingLeavesAlone
emptying_leaves_alone test b words changed marked = cells_alone (valued b) (valued (emptied test b)) words changed refl (λ p out. unemptied test b p (λ e there. out (marked p e there)))

-- so does one to which nothing is pasted, or that is empty before and after
pub unpasted : (area : Block) (copy : Contents) (at : Place) (b : Workbook) (p : Place) → IsBlockInside area
    → (covers (destination area at) p ≡ true → ¬ ((is_some (map.get b.cells p) ≡ true) ⊎ (is_some (map.get (with_copy area copy at b).cells p) ≡ true)))
    → map.get b.cells p ≡ map.get (with_copy area copy at b).cells p
unpasted area copy at b p inside out = by (covers (destination area at) p) refl
  where
    by : (t : Bool) → covers (destination area at) p ≡ t → map.get b.cells p ≡ map.get (with_copy area copy at b).cells p
    by true e = unfilled (map.get b.cells p) (λ there. out e (inl there)) ∙ sym (unfilled (map.get (with_copy area copy at b).cells p) (λ there. out e (inr there)))
    by false e = sym (get-pasted area copy at b p inside ∙ not_chosen (covers (destination area at) p) _ _ e)

pub pasting_leaves_alone : PastingLeavesAlone
pasting_leaves_alone area copy at b words changed inside marked =
    cells_alone (valued b) (valued (with_copy area copy at b)) words changed refl (λ p out. unpasted area copy at b p inside (λ e there. out (marked p e there)))

pub sheets_leave_alone : SheetsLeaveAlone
sheets_leave_alone sheet name b = (refl, refl)
