-- The contents that texts give, and where contents stand after one place or some are changed. Serves the laws of sessions.
use Rattle.std.proofs.Common.{◌≡◌, ◌∙◌, sym, ap, subst, refl, inl, inr, ℕ, Bool, true, false, cond, not, List, Option, Some, None}
use Rattle.std.specs.FinMap as map
use Rattle.std.specs.FinMap.{get-insert, get-remove, get-retain_keys}
use Rattle.std.specs.declared.cmp.Ordering.{Ordering}
use Rattle.std.specs.declared.cmp.Ordering.TheVariants.{Less, Equal, Greater}
use Rattle.std.specs.Ordering.{eq_by_cmp, is_eq}
use Rattle.cell_addr.specs.declared.place.Place.{Place}
use Rattle.cell_addr.specs.Order.{place_cmp}
use Rattle.cell_addr.specs.Sheets.{id_in, name_in, AreSheets}
use Rattle.cell_addr.proofs.Places.{place_cmp-IsTotalOrder, place_cmp-IsAntisymmetric}
use Rattle.book_values.specs.Book.{Book as Contents, Content, number, truth, text, formula}
use Rattle.formula_parse.proofs.CanonicalRead.{named-apart}
use Rattle.formula_tree.proofs.Exact.{text_reader-exact}
use Rattle.formula_tree.proofs.ProperTrees.{spelled-proper, spelled-listed}
use Rattle.formula_tree.specs.Term.{Term}
use Rattle.formula_tree.specs.declared.reference.Corner.{Corner}
use Rattle.book_values.specs.Workbook.{scope_sheet}
use Rattle.book_model.specs.Workbook.{Workbook, has_scope, has_sheet}
use Rattle.book_model.specs.Content.{content_given, formula_content, tree_given}
use Rattle.book_model.specs.Changes.{name_tree, placed}
use Rattle.book_model.specs.Names.{are_absolute}
use Rattle.book_model.specs.Sound.{IsContentOf}
use Rattle.book_model.specs.declared.content.ContentText.{ContentText}
use Rattle.book_model.specs.declared.content.ContentText.TheVariants as said
use Rattle.book_model.proofs.KnownSheets.{all_stand, some_stand}
use Rattle.book_model.proofs.NameMaps.{absolute-sheet}

-- a tree that a text spells on a sheet of the book is a content of the book
read_content : (b : Workbook) (sheet : ℕ) (w : List ℕ) (t : Term Corner) → AreSheets b.sheets → has_sheet b sheet ≡ true → tree_given b.sheets sheet w ≡ Some t → IsContentOf b (formula t)
read_content b sheet w t are here read =
    let spelt = (text_reader-exact sheet (id_in b.sheets) w t).0 read in
    let proper = spelled-proper sheet (id_in b.sheets) w t spelt.0 in
    (proper, all_stand b.sheets sheet t here proper (spelled-listed sheet (id_in b.sheets) (name_in b.sheets) w t (named-apart b.sheets are.0) spelt.0))

-- so is one that it spells for a name, where none of its corners depends on where it is named
pub named_is : (b : Workbook) (scope : Option ℕ) (w : List ℕ) (t : Term Corner) → AreSheets b.sheets → has_scope b scope ≡ true → name_tree scope w b ≡ Some t → are_absolute t ≡ true → IsContentOf b (formula t)
named_is b (Some sheet) w t are here read fixed = read_content b sheet w t are here read
named_is b None w t are here read fixed =
    let spelt = (text_reader-exact (scope_sheet None) (id_in b.sheets) w t).0 read in
    let proper = spelled-proper (scope_sheet None) (id_in b.sheets) w t spelt.0 in
    let listed = spelled-listed (scope_sheet None) (id_in b.sheets) (name_in b.sheets) w t (named-apart b.sheets are.0) spelt.0 in
    (proper, λ sheet i. elim (some_stand b.sheets (scope_sheet None) t proper listed sheet i) [ inl e ↦ absurd (absolute-sheet t fixed sheet i e) | inr h ↦ h ])

formula_is : (b : Workbook) (sheet : ℕ) (found : Option (Term Corner)) (w : List ℕ) → AreSheets b.sheets → has_sheet b sheet ≡ true → tree_given b.sheets sheet w ≡ found → IsContentOf b (formula_content found w)
formula_is b sheet None w are here read = tt
formula_is b sheet (Some t) w are here read = read_content b sheet w t are here read

same_content : (b : Workbook) (c d : Content) → Some c ≡ Some d → IsContentOf b c → IsContentOf b d
same_content b c d e h = let same : c ≡ d = cc in subst (IsContentOf b) same h

-- what a text gives on a sheet of the book is a content of the book
pub given_is : (b : Workbook) (sheet : ℕ) (g : ContentText) (c : Content) → AreSheets b.sheets → has_sheet b sheet ≡ true → content_given b.sheets sheet g ≡ Some c → IsContentOf b c
given_is b sheet said.Clear c are here e = cc
given_is b sheet (said.Number m) c are here e = same_content b (number m) c e tt
given_is b sheet (said.Truth q) c are here e = same_content b (truth q) c e tt
given_is b sheet (said.Text w) c are here e = same_content b (text w) c e tt
given_is b sheet (said.Formula w) c are here e = same_content b (formula_content (tree_given b.sheets sheet w) w) c e (formula_is b sheet (tree_given b.sheets sheet w) w are here refl)

changed : (P : Content → Type 0) (b : Bool) (change old : Option Content) (c : Content) → cond b change old ≡ Some c → (b ≡ true → change ≡ Some c → P c) → (old ≡ Some c → P c) → P c
changed P true change old c e new kept = new refl e
changed P false change old c e new kept = kept e

equal_of : (o : Ordering) → is_eq o ≡ true → o ≡ Equal
equal_of Less h = cc
equal_of Equal h = refl
equal_of Greater h = cc

pub is_at : (p q : Place) → eq_by_cmp place_cmp q p ≡ true → p ≡ q
is_at p q e = sym (place_cmp-IsAntisymmetric q p (equal_of (place_cmp q p) e))

-- where one place is changed, what holds of the old cells and of the new one holds of all
pub placed_cells : (P : Place → Content → Type 0) (at : Place) (c : Option Content) (cells : Contents)
    → ((x : Content) → c ≡ Some x → P at x) → ((p : Place) (x : Content) → map.get cells p ≡ Some x → P p x)
    → (p : Place) (x : Content) → map.get (placed at c cells) p ≡ Some x → P p x
placed_cells P at None cells new old p x e =
    changed (P p) (eq_by_cmp place_cmp p at) None (map.get cells p) x (sym (get-remove place_cmp-IsTotalOrder cells at p) ∙ e) (λ t n. cc) (old p x)
placed_cells P at (Some c) cells new old p x e =
    changed (P p) (eq_by_cmp place_cmp p at) (Some c) (map.get cells p) x (sym (get-insert place_cmp-IsTotalOrder cells at c p) ∙ e)
    (λ t n. subst (λ q. P q x) (is_at at p t) (new x n)) (old p x)

-- where cells are emptied, what holds of the old cells holds of those that are left
pub emptied_cells : (P : Place → Content → Type 0) (test : Place → Bool) (cells : Contents)
    → ((p : Place) (x : Content) → map.get cells p ≡ Some x → P p x)
    → (p : Place) (x : Content) → map.get (map.retain_keys cells (λ q. not (test q))) p ≡ Some x → P p x
emptied_cells P test cells old p x e =
    changed (P p) (not (test p)) (map.get cells p) None x
    (sym (get-retain_keys cells (λ q. not (test q)) p (λ q t. ap (λ r. not (test r)) (sym (place_cmp-IsAntisymmetric p q t)))) ∙ e)
    (λ t n. old p x n) (λ n. cc)
