-- Words that find no name, of formulas and over operations. Serves what notes them, and what takes values along.
use Rattle.std.proofs.Common.{◌≡◌, ◌∙◌, sym, ap, ◌&&◌, Bool, true, false, cond, List, [], ◌∷◌, ◌++◌, take, get_or, length, ◌<◌, ◌+◌, ◌||◌, ℕ, Option, Some, None, ◌⊎◌, inl, inr, ⊎_elim}
use Rattle.std.specs.FinMap as map
use Rattle.std.specs.Prelude.{bytes_eq}
use Rattle.std.specs.List.{list_any}
use Rattle.std.specs.Option.{is_none}
use Rattle.std.proofs.lemmas.Bool.{and_parts, false≢true, false_from_ne_true, or_cases}
use Rattle.std.proofs.lemmas.List.{take_more}
use Rattle.std.proofs.lemmas.List.Folds.{list_any-append}
use Rattle.cell_addr.proofs.Listed.{folded-same_name}
use Rattle.cell_addr.specs.Sheets.{same_name}
use Rattle.cell_addr.specs.Text.{folded}
use Rattle.cell_addr.specs.declared.place.Place.{Place}
use Rattle.formula_tree.specs.Links.{names_in, once}
use Rattle.formula_tree.specs.Reference.{sheet_of}
use Rattle.formula_tree.specs.Term.{Term}
use Rattle.formula_tree.specs.declared.reference.Corner.{Corner}
use Rattle.shift_core.specs.Tables.{place_after}
use Rattle.shift_core.specs.declared.shift.Shift.{Shift}
use Rattle.tree_rewrite.specs.Rewritten.{area_after, rewritten}
use Rattle.carried_terms.proofs.Needs.{names_stay}
use Rattle.carried_books.specs.Moved.{is_bare}
use Rattle.book_values.specs.Book.{Content}
use Rattle.book_values.specs.Names.{Names, found}
use Rattle.book_values.specs.Workbook as book
use Rattle.book_values.specs.Workbook.{Workbook, content_tree, home_of, tree_at}
use Rattle.recalc_core.proofs.Bridge.{none_some}
use Rattle.recalc_core.proofs.ReadNames.{found_alike}
use Rattle.marked_values.specs.Shifts.{IsBookAfter}
use Rattle.marked_values.proofs.Pairs.{FindsSame}
use Rattle.kept_values.specs.Values.{seeks, seeks_at}
use Rattle.kept_values.proofs.FoundNames.{any_once}

-- each word once is as good as all
pub seeks_once : (names : Names) (sheet : ℕ) (word : List ℕ) (t : Term Corner) (asked : List (List ℕ)) → asked ≡ once same_name (names_in t) → list_any (λ w. same_name word w && is_none (found names w sheet)) asked ≡ seeks names sheet word t
seeks_once names sheet word t asked is =
    any_once (λ w. same_name word w && is_none (found names w sheet)) (λ v w same. (λ i. ap (bytes_eq (folded word)) (folded-same_name v w same) i && is_none (found_alike names v w sheet same i))) (names_in t) asked is

-- words that find what they found seek what they sought
pub still_seeks : (s : Shift) (b c : Workbook) (over : IsBookAfter s b c) (x z : book.Node) (t : Term Corner) (word : List ℕ) → FindsSame s b c over x z → seeks_at c word z (rewritten s t) ≡ seeks_at b word x t
still_seeks s b c over x z t word finds =
    ap (list_any (λ w. same_name word w && is_none (found c.names w (sheet_of (home_of z))))) (names_stay (place_after s) (area_after s) (λ p. false) t)
    ∙ (λ i. list_any (λ w. same_name word w && is_none (finds w i)) (names_in t))

none_there : (o : Option Content) → is_none o ≡ true → o ≡ None
none_there None h = λ i. None
none_there (Some x) h = absurd (false≢true h)

-- where a formula is, it isn't bare
pub filled_after : (b c : Workbook) (q : Place) (u : Term Corner) → tree_at c (book.place q) ≡ Some u → is_bare b c q ≡ false
filled_after b c q u is = false_from_ne_true (is_bare b c q) (λ bare.
    none_some u (sym (ap content_tree (none_there (map.get c.cells q) (and_parts (is_none (map.get b.cells q)) (is_none (map.get c.cells q)) bare).1)) ∙ is))

pub filled_before : (b c : Workbook) (p : Place) (t : Term Corner) → tree_at b (book.place p) ≡ Some t → is_bare b c p ≡ false
filled_before b c p t is = false_from_ne_true (is_bare b c p) (λ bare.
    none_some t (sym (ap content_tree (none_there (map.get b.cells p) (and_parts (is_none (map.get b.cells p)) (is_none (map.get c.cells p)) bare).0)) ∙ is))

-- what passes of one word more passed of those before it, or is it
pub any_last : (test : List ℕ → Bool) (words : List (List ℕ)) (i : ℕ) (word : List ℕ) → take (i + 1) words ≡ take i words ++ word ∷ [] → list_any test (take (i + 1) words) ≡ true → (list_any test (take i words) ≡ true) ⊎ (test word ≡ true)
any_last test words i word more h = ⊎_elim
    (λ (front : list_any test (take i words) ≡ true). inl front)
    (λ (last : (test word || false) ≡ true). inr (alone (test word) last))
    (or_cases (list_any test (take i words)) (test word || false) (sym (ap (list_any test) more ∙ list_any-append test (take i words) (word ∷ [])) ∙ h))
  where
    alone : (m : Bool) → (m || false) ≡ true → m ≡ true
    alone true is = λ i. true
    alone false is = is
