-- What the sheets of books come to, one book after the other. Serves the books that a run is told.
use Rattle.std.proofs.Common.{◌≡◌, ◌∙◌, sym, ap, refl, arith, ℕ, suc, ◌+◌, ◌≤◌, ◌<◌, Bool, true, false, List, [], ◌∷◌, ◌++◌, length, drop, get_or, Result, Ok, Err, add-one, drop-cons}
use Rattle.std.specs.Prelude.{string_bytes}
use Rattle.std.proofs.lemmas.List.{drop_all, map-append}
use Rattle.std.proofs.lemmas.Slice.Eq.{bytes_eq-Decides}
use Rattle.cell_addr.specs.Sheets.{same_name}
use Rattle.cell_addr.specs.Text.{folded}
use Rattle.book_files.specs.Folder.{Files}
use Rattle.book_model.specs.Given.{GivenSheet, given_sheet, given_sheets}
use Rattle.book_model.specs.declared.given.BookSheet.{BookSheet}
use Rattle.run_inputs.specs.Ends.{ComesTo}
use Rattle.run_inputs.specs.Opening.{book_joined, books_joined, has_name, sheets_told}
use Rattle.run_inputs.specs.Outcome.{Outcome, and_then, ended}
use Rattle.run_inputs.specs.declared.ending.Ending.{Ending}
use Rattle.run_inputs.specs.declared.ending.Ending.TheVariants as ending

-- the items from one on are it and those behind it
from_item : {X : Type 0} (xs : List X) (i : ℕ) (x : X) → i < length xs → x ≡ get_or xs i x → drop i xs ≡ x ∷ drop (i + 1) xs
from_item xs i x inside is = rw add-one (drop-cons xs i x inside ∙ ap (λ y. y ∷ drop (suc i) xs) (sym is))

is_same : (a b : List ℕ) → folded a ≡ folded b → same_name a b ≡ true
is_same a b same = (bytes_eq-Decides (folded a) (folded b)).1 same

by_case : (b : Bool) → (b ≡ true → ⊥) → b ≡ false
by_case true h = absurd (h refl)
by_case false h = refl

is_other : (a b : List ℕ) → (folded a ≡ folded b → ⊥) → same_name a b ≡ false
is_other a b other = by_case (same_name a b) (λ t. other ((bytes_eq-Decides (folded a) (folded b)).0 t))

-- the first of the sheets that are left has the name
pub name_here : (sheets : List BookSheet) (i : ℕ) (s : BookSheet) (name : List ℕ) → i < length sheets → s ≡ get_or sheets i s → folded s.name ≡ folded name → has_name (given_sheets (drop i sheets)) name ≡ true
name_here sheets i s name inside is same = rw (from_item sheets i s inside is, is_same s.name name same) refl

-- the first of the sheets that are left has another name
pub name_behind : (sheets : List BookSheet) (i : ℕ) (s : BookSheet) (name : List ℕ) → i < length sheets → s ≡ get_or sheets i s → (folded s.name ≡ folded name → ⊥)
    → has_name (given_sheets (drop i sheets)) name ≡ has_name (given_sheets (drop (i + 1) sheets)) name
name_behind sheets i s name inside is other = rw (from_item sheets i s inside is, is_other s.name name other) refl

-- an end of a part is one of the whole
pub end_through : {X Y Z W : Type 0} (seen : X → Y) (sees : Z → W) (said : Result Y Outcome) (whole : Result W Outcome) (e : Ending) → ((o : Outcome) → said ≡ Err o → whole ≡ Err o) → ComesTo seen said (Err e) → ComesTo sees whole (Err e)
end_through seen sees said whole (ending.Says text status) through comes = through (ended status (string_bytes text)) comes
end_through seen sees said whole ending.ReadFault through comes = tt
end_through seen sees said whole ending.NoMemory through comes = tt

-- books, of which there is one
pub some_told : (told : Files) (files : List (List ℕ)) → 0 < length files → sheets_told told files ≡ books_joined told [] files
some_told told [] some = absurd (omega arith)
some_told told (file ∷ files) some = refl

-- no book is left
pub none_left : (told : Files) (sheets : List GivenSheet) (files : List (List ℕ)) (i : ℕ) → length files ≤ i → books_joined told sheets (drop i files) ≡ Ok sheets
none_left told sheets files i past = rw (drop_all i files past) refl

-- a book, and those behind it
next_book : (told : Files) (sheets : List GivenSheet) (files : List (List ℕ)) (i : ℕ) (file : List ℕ) → i < length files → file ≡ get_or files i file
    → books_joined told sheets (drop i files) ≡ and_then (book_joined told sheets file) (λ more. books_joined told more (drop (i + 1) files))
next_book told sheets files i file inside is = rw (from_item files i file inside is) refl

-- a book was read, and its sheet stands behind the others
pub book_read : (told : Files) (sheets : List BookSheet) (files : List (List ℕ)) (i : ℕ) (file : List ℕ) (s : BookSheet) → i < length files → file ≡ get_or files i file → book_joined told (given_sheets sheets) file ≡ Ok (given_sheets sheets ++ given_sheet s ∷ [])
    → books_joined told (given_sheets sheets) (drop i files) ≡ books_joined told (given_sheets (sheets ++ s ∷ [])) (drop (i + 1) files)
book_read told sheets files i file s inside is read =
    next_book told (given_sheets sheets) files i file inside is
    ∙ ap (λ r. and_then r (λ more. books_joined told more (drop (i + 1) files))) read
    ∙ ap (λ more. books_joined told more (drop (i + 1) files)) (sym (map-append given_sheet sheets (s ∷ [])))

-- a run ends at a book
pub book_ends : (told : Files) (sheets : List GivenSheet) (files : List (List ℕ)) (i : ℕ) (file : List ℕ) (o : Outcome) → i < length files → file ≡ get_or files i file → book_joined told sheets file ≡ Err o → books_joined told sheets (drop i files) ≡ Err o
book_ends told sheets files i file o inside is ends = next_book told sheets files i file inside is ∙ ap (λ r. and_then r (λ more. books_joined told more (drop (i + 1) files))) ends
