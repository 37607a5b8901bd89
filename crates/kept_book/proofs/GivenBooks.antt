-- Sheets that an engine begins with, and the texts that are given to their cells from the last to the first. Serves
-- the making of a workbook.
use Rattle.std.proofs.Common.{◌≡◌, ◌≢◌, ◌∙◌, sym, ap, subst, refl, arith, ℕ, zero, suc, ◌<◌, ◌+◌, List, [], ◌∷◌, ◌++◌, length, get_or, take, drop, Option, Some, None, option_map, IsSome, Bool, true, false, cond, ◌==◌, Result, Ok, Err}
use Rattle.std.specs.List.{All, AllPairs, filter_map, cons_option}
use Rattle.std.specs.FinMap as fin
use Rattle.std.proofs.lemmas.List.{drop_more, get_or-take, length-map, length-take-le, drop_all}
use Rattle.std.proofs.Math.ListN.{get_or-map}
use Rattle.std.proofs.lemmas.Grind.{take_at_read}
use Rattle.cell_addr.specs.Text.{folded}
use Rattle.cell_addr.specs.declared.place.Place.{Place}
use Rattle.book_values.specs.Book.{Book as Contents, Content}
use Rattle.name_table.specs.SheetLists.{CanJoin}
use Rattle.std.specs.Prelude.{ℤ}
use Rattle.cell_value.specs.Scalar.{read_truth}
use Rattle.cell_value.specs.declared.fault.FaultKind.{FaultKind}
use Rattle.fix_num.specs.Text.{number_of}
use Rattle.fix_num.specs.declared.error.NumError.{NumError}
use Rattle.book_model.specs.Changes.{placed}
use Rattle.book_model.specs.Content.{content_given, content_of, plain_content, word_content}
use Rattle.book_model.specs.declared.content.ContentText.TheVariants as said
use Rattle.book_model.specs.Given.{CanBegin, IsGivenCell, IsGivenSheet, given_entries, given_entry, given_sheet, given_sheets, numbered}
use Rattle.book_model.specs.Workbook.{Workbook}
use Rattle.book_model.specs.declared.given.BookCell.{BookCell}
use Rattle.book_model.specs.declared.given.BookSheet.{BookSheet}
use Rattle.kept_book.specs.internal.Cells.{with_cells, with_given}

-- a workbook with these sheets, their cells empty
abbrev pub empty_workbook : List BookSheet → Workbook
empty_workbook books = record { sheets = numbered 0 (given_sheets books); cells = fin.empty; names = fin.empty }

get_or-numbered : (n : ℕ) (books : List BookSheet) (i : ℕ) (d : ℕ × List ℕ) (e : BookSheet) → i < length books → get_or (numbered n (given_sheets books)) i d ≡ (n + i, (get_or books i e).name)
get_or-numbered n [] i d e l = absurd (omega arith)
get_or-numbered n (b ∷ books) zero d e l = let same : n ≡ n + 0 = omega arith in λ i. (same i, b.name)
get_or-numbered n (b ∷ books) (suc i) d e l =
    let same : (n + 1) + i ≡ n + suc i = omega arith in
    get_or-numbered (n + 1) books i d e (omega arith) ∙ (λ j. (same j, (get_or books i e).name))

length-numbered : (n : ℕ) (books : List BookSheet) → length (numbered n (given_sheets books)) ≡ length books
length-numbered n [] = refl
length-numbered n (b ∷ books) = ap suc (length-numbered (n + 1) books)

-- the names of two sheets
apart_at : (books : List BookSheet) (i j : ℕ) (b : BookSheet) → AllPairs (λ s t. folded s.name ≢ folded t.name) (given_sheets books) → i < j → j < length books → folded (get_or books i b).name ≢ folded (get_or books j b).name
apart_at books i j b h below inside =
    let long = length-map books given_sheet in
    let one = get_or-map given_sheet books i b in
    let two = get_or-map given_sheet books j b in
    λ same. h i j (given_sheet b) below (omega (arith, long, inside)) (ap (λ s. folded s.name) one ∙ same ∙ sym (ap (λ s. folded s.name) two))

-- the cells of a sheet
pub given_cells : (books : List BookSheet) (i : ℕ) (b : BookSheet) → CanBegin (given_sheets books) → i < length books → b ≡ get_or books i b → All IsGivenCell b.cells.list.items
given_cells books i b can inside at =
    let long = length-map books given_sheet in
    let given = subst IsGivenSheet (get_or-map given_sheet books i b) (can.0 i (given_sheet b) (omega (arith, long, inside))) in
    subst (λ s. All IsGivenCell s.cells.list.items) (sym at) given.1

-- the next sheet can join those before it
pub can_join_given : (books : List BookSheet) (i : ℕ) (b : BookSheet) (n : ℕ) (sheets : List (ℕ × List ℕ)) (name : List ℕ) → CanBegin (given_sheets books) → i < length books → b ≡ get_or books i b
    → n ≡ i → sheets ≡ numbered 0 (given_sheets (take i books)) → name ≡ b.name → CanJoin n name sheets
can_join_given books i b n sheets name can inside at same listed named =
    let few = can.2 in
    let many = length-map books given_sheet in (
      (λ e. absurd (omega (arith, few, many, inside, same, e))),
      λ k d l.
          let long = ap length listed ∙ length-numbered 0 (take i books) ∙ length-take-le i books (omega (arith, inside)) in
          let below : k < i = omega (arith, long, l) in
          let there = ap (λ s. get_or s k d) listed ∙ get_or-numbered 0 (take i books) k d b (let t = length-take-le i books (omega (arith, inside)) in omega (arith, below, t)) in
          let book = get_or-take i books k b below in (
            (λ e. let number = ap (λ s. s.0) there in absurd (omega (arith, number, e, same, below))),
            (λ e.
                apart_at books k i b can.1 below inside
                (sym (ap (λ s. folded s.name) book) ∙ sym (ap (λ s. folded s.1) there) ∙ e ∙ ap folded named ∙ ap (λ s. folded s.name) at)),
          ),
    )

numbered-push : (n : ℕ) (books : List BookSheet) (b : BookSheet) → numbered n (given_sheets (books ++ b ∷ [])) ≡ numbered n (given_sheets books) ++ (n + length books, b.name) ∷ []
numbered-push n [] b = let same : n ≡ n + 0 = omega arith in λ i. (same i, b.name) ∷ []
numbered-push n (a ∷ books) b =
    let same : (n + 1) + length books ≡ n + suc (length books) = omega arith in
    ap (λ s. (n, a.name) ∷ s) (numbered-push (n + 1) books b ∙ (λ i. numbered (n + 1) (given_sheets books) ++ (same i, b.name) ∷ []))

-- a workbook with one more sheet
abbrev pub with_one : Workbook → ℕ → List ℕ → Workbook
with_one b n name = record { sheets = b.sheets ++ (n, name) ∷ []; cells = b.cells; names = b.names }

one_more : (books : List BookSheet) (b : BookSheet) → with_one (empty_workbook books) (length books) b.name ≡ empty_workbook (books ++ b ∷ [])
one_more books b =
    let same : length books ≡ 0 + length books = omega arith in
    ap (λ n. record { sheets = numbered 0 (given_sheets books) ++ (n, b.name) ∷ []; cells = fin.empty; names = fin.empty }) same
    ∙ ap (λ s. record { sheets = s; cells = fin.empty; names = fin.empty }) (sym (numbered-push 0 books b))

-- the sheets with the next one
pub joined : (books : List BookSheet) (i : ℕ) (b : BookSheet) (d e : Workbook) (n : ℕ) (name : List ℕ) → i < length books → b ≡ get_or books i b → d ≡ empty_workbook (take i books) → n ≡ i → name ≡ b.name
    → e ≡ with_one d n name → e ≡ empty_workbook (take (i + 1) books)
joined books i b d e n name inside at same number named new =
    let t = take i books in
    let one : t ++ b ∷ [] ≡ take (i + 1) books = sym ((take_at_read books i b inside).1 ∙ ap (λ x. t ++ x ∷ []) (sym at)) in
    let long : i ≡ length t = let l = length-take-le i books (omega (arith, inside)) in omega (arith, l) in
    new ∙ ap (λ x. with_one x n name) same ∙ ap (λ k. with_one (empty_workbook t) k name) (number ∙ long) ∙ ap (with_one (empty_workbook t) (length t)) named
    ∙ one_more t b ∙ ap empty_workbook one

cons-given : (r : Option (Place × Content)) (es : List (Place × Content)) (m : Contents) → with_given (cons_option r es) m ≡ with_given (cons_option r []) (with_given es m)
cons-given None es m = refl
cons-given (Some e) es m = refl

append-given : (es fs : List (Place × Content)) (m : Contents) → with_given (es ++ fs) m ≡ with_given es (with_given fs m)
append-given [] fs m = refl
append-given (e ∷ es) fs m = ap (λ n. fin.insert n e.0 e.1) (append-given es fs m)

-- entries over no contents are those of the map that they make
pub given-empty : (es : List (Place × Content)) → with_given es fin.empty ≡ fin.from_entries es
given-empty [] = refl
given-empty (e ∷ es) = ap (λ n. fin.insert n e.0 e.1) (given-empty es)

-- the workbook after the cells of a sheet from a number on were given their texts
abbrev pub given_from : ℕ → List BookCell → ℕ → Workbook → Workbook
given_from sheet cells i d = with_cells (with_given (filter_map (given_entry d.sheets sheet) (drop i cells)) d.cells) d

-- from the end on nothing is given
pub given_none : (sheet : ℕ) (cells : List BookCell) (d : Workbook) → d ≡ given_from sheet cells (length cells) d
given_none sheet cells d = ap (λ es. with_cells (with_given (filter_map (given_entry d.sheets sheet) es) d.cells) d) (sym (drop_all (length cells) cells (omega arith)))

-- and then one cell more
pub given_one : (sheet : ℕ) (cells : List BookCell) (i : ℕ) (c : BookCell) (d now next : Workbook) → i < length cells → c ≡ get_or cells i c → now ≡ given_from sheet cells (i + 1) d
    → next ≡ with_cells (with_given (cons_option (given_entry now.sheets sheet c) []) now.cells) now → next ≡ given_from sheet cells i d
given_one sheet cells i c d now next inside at same new =
    let f = given_entry d.sheets sheet in
    new ∙ ap (λ x. with_cells (with_given (cons_option (given_entry x.sheets sheet c) []) x.cells) x) same
    ∙ ap (λ m. with_cells m d) (sym (cons-given (f c) (filter_map f (drop (i + 1) cells)) d.cells))
    ∙ ap (λ es. with_cells (with_given (filter_map f es) d.cells) d) (sym (drop_more cells i c inside ∙ ap (λ x. x ∷ drop (i + 1) cells) (sym at)))

-- the workbook after the cells of the sheets from a number on were given their texts
abbrev pub sheets_given_from : List BookSheet → ℕ → Workbook → Workbook
sheets_given_from books i d = with_cells (with_given (given_entries d.sheets i (given_sheets (drop i books))) d.cells) d

pub sheets_given_none : (books : List BookSheet) (d : Workbook) → d ≡ sheets_given_from books (length books) d
sheets_given_none books d = ap (λ es. with_cells (with_given (given_entries d.sheets (length books) (given_sheets es)) d.cells) d) (sym (drop_all (length books) books (omega arith)))

pub sheets_given_one : (books : List BookSheet) (i : ℕ) (b : BookSheet) (cells : List BookCell) (d now next : Workbook) → i < length books → b ≡ get_or books i b → cells ≡ b.cells.list.items → now ≡ sheets_given_from books (i + 1) d
    → next ≡ with_cells (with_given (filter_map (given_entry now.sheets i) cells) now.cells) now → next ≡ sheets_given_from books i d
sheets_given_one books i b cells d now next inside at items same new =
    let f = given_entry d.sheets i in
    new ∙ ap (λ x. with_cells (with_given (filter_map (given_entry x.sheets i) cells) x.cells) x) same
    ∙ ap (λ es. with_cells (with_given (filter_map f es) (with_given (given_entries d.sheets (i + 1) (given_sheets (drop (i + 1) books))) d.cells)) d) items
    ∙ ap (λ m. with_cells m d) (sym (append-given (filter_map f b.cells.list.items) (given_entries d.sheets (i + 1) (given_sheets (drop (i + 1) books))) d.cells))
    ∙ ap (λ es. with_cells (with_given (given_entries d.sheets i (given_sheets es)) d.cells) d) (sym (drop_more books i b inside ∙ ap (λ x. x ∷ drop (i + 1) books) (sym at)))

-- a text that isn't empty says something
says-word : (sheets : List (ℕ × List ℕ)) (sheet : ℕ) (r : Result Bool FaultKind) (text : List ℕ) → IsSome (content_given sheets sheet (word_content r text))
says-word sheets sheet (Ok b) text = refl
says-word sheets sheet (Err f) text = refl

says-plain : (sheets : List (ℕ × List ℕ)) (sheet : ℕ) (r : Result ℤ NumError) (text : List ℕ) → IsSome (content_given sheets sheet (plain_content r text))
says-plain sheets sheet (Ok m) text = refl
says-plain sheets sheet (Err e) text = says-word sheets sheet (read_truth text) text

says-some : (sheets : List (ℕ × List ℕ)) (sheet x : ℕ) (xs : List ℕ) → IsSome (content_given sheets sheet (content_of (x ∷ xs)))
says-some sheets sheet x xs = go (x == 61)
  where
    go : (b : Bool) → IsSome (content_given sheets sheet (cond b (said.Formula (x ∷ xs)) (plain_content (number_of (x ∷ xs)) (x ∷ xs))))
    go true = refl
    go false = says-plain sheets sheet (number_of (x ∷ xs)) (x ∷ xs)

placed-some : (at : Place) (r : Option Content) (m : Contents) → IsSome r → placed at r m ≡ with_given (cons_option (option_map (λ y. (at, y)) r) []) m
placed-some at None m some = cc
placed-some at (Some y) m some = refl

-- it gives its cell that
pub given-text : (sheets : List (ℕ × List ℕ)) (at : Place) (text : List ℕ) (m : Contents) → text ≢ []
    → placed at (content_given sheets at.sheet (content_of text)) m ≡ with_given (cons_option (option_map (λ y. (at, y)) (content_given sheets at.sheet (content_of text))) []) m
given-text sheets at [] m filled = absurd (filled refl)
given-text sheets at (x ∷ xs) m filled = placed-some at (content_given sheets at.sheet (content_of (x ∷ xs))) m (says-some sheets at.sheet x xs)
