-- The fault that is answered is the first. Serves the laws of sheets.
use Rattle.std.proofs.Common.{◌≡◌, ◌∙◌, sym, ap, subst, refl, arith, ℕ, zero, suc, ◌+◌, ◌≤◌, ◌<◌, ◌↔◌, ◌&&◌, Bool, true, false, cond, nat_le, nat_lt, not, List, [], ◌∷◌, length, take, get_or, Option, Some, None, Result, Ok, Err}
use Rattle.std.specs.Prelude.{IsTrue, IsUtf8, filter}
use Rattle.std.specs.Str.{is_utf8}
use Rattle.std.proofs.lemmas.Bool.Decides.{nat_tests}
use Rattle.std.proofs.lemmas.Option.{same_Some}
use Rattle.std.proofs.lemmas.Str.{IsUtf8-from_is_utf8, is_utf8-from_IsUtf8}
use Rattle.book_model.specs.Given.{GivenSheet}
use Rattle.book_model.specs.Refusals.{is_sheet_name}
use Rattle.book_model.specs.declared.given.BookCell.{BookCell}
use Rattle.cell_addr.specs.declared.place.TheConstants.{COLS, ROWS}
use Rattle.book_files.specs.Books.{book_sheet_of, field_fault, file_cells, filled_after, first_fault, first_of, is_filled, or_behind, sheet_name_of, sheet_unless}
use Rattle.book_files.specs.Laws.{IsFaultOf, IsFirstWrong, IsWrong, IsWrongAt}
use Rattle.book_files.specs.declared.fault.BookFault.{BookFault}
use Rattle.book_files.specs.declared.fault.BookFault.TheVariants.{NotUtf8, BadSheetName, Rows, Columns, FieldLength, Cells, NoMemory}
use Rattle.book_files.proofs.BookAnswers.{a-fault, bad-name, not-text}

-- the first test that holds, of four
abbrev FirstTest : Bool → Bool → Bool → Bool → BookFault → Type 0
FirstTest a b d f Rows = a ≡ true
FirstTest a b d f Columns = (a ≡ false) × (b ≡ true)
FirstTest a b d f FieldLength = (a ≡ false) × (b ≡ false) × (d ≡ true)
FirstTest a b d f Cells = (a ≡ false) × (b ≡ false) × (d ≡ false) × (f ≡ true)
FirstTest a b d f _ = ⊥

abbrev tested : Bool → Bool → Bool → Bool → Option BookFault
tested a b d f = first_of ((a, Rows) ∷ (b, Columns) ∷ (d, FieldLength) ∷ (f, Cells) ∷ [])

test-first : (a b d f : Bool) (e : BookFault) → FirstTest a b d f e → tested a b d f ≡ Some e
test-first a b d f NotUtf8 h = absurd h
test-first a b d f BadSheetName h = absurd h
test-first a b d f Rows h = rw h refl
test-first a b d f Columns h = rw (h.0, h.1) refl
test-first a b d f FieldLength h = rw (h.0, h.1, h.2) refl
test-first a b d f Cells h = rw (h.0, h.1, h.2, h.3) refl
test-first a b d f NoMemory h = absurd h

first-test : (a b d f : Bool) (e : BookFault) → tested a b d f ≡ Some e → FirstTest a b d f e
first-test true b d f e is = subst (FirstTest true b d f) (same_Some Rows e is) refl
first-test false true d f e is = subst (FirstTest false true d f) (same_Some Columns e is) (refl, refl)
first-test false false true f e is = subst (FirstTest false false true f) (same_Some FieldLength e is) (refl, refl, refl)
first-test false false false true e is = subst (FirstTest false false false true) (same_Some Cells e is) (refl, refl, refl, refl)
first-test false false false false e is = cc

at_least : (a b : ℕ) → (nat_le a b ≡ true) ↔ (a ≤ b)
at_least a b = ((λ t. grind (arith, nat_tests)), (λ l. grind (arith, nat_tests)))

below : (a b : ℕ) → (nat_le a b ≡ false) ↔ (b < a)
below a b = ((λ t. grind (arith, nat_tests)), (λ l. grind (arith, nat_tests)))

more : (a b : ℕ) → (nat_lt a b ≡ true) ↔ (a < b)
more a b = ((λ t. grind (arith, nat_tests)), (λ l. grind (arith, nat_tests)))

at_most : (a b : ℕ) → (nat_lt a b ≡ false) ↔ (b ≤ a)
at_most a b = ((λ t. grind (arith, nat_tests)), (λ l. grind (arith, nat_tests)))

both : (a b : Bool) → a && b ≡ true → (a ≡ true) × (b ≡ true)
both true b h = (refl, h)
both false b h = cc

filled_full : (filled : ℕ) (c : BookCell) → (is_filled c && nat_le 1000000 filled ≡ true) ↔ ((0 < length c.text) × (1000000 ≤ filled))
filled_full filled c = (
  (λ h. let w = both (is_filled c) (nat_le 1000000 filled) h in ((more 0 (length c.text)).0 w.0, (at_least 1000000 filled).0 w.1)),
  (λ p. let l : is_filled c ≡ true = (more 0 (length c.text)).1 p.0 in rw l ((at_least 1000000 filled).1 p.1)),
)

-- what is wrong with a field
tests-wrong : (filled : ℕ) (c : BookCell) (e : BookFault) → FirstTest (nat_le ROWS c.row) (nat_le COLS c.col) (nat_lt 8192 (length c.text)) (is_filled c && nat_le 1000000 filled) e → IsWrong filled c e
tests-wrong filled c NotUtf8 h = h
tests-wrong filled c BadSheetName h = h
tests-wrong filled c Rows h = (at_least ROWS c.row).0 h
tests-wrong filled c Columns h = ((below ROWS c.row).0 h.0, (at_least COLS c.col).0 h.1)
tests-wrong filled c FieldLength h = ((below ROWS c.row).0 h.0, (below COLS c.col).0 h.1, (more 8192 (length c.text)).0 h.2)
tests-wrong filled c Cells h = let w = (filled_full filled c).0 h.3 in ((below ROWS c.row).0 h.0, (below COLS c.col).0 h.1, (at_most 8192 (length c.text)).0 h.2, w.0, w.1)
tests-wrong filled c NoMemory h = h

wrong-tests : (filled : ℕ) (c : BookCell) (e : BookFault) → IsWrong filled c e → FirstTest (nat_le ROWS c.row) (nat_le COLS c.col) (nat_lt 8192 (length c.text)) (is_filled c && nat_le 1000000 filled) e
wrong-tests filled c NotUtf8 h = h
wrong-tests filled c BadSheetName h = h
wrong-tests filled c Rows h = (at_least ROWS c.row).1 h
wrong-tests filled c Columns h = ((below ROWS c.row).1 h.0, (at_least COLS c.col).1 h.1)
wrong-tests filled c FieldLength h = ((below ROWS c.row).1 h.0, (below COLS c.col).1 h.1, (more 8192 (length c.text)).1 h.2)
wrong-tests filled c Cells h = ((below ROWS c.row).1 h.0, (below COLS c.col).1 h.1, (at_most 8192 (length c.text)).1 h.2, (filled_full filled c).1 (h.3, h.4))
wrong-tests filled c NoMemory h = h

fault-wrong : (filled : ℕ) (c : BookCell) (e : BookFault) → field_fault filled c ≡ Some e → IsWrong filled c e
fault-wrong filled c e is = tests-wrong filled c e (first-test _ _ _ _ e is)

wrong-fault : (filled : ℕ) (c : BookCell) (e : BookFault) → IsWrong filled c e → field_fault filled c ≡ Some e
wrong-fault filled c e wrong = test-first _ _ _ _ e (wrong-tests filled c e wrong)

-- how many cells are filled behind a field and those after it
count-step : (filled : ℕ) (c : BookCell) (cs : List BookCell) (b : Bool) → is_filled c ≡ b → filled + length (filter is_filled (c ∷ cs)) ≡ cond b (filled + 1) filled + length (filter is_filled cs)
count-step filled c cs true is = rw is (omega arith)
count-step filled c cs false is = rw is refl

wrong-behind : (filled : ℕ) (c : BookCell) (cs : List BookCell) (k : ℕ) (e : BookFault) → IsWrongAt (filled_after filled c) cs k e ↔ IsWrongAt filled (c ∷ cs) (suc k) e
wrong-behind filled c cs k e =
    let same = count-step filled c (take k cs) (is_filled c) refl in
    ((λ h d. subst (λ n. IsWrong n (get_or cs k d) e) (sym same) (h d)), (λ h d. subst (λ n. IsWrong n (get_or cs k d) e) same (h d)))

wrong-here : (filled : ℕ) (c : BookCell) (cs : List BookCell) (e : BookFault) → IsWrong filled c e ↔ IsWrongAt filled (c ∷ cs) 0 e
wrong-here filled c cs e =
    let same : filled ≡ filled + 0 = omega arith in
    ((λ h d. subst (λ n. IsWrong n c e) same h), (λ h. subst (λ n. IsWrong n c e) (sym same) (h c)))

-- the first fault is of the first field that is wrong
first-step : (filled : ℕ) (c : BookCell) (cs : List BookCell) (e : BookFault) (here : Option BookFault) → field_fault filled c ≡ here → or_behind here (first_fault (filled_after filled c) cs) ≡ Some e
    → (first_fault (filled_after filled c) cs ≡ Some e → IsFirstWrong (filled_after filled c) cs e) → IsFirstWrong filled (c ∷ cs) e
first-step filled c cs e (Some f) at is rest = (0, omega arith, (wrong-here filled c cs e).0 (fault-wrong filled c e (at ∙ is)), (λ j g low. absurd (omega arith)))
first-step filled c cs e None at is rest =
    let w = rest is in
    let inside = w.1 in
    (suc w.0, omega arith, (wrong-behind filled c cs w.0 e).0 w.2, before w.3)
  where
    before : {k : ℕ} → ((j : ℕ) (g : BookFault) → j < k → ¬ (IsWrongAt (filled_after filled c) cs j g)) → (j : ℕ) (g : BookFault) → j < suc k → ¬ (IsWrongAt filled (c ∷ cs) j g)
    before none zero g low wrong = let f = wrong-fault filled c g ((wrong-here filled c cs g).1 wrong) in cc
    before none (suc j) g low wrong = none j g (omega arith) ((wrong-behind filled c cs j g).1 wrong)

pub fault-first : (filled : ℕ) (fields : List BookCell) (e : BookFault) → first_fault filled fields ≡ Some e → IsFirstWrong filled fields e
fault-first filled [] e is = cc
fault-first filled (c ∷ cs) e is = first-step filled c cs e (field_fault filled c) refl is (λ behind. fault-first (filled_after filled c) cs e behind)

no-fault : (filled : ℕ) (c : BookCell) (r : Option BookFault) → field_fault filled c ≡ r → ((f : BookFault) → ¬ (IsWrong filled c f)) → r ≡ None
no-fault filled c None is none = refl
no-fault filled c (Some f) is none = absurd (none f (fault-wrong filled c f is))

pub first-fault : (filled : ℕ) (fields : List BookCell) (k : ℕ) (e : BookFault) → k < length fields → IsWrongAt filled fields k e → ((j : ℕ) (f : BookFault) → j < k → ¬ (IsWrongAt filled fields j f)) → first_fault filled fields ≡ Some e
first-fault filled [] k e inside wrong none = absurd (omega arith)
first-fault filled (c ∷ cs) zero e inside wrong none = ap (λ r. or_behind r (first_fault (filled_after filled c) cs)) (wrong-fault filled c e ((wrong-here filled c cs e).1 wrong))
first-fault filled (c ∷ cs) (suc k) e inside wrong none =
    ap (λ r. or_behind r (first_fault (filled_after filled c) cs)) (no-fault filled c (field_fault filled c) refl (λ f here. none 0 f (omega arith) ((wrong-here filled c cs f).0 here)))
    ∙ first-fault (filled_after filled c) cs k e (omega arith) ((wrong-behind filled c cs k e).1 wrong) (λ j f low other. none (suc j) f (omega arith) ((wrong-behind filled c cs j f).0 other))

first-never : (filled : ℕ) (fields : List BookCell) (e : BookFault) → ((c : BookCell) (n : ℕ) → ¬ (IsWrong n c e)) → first_fault filled fields ≡ Some e → ⊥
first-never filled fields e never is =
    let w = fault-first filled fields e is in
    let any : BookCell = record { row = 0; col = 0; text = [] } in
    never (get_or fields w.0 any) (filled + length (filter is_filled (take w.0 fields))) (w.2 any)

-- a field's fault is a file's
of-fields : (name bytes : List ℕ) (filled : ℕ) (e : BookFault) → IsUtf8 bytes → IsTrue (is_sheet_name (sheet_name_of name)) → first_fault filled (file_cells bytes) ≡ Some e → IsFaultOf name bytes filled e
of-fields name bytes filled NotUtf8 text named is = absurd (first-never filled (file_cells bytes) NotUtf8 (λ c n h. h) is)
of-fields name bytes filled BadSheetName text named is = absurd (first-never filled (file_cells bytes) BadSheetName (λ c n h. h) is)
of-fields name bytes filled Rows text named is = (text, named, fault-first filled (file_cells bytes) Rows is)
of-fields name bytes filled Columns text named is = (text, named, fault-first filled (file_cells bytes) Columns is)
of-fields name bytes filled FieldLength text named is = (text, named, fault-first filled (file_cells bytes) FieldLength is)
of-fields name bytes filled Cells text named is = (text, named, fault-first filled (file_cells bytes) Cells is)
of-fields name bytes filled NoMemory text named is = absurd (first-never filled (file_cells bytes) NoMemory (λ c n h. h) is)

answered : (name bytes : List ℕ) (filled : ℕ) (e : BookFault) (t n : Bool) (r : Option BookFault) → is_utf8 bytes ≡ t → is_sheet_name (sheet_name_of name) ≡ n → first_fault filled (file_cells bytes) ≡ r
    → cond (not t) (Err NotUtf8) (cond (not n) (Err BadSheetName) (sheet_unless r (sheet_name_of name) (file_cells bytes))) ≡ Err e → IsFaultOf name bytes filled e
answered name bytes filled e false n r text named first is =
    let same : NotUtf8 ≡ e = cc in
    subst (IsFaultOf name bytes filled) same (λ utf8. let t = is_utf8-from_IsUtf8 bytes utf8 in cc)
answered name bytes filled e true false r text named first is =
    let same : BadSheetName ≡ e = cc in
    subst (IsFaultOf name bytes filled) same (IsUtf8-from_is_utf8 bytes text, (λ valid. cc))
answered name bytes filled e true true (Some f) text named first is =
    let same : f ≡ e = cc in
    subst (IsFaultOf name bytes filled) same (of-fields name bytes filled f (IsUtf8-from_is_utf8 bytes text) named first)
answered name bytes filled e true true None text named first is = cc

by_case : (b : Bool) → (b ≡ true → ⊥) → b ≡ false
by_case true h = absurd (h refl)
by_case false h = refl

wrong-answered : (name bytes : List ℕ) (filled : ℕ) (e : BookFault) → IsUtf8 bytes → IsTrue (is_sheet_name (sheet_name_of name)) → IsFirstWrong filled (file_cells bytes) e → book_sheet_of name bytes filled ≡ Err e
wrong-answered name bytes filled e text named w = a-fault name bytes filled e (is_utf8-from_IsUtf8 bytes text) named (first-fault filled (file_cells bytes) w.0 e w.1 w.2 w.3)

answers : (name bytes : List ℕ) (filled : ℕ) (e : BookFault) → IsFaultOf name bytes filled e → book_sheet_of name bytes filled ≡ Err e
answers name bytes filled NotUtf8 h = not-text name bytes filled (by_case (is_utf8 bytes) (λ t. h (IsUtf8-from_is_utf8 bytes t)))
answers name bytes filled BadSheetName (text, unnamed) = bad-name name bytes filled (is_utf8-from_IsUtf8 bytes text) (by_case (is_sheet_name (sheet_name_of name)) unnamed)
answers name bytes filled Rows (text, named, w) = wrong-answered name bytes filled Rows text named w
answers name bytes filled Columns (text, named, w) = wrong-answered name bytes filled Columns text named w
answers name bytes filled FieldLength (text, named, w) = wrong-answered name bytes filled FieldLength text named w
answers name bytes filled Cells (text, named, w) = wrong-answered name bytes filled Cells text named w
answers name bytes filled NoMemory h = absurd h

-- a fault is answered exactly where it is the file's
pub answered-exactly : (name bytes : List ℕ) (filled : ℕ) (e : BookFault) → (book_sheet_of name bytes filled ≡ Err e) ↔ IsFaultOf name bytes filled e
answered-exactly name bytes filled e = (answered name bytes filled e (is_utf8 bytes) (is_sheet_name (sheet_name_of name)) (first_fault filled (file_cells bytes)) refl refl refl, answers name bytes filled e)

sheet-cells : (bytes : List ℕ) (t n : Bool) (r : Option BookFault) (name : List ℕ) (cells : List BookCell) (sheet : GivenSheet)
    → cond (not t) (Err NotUtf8) (cond (not n) (Err BadSheetName) (sheet_unless r name cells)) ≡ Ok sheet → filter is_filled cells ≡ sheet.cells
sheet-cells bytes false n r name cells sheet is = cc
sheet-cells bytes true false r name cells sheet is = cc
sheet-cells bytes true true (Some f) name cells sheet is = cc
sheet-cells bytes true true None name cells sheet is = let same : record { name = name; cells = filter is_filled cells } ≡ sheet = cc in ap (λ (g : GivenSheet). g.cells) same

-- the cells of a file's sheet are its filled fields
pub sheet_fields : (name bytes : List ℕ) (filled : ℕ) (sheet : GivenSheet) → book_sheet_of name bytes filled ≡ Ok sheet → filter is_filled (file_cells bytes) ≡ sheet.cells
sheet_fields name bytes filled sheet is = sheet-cells bytes (is_utf8 bytes) (is_sheet_name (sheet_name_of name)) (first_fault filled (file_cells bytes)) (sheet_name_of name) (file_cells bytes) sheet is
