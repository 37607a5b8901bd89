-- What the list of sheets tells of numbers and names. Serves the tests of refusals.
use Rattle.std.proofs.Common.{◌≡◌, ◌≢◌, ◌∙◌, sym, refl, arith, ℕ, zero, suc, ◌<◌, Bool, true, false, cond, ◌==◌, not, ◌&&◌, ◌||◌, List, [], ◌∷◌, length, get_or, Option, Some, None, is_some, IsSome, option_map, option_copied, Bor, inl, inr}
use Rattle.std.specs.Prelude.{slice_get, ◌⊎◌}
use Rattle.std.proofs.lemmas.Bool.Decides.{nat_tests}
use Rattle.book_model.proofs.Accepted.{is_known, none_hold}
use Rattle.book_model.proofs.SheetLists.{none_passes}
use Rattle.book_model.specs.Operation.{add_sheet, rename_sheet}
use Rattle.book_model.specs.Refusals.{cause, causes}
use Rattle.book_model.specs.Sound.{IsSound}
use Rattle.name_table.specs.SheetLists.{CanJoin, IsFree}
use Rattle.std.specs.List.{list_any}
use Rattle.cell_addr.specs.Text.{folded}
use Rattle.cell_addr.specs.Sheets.{same_name, id_in, name_in, AreApart}
use Rattle.cell_addr.proofs.Listed.{folded-same_name, same_name-true}
use Rattle.book_model.specs.Workbook.{State, Workbook, first_sheet, has_sheet}

-- a sheet of the number is in the list where it has a name there
pub has-name : (sheets : List (ℕ × List ℕ)) (id : ℕ) → is_some (name_in sheets id) ≡ list_any (λ s. s.0 == id) sheets
has-name [] id = refl
has-name (s ∷ sheets) id = go (s.0 == id) (has-name sheets id)
  where
    go : (b : Bool) → is_some (name_in sheets id) ≡ list_any (λ s. s.0 == id) sheets → is_some (cond b (Some s.1) (name_in sheets id)) ≡ b || list_any (λ s. s.0 == id) sheets
    go true h = refl
    go false h = h

-- a sheet of the name is in the list where it has a number there
pub has-number : (sheets : List (ℕ × List ℕ)) (name : List ℕ) → is_some (id_in sheets name) ≡ list_any (λ s. same_name s.1 name) sheets
has-number [] name = refl
has-number (s ∷ sheets) name = go (same_name s.1 name) (has-number sheets name)
  where
    go : (b : Bool) → is_some (id_in sheets name) ≡ list_any (λ s. same_name s.1 name) sheets → is_some (cond b (Some s.0) (id_in sheets name)) ≡ b || list_any (λ s. same_name s.1 name) sheets
    go true h = refl
    go false h = h

-- the number found is another one
abbrev pub is_other : ℕ → Option ℕ → Bool
is_other id None = false
is_other id (Some k) = not (k == id)

none_named : (sheets : List (ℕ × List ℕ)) (id : ℕ) (name : List ℕ) → ((k : ℕ) (d : ℕ × List ℕ) → k < length sheets → folded (get_or sheets k d).1 ≢ folded name)
    → list_any (λ s. not (s.0 == id) && same_name s.1 name) sheets ≡ false
none_named [] id name h = refl
none_named (s ∷ sheets) id name h = go (not (s.0 == id)) (same_name s.1 name) refl (none_named sheets id name (λ k d l. h (suc k) d (omega (arith, l))))
  where
    go : (b c : Bool) → same_name s.1 name ≡ c → list_any (λ s. not (s.0 == id) && same_name s.1 name) sheets ≡ false → (b && c) || list_any (λ s. not (s.0 == id) && same_name s.1 name) sheets ≡ false
    go b true e i = absurd (h zero s (omega arith) (folded-same_name s.1 name e))
    go true false e i = i
    go false false e i = i

-- another sheet has the name where the number found by it is another one
pub is-taken : (sheets : List (ℕ × List ℕ)) (id : ℕ) (name : List ℕ) → AreApart sheets → is_other id (id_in sheets name) ≡ list_any (λ s. not (s.0 == id) && same_name s.1 name) sheets
is-taken [] id name h = refl
is-taken (s ∷ sheets) id name h = go (same_name s.1 name) refl (is-taken sheets id name (λ i j d below inside. h (suc i) (suc j) d (omega (arith, below)) (omega (arith, inside))))
  where
    go : (c : Bool) → same_name s.1 name ≡ c → is_other id (id_in sheets name) ≡ list_any (λ s. not (s.0 == id) && same_name s.1 name) sheets
        → is_other id (cond c (Some s.0) (id_in sheets name)) ≡ (not (s.0 == id) && c) || list_any (λ s. not (s.0 == id) && same_name s.1 name) sheets
    go true e i = here (s.0 == id) (none_named sheets id name (λ k d l same. (h zero (suc k) d (omega arith) (omega (arith, l))).1 (folded-same_name s.1 name e ∙ sym same)))
      where
        here : (b : Bool) → list_any (λ s. not (s.0 == id) && same_name s.1 name) sheets ≡ false → not b ≡ (not b && true) || list_any (λ s. not (s.0 == id) && same_name s.1 name) sheets
        here true none = sym none
        here false none = refl
    go false e i = elsewhere (s.0 == id) i
      where
        elsewhere : (b : Bool) → is_other id (id_in sheets name) ≡ list_any (λ s. not (s.0 == id) && same_name s.1 name) sheets
            → is_other id (id_in sheets name) ≡ (not b && false) || list_any (λ s. not (s.0 == id) && same_name s.1 name) sheets
        elsewhere true i = i
        elsewhere false i = i

-- the first of the list
pub first-listed : (b : Workbook) → option_map (λ s. s.0) (slice_get b.sheets 0) ≡ first_sheet b
first-listed b = go b.sheets
  where
    go : (sheets : List (ℕ × List ℕ)) → option_map (λ s. s.0) (slice_get sheets 0) ≡ first_sheet (record b { sheets = sheets })
    go [] = refl
    go (s ∷ sheets) = refl

-- whether there is one doesn't depend on whether it is lent
pub some_copied : {X : Type 0} (r : Option (Bor X)) → is_some r ≡ is_some (option_copied r)
some_copied None = refl
some_copied (Some x) = refl

-- a new sheet's number and name can join the list
pub can_join : (d : State) (name : List ℕ) → IsSound d → cause (add_sheet name) d ≡ None → CanJoin d.next_sheet name d.book.sheets
can_join d name s none =
    let h = none_hold (causes (add_sheet name) d) none in
    let few = s.few in (
      (λ same. absurd (omega (arith, same, few))),
      λ k e l. (
        (λ same. let below = s.book.numbers k e l in absurd (omega (arith, below, same))),
        (λ same. let t = same_name-true (get_or d.book.sheets k e).1 name same in let f = none_passes (λ t. same_name t.1 name) d.book.sheets h.1.0 k e l in absurd (cc)),
      ),
    )

-- a sheet that may be renamed is listed
pub is_listed : (d : State) (sheet : ℕ) (name : List ℕ) → cause (rename_sheet sheet name) d ≡ None → IsSome (name_in d.book.sheets sheet)
is_listed d sheet name none =
    let h = none_hold (causes (rename_sheet sheet name) d) none in
    has-name d.book.sheets sheet ∙ is_known (has_sheet d.book sheet) h.0

-- and no other sheet has the name
pub is_free : (d : State) (sheet : ℕ) (name : List ℕ) → cause (rename_sheet sheet name) d ≡ None → IsFree sheet name d.book.sheets
is_free d sheet name none k e l =
    let h = none_hold (causes (rename_sheet sheet name) d) none in
    go ((get_or d.book.sheets k e).0 == sheet) refl (none_passes (λ t. not (t.0 == sheet) && same_name t.1 name) d.book.sheets h.1.1.0 k e l)
  where
    go : (b : Bool) → ((get_or d.book.sheets k e).0 == sheet) ≡ b → (not b && same_name (get_or d.book.sheets k e).1 name) ≡ false
        → ((get_or d.book.sheets k e).0 ≡ sheet) ⊎ (folded (get_or d.book.sheets k e).1 ≢ folded name)
    go true is f = inl (grind (arith, nat_tests))
    go false is f = inr (λ same. let t = same_name-true (get_or d.book.sheets k e).1 name same in absurd (cc))
