-- Sheets by their places in the list, as changes list them. Serves the calls that change the list of sheets.
use Rattle.std.proofs.Common.{◌≡◌, ◌≢◌, ◌∙◌, sym, ap, subst, refl, arith, ℕ, zero, suc, ◌≤◌, ◌==◌, Bool, true, false, cond, eqb, not, List, [], ◌∷◌, length, map, Option, Some, None, option_map}
use Rattle.std.proofs.lemmas.Bool.{eqb-true, eq-eqb, ne_eqb}
use Rattle.std.proofs.lemmas.List.Elements.{All-cons, All-head, All-tail}
use Rattle.std.proofs.lemmas.Option.{none-some, same_Some}
use Rattle.std.specs.Prelude.{insert}
use Rattle.std.specs.List.{All}
use Rattle.cell_addr.specs.Sheets.{AreApart, AreSheets, name_in}
use Rattle.cell_addr.specs.declared.place.TheConstants.{NO_SHEET}
use Rattle.name_table.proofs.SheetEntries.{Differ, Lacks, Sheet}
use Rattle.name_table.proofs.WordNumbers.{position-cons}
use Rattle.name_table.specs.SheetLists.{CanJoin, index_in, left_in, renamed_in}

turned : (a b : ℕ) → eqb a b ≡ eqb b a
turned a b = go (eqb a b) refl
  where
    go : (c : Bool) → eqb a b ≡ c → c ≡ eqb b a
    go true e = sym (eq-eqb b a (sym (eqb-true a b e)))
    go false e = sym (ne_eqb b a (λ same. let t = eq-eqb a b (sym same) in cc))

-- nothing is left out where no sheet has the number
pub same-left : (id : ℕ) (es : List Sheet) → Lacks id es → left_in id es ≡ es
same-left id [] h = refl
same-left id (e ∷ es) h = rw (ne_eqb e.0 id (All-head (λ s. s.0 ≢ id) e es h)) (ap (λ r. e ∷ r) (same-left id es (All-tail (λ s. s.0 ≢ id) e es h)))

same-renamed : (id : ℕ) (name : List ℕ) (es : List Sheet) → Lacks id es → renamed_in id name es ≡ es
same-renamed id name [] h = refl
same-renamed id name (e ∷ es) h =
    rw (ne_eqb e.0 id (All-head (λ s. s.0 ≢ id) e es h)) (ap (λ r. e ∷ r) (same-renamed id name es (All-tail (λ s. s.0 ≢ id) e es h)))

first-differs : (e : Sheet) (es : List Sheet) → AreApart (e ∷ es) → All (Differ e) es
first-differs e es h k d l = h zero (suc k) d (omega arith) (omega arith)

rest-apart : (e : Sheet) (es : List Sheet) → AreApart (e ∷ es) → AreApart es
rest-apart e es h i j d below inside = h (suc i) (suc j) d (omega arith) (omega arith)

lacks-rest : (e : Sheet) (es : List Sheet) (id : ℕ) → AreApart (e ∷ es) → e.0 ≡ id → Lacks id es
lacks-rest e es id h here k d l = λ same. (first-differs e es h k d l).0 (here ∙ sym same)

none-next : (r : Option ℕ) → option_map suc r ≡ None → r ≡ None
none-next None f = refl
none-next (Some n) f = absurd (none-some (suc n) (sym f))

-- where no sheet has the number, none is found
pub none-lacks : (id : ℕ) (es : List Sheet) → index_in id es ≡ None → Lacks id es
none-lacks id [] none = λ k d l. absurd (omega arith)
none-lacks id (e ∷ es) none = go (eqb id e.0) refl (λ f. none-lacks id es f) (sym (position-cons (λ k. id == k) e.0 (map (λ s. s.0) es)) ∙ none)
  where
    go : (b : Bool) → eqb id e.0 ≡ b → (index_in id es ≡ None → Lacks id es) → cond b (Some 0) (option_map suc (index_in id es)) ≡ None → Lacks id (e ∷ es)
    go true is more h = absurd (none-some 0 (sym h))
    go false is more h = All-cons (λ s. s.0 ≢ id) e es (λ same. let t = eq-eqb id e.0 (sym same) in cc) (more (none-next (index_in id es) h))

-- a listed sheet that is taken out and put in again at its place, maybe with another name
pub slot-renamed : (id i : ℕ) (name : List ℕ) (es : List Sheet) → AreApart es → index_in id es ≡ Some i → insert (left_in id es) i (id, name) ≡ renamed_in id name es
slot-renamed id i name [] apart at = absurd (none-some i at)
slot-renamed id i name (e ∷ es) apart at =
    go (eqb e.0 id) refl (λ j is. slot-renamed id j name es (rest-apart e es apart) is) (sym (position-cons (λ k. id == k) e.0 (map (λ s. s.0) es)) ∙ at)
  where
    later : ((j : ℕ) → index_in id es ≡ Some j → insert (left_in id es) j (id, name) ≡ renamed_in id name es) → (r : Option ℕ) → index_in id es ≡ r → option_map suc r ≡ Some i → insert (e ∷ left_in id es) i (id, name) ≡ e ∷ renamed_in id name es
    later more None is f = absurd (none-some i f)
    later more (Some j) is f =
        let next : suc j ≡ i = same_Some (suc j) i f in
        ap (λ n. insert (e ∷ left_in id es) n (id, name)) (sym next) ∙ ap (λ r. e ∷ r) (more j is)

    go : (b : Bool) → eqb e.0 id ≡ b → ((j : ℕ) → index_in id es ≡ Some j → insert (left_in id es) j (id, name) ≡ renamed_in id name es) → cond (eqb id e.0) (Some 0) (option_map suc (index_in id es)) ≡ Some i
        → insert (cond (not b) (e ∷ left_in id es) (left_in id es)) i (id, name) ≡ cond b (id, name) e ∷ renamed_in id name es
    go true is more f =
        let first : 0 ≡ i = same_Some 0 i (sym (ap (λ b. cond b (Some 0) (option_map suc (index_in id es))) (turned id e.0 ∙ is)) ∙ f) in
        let lacks = lacks-rest e es id apart (eqb-true e.0 id is) in
        ap (λ n. insert (left_in id es) n (id, name)) (sym first) ∙ ap (λ r. (id, name) ∷ r) (same-left id es lacks ∙ sym (same-renamed id name es lacks))
    go false is more f = later more (index_in id es) refl (sym (ap (λ b. cond b (Some 0) (option_map suc (index_in id es))) (turned id e.0 ∙ is)) ∙ f)

-- a sheet that keeps its name
pub renamed-same : (id : ℕ) (name : List ℕ) (es : List Sheet) → AreApart es → name_in es id ≡ Some name → renamed_in id name es ≡ es
renamed-same id name [] apart named = refl
renamed-same id name (e ∷ es) apart named = go (eqb e.0 id) refl (λ f. renamed-same id name es (rest-apart e es apart) f) named
  where
    go : (b : Bool) → eqb e.0 id ≡ b → (name_in es id ≡ Some name → renamed_in id name es ≡ es) → cond b (Some e.1) (name_in es id) ≡ Some name → cond b (id, name) e ∷ renamed_in id name es ≡ e ∷ es
    go true is more f =
        let here = eqb-true e.0 id is in
        let named : e.1 ≡ name = same_Some e.1 name f in
        (λ i. (sym here i, sym named i) ∷ renamed_in id name es) ∙ ap (λ r. e ∷ r) (same-renamed id name es (lacks-rest e es id apart here))
    go false is more f = ap (λ r. e ∷ r) (more f)

-- no sheet of the number is left, and taking it out once more changes nothing
pub left-lacks : (id : ℕ) (es : List Sheet) → Lacks id (left_in id es)
left-lacks id [] = λ k d l. absurd (omega arith)
left-lacks id (e ∷ es) = go (eqb e.0 id) refl (left-lacks id es)
  where
    go : (b : Bool) → eqb e.0 id ≡ b → Lacks id (left_in id es) → Lacks id (cond (not b) (e ∷ left_in id es) (left_in id es))
    go true is more = more
    go false is more = All-cons (λ s. s.0 ≢ id) e (left_in id es) (λ same. let t = eq-eqb e.0 id same in cc) more

pub left-twice : (id : ℕ) (es : List Sheet) → left_in id (left_in id es) ≡ left_in id es
left-twice id es = same-left id (left_in id es) (left-lacks id es)

pub left-renamed : (id : ℕ) (name : List ℕ) (es : List Sheet) → left_in id (renamed_in id name es) ≡ left_in id es
left-renamed id name [] = refl
left-renamed id name (e ∷ es) = go (eqb e.0 id) refl (left-renamed id name es)
  where
    go : (b : Bool) → eqb e.0 id ≡ b → left_in id (renamed_in id name es) ≡ left_in id es → left_in id (cond b (id, name) e ∷ renamed_in id name es) ≡ cond (not b) (e ∷ left_in id es) (left_in id es)
    go true is h = rw (eq-eqb id id refl) h
    go false is h = rw is (ap (λ r. e ∷ r) h)

-- a listed sheet's place is within the list without it
pub index-left : (id i : ℕ) (es : List Sheet) → AreApart es → index_in id es ≡ Some i → i ≤ length (left_in id es)
index-left id i [] apart at = absurd (none-some i at)
index-left id i (e ∷ es) apart at = go (eqb e.0 id) refl (λ j is. index-left id j es (rest-apart e es apart) is) (sym (position-cons (λ k. id == k) e.0 (map (λ s. s.0) es)) ∙ at)
  where
    later : ((j : ℕ) → index_in id es ≡ Some j → j ≤ length (left_in id es)) → (r : Option ℕ) → index_in id es ≡ r → option_map suc r ≡ Some i → i ≤ suc (length (left_in id es))
    later more None is f = absurd (none-some i f)
    later more (Some j) is f =
        let next : suc j ≡ i = same_Some (suc j) i f in
        let less = more j is in
        omega (arith, next, less)

    go : (b : Bool) → eqb e.0 id ≡ b → ((j : ℕ) → index_in id es ≡ Some j → j ≤ length (left_in id es)) → cond (eqb id e.0) (Some 0) (option_map suc (index_in id es)) ≡ Some i → i ≤ length (cond (not b) (e ∷ left_in id es) (left_in id es))
    go true is more f =
        let first : 0 ≡ i = same_Some 0 i (sym (ap (λ b. cond b (Some 0) (option_map suc (index_in id es))) (turned id e.0 ∙ is)) ∙ f) in
        omega (arith, first)
    go false is more f = later more (index_in id es) refl (sym (ap (λ b. cond b (Some 0) (option_map suc (index_in id es))) (turned id e.0 ∙ is)) ∙ f)

-- what is put in at a place differs from all others of a proper list
inserted-differs : (e x : Sheet) (xs : List Sheet) (i : ℕ) → All (Differ e) (insert xs i x) → Differ e x
inserted-differs e x xs zero h = All-head (Differ e) x xs h
inserted-differs e x [] (suc i) h = All-head (Differ e) x [] h
inserted-differs e x (f ∷ xs) (suc i) h = inserted-differs e x xs i (All-tail (Differ e) f (insert xs i x) h)

others-differ : (x : Sheet) (xs : List Sheet) → All (Differ x) xs → All (λ s. Differ s x) xs
others-differ x xs h k d l = let differs = h k d l in ((λ e. differs.0 (sym e)), (λ e. differs.1 (sym e)))

joins-others : (x : Sheet) (xs : List Sheet) (i : ℕ) → AreApart (insert xs i x) → All (λ s. Differ s x) xs
joins-others x xs zero apart = others-differ x xs (first-differs x xs apart)
joins-others x [] (suc i) apart = λ k d l. absurd (omega arith)
joins-others x (e ∷ xs) (suc i) apart =
    All-cons (λ s. Differ s x) e xs (inserted-differs e x xs i (first-differs e (insert xs i x) apart)) (joins-others x xs i (rest-apart e (insert xs i x) apart))

numbered-inside : (x : Sheet) (xs : List Sheet) (i : ℕ) → All (λ s. s.0 ≢ NO_SHEET) (insert xs i x) → x.0 ≢ NO_SHEET
numbered-inside x xs zero h = All-head (λ s. s.0 ≢ NO_SHEET) x xs h
numbered-inside x [] (suc i) h = All-head (λ s. s.0 ≢ NO_SHEET) x [] h
numbered-inside x (e ∷ xs) (suc i) h = numbered-inside x xs i (All-tail (λ s. s.0 ≢ NO_SHEET) e (insert xs i x) h)

pub inserted-joins : (id i : ℕ) (name : List ℕ) (xs : List Sheet) → AreSheets (insert xs i (id, name)) → CanJoin id name xs
inserted-joins id i name xs h = (numbered-inside (id, name) xs i h.1, joins-others (id, name) xs i h.0)

-- a sheet that was taken out comes back to its place
module _ (es new : List Sheet) (id i : ℕ) (name : List ℕ) (proper : AreSheets es) (is : new ≡ left_in id es) (at : index_in id es ≡ Some i) where
  again : left_in id new ≡ left_in id es
  again = ap (left_in id) is ∙ left-twice id es

  pub slot-back : name_in es id ≡ Some name → insert (left_in id new) i (id, name) ≡ es
  slot-back named = ap (λ n. insert n i (id, name)) again ∙ slot-renamed id i name es proper.0 at ∙ renamed-same id name es proper.0 named

  pub slot-joins : name_in es id ≡ Some name → CanJoin id name (left_in id new) × (i ≤ length (left_in id new))
  slot-joins named =
      let back = slot-renamed id i name es proper.0 at ∙ renamed-same id name es proper.0 named in (
        subst (CanJoin id name) (sym again) (inserted-joins id i name (left_in id es) (subst AreSheets (sym back) proper)),
        subst (λ l. i ≤ length l) (sym again) (index-left id i es proper.0 at),
      )
