-- The entries of a list of sheets after one is put in, renamed or taken out. Serves the table of names.
use Rattle.std.proofs.Common.{◌≡◌, ◌≢◌, ◌⊎◌, ◌∙◌, sym, ap, subst, refl, arith, inl, inr, ℕ, zero, suc, ◌<◌, ◌==◌, Bool, true, false, cond, eqb, not, List, [], ◌∷◌, ◌++◌, length, get_or, Option, Some, None}
use Rattle.std.specs.Prelude.{IsSome, insert, remove, slice_get}
use Rattle.std.specs.List.{All, position_or_len}
use Rattle.std.specs.Map.{lookup, keys_of, remove_entry}
use Rattle.std.proofs.lemmas.Bool.{eqb-true, eq-eqb, ne_eqb}
use Rattle.std.proofs.lemmas.List.Elements.{All-cons, All-head, All-tail, All-filter}
use Rattle.std.proofs.lemmas.List.Kept.{AllPairs-cons, AllPairs-filter}
use Rattle.indexmap.specs.IndexMap.{insert_entry, move_index}
use Rattle.cell_addr.specs.Text.{folded}
use Rattle.cell_addr.specs.Sheets.{AreApart, AreSheets, name_in}
use Rattle.cell_addr.specs.declared.place.TheConstants.{NO_SHEET}
use Rattle.name_table.specs.SheetLists.{CanJoin, IsFree, renamed_in, left_in}

-- an entry of a list of sheets
abbrev pub Sheet : Type 0
Sheet = ℕ × List ℕ

turned : (a b : ℕ) → eqb a b ≡ eqb b a
turned a b = go (eqb a b) refl
  where
    go : (c : Bool) → eqb a b ≡ c → c ≡ eqb b a
    go true e = sym (eq-eqb b a (sym (eqb-true a b e)))
    go false e = sym (ne_eqb b a (λ same. let t = eq-eqb a b (sym same) in cc))

-- no entry has the number
abbrev pub Lacks : ℕ → List Sheet → Type 0
Lacks id es = All (λ s. s.0 ≢ id) es

pub put-new : (es : List Sheet) (id : ℕ) (name : List ℕ) → Lacks id es → insert_entry eqb es id name ≡ es ++ (id, name) ∷ []
put-new [] id name h = refl
put-new (e ∷ es) id name h =
    rw (ne_eqb id e.0 (λ same. All-head (λ s. s.0 ≢ id) e es h (sym same))) (ap (λ r. e ∷ r) (put-new es id name (All-tail (λ s. s.0 ≢ id) e es h)))

pub last-index : (es : List Sheet) (id : ℕ) → Lacks id es → position_or_len (eqb id) (keys_of es) ≡ length es
last-index [] id h = refl
last-index (e ∷ es) id h =
    let n = last-index es id (All-tail (λ s. s.0 ≢ id) e es h) in
    rw (ne_eqb id e.0 (λ same. All-head (λ s. s.0 ≢ id) e es h (sym same))) (omega (arith, n))

last-got : (es : List Sheet) (x : Sheet) → slice_get (es ++ x ∷ []) (length es) ≡ Some x
last-got [] x = refl
last-got (e ∷ es) x = last-got es x

last-removed : (es : List Sheet) (x : Sheet) → remove (es ++ x ∷ []) (length es) ≡ es
last-removed [] x = refl
last-removed (e ∷ es) x = ap (λ r. e ∷ r) (last-removed es x)

-- the last entry moved to an index is put in there
pub move-last : (es : List Sheet) (x : Sheet) (i : ℕ) → move_index (es ++ x ∷ []) (length es) i ≡ insert es i x
move-last es x i = rw (last-got es x, last-removed es x) refl

-- an entry that is put in where its key is new stands at the index
pub put-at : (es : List Sheet) (id : ℕ) (name : List ℕ) (i : ℕ) → Lacks id es → move_index (insert_entry eqb es id name) (position_or_len (eqb id) (keys_of es)) i ≡ insert es i (id, name)
put-at es id name i h = rw (put-new es id name h, last-index es id h) (move-last es (id, name) i)

all-inserted : (P : Sheet → Type 0) (es : List Sheet) (i : ℕ) (x : Sheet) → All P es → P x → All P (insert es i x)
all-inserted P es zero x h p = All-cons P x es p h
all-inserted P [] (suc i) x h p = All-cons P x [] p h
all-inserted P (e ∷ es) (suc i) x h p = All-cons P e (insert es i x) (All-head P e es h) (all-inserted P es i x (All-tail P e es h) p)

abbrev pub Differ : Sheet → Sheet → Type 0
Differ s t = (s.0 ≢ t.0) × (folded s.1 ≢ folded t.1)

differ-turned : (s t : Sheet) → Differ s t → Differ t s
differ-turned s t h = ((λ e. h.0 (sym e)), (λ e. h.1 (sym e)))

all-turned : (x : Sheet) (es : List Sheet) → All (λ s. Differ s x) es → All (Differ x) es
all-turned x es h k d l = differ-turned (get_or es k d) x (h k d l)

first-differs : (e : Sheet) (es : List Sheet) → AreApart (e ∷ es) → All (Differ e) es
first-differs e es h k d l = h zero (suc k) d (omega arith) (omega arith)

rest-apart : (e : Sheet) (es : List Sheet) → AreApart (e ∷ es) → AreApart es
rest-apart e es h i j d below inside = h (suc i) (suc j) d (omega arith) (omega arith)

apart-inserted : (es : List Sheet) (i : ℕ) (x : Sheet) → AreApart es → All (λ s. Differ s x) es → AreApart (insert es i x)
apart-inserted es zero x h n = AllPairs-cons Differ x es (all-turned x es n) h
apart-inserted [] (suc i) x h n = AllPairs-cons Differ x [] (all-turned x [] n) h
apart-inserted (e ∷ es) (suc i) x h n =
    AllPairs-cons Differ e (insert es i x) (all-inserted (Differ e) es i x (first-differs e es h) (All-head (λ s. Differ s x) e es n))
    (apart-inserted es i x (rest-apart e es h) (All-tail (λ s. Differ s x) e es n))

-- a proper list stays so where a new sheet is put in
pub sheets-inserted : (es : List Sheet) (i id : ℕ) (name : List ℕ) → AreSheets es → CanJoin id name es → AreSheets (insert es i (id, name))
sheets-inserted es i id name h new = (apart-inserted es i (id, name) h.0 new.1, all-inserted (λ s. s.0 ≢ NO_SHEET) es i (id, name) h.1 new.0)

pub new-lacks : (es : List Sheet) (id : ℕ) (name : List ℕ) → CanJoin id name es → Lacks id es
new-lacks es id name new k d l = (new.1 k d l).0

lacks-rest : (e : Sheet) (es : List Sheet) (id : ℕ) → AreApart (e ∷ es) → e.0 ≡ id → Lacks id es
lacks-rest e es id h here k d l = λ same. (first-differs e es h k d l).0 (here ∙ sym same)

same-renamed : (id : ℕ) (name : List ℕ) (es : List Sheet) → Lacks id es → renamed_in id name es ≡ es
same-renamed id name [] h = refl
same-renamed id name (e ∷ es) h =
    rw (ne_eqb e.0 id (All-head (λ s. s.0 ≢ id) e es h)) (ap (λ r. e ∷ r) (same-renamed id name es (All-tail (λ s. s.0 ≢ id) e es h)))

pub lookup-lacks : (es : List Sheet) (id : ℕ) → Lacks id es → lookup (eqb id) es ≡ None
lookup-lacks [] id h = refl
lookup-lacks (e ∷ es) id h = rw (ne_eqb id e.0 (λ same. All-head (λ s. s.0 ≢ id) e es h (sym same))) (lookup-lacks es id (All-tail (λ s. s.0 ≢ id) e es h))

renamed-or : (b : Bool) (id : ℕ) (name : List ℕ) (e : Sheet) (es inserted : List Sheet) → eqb e.0 id ≡ b → AreApart (e ∷ es) → (b ≡ false → inserted ≡ renamed_in id name es)
    → cond b ((e.0, name) ∷ es) (e ∷ inserted) ≡ cond b (id, name) e ∷ renamed_in id name es
renamed-or true id name e es inserted t h more = let here = eqb-true e.0 id t in λ i. (here i, name) ∷ sym (same-renamed id name es (lacks-rest e es id h here)) i
renamed-or false id name e es inserted t h more = ap (λ r. e ∷ r) (more refl)

named-rest : (b : Bool) (w : List ℕ) (r : Option (List ℕ)) → b ≡ false → IsSome (cond b (Some w) r) → IsSome r
named-rest true w r e some = cc
named-rest false w r e some = some

-- where a number stands in the list already, putting it in again renames its entry
pub put-again : (es : List Sheet) (id : ℕ) (name : List ℕ) → AreApart es → IsSome (name_in es id) → insert_entry eqb es id name ≡ renamed_in id name es
put-again [] id name h some = cc
put-again (e ∷ es) id name h some =
    rw (turned id e.0) (renamed-or (eqb e.0 id) id name e es (insert_entry eqb es id name) refl h
    (λ other. put-again es id name (rest-apart e es h) (named-rest (eqb e.0 id) e.1 (name_in es id) other some)))

one-renamed : (b : Bool) (id : ℕ) (name : List ℕ) (s : Sheet) → eqb s.0 id ≡ b → (cond b (id, name) s).0 ≡ s.0
one-renamed true id name s t = sym (eqb-true s.0 id t)
one-renamed false id name s t = refl

one-free : (b : Bool) (id : ℕ) (name : List ℕ) (s t : Sheet) → eqb s.0 id ≡ b → Differ s t → (t.0 ≡ id) ⊎ (folded t.1 ≢ folded name) → (s.0 ≡ id → t.0 ≢ id) → folded (cond b (id, name) s).1 ≢ folded t.1
one-free true id name s t e d (inl same) apart = absurd (apart (eqb-true s.0 id e) same)
one-free true id name s t e d (inr other) apart = λ same. other (sym same)
one-free false id name s t e d free apart = d.1

both-free : (b c : Bool) (id : ℕ) (name : List ℕ) (s t : Sheet) → eqb s.0 id ≡ b → eqb t.0 id ≡ c → Differ s t → (s.0 ≡ id) ⊎ (folded s.1 ≢ folded name) → (t.0 ≡ id) ⊎ (folded t.1 ≢ folded name) → folded (cond b (id, name) s).1 ≢ folded (cond c (id, name) t).1
both-free true true id name s t e f d x y = λ same. d.0 (eqb-true s.0 id e ∙ sym (eqb-true t.0 id f))
both-free true false id name s t e f d x (inl y) = absurd (d.0 (eqb-true s.0 id e ∙ sym y))
both-free true false id name s t e f d x (inr y) = λ same. y (sym same)
both-free false true id name s t e f d (inl x) y = absurd (d.0 (x ∙ sym (eqb-true t.0 id f)))
both-free false true id name s t e f d (inr x) y = x
both-free false false id name s t e f d x y = d.1

renamed-differ : (id : ℕ) (name : List ℕ) (s t : Sheet) → Differ s t → (s.0 ≡ id) ⊎ (folded s.1 ≢ folded name) → (t.0 ≡ id) ⊎ (folded t.1 ≢ folded name) → Differ (cond (eqb s.0 id) (id, name) s) (cond (eqb t.0 id) (id, name) t)
renamed-differ id name s t d x y = (
  (λ same. d.0 (sym (one-renamed (eqb s.0 id) id name s refl) ∙ same ∙ one-renamed (eqb t.0 id) id name t refl)),
  both-free (eqb s.0 id) (eqb t.0 id) id name s t refl refl d x y,
)

get_or-renamed : (id : ℕ) (name : List ℕ) (es : List Sheet) (k : ℕ) (d : Sheet) → k < length es → get_or (renamed_in id name es) k d ≡ cond (eqb (get_or es k d).0 id) (id, name) (get_or es k d)
get_or-renamed id name [] k d l = absurd (omega arith)
get_or-renamed id name (e ∷ es) zero d l = refl
get_or-renamed id name (e ∷ es) (suc k) d l = get_or-renamed id name es k d (omega arith)

length-renamed : (id : ℕ) (name : List ℕ) (es : List Sheet) → length (renamed_in id name es) ≡ length es
length-renamed id name [] = refl
length-renamed id name (e ∷ es) = ap suc (length-renamed id name es)

-- a proper list stays so where a sheet gets a name that no other has
pub sheets-renamed : (es : List Sheet) (id : ℕ) (name : List ℕ) → AreSheets es → IsFree id name es → AreSheets (renamed_in id name es)
sheets-renamed es id name h free = (pairs, known)
  where
    pairs : AreApart (renamed_in id name es)
    pairs i j d below inside =
        let long = length-renamed id name es in
        let last : j < length es = omega (arith, long, inside) in
        let first : i < length es = omega (arith, below, last) in
        rw (get_or-renamed id name es i d first, get_or-renamed id name es j d last)
        (renamed-differ id name (get_or es i d) (get_or es j d) (h.0 i j d below last) (free i d first) (free j d last))

    known : All (λ s. s.0 ≢ NO_SHEET) (renamed_in id name es)
    known k d l =
        let long = length-renamed id name es in
        let inside : k < length es = omega (arith, long, l) in
        rw (get_or-renamed id name es k d inside, one-renamed (eqb (get_or es k d).0 id) id name (get_or es k d) refl) (h.1 k d inside)

same-left : (id : ℕ) (es : List Sheet) → Lacks id es → left_in id es ≡ es
same-left id [] h = refl
same-left id (e ∷ es) h = rw (ne_eqb e.0 id (All-head (λ s. s.0 ≢ id) e es h)) (ap (λ r. e ∷ r) (same-left id es (All-tail (λ s. s.0 ≢ id) e es h)))

left-or : (b : Bool) (id : ℕ) (e : Sheet) (es removed : List Sheet) → eqb e.0 id ≡ b → AreApart (e ∷ es) → (b ≡ false → removed ≡ left_in id es) → cond b es (e ∷ removed) ≡ cond (not b) (e ∷ left_in id es) (left_in id es)
left-or true id e es removed t h more = sym (same-left id es (lacks-rest e es id h (eqb-true e.0 id t)))
left-or false id e es removed t h more = ap (λ r. e ∷ r) (more refl)

-- taking out the first entry of a number takes out all of it
pub taken-out : (es : List Sheet) (id : ℕ) → AreApart es → remove_entry (eqb id) es ≡ left_in id es
taken-out [] id h = refl
taken-out (e ∷ es) id h = rw (turned id e.0) (left-or (eqb e.0 id) id e es (remove_entry (eqb id) es) refl h (λ other. taken-out es id (rest-apart e es h)))

-- looking a number up is finding its name
pub lookup-name : (es : List Sheet) (id : ℕ) → lookup (eqb id) es ≡ name_in es id
lookup-name [] id = refl
lookup-name (e ∷ es) id = rw (turned id e.0) (ap (λ r. cond (eqb e.0 id) (Some e.1) r) (lookup-name es id))

-- a proper list stays so where a sheet is taken out
pub sheets-left : (es : List Sheet) (id : ℕ) → AreSheets es → AreSheets (left_in id es)
sheets-left es id h = (AllPairs-filter Differ (λ s. not (s.0 == id)) es h.0, All-filter (λ s. not (s.0 == id)) (λ s. s.0 ≢ NO_SHEET) es h.1)

-- putting in at the end
pub insert-end : (es : List Sheet) (x : Sheet) → insert es (length es) x ≡ es ++ x ∷ []
insert-end [] x = refl
insert-end (e ∷ es) x = ap (λ r. e ∷ r) (insert-end es x)

got-behind : (es rest : List Sheet) (x d : Sheet) → get_or (es ++ x ∷ rest) (length es) d ≡ x
got-behind [] rest x d = refl
got-behind (e ∷ es) rest x d = got-behind es rest x d

got-front : (es rest : List Sheet) (x d : Sheet) (k : ℕ) → k < length es → get_or (es ++ x ∷ rest) k d ≡ get_or es k d
got-front [] rest x d k l = absurd (omega arith)
got-front (e ∷ es) rest x d zero l = refl
got-front (e ∷ es) rest x d (suc k) l = got-front es rest x d k (omega arith)

longer : (es rest : List Sheet) (x : Sheet) → length es < length (es ++ x ∷ rest)
longer [] rest x = omega arith
longer (e ∷ es) rest x = let l = longer es rest x in omega (arith, l)

-- of a proper list, each sheet can join those in front of it
pub front-joins : (es rest : List Sheet) (id : ℕ) (name : List ℕ) → AreSheets (es ++ (id, name) ∷ rest) → CanJoin id name es
front-joins es rest id name h = (last, all)
  where
    last : id ≢ NO_SHEET
    last = subst (λ (s : Sheet). s.0 ≢ NO_SHEET) (got-behind es rest (id, name) (id, name)) (h.1 (length es) (id, name) (longer es rest (id, name)))

    all : All (λ s. (s.0 ≢ id) × (folded s.1 ≢ folded name)) es
    all k d l =
        subst (λ (s : Sheet). (s.0 ≢ id) × (folded s.1 ≢ folded name)) (got-front es rest (id, name) d k l)
        (subst (λ (s : Sheet). Differ (get_or (es ++ (id, name) ∷ rest) k d) s) (got-behind es rest (id, name) d) (h.0 k (length es) d l (longer es rest (id, name))))
