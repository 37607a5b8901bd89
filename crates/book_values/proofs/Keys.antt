-- Names and nodes: the tests of whether two are the same, and what is listed. Serves the network of a workbook.
use Rattle.std.proofs.Common.{◌≡◌, ◌∙◌, sym, ap, refl, ℕ, Bool, true, false, cond, List, [], ◌∷◌, map, Option, Some, None, ⊎_elim, eqb-true, eq-eqb}
use Rattle.std.specs.Prelude.{bytes_eq}
use Rattle.std.specs.Cmp.Lexicographic.{bytes_decides}
use Rattle.std.specs.FinMap.{find}
use Rattle.std.specs.List.{filter, list_any}
use Rattle.std.specs.Ordering.{is_eq}
use Rattle.std.specs.declared.cmp.Ordering.{Ordering}
use Rattle.std.specs.declared.cmp.Ordering.TheVariants.{Less, Equal, Greater}
use Rattle.std.proofs.lemmas.Bool.{and_from, and_parts, cases_Bool, false≢true, or_cases, or_left, or_right}
use Rattle.cell_addr.proofs.Places.{place_cmp-IsAntisymmetric}
use Rattle.cell_addr.proofs.SamePlaces.{same_place-equal, same_place-self}
use Rattle.cell_addr.specs.Order.{place_cmp}
use Rattle.cell_addr.specs.Place.{same_place}
use Rattle.cell_addr.specs.declared.place.Place.{Place}
use Rattle.book_values.specs.Book.{Content, is_formula}
use Rattle.formula_tree.specs.Links.{same_scope}
use Rattle.formula_tree.specs.Term.{Term}
use Rattle.formula_tree.specs.declared.reference.Corner.{Corner}
use Rattle.book_values.specs.Names.{Key, Names, same_key, tree_in}
use Rattle.book_values.specs.Workbook.{Node, same_node}
use Rattle.book_values.specs.Workbook as nodes

is_eq-Equal : (o : Ordering) → is_eq o ≡ true → o ≡ Equal
is_eq-Equal Less h = cc
is_eq-Equal Equal h = refl
is_eq-Equal Greater h = cc

-- places that compare as equal are one
same_at : (p q : Place) → is_eq (place_cmp p q) ≡ true → p ≡ q
same_at p q here = place_cmp-IsAntisymmetric p q (is_eq-Equal (place_cmp p q) here)

same_scope-self : (s : Option ℕ) → same_scope s s ≡ true
same_scope-self None = refl
same_scope-self (Some n) = eq-eqb n n refl

same_scope-equal : (s t : Option ℕ) → same_scope s t ≡ true → s ≡ t
same_scope-equal None None h = refl
same_scope-equal (Some m) (Some n) h = ap Some (eqb-true m n h)
same_scope-equal None (Some n) h = absurd (false≢true h)
same_scope-equal (Some m) None h = absurd (false≢true h)

pub same_key-self : (k : Key) → same_key k k ≡ true
same_key-self k = and_from (same_scope k.scope k.scope) (bytes_eq k.word k.word) (same_scope-self k.scope) ((bytes_decides k.word k.word).1 refl)

pub same_key-equal : (a b : Key) → same_key a b ≡ true → a ≡ b
same_key-equal a b h =
    let (s, w) = and_parts (same_scope a.scope b.scope) (bytes_eq a.word b.word) h in
    let scope = same_scope-equal a.scope b.scope s in
    let word = (bytes_decides a.word b.word).0 w in
    λ i. record { scope = scope i; word = word i }

pub same_node-self : (a : Node) → same_node a a ≡ true
same_node-self (nodes.place p) = same_place-self p
same_node-self (nodes.name k) = same_key-self k

pub same_node-equal : (a b : Node) → same_node a b ≡ true → a ≡ b
same_node-equal (nodes.place p) (nodes.place q) h = ap nodes.place (same_place-equal p q h)
same_node-equal (nodes.name a) (nodes.name b) h = ap nodes.name (same_key-equal a b h)
same_node-equal (nodes.place p) (nodes.name b) h = absurd (false≢true h)
same_node-equal (nodes.name a) (nodes.place q) h = absurd (false≢true h)

-- a test that one of a list's items passes, where the items of another list are as good
pub any_mapped : {X Y : Type 0} (p : X → Bool) (q : Y → Bool) (f : X → Y) (xs : List X) → ((x : X) → q (f x) ≡ p x) → list_any p xs ≡ true → list_any q (map f xs) ≡ true
any_mapped p q f [] same h = absurd (false≢true h)
any_mapped p q f (x ∷ xs) same h = ⊎_elim
    (λ here. or_left (q (f x)) (list_any q (map f xs)) (same x ∙ here))
    (λ later. or_right (q (f x)) (list_any q (map f xs)) (any_mapped p q f xs same later))
    (or_cases (p x) (list_any p xs) h)

-- a word of a list passes what it passes
pub word_passes : (word : List ℕ) (q : List ℕ → Bool) (words : List (List ℕ)) → q word ≡ true → list_any (bytes_eq word) words ≡ true → list_any q words ≡ true
word_passes word q [] is h = absurd (false≢true h)
word_passes word q (w ∷ words) is h = ⊎_elim
    (λ here. or_left (q w) (list_any q words) (ap q (sym ((bytes_decides word w).0 here)) ∙ is))
    (λ later. or_right (q w) (list_any q words) (word_passes word q words is later))
    (or_cases (bytes_eq word w) (list_any (bytes_eq word) words) h)

-- a name that has a tree is listed
named_here : (entry : Key × Term Corner) (rest : Names) (key : Key) (b : Bool) → same_key entry.0 key ≡ b → (t : Term Corner) → cond b (Some entry.1) (tree_in rest key) ≡ Some t
    → (tree_in rest key ≡ Some t → list_any (same_node (nodes.name key)) (map (λ e. nodes.name e.0) rest) ≡ true)
    → list_any (same_node (nodes.name key)) (map (λ e. nodes.name e.0) (entry ∷ rest)) ≡ true
named_here entry rest key true is t h later =
    or_left (same_key key entry.0) (list_any (same_node (nodes.name key)) (map (λ e. nodes.name e.0) rest)) (ap (λ k. same_key k entry.0) (sym (same_key-equal entry.0 key is)) ∙ same_key-self entry.0)
named_here entry rest key false is t h later =
    or_right (same_key key entry.0) (list_any (same_node (nodes.name key)) (map (λ e. nodes.name e.0) rest)) (later h)

pub name_listed : (names : Names) (key : Key) (t : Term Corner) → tree_in names key ≡ Some t → list_any (same_node (nodes.name key)) (map (λ e. nodes.name e.0) names) ≡ true
name_listed [] key t h = absurd (cc)
name_listed (entry ∷ rest) key t h = named_here entry rest key (same_key entry.0 key) refl t h (name_listed rest key t)

-- the places with formulas among these entries
abbrev formula_places : List (Place × Content) → List Place
formula_places es = map (λ e. e.0) (filter (λ e. is_formula e.1) es)

listed_first : (p : Place) (e : Place × Content) (es : List (Place × Content)) → p ≡ e.0 → is_formula e.1 ≡ true → list_any (same_place p) (formula_places (e ∷ es)) ≡ true
listed_first p e es same f =
    ap (λ b. list_any (same_place p) (map (λ x. x.0) (cond b (e ∷ filter (λ x. is_formula x.1) es) (filter (λ x. is_formula x.1) es)))) f
    ∙ or_left (same_place p e.0) (list_any (same_place p) (formula_places es)) (ap (same_place p) (sym same) ∙ same_place-self p)

listed_later : (p : Place) (e : Place × Content) (es : List (Place × Content)) (b : Bool) → list_any (same_place p) (formula_places es) ≡ true
    → list_any (same_place p) (map (λ x. x.0) (cond b (e ∷ filter (λ x. is_formula x.1) es) (filter (λ x. is_formula x.1) es))) ≡ true
listed_later p e es true h = or_right (same_place p e.0) (list_any (same_place p) (formula_places es)) h
listed_later p e es false h = h

-- a formula that is found at a place is listed
pub place_listed : (es : List (Place × Content)) (p : Place) (c : Content) → find place_cmp p es ≡ Some c → is_formula c ≡ true → list_any (same_place p) (formula_places es) ≡ true
place_listed [] p c found f = cc
place_listed (e ∷ es) p c found f = ⊎_elim
    (λ (here : is_eq (place_cmp p e.0) ≡ true).
    let first : Some e.1 ≡ Some c = sym (ap (λ b. cond b (Some e.1) (find place_cmp p es)) here) ∙ found in
    let is : e.1 ≡ c = cc in
    listed_first p e es (same_at p e.0 here) (ap is_formula is ∙ f))
    (λ (there : is_eq (place_cmp p e.0) ≡ false). listed_later p e es (is_formula e.1) (place_listed es p c (sym (ap (λ b. cond b (Some e.1) (find place_cmp p es)) there) ∙ found) f))
    (cases_Bool (is_eq (place_cmp p e.0)))
