-- The sheets of a list, and those that a tree names. Serves the trees of a session.
use Rattle.std.proofs.Common.{◌≡◌, ◌∙◌, sym, ap, refl, ℕ, Bool, true, false, cond, eqb, List, [], ◌∷◌, ◌||◌, ◌==◌, Option, Some, inl, inr}
use Rattle.std.specs.Prelude.{◌⊎◌}
use Rattle.std.specs.List.{list_any}
use Rattle.cell_addr.specs.Sheets.{id_in, name_in, AreSheets}
use Rattle.cell_addr.proofs.Listed.{id_in-listed, listed-name_in}
use Rattle.formula_tree.specs.Proper.{IsProper, AreProper, IsListed, SheetsAreListed, AllSheetsAreListed}
use Rattle.formula_tree.specs.Term.{Term, number, text, truth, fault, cell, area, whole, name, prefix, percent, binary, call, paren, Terms, no_terms, term}
use Rattle.formula_tree.specs.declared.reference.Corner.{Corner}
use Rattle.tree_rewrite.specs.Sheets.{HasSheet, SomeHasSheet}

-- a sheet of this number stands in the list
abbrev pub has_id : ℕ → List (ℕ × List ℕ) → Bool
has_id id sheets = list_any (λ s. s.0 == id) sheets

named-by : (b rest : Bool) (w : List ℕ) (found : Option (List ℕ)) → b || rest ≡ true → (rest ≡ true → (v : List ℕ) × (found ≡ Some v)) → (v : List ℕ) × (cond b (Some w) found ≡ Some v)
named-by true rest w found h more = (w, refl)
named-by false rest w found h more = more h

-- a sheet of the list has a name
pub named : (sheets : List (ℕ × List ℕ)) (id : ℕ) → has_id id sheets ≡ true → (w : List ℕ) × (name_in sheets id ≡ Some w)
named [] id h = cc
named (s ∷ sheets) id h = named-by (eqb s.0 id) (has_id id sheets) s.1 (name_in sheets id) h (named sheets id)

has-by : (b rest : Bool) (w v : List ℕ) (found : Option (List ℕ)) → cond b (Some w) found ≡ Some v → (found ≡ Some v → rest ≡ true) → b || rest ≡ true
has-by true rest w v found h more = refl
has-by false rest w v found h more = more h

-- a number with a name stands in the list
pub has-named : (sheets : List (ℕ × List ℕ)) (id : ℕ) (w : List ℕ) → name_in sheets id ≡ Some w → has_id id sheets ≡ true
has-named [] id w h = cc
has-named (s ∷ sheets) id w h = has-by (eqb s.0 id) (has_id id sheets) s.1 w (name_in sheets id) h (has-named sheets id w)

-- a sheet of a proper list is found again by its name
pub listed : (sheets : List (ℕ × List ℕ)) (home id : ℕ) → AreSheets sheets → has_id id sheets ≡ true → IsListed home (name_in sheets) (id_in sheets) id
listed sheets home id are h =
    let n = named sheets id h in
    inr (n.0, n.1, id_in-listed sheets (id, n.0) n.0 are.0 (listed-name_in sheets id n.0 n.1) refl)

home-or-has : (sheets : List (ℕ × List ℕ)) (home id : ℕ) → IsListed home (name_in sheets) (id_in sheets) id → (id ≡ home) ⊎ (has_id id sheets ≡ true)
home-or-has sheets home id l = elim l [ inl e ↦ inl e | inr n ↦ inr (has-named sheets id n.0 n.1) ]

stands-same : (sheets : List (ℕ × List ℕ)) (home id other : ℕ) → id ≡ other → IsListed home (name_in sheets) (id_in sheets) id → (other ≡ home) ⊎ (has_id other sheets ≡ true)
stands-same sheets home id other e l = elim (home-or-has sheets home id l) [ inl h ↦ inl (sym e ∙ h) | inr h ↦ inr (ap (λ n. has_id n sheets) (sym e) ∙ h) ]

mutual
  -- where each sheet of a tree stands in the list, the tree's sheets are listed
  pub all_listed : (sheets : List (ℕ × List ℕ)) (home : ℕ) (t : Term Corner) → AreSheets sheets → ((sheet : ℕ) → HasSheet sheet t → has_id sheet sheets ≡ true) → SheetsAreListed home (name_in sheets) (id_in sheets) t
  all_listed sheets home (number m) are h = tt
  all_listed sheets home (text w) are h = tt
  all_listed sheets home (truth b) are h = tt
  all_listed sheets home (fault f) are h = tt
  all_listed sheets home (cell c) are h = listed sheets home c.at.sheet are (h c.at.sheet refl)
  all_listed sheets home (area c d) are h = listed sheets home c.at.sheet are (h c.at.sheet (inl refl))
  all_listed sheets home (whole axis c d) are h = listed sheets home c.at.sheet are (h c.at.sheet (inl refl))
  all_listed sheets home (name w) are h = tt
  all_listed sheets home (prefix s t) are h = all_listed sheets home t are h
  all_listed sheets home (percent t) are h = all_listed sheets home t are h
  all_listed sheets home (binary o l r) are h = (all_listed sheets home l are (λ n i. h n (inl i)), all_listed sheets home r are (λ n i. h n (inr i)))
  all_listed sheets home (call w ts) are h = all_listed_list sheets home ts are h
  all_listed sheets home (paren t) are h = all_listed sheets home t are h

  all_listed_list : (sheets : List (ℕ × List ℕ)) (home : ℕ) (ts : Terms Corner) → AreSheets sheets → ((sheet : ℕ) → SomeHasSheet sheet ts → has_id sheet sheets ≡ true) → AllSheetsAreListed home (name_in sheets) (id_in sheets) ts
  all_listed_list sheets home no_terms are h = tt
  all_listed_list sheets home (term t ts) are h = (all_listed sheets home t are (λ n i. h n (inl i)), all_listed_list sheets home ts are (λ n i. h n (inr i)))

mutual
  -- where a proper tree's sheets are listed, each of them is its home's or stands in the list
  pub some_stand : (sheets : List (ℕ × List ℕ)) (home : ℕ) (t : Term Corner) → IsProper t → SheetsAreListed home (name_in sheets) (id_in sheets) t → (sheet : ℕ) → HasSheet sheet t → (sheet ≡ home) ⊎ (has_id sheet sheets ≡ true)
  some_stand sheets home (number m) p l sheet i = absurd i
  some_stand sheets home (text w) p l sheet i = absurd i
  some_stand sheets home (truth b) p l sheet i = absurd i
  some_stand sheets home (fault f) p l sheet i = absurd i
  some_stand sheets home (cell c) p l sheet i = stands-same sheets home c.at.sheet sheet i l
  some_stand sheets home (area c d) p l sheet i = elim i [
    | inl e ↦ stands-same sheets home c.at.sheet sheet e l
    | inr e ↦ stands-same sheets home c.at.sheet sheet (p.2.0 ∙ e) l
  ]
  some_stand sheets home (whole axis c d) p l sheet i = elim i [
    | inl e ↦ stands-same sheets home c.at.sheet sheet e l
    | inr e ↦ stands-same sheets home c.at.sheet sheet (p.2.0 ∙ e) l
  ]
  some_stand sheets home (name w) p l sheet i = absurd i
  some_stand sheets home (prefix s t) p l sheet i = some_stand sheets home t p.1 l sheet i
  some_stand sheets home (percent t) p l sheet i = some_stand sheets home t p.1 l sheet i
  some_stand sheets home (binary o u v) p l sheet i = elim i [ inl j ↦ some_stand sheets home u p.2 l.0 sheet j | inr j ↦ some_stand sheets home v p.3 l.1 sheet j ]
  some_stand sheets home (call w ts) p l sheet i = some_stand_list sheets home ts p.1 l sheet i
  some_stand sheets home (paren t) p l sheet i = some_stand sheets home t p l sheet i

  some_stand_list : (sheets : List (ℕ × List ℕ)) (home : ℕ) (ts : Terms Corner) → AreProper ts → AllSheetsAreListed home (name_in sheets) (id_in sheets) ts → (sheet : ℕ) → SomeHasSheet sheet ts → (sheet ≡ home) ⊎ (has_id sheet sheets ≡ true)
  some_stand_list sheets home no_terms p l sheet i = absurd i
  some_stand_list sheets home (term t ts) p l sheet i = elim i [ inl j ↦ some_stand sheets home t p.0 l.0 sheet j | inr j ↦ some_stand_list sheets home ts p.1 l.1 sheet j ]

-- and where its home's sheet stands there, each does
pub all_stand : (sheets : List (ℕ × List ℕ)) (home : ℕ) (t : Term Corner) → has_id home sheets ≡ true → IsProper t → SheetsAreListed home (name_in sheets) (id_in sheets) t → (sheet : ℕ) → HasSheet sheet t → has_id sheet sheets ≡ true
all_stand sheets home t h p l sheet i = elim (some_stand sheets home t p l sheet i) [ inl e ↦ ap (λ n. has_id n sheets) e ∙ h | inr e ↦ e ]
