-- Arguments from some place on. Serves the writing of arguments.
use Rattle.std.proofs.Common.{◌≡◌, ◌∙◌, sym, ap, append_assoc, refl, ℕ, ◌+◌, ◌<◌, Bool, true, false, if◌then◌else◌, List, [], ◌∷◌, ◌++◌, Option, length, map, drop, get_or, Global}
use Rattle.formula_tree.specs.declared.reference.Corner.{Corner}
use Rattle.std.specs.declared.rc.Rc.{Rc}
use Rattle.formula_tree.specs.declared.node.Node.{Node}
use Rattle.formula_tree.specs.declared.node.TreeList.{TreeList}
use Rattle.formula_tree.specs.declared.reference.Home.{Home}
use Rattle.formula_tree.specs.Term.{Term, Terms, no_terms, term, terms_of, each_corner_all}
use Rattle.formula_tree.specs.Canonical.{printed, printed_all, printed_more}
use Rattle.formula_tree.specs.Arguments.{trees}
use Rattle.formula_tree.specs.Reference.{base_of, corner_at}
use Rattle.formula_tree.specs.Relative.{relative, relative_list}
use Rattle.formula_tree.specs.StandsFor.{at_home}
use Rattle.formula_tree.proofs.ArgumentLists.{each_corner_all-terms_of}
use Rattle.formula_tree.proofs.RelativeNodes.{relative_list-trees}
use Rattle.formula_tree.proofs.Once.{drop-item}
use Rattle.formula_print.specs.internal.Appends.{AppendsText}

-- the first arguments, or those after a comma
abbrev pub printed_from : Bool → ℕ → (ℕ → Option (List ℕ)) → Terms Corner → List ℕ → List ℕ
printed_from true home names ts rest = printed_all home names ts rest
printed_from false home names ts rest = printed_more home names ts rest

-- the comma in front of an argument that isn't the first
abbrev pub comma : Bool → List ℕ
comma is_first = if is_first then [] else 44 ∷ []

printed_from-item : (b : Bool) (home : ℕ) (names : ℕ → Option (List ℕ)) (t : Term Corner) (ts : Terms Corner) (rest : List ℕ)
    → printed_from b home names (term t ts) rest ≡ comma b ++ printed home names t (printed_from false home names ts rest)
printed_from-item true home names t ts rest = refl
printed_from-item false home names t ts rest = refl

printed_from-none : (b : Bool) (home : ℕ) (names : ℕ → Option (List ℕ)) (rest : List ℕ) → printed_from b home names no_terms rest ≡ 41 ∷ rest
printed_from-none true home names rest = refl
printed_from-none false home names rest = refl

-- the terms of the arguments from an index on
abbrev pub terms_from : Home → List (Rc Node Global) → ℕ → Terms Corner
terms_from at items i = terms_of (map (λ t. at_home at (relative t.value)) (drop i items))

-- one argument more is written
pub argument-written : (at : Home) (b : Bool) (home : ℕ) (names : ℕ → Option (List ℕ)) (items : List (Rc Node Global)) (i : ℕ) (item : Rc Node Global) (old mid new all cs : List ℕ)
    → i < length items → item ≡ get_or items i item → mid ≡ old ++ comma b → AppendsText mid new (printed home names (at_home at (relative item.value)))
    → old ++ printed_from b home names (terms_from at items i) cs ≡ all → new ++ printed_from false home names (terms_from at items (i + 1)) cs ≡ all
argument-written at b home names items i item old mid new all cs h is m w before =
    let more : List ℕ = printed_from false home names (terms_from at items (i + 1)) cs in
    let t : Term Corner = at_home at (relative item.value) in
    w more
    ∙ ap (λ xs. xs ++ printed home names t more) m
    ∙ append_assoc old (comma b) (printed home names t more)
    ∙ ap (λ xs. old ++ xs) (sym (printed_from-item b home names t (terms_from at items (i + 1)) cs))
    ∙ ap (λ xs. old ++ printed_from b home names (terms_of (map (λ t. at_home at (relative t.value)) xs)) cs) (sym (drop-item items i item h is))
    ∙ before

-- the closing parenthesis is written
pub all-written : (at : Home) (b : Bool) (home : ℕ) (names : ℕ → Option (List ℕ)) (items : List (Rc Node Global)) (i : ℕ) (old new all cs : List ℕ)
    → drop i items ≡ [] → new ≡ old ++ 41 ∷ [] → old ++ printed_from b home names (terms_from at items i) cs ≡ all → new ++ cs ≡ all
all-written at b home names items i old new all cs past n before =
    ap (λ xs. xs ++ cs) n
    ∙ append_assoc old (41 ∷ []) cs
    ∙ ap (λ xs. old ++ xs) (sym (printed_from-none b home names cs))
    ∙ ap (λ xs. old ++ printed_from b home names (terms_of (map (λ t. at_home at (relative t.value)) xs)) cs) (sym past)
    ∙ before

-- all arguments at the home
pub terms_at : (at : Home) (list : TreeList) → each_corner_all (corner_at (base_of at)) (relative_list list) ≡ terms_of (map (λ t. at_home at (relative t.value)) (trees list))
terms_at at list = ap (each_corner_all (corner_at (base_of at))) (relative_list-trees list) ∙ each_corner_all-terms_of (corner_at (base_of at)) (λ t. relative t.value) (trees list)
