-- The names that a formula reads, one word after another. Serves what reads them.
use Rattle.std.proofs.Common.{◌≡◌, ◌∙◌, sym, ap, subst, ℕ, true, false, cond, ◌||◌, List, [], ◌∷◌, ◌++◌, Some, None, is_some, inl, inr, ⊎_elim, drop, get_or, length, ◌<◌, ◌+◌}
use Rattle.std.specs.Cmp.Lexicographic.{bytes_decides}
use Rattle.std.specs.List.{All, find, list_any}
use Rattle.std.proofs.lemmas.Bool.{false≢true, or_cases, or_left, or_right}
use Rattle.std.proofs.lemmas.List.{drop_more}
use Rattle.std.proofs.lemmas.List.Elements.{All-nil, All-push}
use Rattle.std.proofs.lemmas.List.Folds.{list_any-append}
use Rattle.cell_addr.specs.Sheets.{same_name}
use Rattle.cell_addr.specs.Text.{folded}
use Rattle.formula_tree.proofs.Once.{lists_once}
use Rattle.formula_tree.proofs.SameLinks.{names_alike}
use Rattle.formula_tree.specs.Links.{once}
use Rattle.book_values.specs.Names.{Names, found, tree_in}
use Rattle.book_values.specs.Workbook.{Workbook}
use Rattle.dep_graph.specs.declared.node.Node.{Node}
use Rattle.recalc_core.specs.Given.{HasGivenAt, IsFound, IsGiven}
use Rattle.recalc_core.specs.Nodes.{node_at}
use Rattle.recalc_core.specs.declared.names.ReadName.{ReadName}
use Rattle.recalc_core.specs.declared.trees.NodeContent.{NodeContent}
use Rattle.recalc_core.specs.declared.trees.NodeContent.TheVariants.{Formula}
use Rattle.recalc_core.specs.internal.Seen.{AddsRead, AreRead, IsRead}

-- words that are the same find the same
pub found_alike : (names : Names) (v w : List ℕ) (sheet : ℕ) → same_name v w ≡ true → found names v sheet ≡ found names w sheet
found_alike names v w sheet h =
    ap (λ text. cond (is_some (tree_in names (record { scope = Some sheet; word = text }))) (Some (record { scope = Some sheet; word = text }))
    (cond (is_some (tree_in names (record { scope = None; word = text }))) (Some (record { scope = None; word = text })) None))
    ((bytes_decides (folded v) (folded w)).0 h)

pub same_back : (v w : List ℕ) → same_name v w ≡ true → same_name w v ≡ true
same_back v w h = (bytes_decides (folded w) (folded v)).1 (sym ((bytes_decides (folded v) (folded w)).0 h))

module _ (b : Workbook) (words : List (List ℕ)) (sheet : ℕ) where
  -- the name that a word finds, with the formula that is given of its node
  pub read_here : (word : List ℕ) (a : Node) (given : NodeContent) (name : ReadName) → IsFound b words word sheet (Some a) → IsGiven b words a given → given ≡ Formula name.tree name.home
      → name.word ≡ word → name.node ≡ a → IsRead b words sheet name
  read_here word a given name (key, is, at) has formula same here =
      let (home, tree) = subst (λ o. HasGivenAt b o (Formula name.tree name.home)) at (subst (IsGiven b words a) formula has) in
      (key, ap (λ w. found b.names w sheet) same ∙ is, ap (node_at words) here ∙ at, tree)

  pub none_read : AreRead b words sheet [] []
  none_read = record { each = All-nil (IsRead b words sheet); all = λ word h. absurd (false≢true h) }

  -- one word more
  pub reads_on : (asked : List (List ℕ)) (word : List ℕ) (old new : List ReadName) → AreRead b words sheet asked old → AddsRead b words sheet word old new → AreRead b words sheet (asked ++ word ∷ []) new
  reads_on asked word old new read (inl (none, is)) = record {
    each = subst (All (IsRead b words sheet)) (sym is) read.each;
    all = λ w h found_there. subst (λ names. list_any (λ name. same_name name.word w) names ≡ true) (sym is) (⊎_elim
        (λ (before : list_any (same_name w) asked ≡ true). read.all w before found_there)
        (λ (last : (same_name w word || false) ≡ true). ⊎_elim
        (λ (same : same_name w word ≡ true). absurd (false≢true (sym (ap is_some (found_alike b.names w word sheet same ∙ none)) ∙ found_there)))
        (λ (no_more : false ≡ true). absurd (false≢true no_more))
        (or_cases (same_name w word) false last))
        (or_cases (list_any (same_name w) asked) (list_any (same_name w) (word ∷ [])) (sym (list_any-append (same_name w) asked (word ∷ [])) ∙ h)));
  }
  reads_on asked word old new read (inr (name, same_word, here, is)) = record {
    each = subst (All (IsRead b words sheet)) (sym is) (All-push (IsRead b words sheet) old name read.each here);
    all = λ w h found_there. ap (list_any (λ other. same_name other.word w)) is ∙ list_any-append (λ other. same_name other.word w) old (name ∷ []) ∙ ⊎_elim
        (λ (before : list_any (same_name w) asked ≡ true). or_left (list_any (λ other. same_name other.word w) old) (same_name name.word w || false) (read.all w before found_there))
        (λ (last : (same_name w word || false) ≡ true). ⊎_elim
        (λ (same : same_name w word ≡ true).
        or_right (list_any (λ other. same_name other.word w) old) (same_name name.word w || false)
        (or_left (same_name name.word w) false (ap (λ v. same_name v w) same_word ∙ same_back w word same)))
        (λ (no_more : false ≡ true). absurd (false≢true no_more))
        (or_cases (same_name w word) false last))
        (or_cases (list_any (same_name w) asked) (list_any (same_name w) (word ∷ [])) (sym (list_any-append (same_name w) asked (word ∷ [])) ∙ h));
  }

  -- each word once is as good as all of them
  pub read_all : (asked : List (List ℕ)) (names : List ReadName) → AreRead b words sheet (once same_name asked) names → AreRead b words sheet asked names
  read_all asked names read = record { each = read.each; all = λ word h. read.all word ((lists_once same_name names_alike).members asked word ∙ h) }

-- the first name of a word
pub found_first : (names : List ReadName) (i : ℕ) (name : ReadName) (word : List ℕ) → i < length names → name ≡ get_or names i name → same_name name.word word ≡ true
    → find (λ other. same_name other.word word) (drop i names) ≡ find (λ other. same_name other.word word) names → find (λ other. same_name other.word word) names ≡ Some name
found_first names i name word low is same first =
    sym first ∙ ap (find (λ other. same_name other.word word)) (drop_more names i name low)
    ∙ ap (λ n. find (λ other. same_name other.word word) (n ∷ drop (i + 1) names)) (sym is)
    ∙ ap (λ b. cond b (Some name) (find (λ other. same_name other.word word) (drop (i + 1) names))) same
