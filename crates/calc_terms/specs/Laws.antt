-- What holds of the meaning of formulas and of its cost. Source: this project's own.
use Rattle.std.specs.Prelude.{◌≡◌, ℕ, ⊤, Bool, true, false, List, Option, Some, None, bytes_eq}
use Rattle.std.specs.List.{list_all, list_any}
use Rattle.cell_addr.specs.declared.place.Place.{Place}
use Rattle.cell_addr.specs.Place.{covers, same_place}
use Rattle.cell_addr.specs.Whole.{whole_block}
use Rattle.custom_fn.specs.Word.{is_function_word}
use Rattle.custom_fn.specs.declared.rule.Rule.{Rule}
use Rattle.custom_fn.specs.declared.words.TheConstants.{FUNCTION_WORDS}
use Rattle.formula_tree.specs.Links.{links_in}
use Rattle.formula_tree.specs.Reference.{sheet_of}
use Rattle.formula_tree.specs.Term.{Term}
use Rattle.formula_tree.specs.declared.link.Link.{Link}
use Rattle.formula_tree.specs.declared.link.Link.TheVariants as links
use Rattle.formula_tree.specs.declared.reference.Corner.{Corner}
use Rattle.formula_tree.specs.declared.reference.Home.{Home}
use Rattle.calc_terms.specs.Cost.{cost}
use Rattle.calc_terms.specs.Meaning.{meaning}
use Rattle.calc_terms.specs.Needs.{mentions, mentions_name}
use Rattle.calc_terms.specs.Words.{function_named, word_of}
use Rattle.calc_terms.specs.World.{Named, World}
use Rattle.calc_terms.specs.declared.function.Function.{Function}

-- both worlds show the same at each place that the tree mentions
abbrev pub ShowAlike : World → World → Term Corner → Type 0
ShowAlike v w t = (p : Place) → mentions t p ≡ true → v.shown p ≡ w.shown p

-- what a word finds in both is the same: nothing, or a name of one value and one tree, at whose places both show the
-- same
abbrev pub NameAlike : World → World → Option Named → Option Named → Type 0
NameAlike v w (Some m) (Some n) = (m.value ≡ n.value) × (m.tree ≡ n.tree) × ShowAlike v w m.tree
NameAlike v w None None = ⊤
NameAlike v w _ _ = ⊥

-- both worlds are the same in all that the tree needs in a formula on this sheet: the places that it mentions, the
-- names that it mentions, and what these need
pub record AreAlike (v w : World) (sheet : ℕ) (t : Term Corner) : Type 0 where
  pub today : v.today ≡ w.today
  pub shown : ShowAlike v w t
  pub named : (word : List ℕ) → mentions_name t word ≡ true → NameAlike v w (v.named word sheet) (w.named word sheet)

-- a tree means the same wherever all that it needs is the same
abbrev pub ReadsNeeds : Type 0
ReadsNeeds = (v w : World) (customs : List (List ℕ × Rule)) (home : Home) (t : Term Corner) → AreAlike v w (sheet_of home) t → meaning v customs home t ≡ meaning w customs home t

-- and takes as many steps at most
abbrev pub CostsRestOnNeeds : Type 0
CostsRestOnNeeds = (v w : World) (sheet : ℕ) (t : Term Corner) → AreAlike v w sheet t → cost v sheet t ≡ cost w sheet t

-- a link is to the place, or to a block or whole range that covers it; a name is no place
abbrev pub is_link_to : Place → Link → Bool
is_link_to p (links.Cell q) = same_place q p
is_link_to p (links.Area b) = covers b p
is_link_to p (links.Whole w) = covers (whole_block w) p
is_link_to p (links.Name scope w) = false

-- a tree mentions the places that its links lead to, and no others
abbrev pub LinksAreNeeds : Type 0
LinksAreNeeds = (t : Term Corner) (p : Place) → mentions t p ≡ list_any (is_link_to p) (links_in t)

-- the function that was found has this word
abbrev pub has_word : List ℕ → Option Function → Bool
has_word word None = false
has_word word (Some f) = bytes_eq (word_of f) word

-- the words of the list are those of the functions: each of them names one, which has it, and each function has one of them
abbrev pub WordsAreFunctions : Type 0
WordsAreFunctions = (list_all (λ word. has_word word.now (function_named word.now)) FUNCTION_WORDS ≡ true)
    × ((f : Function) → is_function_word (word_of f) ≡ true)
