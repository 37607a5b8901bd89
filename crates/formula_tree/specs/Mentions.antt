-- What a tree mentions: places, blocks, whole ranges and names, in order. Source: this project's own.
use Rattle.std.specs.Prelude.{◌≡◌, ℕ, Bool, false, ◌&&◌, if◌then◌else◌, List, [], ◌∷◌, ◌++◌, Option, Some, None}
use Rattle.std.specs.List.{filter_map}
use Rattle.cell_addr.specs.Place.{same_place, same_block}
use Rattle.cell_addr.specs.Sheets.{same_name}
use Rattle.cell_addr.specs.Whole.{same_whole}
use Rattle.formula_tree.specs.Links.{is_place_word, links_in, names_in}
use Rattle.formula_tree.specs.Reference.{block_of}
use Rattle.formula_tree.specs.Whole.{whole_between}
use Rattle.formula_tree.specs.Term.{Term, cell, area, whole, name, prefix, percent, binary, call, paren, Terms, no_terms, term, is_reference}
use Rattle.formula_tree.specs.declared.link.Link.{Link}
use Rattle.formula_tree.specs.declared.link.Link.TheVariants as links
use Rattle.formula_tree.specs.declared.mention.Mention.{Mention}
use Rattle.formula_tree.specs.declared.mention.Mention.TheVariants as mention
use Rattle.formula_tree.specs.declared.reference.Corner.{Corner}

-- the same cell, block, whole range or word; a cell and the block of it alone are two, and so are a whole range and
-- its block
abbrev pub same_mention : Mention → Mention → Bool
same_mention (mention.Cell p) (mention.Cell q) = same_place p q
same_mention (mention.Area b) (mention.Area c) = same_block b c
same_mention (mention.Whole v) (mention.Whole w) = same_whole v w
same_mention (mention.Name v) (mention.Name w) = same_name v w
same_mention a b = false

abbrev mutual
  -- the places, blocks, whole ranges and names of a tree, in order; not those, but for names, that are themselves the
  -- argument of a function that asks where they are
  pub mentions_in : Term Corner → List Mention
  mentions_in (cell c) = mention.Cell c.at ∷ []
  mentions_in (area c d) = mention.Area (block_of c d) ∷ []
  mentions_in (whole axis c d) = mention.Whole (whole_between axis c d) ∷ []
  mentions_in (name w) = mention.Name w ∷ []
  mentions_in (prefix s t) = mentions_in t
  mentions_in (percent t) = mentions_in t
  mentions_in (binary o l r) = mentions_in l ++ mentions_in r
  mentions_in (call w ts) = mentions_in_all (is_place_word w) ts
  mentions_in (paren t) = mentions_in t
  mentions_in t = []

  pub mentions_in_all : Bool → Terms Corner → List Mention
  mentions_in_all skip no_terms = []
  mentions_in_all skip (term t ts) = (if skip && is_reference t then [] else mentions_in t) ++ mentions_in_all skip ts

-- a place, a block or a whole range as a link; a name is none by itself
abbrev pub place_link : Mention → Option Link
place_link (mention.Cell p) = Some (links.Cell p)
place_link (mention.Area b) = Some (links.Area b)
place_link (mention.Whole w) = Some (links.Whole w)
place_link (mention.Name w) = None

-- a name's word
abbrev pub word_of : Mention → Option (List ℕ)
word_of (mention.Name w) = Some w
word_of m = None

-- what a tree mentions other than names are its links, and the names are its names
pub record MentionsAreAll : Type 0 where
  pub places : (t : Term Corner) → filter_map place_link (mentions_in t) ≡ links_in t
  pub names : (t : Term Corner) → filter_map word_of (mentions_in t) ≡ names_in t
