-- The text of links, one link after another.
use Rattle.std.specs.Prelude.{ℕ, zero, suc, List, [], ◌∷◌, ◌++◌}
use Rattle.formula_tree.specs.declared.link.Link.{Link}
use Rattle.command_answers.specs.Replies.{link_text, links_text}
use Rattle.book_model.specs.Workbook.{Workbook}

-- what stands in front of the link at a place of a list: a blank, but for the first
abbrev pub gap_before : ℕ → List ℕ
gap_before zero = []
gap_before (suc n) = 32 ∷ []

-- links behind others
abbrev pub links_behind : Workbook → List Link → List ℕ
links_behind b [] = []
links_behind b (l ∷ ls) = 32 ∷ (link_text b l ++ links_behind b ls)

-- the links from a place of the list on
abbrev pub links_left : Workbook → ℕ → List Link → List ℕ
links_left b zero ls = links_text b ls
links_left b (suc n) ls = links_behind b ls
