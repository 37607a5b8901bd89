-- How many steps a formula's tree takes at most. Source: this project's own.
use Rattle.std.specs.Prelude.{ℕ, ◌+◌, Bool, ◌&&◌, if◌then◌else◌, Option, Some}
use Rattle.formula_tree.specs.Links.{is_place_word}
use Rattle.formula_tree.specs.Term.{Term, area, whole, name, prefix, percent, binary, call, paren, Terms, no_terms, term, is_reference}
use Rattle.formula_tree.specs.declared.reference.Corner.{Corner}
use Rattle.calc_terms.specs.Cells.{filled_in}
use Rattle.calc_terms.specs.References.{reference_of}
use Rattle.calc_terms.specs.World.{World}
use Rattle.calc_terms.specs.declared.reference.Reference.{Reference}
use Rattle.calc_terms.specs.declared.reference.Reference.TheVariants as reference

-- how many cells of a reference's block aren't empty; a single cell is no block
abbrev pub block_size : World → Option Reference → ℕ
block_size w (Some (reference.Area b)) = filled_in w.shown b
block_size w _ = 0

abbrev mutual
  -- the number of the tree's nodes and of the cells that aren't empty in each block and whole range that it holds, or
  -- that one of its names stands for on this sheet; each occurrence counts. The cells of one that is itself the
  -- argument of a function that asks where a reference is don't
  pub cost : World → ℕ → Term Corner → ℕ
  cost w sheet (area c d) = block_size w (reference_of w sheet (area c d)) + 1
  cost w sheet (whole axis c d) = block_size w (reference_of w sheet (whole axis c d)) + 1
  cost w sheet (name word) = block_size w (reference_of w sheet (name word)) + 1
  cost w sheet (prefix s t) = cost w sheet t + 1
  cost w sheet (percent t) = cost w sheet t + 1
  cost w sheet (binary o l r) = cost w sheet l + cost w sheet r + 1
  cost w sheet (call word ts) = cost_all w sheet (is_place_word word) ts + 1
  cost w sheet (paren t) = cost w sheet t + 1
  cost w sheet t = 1

  -- that of the arguments of a call, where those that are references are asked where they are or not
  pub cost_all : World → ℕ → Bool → Terms Corner → ℕ
  cost_all w sheet asked no_terms = 0
  cost_all w sheet asked (term t ts) = (if asked && is_reference t then 1 else cost w sheet t) + cost_all w sheet asked ts

-- that of one argument
abbrev pub asked_cost : World → ℕ → Bool → Term Corner → ℕ
asked_cost w sheet asked t = if asked && is_reference t then 1 else cost w sheet t
