-- What an accepted operation answers. Source: this project's own.
use Rattle.std.specs.Prelude.{ℕ, ◌++◌, if◌then◌else◌, List, [], Option, Some, None, option_map}
use Rattle.std.specs.Cmp.Lexicographic.{slice_cmp}
use Rattle.std.specs.FinMap as map
use Rattle.std.specs.List.{filter_map}
use Rattle.std.specs.Option.{option_cmp}
use Rattle.std.specs.Ordering.{nat_cmp, ordering_then}
use Rattle.std.specs.declared.cmp.Ordering.{Ordering}
use Rattle.cell_addr.specs.Text.{capitals}
use Rattle.cell_addr.specs.Whole.{whole_block}
use Rattle.cell_addr.specs.declared.place.Place.{Place}
use Rattle.cell_value.specs.declared.fault.FaultKind.TheVariants as fault
use Rattle.cell_value.specs.declared.scalar.Scalar.{Scalar}
use Rattle.cell_value.specs.declared.scalar.Scalar.TheVariants as scalar
use Rattle.book_values.specs.Book.{Content, formula}
use Rattle.formula_tree.specs.Links.{once, same_link}
use Rattle.formula_tree.specs.Mentions.{mentions_in}
use Rattle.formula_tree.specs.Term.{Term}
use Rattle.formula_tree.specs.declared.link.Link.{Link}
use Rattle.formula_tree.specs.declared.link.Link.TheVariants as links
use Rattle.formula_tree.specs.declared.mention.Mention.{Mention}
use Rattle.formula_tree.specs.declared.mention.Mention.TheVariants as mention
use Rattle.formula_tree.specs.declared.reference.Corner.{Corner}
use Rattle.formula_tree.specs.declared.reference.Home.TheVariants as homes
use Rattle.calc_terms.specs.Meaning.{meaning}
use Rattle.calc_terms.specs.Needs.{mentions}
use Rattle.calc_terms.specs.World.{World}
use Rattle.book_values.specs.Names.{Key, Names, found}
use Rattle.book_values.specs.Values as values
use Rattle.book_values.specs.Workbook as nodes
use Rattle.book_values.specs.Workbook.{Node}
use Rattle.book_model.specs.Content as contents
use Rattle.book_model.specs.Workbook.{State, Workbook}

-- what the values of a workbook follow from: its contents and its names
abbrev pub valued : Workbook → nodes.Workbook
valued b = record { cells = b.cells; names = map.entries b.names }

-- what a place or a name shows
abbrev pub shown : State → Node → Scalar
shown d = values.value_of (valued d.book) d.customs d.today

-- what a cell shows
abbrev pub value_of : State → Place → Scalar
value_of d at = shown d (nodes.place at)

-- what a name shows, if there is one
abbrev pub value_named : State → Option Key → Scalar
value_named d (Some key) = shown d (nodes.name key)
value_named d None = scalar.Fault fault.Name

-- what a name shows that a word finds on a sheet
abbrev pub name_value_of : State → List ℕ → ℕ → Scalar
name_value_of d word sheet = value_named d (found (map.entries d.book.names) word sheet)

-- what a formula sees
abbrev pub world : State → World
world d = values.world_of (map.entries d.book.names) d.today (shown d)

-- what a formula of this tree shows in a cell; without a tree #ERROR!
abbrev pub tried : State → Place → Option (Term Corner) → Scalar
tried d at (Some t) = meaning (world d) d.customs (homes.Cell at) t
tried d at None = scalar.Fault fault.Error

-- the first cell of a sheet
abbrev pub first_cell : ℕ → Place
first_cell sheet = record { sheet = sheet; row = 0; col = 0 }

-- what the formula of a text would show in the first cell of a sheet
abbrev pub tried_value : State → ℕ → List ℕ → Scalar
tried_value d sheet text = tried d (first_cell sheet) (contents.tree_given d.book.sheets sheet text)

-- the text of a cell's formula, if it holds one
abbrev pub formula_of : State → Place → Option (List ℕ)
formula_of d at = contents.formula_shown d.book.sheets at.sheet (map.get d.book.cells at)

-- the text that gives a cell its content
abbrev pub content_text : State → Place → List ℕ
content_text d at = contents.content_shown d.book.sheets at.sheet (map.get d.book.cells at)

-- a named expression as a link, its word in capitals
abbrev pub name_link : Key → Link
name_link key = links.Name key.scope (capitals key.word)

-- what a formula on a sheet mentions, as a link: a whole range is its block, and a name that the word doesn't find is
-- none
abbrev pub link_of : Names → ℕ → Mention → Option Link
link_of names sheet (mention.Cell p) = Some (links.Cell p)
link_of names sheet (mention.Area b) = Some (links.Area b)
link_of names sheet (mention.Whole w) = Some (links.Area (whole_block w))
link_of names sheet (mention.Name word) = option_map name_link (found names word sheet)

-- the links of a formula on a sheet, in the order of first occurrence, each once
abbrev pub links_of : Names → ℕ → Option (Term Corner) → List Link
links_of names sheet None = []
links_of names sheet (Some t) = once same_link (filter_map (link_of names sheet) (mentions_in t))

-- what a cell's formula needs
abbrev pub precedents_of : State → Place → List Link
precedents_of d at = links_of (map.entries d.book.names) at.sheet (nodes.content_tree (map.get d.book.cells at))

-- the cells whose formulas mention a place, by sheet, row and column
abbrev pub cell_needing : Place → Place × Content → Option Link
cell_needing at (p, formula t) = if mentions t at then Some (links.Cell p) else None
cell_needing at (p, c) = None

-- names by scope, those of the whole workbook first, then by the bytes of their words in capitals
abbrev pub capitals_cmp : Key → Key → Ordering
capitals_cmp a b = ordering_then (option_cmp nat_cmp a.scope b.scope) (slice_cmp nat_cmp (capitals a.word) (capitals b.word))

abbrev pub by_capitals : Names → Names
by_capitals names = map.entries (map.from_entries {R = capitals_cmp} names)

-- the names whose formulas mention a place
abbrev pub name_needing : Place → Key × Term Corner → Option Link
name_needing at (key, t) = if mentions t at then Some (name_link key) else None

-- the cells, and then the names, whose formulas need a place themselves
abbrev pub dependents_of : State → Place → List Link
dependents_of d at =
    filter_map (cell_needing at) (map.entries d.book.cells)
    ++ filter_map (name_needing at) (by_capitals (map.entries d.book.names))
