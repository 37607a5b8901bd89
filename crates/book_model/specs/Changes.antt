-- The workbook after each change: every formula of every sheet follows a structural operation at once.
-- Source: HyperFormula's guide in outline, and this project's own in the exact rules.
use Rattle.std.specs.Prelude as std
use Rattle.std.specs.Prelude.{◌≢◌, ℕ, ◌==◌, if◌then◌else◌, Bool, true, not, List, [], ◌∷◌, ◌++◌, filter, Option, Some, None, AllPairs}
use Rattle.std.specs.FinMap as map
use Rattle.std.specs.List.{filter_map}
use Rattle.cell_addr.specs.Place.{covers}
use Rattle.cell_addr.specs.declared.place.Block.{Block}
use Rattle.cell_addr.specs.declared.place.Place.{Place}
use Rattle.book_values.specs.Book.{Book as Contents, Content, formula}
use Rattle.formula_tree.specs.Term.{Term}
use Rattle.formula_tree.specs.declared.reference.Corner.{Corner}
use Rattle.formula_tree.specs.declared.reference.Home.TheVariants as homes
use Rattle.shift_core.specs.Carried.{carried_place, destination}
use Rattle.shift_core.specs.Form.{form_of}
use Rattle.shift_core.specs.Maps.{moved_map}
use Rattle.shift_core.specs.declared.form.Form.{Form}
use Rattle.shift_core.specs.declared.form.Form.TheVariants as form
use Rattle.shift_core.specs.declared.shift.Shift.{Shift}
use Rattle.shift_core.specs.declared.shift.Shift.TheVariants.{MoveBlock}
use Rattle.tree_rewrite.specs.Pasted.{pasted}
use Rattle.tree_rewrite.specs.Rewritten.{rewritten}
use Rattle.book_values.specs.Names.{Key, key_of}
use Rattle.book_values.specs.Workbook.{scope_sheet}
use Rattle.book_model.specs.Clipboard.{Clipboard, nothing, copied, moving}
use Rattle.book_model.specs.Names.{NameMap, is_on_sheet, with_tree}
use Rattle.book_model.specs.Workbook.{Workbook}
use Rattle.book_model.specs.Content.{content_given, content_of, tree_given}
use Rattle.book_model.specs.declared.content.ContentText.{ContentText}

-- the contents where a place has this one, or none
abbrev pub placed : Place → Option Content → Contents → Contents
placed at None cells = map.remove cells at
placed at (Some c) cells = map.insert cells at c

-- a cell gets this, or becomes empty
abbrev pub with_given_content : Place → ContentText → Workbook → Workbook
with_given_content at said b = record b { cells = placed at (content_given b.sheets at.sheet said) b.cells }

-- a cell gets what a text says
abbrev pub with_content : Place → List ℕ → Workbook → Workbook
with_content at text b = with_given_content at (content_of text) b

-- the contents where places of the sheets have what texts say, given one after the other
abbrev pub all_placed : List (ℕ × List ℕ) → List (Place × List ℕ) → Contents → Contents
all_placed sheets [] cells = cells
all_placed sheets (e ∷ es) cells = all_placed sheets es (placed e.0 (content_given sheets e.0.sheet (content_of e.1)) cells)

-- cells get what texts say
abbrev pub with_contents : List (Place × List ℕ) → Workbook → Workbook
with_contents given b = record b { cells = all_placed b.sheets given b.cells }

-- no two of these texts are for one place
abbrev pub HaveDistinctPlaces : List (Place × List ℕ) → Type 0
HaveDistinctPlaces given = AllPairs (λ e f. e.0 ≢ f.0) given

-- the cells that pass a test become empty
abbrev pub emptied : (Place → Bool) → Workbook → Workbook
emptied test b = record b { cells = map.retain_keys b.cells (λ p. not (test p)) }

-- a content after a structural operation: a formula follows it, all else is as it was
abbrev pub rewritten_content : Shift → Content → Content
rewritten_content s (formula t) = formula (rewritten s t)
rewritten_content s c = c

abbrev pub rewritten_entry : Shift → Place × Content → Place × Content
rewritten_entry s e = (e.0, rewritten_content s e.1)

-- each content after the operation, where it stands
abbrev pub rewritten_contents : Shift → Contents → Contents
rewritten_contents s cells = map.from_entries (std.map (rewritten_entry s) (map.entries cells))

-- the sheets that an operation leaves
abbrev pub sheets_left : Form → List (ℕ × List ℕ) → List (ℕ × List ℕ)
sheets_left (form.Sheet dropped) sheets = filter (λ sheet. not (sheet.0 == dropped)) sheets
sheets_left _ sheets = sheets

-- a name stays over an operation unless its sheet is dropped
abbrev pub stays : Form → Key → Bool
stays (form.Sheet dropped) key = not (is_on_sheet dropped key)
stays _ key = true

-- each name's formula after the operation; names don't move
abbrev pub rewritten_tree : Shift → Key × Term Corner → Key × Term Corner
rewritten_tree s e = (e.0, rewritten s e.1)

abbrev pub rewritten_names : Shift → NameMap → NameMap
rewritten_names s names = map.from_entries (std.map (rewritten_tree s) (map.entries names))

-- a structural operation: each cell moves or is gone, the formulas of all cells and names that stay follow, and a dropped
-- sheet is gone with its names
abbrev pub shifted : Shift → Workbook → Workbook
shifted s b = record {
  sheets = sheets_left (form_of s) b.sheets;
  cells = rewritten_contents s (moved_map s b.cells);
  names = rewritten_names s (map.retain_keys b.names (stays (form_of s)));
}

-- a content copied from the first place and pasted at the second one
abbrev pub pasted_content : List (ℕ × List ℕ) → Place → Place → Content → Content
pasted_content sheets from to (formula t) = formula (pasted sheets (homes.Cell from) (homes.Cell to) t)
pasted_content sheets from to c = c

-- a copied cell of a block, as far from the place as it was from the block's first cell
abbrev pub entry_pasted : List (ℕ × List ℕ) → Block → Place → Place × Content → Option (Place × Content)
entry_pasted sheets area at e =
    let to = carried_place area at e.0 in
    if covers area e.0 then Some (to, pasted_content sheets e.0 to e.1) else None

-- a copy of a block is pasted: its cells come to the block of its size that begins at the place, and what else stood there
-- is gone
abbrev pub with_copy : Block → Contents → Place → Workbook → Workbook
with_copy area copy at b = record b {
  cells = map.from_entries (filter_map (entry_pasted b.sheets area at) (map.entries copy) ++ map.entries (emptied (covers (destination area at)) b).cells);
}

-- what waits is pasted; a cut block moves
abbrev pub with_clip : Clipboard → Place → Workbook → Workbook
with_clip nothing at b = b
with_clip (copied area cells) at b = with_copy area cells at b
with_clip (moving area) at b = shifted (MoveBlock area at) b

-- a new sheet at the end of the list
abbrev pub with_sheet : ℕ → List ℕ → Workbook → Workbook
with_sheet id name b = record b { sheets = b.sheets ++ (id, name) ∷ [] }

abbrev pub renamed_sheet : ℕ → List ℕ → ℕ × List ℕ → ℕ × List ℕ
renamed_sheet id name sheet = if sheet.0 == id then (id, name) else sheet

-- a sheet gets another name; formulas keep pointing at it
abbrev pub renamed : ℕ → List ℕ → Workbook → Workbook
renamed id name b = record b { sheets = std.map (renamed_sheet id name) b.sheets }

-- the tree that a text spells for a name of a scope, if it has one
abbrev pub name_tree : Option ℕ → List ℕ → Workbook → Option (Term Corner)
name_tree scope text b = tree_given b.sheets (scope_sheet scope) text

-- a name has this tree, or there is none of the name
abbrev pub with_name : Key → Option (Term Corner) → Workbook → Workbook
with_name key tree b = record b { names = with_tree key tree b.names }

-- a name of a scope has the tree that a text spells; and it is gone
abbrev pub named : List ℕ → Option ℕ → List ℕ → Workbook → Workbook
named name scope text b = with_name (key_of scope name) (name_tree scope text b) b

abbrev pub unnamed : List ℕ → Option ℕ → Workbook → Workbook
unnamed name scope b = with_name (key_of scope name) None b
