-- Links as rows of numbers, with the words of names as bytes. Source: this project's own.
use Rattle.std.specs.Prelude.{◌≡◌, ◌&&◌, ℕ, true, false, ◌+◌, ◌++◌, List, [], ◌∷◌, length, unwrap_or, Result, Ok, Err}
use Rattle.cell_addr.specs.Whole.{whole_block}
use Rattle.cell_addr.specs.declared.place.Block.{Block}
use Rattle.cell_addr.specs.declared.place.TheConstants.{NO_SHEET}
use Rattle.formula_tree.specs.declared.link.Link.{Link}
use Rattle.formula_tree.specs.declared.link.Link.TheVariants.{Cell, Area, Whole, Name}
use Rattle.engine_face.specs.declared.links.LinkCounts.{LinkCounts}
use Rattle.engine_face.specs.declared.links.LinkRow.{LinkRow}
use Rattle.engine_face.specs.declared.links.Listed.{Listed}
use Rattle.engine_face.specs.declared.status.Status.{Status}
use Rattle.engine_face.specs.declared.status.Status.TheVariants.{Done, NoMemory, NoRoom}
use Rattle.engine_face.specs.Shown.{filled, fits}
use Rattle.engine_face.specs.Status.{status_of_stop}
use Rattle.book_engine.specs.Stop.{Stop}

-- the word of a name; no bytes of any other link
abbrev pub link_word : Link → List ℕ
link_word (Name scope word) = word
link_word _ = []

-- a block as a row
abbrev pub area_row : Block → LinkRow
area_row b = record { kind = 1; sheet = b.sheet; top = b.top; left = b.left; bottom = b.bottom; right = b.right; word_start = 0; word_length = 0 }

-- a link as a row, a whole range as its block, where the word of a name stands there among the words
abbrev pub link_row : ℕ → Link → LinkRow
link_row start (Cell p) = record { kind = 0; sheet = p.sheet; top = p.row; left = p.col; bottom = p.row; right = p.col; word_start = 0; word_length = 0 }
link_row start (Area b) = area_row b
link_row start (Whole w) = area_row (whole_block w)
link_row start (Name scope word) = record { kind = 2; sheet = unwrap_or scope NO_SHEET; top = 0; left = 0; bottom = 0; right = 0; word_start = start; word_length = length word }

-- links as rows, whose words begin there
abbrev pub link_rows : ℕ → List Link → List LinkRow
link_rows start [] = []
link_rows start (link ∷ links) = link_row start link ∷ link_rows (start + length (link_word link)) links

-- the words of all names, one after the other
abbrev pub link_words : List Link → List ℕ
link_words [] = []
link_words (link ∷ links) = link_word link ++ link_words links

-- how much room they need
abbrev pub link_counts : List Link → LinkCounts
link_counts links = record { links = length links; words = length (link_words links) }

-- what is written of links
abbrev pub AreListed : List Link → Listed → Type 0
AreListed links listed = (listed.rows.items ≡ link_rows 0 links) × (listed.words.items ≡ link_words links)

-- rows and words stand at the heads of the two rooms, or one of these has no place and both are as they were
abbrev pub ListFits : {X : Type 0} → List X → List ℕ → List X → List X → List ℕ → List ℕ → Status → Type 0
ListFits rows words room room_new bytes bytes_new Done = ((fits rows room && fits words bytes) ≡ true) × (room_new ≡ filled rows room) × (bytes_new ≡ filled words bytes)
ListFits rows words room room_new bytes bytes_new NoRoom = ((fits rows room && fits words bytes) ≡ false) × (room_new ≡ room) × (bytes_new ≡ bytes)
ListFits rows words room room_new bytes bytes_new _ = ⊥

-- so it is with links; for want of memory nothing is written
abbrev pub LinksFit : List Link → List LinkRow → List LinkRow → List ℕ → List ℕ → Status → Type 0
LinksFit links room room_new bytes bytes_new NoMemory = (room_new ≡ room) × (bytes_new ≡ bytes)
LinksFit links room room_new bytes bytes_new status = ListFits (link_rows 0 links) (link_words links) room room_new bytes bytes_new status

-- how much room they need; nothing is told for want of memory
abbrev pub LinksTold : List Link → LinkCounts → LinkCounts → Status → Type 0
LinksTold links had told NoMemory = told ≡ had
LinksTold links had told status = told ≡ link_counts links

-- so it is with the links that the engine answered; where it stopped it is said why, and nothing is written or told
abbrev pub EndLinks : {X : Type 0} → (X → List Link) → Result X Stop → List LinkRow → List LinkRow → List ℕ → List ℕ → Status → Type 0
EndLinks items (Ok x) room room_new bytes bytes_new status = LinksFit (items x) room room_new bytes bytes_new status
EndLinks items (Err stop) room room_new bytes bytes_new status = (status ≡ status_of_stop stop) × (room_new ≡ room) × (bytes_new ≡ bytes)

abbrev pub EndCounts : {X : Type 0} → (X → List Link) → Result X Stop → LinkCounts → LinkCounts → Status → Type 0
EndCounts items (Ok x) had told status = LinksTold (items x) had told status
EndCounts items (Err stop) had told status = told ≡ had
