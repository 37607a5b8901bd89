-- Formulas' texts that were written when a sheet had fewer rows: some addresses of today were names then, which get one
-- `_` more to be names still. Source: this project's own.
use Rattle.std.specs.Prelude.{◌≡◌, ℕ, zero, suc, ◌+◌, ◌-◌, Bool, false, not, ◌&&◌, ◌||◌, if◌then◌else◌, nat_le, ◌==◌, List, [], ◌∷◌, ◌++◌, length, take, drop, Option, Some, None}
use Rattle.std.specs.Option.{option_map, unwrap_or}
use Rattle.std.specs.List.{list_all, take_while, find}
use Rattle.cell_addr.specs.Quoted.{quoted}
use Rattle.cell_addr.specs.Text.{capitals}
use Rattle.cell_value.specs.Fault.{fault_text, faults}
use Rattle.formula_tree.specs.declared.address.Address.{Address}
use Rattle.formula_tree.specs.declared.reference.Corner.{Corner}
use Rattle.formula_tree.specs.Grammar.{SpellsText, SpellsTextAt}
use Rattle.formula_tree.specs.Run.{after_while, begins_run, begins_with, corner_of, is_blank, is_run_byte}
use Rattle.formula_tree.specs.Term.{Term, name, prefix, percent, binary, call, paren, Terms, no_terms, term}
use Rattle.formula_tree.specs.Tokens.{begins_number, begins_with_fault, number_length, pair_op, sign_token}
use Rattle.formula_parse.specs.declared.migration.TheConstants.{OLD_ROWS}

-- `_`, which is 95
abbrev pub is_mark : ℕ → Bool
is_mark c = c == 95

abbrev pub is_unmarked : ℕ → Bool
is_unmarked c = not (is_mark c)

-- an address of a row behind those that a sheet had
abbrev pub is_new_row : Option Address → Bool
is_new_row None = false
is_new_row (Some a) = nat_le OLD_ROWS a.row

-- a gap word: such an address, with `$` or without, and then no or more `_`
abbrev pub is_gap_word : List ℕ → Bool
is_gap_word run = is_new_row (corner_of (take_while is_unmarked run)) && list_all is_mark (after_while is_unmarked run)

-- a gap word gets one `_` more; another name stays
abbrev pub migrated_name : List ℕ → List ℕ
migrated_name w = if is_gap_word w then w ++ 95 ∷ [] else w

-- what follows a run makes it neither a sheet's name, with `!` at once, nor a function's word, with `(`
abbrev pub stays_alone : List ℕ → Bool
stays_alone cs = not (begins_with 33 cs || begins_with 40 (after_while is_blank cs))

-- the text begins with a gap word that is neither of these
abbrev pub begins_gap : List ℕ → Bool
begins_gap cs = is_gap_word (take_while is_run_byte cs) && stays_alone (after_while is_run_byte cs)

-- what follows the piece that a text begins with: a blank, a run, a number, a text between quotes, a name between
-- apostrophes, a fault, `!`, or an operator or another sign. Nothing where it begins with none of these.
abbrev pub after_piece : ℕ → List ℕ → Option (List ℕ)
after_piece c cs = if is_blank c || c == 33 then Some cs
    else if begins_run c then Some (after_while is_run_byte (c ∷ cs))
    else if begins_number (c ∷ cs) then Some (drop (number_length (c ∷ cs)) (c ∷ cs))
    else if c == 34 then option_map (λ parts. parts.1) (quoted 34 cs)
    else if c == 39 then option_map (λ parts. parts.1) (quoted 39 cs)
    else if c == 35 then option_map (λ fault. drop (length (fault_text fault)) (c ∷ cs)) (find (begins_with_fault (c ∷ cs)) faults)
    else option_map (λ front. front.1) (sign_token (pair_op c cs) c cs)

-- the piece in front of the rest as it is written, with one `_` more where it is such a word
abbrev pub piece_before : List ℕ → List ℕ → List ℕ
piece_before cs rest = take (length cs - length rest) cs ++ (if begins_gap cs then 95 ∷ [] else [])

-- and then the rest
abbrev pub piece_migrated : List ℕ → Option (List ℕ) → (List ℕ → Option (List ℕ)) → Option (List ℕ)
piece_migrated cs None next = None
piece_migrated cs (Some rest) next = option_map (λ more. piece_before cs rest ++ more) (next rest)

abbrev pub migrated_step : (List ℕ → Option (List ℕ)) → List ℕ → Option (List ℕ)
migrated_step next [] = Some []
migrated_step next (c ∷ cs) = piece_migrated (c ∷ cs) (after_piece c cs) next

-- in so many steps; nothing where the text isn't made of pieces
unfoldable pub migrated_in : ℕ → List ℕ → Option (List ℕ)
migrated_in zero cs = None
migrated_in (suc steps) cs = migrated_step (migrated_in steps) cs

-- a text with all such words changed: each step takes a byte or more
abbrev pub migrated_pieces : List ℕ → Option (List ℕ)
migrated_pieces cs = migrated_in (length cs + 1) cs

-- a formula's text as it is meant today; a text that doesn't begin with `=`, or isn't made of pieces, stays
abbrev pub migrated : List ℕ → List ℕ
migrated [] = []
migrated (c ∷ cs) = if c == 61 then c ∷ unwrap_or (migrated_pieces cs) cs else c ∷ cs

abbrev mutual
  -- the tree in which each name that is a gap word has one `_` more
  pub migrated_tree : Term Corner → Term Corner
  migrated_tree (name w) = name (migrated_name w)
  migrated_tree (prefix s t) = prefix s (migrated_tree t)
  migrated_tree (percent t) = percent (migrated_tree t)
  migrated_tree (binary o l r) = binary o (migrated_tree l) (migrated_tree r)
  migrated_tree (call w ts) = call w (migrated_trees ts)
  migrated_tree (paren t) = paren (migrated_tree t)
  migrated_tree t = t

  pub migrated_trees : Terms Corner → Terms Corner
  migrated_trees no_terms = no_terms
  migrated_trees (term t ts) = term (migrated_tree t) (migrated_trees ts)

-- where the text spelt a tree by the rows that a sheet had, this text spells that tree with its names migrated
abbrev pub SpellsMigrated : List ℕ → List ℕ → Type 0
SpellsMigrated old new = (home : ℕ) (find : List ℕ → Option ℕ) (t : Term Corner) → SpellsTextAt OLD_ROWS home find old t → SpellsText home find new (migrated_tree t)

-- no other name becomes this one: what is migrated alike, but for the case of letters, was alike
abbrev pub IsFromOne : List ℕ → List ℕ → Type 0
IsFromOne old new = (other : List ℕ) → capitals (migrated_name other) ≡ capitals new → capitals other ≡ capitals old
