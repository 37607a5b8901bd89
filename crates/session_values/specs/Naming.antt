-- What is kept of values over a change of one name. Source: this project's own.
use Rattle.std.specs.Prelude.{◌≡◌, ◌⊎◌, ⊤, Bool, true, false, ℕ, ℤ, List, Option, Some, None, is_some, slice_get, if◌then◌else◌, IsTrue}
use Rattle.name_table.specs.declared.key.NameKey.{NameKey}
use Rattle.custom_fn.specs.declared.rule.Rule.{Rule}
use Rattle.book_values.specs.Names.{Key, key_of, tree_in}
use Rattle.book_values.specs.Workbook as book
use Rattle.book_values.specs.Workbook.{Workbook}
use Rattle.dep_graph.specs.Nodes.{has}
use Rattle.dep_graph.specs.declared.node.Node.{Node}
use Rattle.kept_book.specs.Kept.{IsMore}
use Rattle.kept_steps.specs.Turned.{key_spelt}
use Rattle.kept_steps.specs.declared.session.Session.{Session}
use Rattle.kept_values.specs.Values.{asks_in, kept_in, links_in, loses_in, marks_in, seeks_in}
use Rattle.kept_values.specs.declared.values.Values.{Values}
use Rattle.recalc_core.specs.Edits.{DifferInName}
use Rattle.recalc_core.specs.Nodes.{AreNumbered, node_at}
use Rattle.session_values.specs.declared.naming.NameTurn.{NameTurn}
use Rattle.session_values.specs.declared.naming.NameTurn.TheVariants.{Absent, Added, Changed, Removed}
use Rattle.session_values.specs.Following.{FollowsIn, book_of, words_in}

-- where what is kept follows a workbook from which the session's differs in one name, which may have more words, what is kept then
-- follows the session
abbrev pub FollowsName : Key → Session → Bool → Bool → Option Values → Option Values → Type 0
FollowsName key s before after old new =
    (b : Workbook) (words : List (List ℕ)) (customs : List (List ℕ × Rule)) (today : ℤ) →
    AreNumbered words b.names → AreNumbered (words_in s) (book_of s).names → IsMore words (words_in s) → DifferInName b (book_of s) key →
    is_some (tree_in b.names key) ≡ before → is_some (tree_in (book_of s).names key) ≡ after →
    FollowsIn b words customs today old → FollowsIn (book_of s) (words_in s) customs today new

-- so where the name is there before and after
abbrev pub FollowsChange : Key → Session → Option Values → Option Values → Type 0
FollowsChange key s old new = FollowsName key s true true old new

-- and so where it isn't there any more
abbrev pub FollowsRemoval : Key → Session → Option Values → Option Values → Type 0
FollowsRemoval key s old new = FollowsName key s true false old new

-- and so where it wasn't there before
abbrev pub FollowsAddition : Key → Session → Option Values → Option Values → Type 0
FollowsAddition key s old new = FollowsName key s false true old new

-- nodes of which this holds may be marked; links, values and all other marks are as they were, and so is what is noted, but that formulas
-- with a word that found no name may be noted no more
pub record IsMarkedFor (which : Node → Type 0) (v w : Values) : Type 0 where
  pub links : links_in w ≡ links_in v
  pub asking : asks_in w ≡ asks_in v
  pub losing : loses_in w ≡ loses_in v
  pub kept : kept_in w ≡ kept_in v
  pub stay : (a : Node) → IsTrue (has a (marks_in v)) → IsTrue (has a (marks_in w))
  pub only : (a : Node) → IsTrue (has a (marks_in w)) → IsTrue (has a (marks_in v)) ⊎ which a

-- so where anything is kept, or nothing is kept any more
abbrev pub MarksFor : (Values → Node → Type 0) → Option Values → Option Values → Type 0
MarksFor which old None = ⊤
MarksFor which None (Some w) = ⊥
MarksFor which (Some v) (Some w) = IsMarkedFor (which v) v w

-- the node is that of a name
abbrev pub IsNameIn : Session → Key → Node → Type 0
IsNameIn s key a = node_at (words_in s) a ≡ Some (book.name key)

-- it is linked to that of a name
abbrev pub IsLinkedIn : Session → Key → Values → Node → Type 0
IsLinkedIn s key v a = (n : Node) × IsNameIn s key n × IsTrue (has n (links_in v a))

-- where the name got another formula, it alone may be marked
abbrev pub MarksChange : Key → Session → Option Values → Option Values → Type 0
MarksChange key s = MarksFor (λ v. IsNameIn s key)

-- where it was removed, it and what is linked to it
abbrev pub MarksRemoval : Key → Session → Option Values → Option Values → Type 0
MarksRemoval key s = MarksFor (λ v a. IsNameIn s key a ⊎ IsLinkedIn s key v a)

-- where it was added, it, what was noted to use its word where that found no name, and what is linked to the whole workbook's name of the word
abbrev pub MarksAddition : Option ℕ → List ℕ → Session → Option Values → Option Values → Type 0
MarksAddition scope word s = MarksFor (λ v a. IsNameIn s (key_of scope word) a ⊎ ((seeks_in v word a ≡ true) ⊎ IsLinkedIn s (key_of None word) v a))

-- what a step does to a name, by whether it had a formula and has one
abbrev pub turn_of : Bool → Bool → NameTurn
turn_of had has = if had then (if has then Changed else Removed) else (if has then Added else Absent)

abbrev pub had_formula : NameTurn → Bool
had_formula Changed = true
had_formula Added = false
had_formula Removed = true
had_formula Absent = false

abbrev pub has_formula : NameTurn → Bool
has_formula Changed = true
has_formula Added = true
has_formula Removed = false
has_formula Absent = false

-- over a step back or forth that does so to the name of this key what is kept follows the session
abbrev pub FollowsTurn : NameKey → NameTurn → Session → Option Values → Option Values → Type 0
FollowsTurn key turn s old new = (word : List ℕ) → slice_get (words_in s) key.word ≡ Some word → FollowsName (key_spelt key word) s (had_formula turn) (has_formula turn) old new

-- and what may be marked then is what such a change marks; where the name had no formula and has none, nothing is kept any more
abbrev pub MarksTurn : NameKey → NameTurn → Session → Option Values → Option Values → Type 0
MarksTurn key Changed s old new = (word : List ℕ) → slice_get (words_in s) key.word ≡ Some word → MarksChange (key_spelt key word) s old new
MarksTurn key Removed s old new = (word : List ℕ) → slice_get (words_in s) key.word ≡ Some word → MarksRemoval (key_spelt key word) s old new
MarksTurn key Added s old new = (word : List ℕ) → slice_get (words_in s) key.word ≡ Some word → MarksAddition key.scope word s old new
MarksTurn key Absent s old new = new ≡ None
