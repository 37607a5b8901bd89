-- What is kept of values follows from one workbook to another that differs in one name. Serves steps of several parts.
use Rattle.std.proofs.Common.{◌≡◌, ◌≢◌, ◌∙◌, sym, ap, refl, subst, ℕ, ℤ, ◌||◌, Bool, true, false, List, [], ◌∷◌, ◌++◌, Option, Some, None, is_some, ⊎_elim}
use Rattle.std.specs.Prelude.{IfSome}
use Rattle.cell_addr.specs.declared.place.TheConstants.{NO_SHEET}
use Rattle.custom_fn.specs.declared.rule.Rule.{Rule}
use Rattle.name_table.proofs.WordNumbers.{folded-folded}
use Rattle.name_table.specs.declared.key.NameKey.{NameKey}
use Rattle.book_values.specs.Names.{Key, key_of, tree_in}
use Rattle.book_values.specs.Workbook as book
use Rattle.book_values.specs.Workbook.{Workbook}
use Rattle.dep_graph.proofs.Places.{has-append_cases, has-append_left, has-append_right, has_first, has_one}
use Rattle.dep_graph.specs.Nodes.{has}
use Rattle.dep_graph.specs.Users.{AreLinkedTo}
use Rattle.dep_graph.specs.declared.node.Node.{Node}
use Rattle.kept_values.specs.Values.{links_in}
use Rattle.kept_values.specs.declared.values.Values.{Values}
use Rattle.kept_steps.specs.Turned.{key_spelt}
use Rattle.kept_steps.specs.declared.session.Session.{Session}
use Rattle.recalc_core.specs.Edits.{DifferInName}
use Rattle.recalc_core.specs.Nodes.{AreNumbered, node_at}
use Rattle.session_values.specs.declared.naming.NameTurn.{NameTurn}
use Rattle.session_values.specs.declared.naming.NameTurn.TheVariants.{Absent, Added, Changed, Removed}
use Rattle.session_values.specs.Following.{FollowsIn, words_in}
use Rattle.session_values.specs.Naming.{had_formula, has_formula, turn_of}
use Rattle.session_values.specs.Parts.{FollowsTurnIn}
use Rattle.session_values.specs.internal.Marked.{HasTurned, HaveMarked, HaveSought, own_node, whole_node}
use Rattle.session_values.proofs.Named.{addition_follows, change_follows, linked_known, own_at, own_small, removal_follows, small_key, whole_at}

-- values follow from one workbook to another, where a name had a formula or none, and has one or none
abbrev Between : Key → Bool → Bool → List (List ℕ) → Option Values → Option Values → Type 0
Between key had has words old new =
    (b c : Workbook) (customs : List (List ℕ × Rule)) (today : ℤ) → AreNumbered words b.names → AreNumbered words c.names → DifferInName b c key → is_some (tree_in b.names key) ≡ had → is_some (tree_in c.names key) ≡ has
    → FollowsIn b words customs today old → FollowsIn c words customs today new

changed_between : (key : Key) (words : List (List ℕ)) (n : Node) (v w : Values) → node_at words n ≡ Some (book.name key) → HaveMarked (n ∷ []) v w → Between key true true words (Some v) (Some w)
changed_between key words n v w at marked b c customs today numbered now differ had has_it follows =
    change_follows b c words words customs today key n v w (n ∷ []) numbered now (λ i x e. e) differ at marked (has_first n []) follows (λ a h. (book.name key, ap (node_at words) (has_one a n h) ∙ at)) had has_it

removed_between : (key : Key) (words : List (List ℕ)) (n : Node) (v w : Values) (nodes : List Node) → node_at words n ≡ Some (book.name key) → AreLinkedTo n (links_in v) nodes → HaveMarked (nodes ++ n ∷ []) v w
    → Between key true false words (Some v) (Some w)
removed_between key words n v w nodes at linked have b c customs today numbered now differ had gone follows =
    removal_follows b c words words customs today key n v w (nodes ++ n ∷ []) numbered now (λ i x e. e) differ at have (has-append_right n nodes (n ∷ []) (has_first n [])) follows
    (λ a link. has-append_left a nodes (n ∷ []) ((linked.0 a).1 link))
    (λ a h. ⊎_elim
    (λ (one : has a nodes ≡ true). linked_known b c words words customs today key n v w (nodes ++ n ∷ []) numbered now (λ i x e. e) differ at have (has-append_right n nodes (n ∷ []) (has_first n [])) follows a n ((linked.0 a).0 one))
    (λ (last : has a (n ∷ []) ≡ true). (book.name key, ap (node_at words) (has_one a n last) ∙ at))
    (has-append_cases a nodes (n ∷ []) h)) had gone

added_between : (scope : Option ℕ) (word : List ℕ) (words : List (List ℕ)) (n m : Node) (v w : Values) → node_at words n ≡ Some (book.name (key_of scope word)) → node_at words m ≡ Some (book.name (key_of None word)) → HaveSought n m word v w
    → Between (key_of scope word) false true words (Some v) (Some w)
added_between scope word words n m v w at over sought b c customs today numbered now differ fresh has_it follows =
    addition_follows b c words words customs today (key_of scope word) n m v w numbered now (λ i x e. e) differ at (over ∙ ap (λ (f : List ℕ). Some (book.name (record { scope = None; word = f }))) (sym (folded-folded word))) fresh word refl sought follows

-- over a name that is turned: what is marked is what that touches
pub between : (key : NameKey) (turn : NameTurn) (s : Session) (v : Values) (new : Option Values) → ((had_formula turn || has_formula turn) ≡ true → key.scope ≢ Some NO_SHEET) → IfSome new (λ w. HasTurned (words_in s) key turn v w)
    → FollowsTurnIn key turn (words_in s) (Some v) new
between key turn s v None scoped marked = λ word spelt b c customs today numbered now differ had has_it follows. tt
between key Changed s v (Some w) scoped marked = λ word spelt. changed_between (key_spelt key word) (words_in s) (own_node key) v w (own_at key s word spelt (scoped refl)) marked
between key Removed s v (Some w) scoped marked = λ word spelt. removed_between (key_spelt key word) (words_in s) (own_node key) v w marked.0 (own_at key s word spelt (scoped refl)) marked.1 marked.2
between key Added s v (Some w) scoped marked = λ word spelt.
    subst (λ (k : Key). Between k false true (words_in s) (Some v) (Some w)) (small_key key s word spelt)
    (added_between key.scope word (words_in s) (own_node key) (whole_node key) v w (own_small key s word spelt (scoped refl)) (whole_at key s word spelt) (marked word spelt))
between key Absent s v (Some w) scoped marked = absurd marked

pub nothing_between : (key : NameKey) (turn : NameTurn) (words : List (List ℕ)) (old : Option Values) → FollowsTurnIn key turn words old None
nothing_between key turn words old = λ word spelt b c customs today numbered now differ had has_it follows. tt

-- what a turn says of a name
pub turn_had : (had has : Bool) → had_formula (turn_of had has) ≡ had
turn_had true true = refl
turn_had true false = refl
turn_had false true = refl
turn_had false false = refl

pub turn_has : (had has : Bool) → has_formula (turn_of had has) ≡ has
turn_has true true = refl
turn_has true false = refl
turn_has false true = refl
turn_has false false = refl
