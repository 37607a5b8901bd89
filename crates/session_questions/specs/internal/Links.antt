-- What the steps of finding links answer.
use Rattle.std.specs.Prelude.{ℕ, Bool, true, false, List, [], Option, Some, None}
use Rattle.std.specs.Ordering.{eq_by_cmp}
use Rattle.cell_addr.specs.Text.{capitals}
use Rattle.cell_addr.specs.declared.place.Place.{Place}
use Rattle.book_values.specs.Book.{Content, formula}
use Rattle.formula_tree.specs.Links.{once}
use Rattle.formula_tree.specs.Mentions.{mentions_in, same_mention}
use Rattle.formula_tree.specs.Term.{Term}
use Rattle.formula_tree.specs.declared.link.Link.{Link}
use Rattle.formula_tree.specs.declared.link.Link.TheVariants as links
use Rattle.formula_tree.specs.declared.mention.Mention.{Mention}
use Rattle.formula_tree.specs.declared.reference.Corner.{Corner}
use Rattle.calc_terms.specs.Needs.{mentions}
use Rattle.book_values.specs.Names.{Key}
use Rattle.book_values.specs.Workbook as book
use Rattle.dep_graph.specs.declared.node.Node.{Node}
use Rattle.dep_graph.specs.declared.node.Node.TheVariants as nodes
use Rattle.recalc_core.specs.Nodes.{node_at}
use Rattle.session_questions.specs.declared.shown_name.ShownName.{ShownName}
use Rattle.session_questions.specs.internal.Names.{passes, shown_cmp}

-- what a formula mentions, if there is one
abbrev pub mentioned : Option (Term Corner) → List Mention
mentioned None = []
mentioned (Some t) = once same_mention (mentions_in t)

-- the content is a formula that mentions a place
abbrev pub content_mentions : Place → Content → Bool
content_mentions at (formula t) = mentions t at
content_mentions at c = false

-- a name as links show it
abbrev pub shown_name : Key → ShownName
shown_name key = record { scope = key.scope; word = capitals key.word }

abbrev pub shown_link : ShownName → Link
shown_link n = links.Name n.scope n.word

-- the place of a node, if it is a cell
abbrev pub place_in : Node → Option Place
place_in (nodes.Cell p) = Some p
place_in (nodes.Name scope word) = None
place_in (nodes.Range b) = None
place_in (nodes.Whole w) = None

-- what a place or a name is as links show it, if it is a name
abbrev pub name_shown : Option book.Node → Option ShownName
name_shown (Some (book.name key)) = Some (shown_name key)
name_shown (Some (book.place p)) = None
name_shown None = None

-- and a node
abbrev pub shown_at : List (List ℕ) → Node → Option ShownName
shown_at words a = name_shown (node_at words a)

-- tests whether the node is a name that is shown so
abbrev pub is_shown_at : List (List ℕ) → ShownName → Node → Bool
is_shown_at words q a = passes (λ n. eq_by_cmp shown_cmp n q) (shown_at words a)
