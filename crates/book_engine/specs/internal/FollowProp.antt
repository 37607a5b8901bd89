-- That what is kept of values follows a session has one proof at most.
use denote.Struct.Props as logic
use Rattle.std.specs.Prelude.{ℕ, ℤ, List, Option, Some, None}
use Rattle.custom_fn.specs.declared.rule.Rule.{Rule}
use Rattle.book_values.specs.Workbook.{Workbook}
use Rattle.dep_graph.specs.Laws.{IsNodeInside}
use Rattle.dep_graph.specs.declared.node.Node.{Node}
use Rattle.dep_graph.specs.declared.node.Node.TheVariants.{Cell, Name, Range, Whole}
use Rattle.session_questions.specs.KeptValues.{Values}
use Rattle.recalc_core.specs.Kept.{IsRight, Kept}
use Rattle.session_questions.specs.Following.{FollowsIn, book_of, words_in}
use Rattle.session_questions.specs.Seen.{ValuesFollow}
use Rattle.session_questions.specs.Parts.{Parts}

inside-prop : (a : Node) → IsProp (IsNodeInside a)
inside-prop (Cell p) = Prim.hlevel logic.props
inside-prop (Name scope word) = Prim.hlevel logic.props
inside-prop (Range b) = Prim.hlevel logic.props
inside-prop (Whole w) = Prim.hlevel logic.props

right-prop : (b : Workbook) (words : List (List ℕ)) (customs : List (List ℕ × Rule)) (today : ℤ) (kept : Kept) (a : Node) → IsProp (IsRight b words customs today kept a)
right-prop b words customs today kept a = Prim.hlevel logic.props

follows-prop : (b : Workbook) (words : List (List ℕ)) (customs : List (List ℕ × Rule)) (today : ℤ) (values : Option Values) → IsProp (FollowsIn b words customs today values)
follows-prop b words customs today None = Prim.hlevel logic.props
follows-prop b words customs today (Some v) = Prim.hlevel (inside-prop, right-prop, logic.props)

pub follow-prop : (customs : List (List ℕ × Rule)) (today : ℤ) (p : Parts) → IsProp (ValuesFollow customs today p)
follow-prop customs today p = follows-prop (book_of p.session) (words_in p.session) customs today p.values.values
