-- What reads work out one after the other: the first one all that is marked, the others nothing. Serves reads of many values.
use Rattle.std.proofs.Common.{◌≡◌, ◌∙◌, sym, ap, refl, arith, ℕ, ℤ, ◌≤◌, true, List, [], ◌∷◌, Option, Some, None}
use Rattle.std.proofs.lemmas.Bool.{false≢true}
use Rattle.std.proofs.lemmas.List.Sums.{sum_by-cons}
use Rattle.std.specs.List.{sum_by}
use Rattle.custom_fn.specs.declared.rule.Rule.{Rule}
use Rattle.book_values.specs.Workbook as book
use Rattle.book_values.specs.Workbook.{Workbook}
use Rattle.calc_eval.specs.declared.customs.Customs.{Ghosts}
use Rattle.dep_graph.proofs.Places.{has_first, has_later}
use Rattle.dep_graph.specs.Nodes.{has}
use Rattle.dep_graph.specs.Walks.{IsOnce}
use Rattle.dep_graph.specs.declared.node.Node.{Node}
use Rattle.recalc_core.specs.Nodes.{node_at}
use Rattle.recalc_core.specs.Steps.{cost_of, node_cost}
use Rattle.session_questions.specs.Marks.{ReachesMark}
use Rattle.session_questions.specs.Values.{marks_in}
use Rattle.session_questions.specs.KeptValues.{Values}
use Rattle.session_questions.specs.Following.{book_of, words_in}
use Rattle.session_questions.specs.Refreshed.{IsUnmarked, TakesStepsIn}
use Rattle.shift_line.specs.Track.{Track, with_spare}
use Rattle.book_engine.specs.Kept.{IsIdle, KeepsLine, KeepsValues, WorksOut, session_kept, values_kept}
use Rattle.book_engine.specs.declared.engine.Engine.{Engine}
use Rattle.book_engine.proofs.KeptLine.{line_kept}

no_sum : (f : Node → ℕ) (nodes : List Node) → ((a : Node) → has a nodes ≡ true → f a ≡ 0) → sum_by f nodes ≡ 0
no_sum f [] none = refl
no_sum f (a ∷ nodes) none =
    let first = none a (has_first a nodes) in
    let rest = no_sum f nodes (λ c h. none c (has_later c a nodes h)) in
    sum_by-cons f a nodes ∙ omega (arith, first, rest)

module _ (b : Workbook) (words : List (List ℕ)) (customs : List (List ℕ × Rule)) (today : ℤ) where
  no_mark : (marks : List Node) (x : book.Node) → marks ≡ [] → ReachesMark b words marks x → ⊥
  no_mark marks x none (m, y, marked, there, leads) = false≢true (ap (has m) (sym none) ∙ marked)

  free : (marks nodes : List Node) → marks ≡ [] → ((a : Node) (x : book.Node) → has a nodes ≡ true → node_at words a ≡ Some x → ReachesMark b words marks x) → (a : Node) → has a nodes ≡ true → node_cost b words customs today a ≡ 0
  free marks nodes none reach a there = go (node_at words a) refl
    where
      go : (o : Option book.Node) → node_at words a ≡ o → node_cost b words customs today a ≡ 0
      go None is = ap (cost_of b customs today) is
      go (Some x) is = absurd (no_mark marks x none (reach a x there is))

  idle_in : (v : Option Values) (old new : ℕ) → IsUnmarked v → TakesStepsIn b words customs today v old new → new ≤ old
  idle_in None old new unmarked takes = absurd unmarked
  idle_in (Some v) old new unmarked (nodes, once, reach, most) =
      let none = no_sum (node_cost b words customs today) nodes (free (marks_in v) nodes unmarked reach) in omega (arith, most, none)

  fewer_in : (v : Option Values) (old new less : ℕ) → TakesStepsIn b words customs today v old new → less ≤ new → TakesStepsIn b words customs today v old less
  fewer_in None old new less (nodes, once, most) below = (nodes, once, omega (arith, most, below))
  fewer_in (Some v) old new less (nodes, once, reach, most) below = (nodes, once, reach, omega (arith, most, below))

  nothing_in : (v : Option Values) (n : ℕ) → TakesStepsIn b words customs today v n n
  nothing_in None n = ([], none_once, omega arith)
    where
      none_once : IsOnce []
      none_once i j d below within = absurd (omega (arith, within))
  nothing_in (Some v) n = ([], none_once, λ a x there is. absurd (false≢true there), omega arith)
    where
      none_once : IsOnce []
      none_once i j d below within = absurd (omega (arith, within))

module _ {C : Type 0} {G : Ghosts C} (customs : C → List (List ℕ × Rule)) (e : Engine C G) where
  -- where nothing is marked nothing is worked out
  pub idle : (old new : ℕ) → IsIdle e → WorksOut customs e old new → new ≤ old
  idle old new unmarked works = idle_in (book_of e.parts.session) (words_in e.parts.session) (customs e.customs) e.day (values_kept e) old new unmarked works

  -- what takes fewer steps takes no more
  pub fewer : (old new less : ℕ) → WorksOut customs e old new → less ≤ new → WorksOut customs e old less
  fewer old new less works below = fewer_in (book_of e.parts.session) (words_in e.parts.session) (customs e.customs) e.day (values_kept e) old new less works below

  -- and so does what takes none
  pub nothing : (n : ℕ) → WorksOut customs e n n
  nothing n = nothing_in (book_of e.parts.session) (words_in e.parts.session) (customs e.customs) e.day (values_kept e) n

module _ {C : Type 0} {G : Ghosts C} (e : Engine C G) where
  -- the line stays as it is, and what is kept of values
  pub line_same : KeepsLine e e
  line_same = line_kept (session_kept e).book.lazy.line (session_kept e).book.lazy.line refl

  pub values_same : KeepsValues e e
  values_same = refl

module _ {C : Type 0} {G : Ghosts C} (a b c : Engine C G) where
  -- and so over one read after the other
  pub line_on : KeepsLine a b → KeepsLine b c → KeepsLine a c
  line_on first second = second ∙ ap (λ (t : Track). with_spare (session_kept c).book.lazy.line.spare t) first

  pub values_on : KeepsValues a b → KeepsValues b c → KeepsValues a c
  values_on first second = second ∙ first
