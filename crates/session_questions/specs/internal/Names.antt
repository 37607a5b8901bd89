-- Named expressions as links show them, in their order. Source: this project's own.
use Rattle.std.specs.Prelude.{Bool, false, Option, Some, None}
use Rattle.std.specs.Cmp.{IsTotalOrder, nat_cmp_total}
use Rattle.std.specs.Cmp.Lexicographic.{nat_list_cmp_total, options_total, slice_cmp}
use Rattle.std.specs.Option.{option_cmp}
use Rattle.std.specs.Ordering.{nat_cmp, ordering_then}
use Rattle.std.specs.declared.cmp.Ordering.{Ordering}
use Rattle.std.proofs.lemmas.Cmp.{on_total, then_total}
use Rattle.session_questions.specs.declared.shown_name.ShownName.{ShownName}

-- those of the whole workbook first, then sheet by sheet, and within a scope by the bytes of their words
abbrev pub shown_cmp : ShownName → ShownName → Ordering
shown_cmp a b = ordering_then (option_cmp nat_cmp a.scope b.scope) (slice_cmp nat_cmp a.word b.word)

pub shown_cmp-IsTotalOrder : IsTotalOrder shown_cmp
shown_cmp-IsTotalOrder = then_total (on_total (λ (n : ShownName). n.scope) (options_total nat_cmp_total)) (on_total (λ (n : ShownName). n.word) nat_list_cmp_total)

-- there is something, and it passes the test
abbrev pub passes : {X : Type 0} → (X → Bool) → Option X → Bool
passes p None = false
passes p (Some x) = p x
