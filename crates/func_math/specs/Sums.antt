-- SUM, AVERAGE, MIN, MAX and COUNT. Source: OpenFormula; that a sum is exact and tested for range once,
-- and that an average is rounded half away from zero, is this project's own.
use Rattle.std.specs.Prelude.{◌==◌, ℤ, pos, if◌then◌else◌, Option, Some, None, unwrap_or, Result, Ok, Err}
use Rattle.fix_num.specs.Number.{nearest}
use Rattle.cell_value.specs.declared.fault.FaultKind.{FaultKind}
use Rattle.cell_value.specs.declared.fault.FaultKind.TheVariants.{Div0, Na}
use Rattle.cell_value.specs.declared.summary.Summary.{Summary}
use Rattle.func_args.specs.Answers.{and_then, gives, counted}
use Rattle.func_math.specs.declared.function.MathFn.{MathFn}
use Rattle.func_math.specs.declared.function.MathFn.TheVariants.{Sum, Average, Min, Max, Count}

-- the summary, where no fault decides
abbrev pub decided_by : Option FaultKind → Summary → Result Summary FaultKind
decided_by (Some fault) summary = Err fault
decided_by None summary = Ok summary

abbrev pub decided : Summary → Result Summary FaultKind
decided summary = decided_by summary.fault summary

-- the exact sum, tested for range at its end
abbrev pub sum_of : Summary → Result ℤ FaultKind
sum_of summary = gives summary.sum

-- the exact sum divided by the count, rounded half away from zero; of no numbers #DIV/0!
abbrev pub average_of : Summary → Result ℤ FaultKind
average_of summary = if summary.count == 0 then Err Div0 else gives (nearest summary.sum (pos summary.count))

-- the least number, of none 0
abbrev pub least_of : Summary → Result ℤ FaultKind
least_of summary = Ok (unwrap_or summary.least (pos 0))

-- the greatest number, of none 0
abbrev pub greatest_of : Summary → Result ℤ FaultKind
greatest_of summary = Ok (unwrap_or summary.greatest (pos 0))

-- the value of such a function, of the summary of what its arguments list: the first fault decides, but
-- COUNT counts numbers and skips faults
abbrev pub summary_answer : MathFn → Summary → Result ℤ FaultKind
summary_answer Sum summary = and_then (decided summary) sum_of
summary_answer Average summary = and_then (decided summary) average_of
summary_answer Min summary = and_then (decided summary) least_of
summary_answer Max summary = and_then (decided summary) greatest_of
summary_answer Count summary = counted summary.count
summary_answer _ summary = Err Na
