use Rattle.std.proofs.Common.{refl, pos, []}
use Rattle.cell_value.specs.declared.scalar.Scalar.TheVariants.{Empty, Number, Text}
use Rattle.cell_value.proofs.laws.empty_is_in_no_order.Goals as goal

pub returns-clause-so : goal.returns-clause-so
returns-clause-so c = λ all. let e = (all (Number (pos 0)) Empty (Text []) tt tt tt).alike refl in cc
