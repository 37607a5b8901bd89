use Rattle.cell_value.specs.Scalar.{truth_text}
use Rattle.session_operations.proofs.GivenCells.{truth_says}
use Rattle.session_operations.proofs.parts.Parts.set_truth.Goals as goal

pub give-requires : goal.give-requires
give-requires c = record { fits = c.requires; says = (truth_text c.args.truth, truth_says c.args.truth) }

pub returns-clause-turns : goal.returns-clause-turns
returns-clause-turns c = c.give.ensures.turns (truth_text c.args.truth) (truth_says c.args.truth)
