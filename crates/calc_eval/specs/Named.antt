-- What a name's view stands for. Source: this project's own.
use Rattle.formula_tree.specs.Relative.{relative}
use Rattle.formula_tree.specs.StandsFor.{at_home}
use Rattle.calc_terms.specs.World.{Named}
use Rattle.calc_eval.specs.declared.view.NameView.{NameView}

abbrev pub named_by : NameView → Named
named_by name = record { value = name.value.now; tree = at_home name.home (relative name.tree.now.value) }
