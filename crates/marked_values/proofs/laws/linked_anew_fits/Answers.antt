use Rattle.marked_values.proofs.Fitting.{linked_anew_fits}
use Rattle.marked_values.proofs.laws.linked_anew_fits.Goals as goal

pub returns : goal.returns
returns c = linked_anew_fits
