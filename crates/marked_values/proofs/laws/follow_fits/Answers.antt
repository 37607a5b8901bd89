use Rattle.marked_values.proofs.Fitting.{follow_fits}
use Rattle.marked_values.proofs.laws.follow_fits.Goals as goal

pub returns : goal.returns
returns c = follow_fits
