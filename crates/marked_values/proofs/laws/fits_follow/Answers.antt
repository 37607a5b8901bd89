use Rattle.marked_values.proofs.Fitting.{fits_follow}
use Rattle.marked_values.proofs.laws.fits_follow.Goals as goal

pub returns : goal.returns
returns c = fits_follow
