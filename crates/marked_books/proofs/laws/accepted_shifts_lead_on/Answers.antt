use Rattle.marked_books.proofs.Shifting.{accepted_shifts_lead_on}
use Rattle.marked_books.proofs.laws.accepted_shifts_lead_on.Goals as goal

pub returns : goal.returns
returns c = accepted_shifts_lead_on
