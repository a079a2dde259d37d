-- What `program_show` holds of a file tells its listing. Assumes nothing.
use Rattle.print_circuit.proofs.ToldLaws.{told_is_listing}
use Rattle.program_show.proofs.ListingHolding.hold.Goals as goal

pub returns : goal.returns
returns c = let read = c.read_stages.ensures in told_is_listing _ _ read.tells read.circuit
