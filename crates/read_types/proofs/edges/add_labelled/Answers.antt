-- `read_types::edges::add_labelled` meets its contract: labels that are in range have room in a code. Assumes nothing.
use mathlib.Core.Path.{subst}
use lib.Dec.{T}
use Rattle.read_types.proofs.EdgeBytes.{all_below}
use Rattle.read_types.proofs.edges.add_labelled.Goals as goal

pub add_each-requires-clause-few : goal.add_each-requires-clause-few
add_each-requires-clause-few c = all_below c.args.t.now.labels c.requires.labels _ (subst T c.if-not-labels_below.ensures tt)
