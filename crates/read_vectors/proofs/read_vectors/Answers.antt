-- `read_vectors::read_vectors` meets its contract: what was gathered tells the stage. Assumes nothing.
use Rattle.std.proofs.Common.{rules, of_calls}
use Rattle.read_vectors.proofs.VectorLaws.{room, vectors_read}
use Rattle.read_vectors.proofs.read_vectors.Goals as goal

pub gather-read-requires : goal.gather-read-requires
gather-read-requires c κs =
    (search rules, (search of_calls, λ f n item h. room c.args.inputs n f.at f.body.now (search rules)))

pub returns : goal.returns
returns c =
    vectors_read c.args.inputs c.gather-read.ensures (λ f n item h. search rules) (λ f n why h. search rules) c.requires.0 (search rules)
