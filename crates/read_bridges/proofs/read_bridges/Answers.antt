-- `read_bridges::read_bridges` meets its contract: what was gathered tells the stage. Assumes nothing.
use Rattle.std.proofs.Common.{rules, of_calls}
use Rattle.read_bridges.proofs.BridgeLaws.{room, bridges_read}
use Rattle.read_bridges.proofs.read_bridges.Goals as goal

pub gather-read-requires : goal.gather-read-requires
gather-read-requires c κs = (search rules, (search of_calls, λ f n item h. room n f.at f.body.now (search rules)))

pub returns : goal.returns
returns c = bridges_read c.gather-read.ensures (λ f n item h. search rules) (λ f n why h. search rules) c.requires (search rules)
