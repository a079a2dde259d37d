-- `read_types::types::read_types` meets its contract. The loop's invariant: what was read so far, up to the reader's place.
-- The measure is how many types may still come. Assumes nothing.
use Rattle.std.proofs.Common.{◌≡◌, ◌-◌}
use Rattle.circuit.specs.Limits.{most_types}
use Rattle.read_types.proofs.ReadingTypes.{TypesSoFar}
use Rattle.read_types.proofs.types.read_types.Given as goal

abbrev pub invariant-loop-f : goal.invariant-loop-f
invariant-loop-f l = record { same_file : l.reader.file.now ≡ l.file; so_far : TypesSoFar l.file l.from l.all l.count l.reader.at }

abbrev pub decreases-loop-f : goal.decreases-loop-f
decreases-loop-f l = most_types - l.count
