-- `read_types::edges::read_edges` meets its contract. The loop's invariant: what was read so far, up to the reader's place.
-- The measure is what is left of the file. Assumes nothing.
use Rattle.std.proofs.Common.{◌≡◌, ◌-◌, length}
use Rattle.read_types.specs.ReadTypes.{bare_of}
use Rattle.read_types.proofs.ReadingTypes.{EdgesSoFar}
use Rattle.read_types.proofs.edges.read_edges.Given as goal

abbrev pub invariant-loop-f : goal.invariant-loop-f
invariant-loop-f l = record {
  same_file : l.reader.file ≡ l.fn.reader.file;
  so_far : EdgesSoFar l.fn.reader.file.now l.fn.reader.at (bare_of l.fn.shape) l.t l.reader.at;
}

abbrev pub decreases-loop-f : goal.decreases-loop-f
decreases-loop-f l = length l.reader.file.now - l.reader.at
