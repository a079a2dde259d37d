-- `read_instances::read_instances` meets its contract. The loop's invariant: the reader stands at a place of the file up to which the instances are read.
-- The measure is what is left of the file. Assumes nothing.
use Prim.Native.Nat.{◌-◌}
use mathlib.Core.Path.{◌≡◌}
use lib.ListN.{length}
use Rattle.read_instances.proofs.InstanceSteps.{AtLoop}
use Rattle.read_instances.proofs.read_instances.Given as goal

abbrev pub invariant-loop-f : goal.invariant-loop-f
invariant-loop-f l =
    (l.reader.file.now ≡ l.fn.file) × AtLoop l.fn.file l.fn.from l.fn.held l.all l.count l.faults l.reader.at

abbrev pub decreases-loop-f : goal.decreases-loop-f
decreases-loop-f l = length l.file - l.reader.at
