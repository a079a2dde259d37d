-- `read_instances::references::references_in` meets its contract. The loop's invariant: the first i references are good, and their records stand in
-- the first i places. Assumes nothing.
use Prim.Native.Nat.{ℕ, ◌<◌}
use mathlib.Core.Path.{◌≡◌}
use mathlib.Core.Bool.{true}
use Rattle.circuit.specs.Numbers.{reference_good}
use Rattle.read_instances.proofs.ReferenceLaws.{reference_at, filled}
use Rattle.read_instances.proofs.references.references_in.Given as goal

abbrev pub invariant-loop-i : goal.invariant-loop-i
invariant-loop-i l =
    (l.references ≡ filled l.f.body.now l.i) × ((j : ℕ) → j < l.i → reference_good l.inputs l.before (reference_at l.f.body.now j) ≡ true)
