-- `read_vectors::vector_of` meets its contract. The loop's invariant: the planes hold the letters before `i`. Assumes nothing.
use mathlib.Core.Path.{◌≡◌}
use Rattle.switch.specs.Promises.{is_at0, is_at1}
use Rattle.read_vectors.proofs.VectorLaws.{plane_to}
use Rattle.read_vectors.proofs.vector_of.Given as goal

abbrev pub invariant-loop-i : goal.invariant-loop-i
invariant-loop-i l = (l.ones ≡ plane_to is_at1 l.letters l.i) × (l.zeros ≡ plane_to is_at0 l.letters l.i)
