-- `read_vectors::vector_of` meets its contract. Assumes nothing.
use Prim.Native.Nat.{◌<◌}
use mathlib.Core.Path.{◌∙◌}
use native.Mathlib.Numerals.{add-one}
use native.Mathlib.Omega.{arith}
use Rattle.switch.specs.Promises.{is_at0, is_at1}
use Rattle.switch.proofs.Outputs.{at1-small, at0-small}
use Rattle.read_vectors.proofs.VectorLaws.{plane_set, plane_kept, letter_1, letter_0, letter_not_1, letter_not_0}
use Rattle.read_vectors.proofs.vector_of.Goals as goal
use Rattle.read_vectors.proofs.vector_of.Goals.{then-letter-eq49, else-letter-eq49, then-letter-eq48, else-letter-eq48}

pub loop-i-preserved : goal.loop-i-preserved
loop-i-preserved c =
    let body = c.args.letters.now in
    let i = c.loop-i.i in
    let inv = c.loop-i.invariant in
    let taken = c.loop-i-test.true in
    let below : i < 64 = omega arith in (
      rw (add-one i)
          (elim c.if-letter-eq49.branch [
            | then-letter-eq49 w ↦ w.ones-is ∙ rw inv.0 (plane_set is_at1 body at1-small i below (letter_1 _ w.if-letter-eq49.true))
            | else-letter-eq49 w ↦ w.ones-is ∙ inv.0 ∙ plane_kept is_at1 body i (letter_not_1 _ w.if-letter-eq49.false)
          ]),
      rw (add-one i)
          (elim c.if-letter-eq48.branch [
            | then-letter-eq48 w ↦ w.zeros-is ∙ rw inv.1 (plane_set is_at0 body at0-small i below (letter_0 _ w.if-letter-eq48.true))
            | else-letter-eq48 w ↦ w.zeros-is ∙ inv.1 ∙ plane_kept is_at0 body i (letter_not_0 _ w.if-letter-eq48.false)
          ]),
    )
