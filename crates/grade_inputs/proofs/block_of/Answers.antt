-- `grade_inputs::block_of` meets its contract: each column is what its closure answers. Assumes nothing.
use Rattle.std.proofs.Common.{refl, ◌+◌, ◌*◌, get_or, rules}
use Rattle.circuit.specs.Records.{unused_vector}
use Rattle.circuit.specs.declared.Vector.{Vector}
use Rattle.grade_inputs.specs.Inputs.{ones_of, zeros_of}
use Rattle.grade_inputs.proofs.InputLaws.{column-is}
use Rattle.grade_inputs.proofs.Made.{table_made}
use Rattle.grade_inputs.proofs.block_of.Goals as goal

pub returns : goal.returns
unfolding ones_of zeros_of
returns c =
    let vectors = c.args.vectors.now in
    let w = c.args.w in
    rw (
      table_made _ _ (λ v. (get_or vectors (64 * w + v) unused_vector).ones) (λ i y q k. search rules) 0 64 _ c.from_fn.ensures.items,
      table_made _ _ (λ v. (get_or vectors (64 * w + v) unused_vector).zeros) (λ i y q k. search rules) 0 64 _ c.from_fn-2.ensures.items,
      column-is (λ (x : Vector). x.ones) vectors w refl,
      column-is (λ (x : Vector). x.zeros) vectors w refl,
    )
