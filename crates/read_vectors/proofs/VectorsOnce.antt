-- Two answers that meet the promise of `read_vectors` are the same answer, where it refuses too.
use Prim.Native.Nat.{ℕ}
use mathlib.Core.Path.{◌≡◌, sym, ap, ◌∙◌}
use mathlib.Core.List.{List, map}
use lib.ListN.{length}
use Rattle.switch.specs.Conduction.{Value}
use Rattle.circuit.specs.Limits.{most_vectors}
use Rattle.circuit.specs.Records.{padded, unused_vector, vector_record}
use Rattle.read_vectors.specs.ReadVectors.{VectorsRead}
use Rattle.read_vectors.specs.declared.Vectors.{Vectors}
use Rattle.circuit.proofs.AnswerLaws.{verdict-tells}
use Rattle.read_fields.proofs.Places.{ended_once}

pub vectors_once : (file : List ℕ) (from P : ℕ) (r s : Vectors) → VectorsRead file from P r → VectorsRead file from P s → r ≡ s
vectors_once file from P r s p q =
    let same = ended_once file r.at s.at p.place q.place p.stage q.stage in
    let refusal = verdict-tells r.refusal s.refusal same.0 in
    let at = same.2 in
    let count = p.count ∙ ap length same.1 ∙ sym q.count in
    let all = p.all ∙ ap (λ (l : List (List Value)). padded most_vectors unused_vector (map vector_record l)) same.1 ∙ sym q.all in
    λ i. record { refusal = refusal i; at = at i; count = count i; all = all i }
