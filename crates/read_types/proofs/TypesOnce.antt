-- Two answers that meet the promise of `read_types` are the same answer, where it refuses too.
use Prim.Native.Nat.{ℕ}
use mathlib.Core.Path.{◌≡◌, sym, ap, ◌∙◌}
use mathlib.Core.List.{List, map}
use lib.ListN.{length}
use Rattle.switch.specs.Modules.{ModuleType}
use Rattle.circuit.specs.Limits.{most_types}
use Rattle.circuit.specs.Records.{padded, unused_type, type_record}
use Rattle.read_types.specs.ReadTypes.{TypesRead}
use Rattle.read_types.specs.declared.types.Types.{Types}
use Rattle.circuit.proofs.AnswerLaws.{verdict-tells}
use Rattle.read_fields.proofs.Places.{ended_once}

pub types_once : (file : List ℕ) (from : ℕ) (r s : Types) → TypesRead file from r → TypesRead file from s → r ≡ s
types_once file from r s p q =
    let same = ended_once file r.at s.at p.place q.place p.stage q.stage in
    let refusal = verdict-tells r.refusal s.refusal same.0 in
    let at = same.2 in
    let count = p.count ∙ ap length same.1 ∙ sym q.count in
    let all = p.all ∙ ap (λ (l : List ModuleType). padded most_types unused_type (map type_record l)) same.1 ∙ sym q.all in
    λ i. record { refusal = refusal i; at = at i; count = count i; all = all i }
