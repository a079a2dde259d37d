-- Two answers that meet the promise of `read_bridges` are the same answer, where it refuses too.
use Prim.Native.Nat.{ℕ}
use mathlib.Core.Path.{◌≡◌, sym, ap, ◌∙◌}
use mathlib.Core.List.{List, map}
use lib.ListN.{length}
use Rattle.circuit.specs.Limits.{most_bridges}
use Rattle.circuit.specs.Circuit.{Listed}
use Rattle.circuit.specs.Records.{padded, unused_bridge, bridge_record}
use Rattle.read_bridges.specs.ReadBridges.{BridgesRead}
use Rattle.read_bridges.specs.declared.Bridges.{Bridges}
use Rattle.circuit.proofs.AnswerLaws.{verdict-tells}
use Rattle.read_fields.proofs.Places.{ended_once}

pub bridges_once : (file : List ℕ) (from : ℕ) (r s : Bridges) → BridgesRead file from r → BridgesRead file from s → r ≡ s
bridges_once file from r s p q =
    let same = ended_once file r.at s.at p.place q.place p.stage q.stage in
    let refusal = verdict-tells r.refusal s.refusal same.0 in
    let at = same.2 in
    let count = p.count ∙ ap length same.1 ∙ sym q.count in
    let all = p.all ∙ ap (λ (l : List Listed). padded most_bridges unused_bridge (map bridge_record l)) same.1 ∙ sym q.all in
    λ i. record { refusal = refusal i; at = at i; count = count i; all = all i }
