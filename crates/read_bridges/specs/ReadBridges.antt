-- What the function that reads bridges promises: the list that was read, how it stands in the record, and that the stage ended there.
use Rattle.std.specs.Prelude.{ℕ, ◌≤◌, ◌≡◌, List, [], map, T, length}
use Rattle.switch.specs.Modules.{all_of}
use Rattle.circuit.specs.Limits.{most_bridges}
use Rattle.circuit.specs.Fields.{cut_from}
use Rattle.circuit.specs.Circuit.{Listed}
use Rattle.circuit.specs.Table.{listed_good}
use Rattle.circuit.specs.Records.{padded, unused_bridge, bridge_record}
use Rattle.circuit.specs.Refusals.{verdict_of}
use Rattle.circuit.specs.Stages.{stage_of, bridge_stage}
use Rattle.read_bridges.specs.declared.Bridges.{Bridges}

-- the bridges from an offset on
pub record BridgesRead (file : List ℕ) (from : ℕ) (r : Bridges) : Type 0 where
  pub bridges : List Listed
  pub stage : bridge_stage [] (cut_from file from) ≡ stage_of (verdict_of r.refusal) bridges (cut_from file r.at)
  pub place : r.at ≤ length file
  pub within : length bridges ≤ most_bridges
  pub count : r.count ≡ length bridges
  pub all : r.all ≡ padded most_bridges unused_bridge (map bridge_record bridges)
  pub ranges : T (all_of listed_good bridges)
