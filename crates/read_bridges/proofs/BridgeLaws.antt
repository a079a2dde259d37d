-- The laws of the bridge stage: what the tests of a bridge field leave, and so what is told of the bridges that were read.
use Prim.Native.Nat.{ℕ, ◌<◌, ◌≤◌}
use mathlib.Core.Path.{◌≡◌}
use mathlib.Core.List.{List}
use lib.ListN.{length, replicate}
use Rattle.std.specs.Prelude.{Ok, Err}
use Rattle.circuit.specs.Limits.{most_bridges}
use Rattle.circuit.specs.Order.{bridge_tag, is_kind}
use Rattle.circuit.specs.Known.{listed_in}
use Rattle.circuit.specs.Table.{passes, first_of, listed_good, bridge_tests}
use Rattle.circuit.specs.Records.{unused_bridge, bridge_record}
use Rattle.circuit.specs.declared.Bridge.{Bridge as BridgeRecord}
use Rattle.circuit.specs.declared.refusal.Refusal.{Refusal}
use Rattle.circuit.proofs.Tested.{bridge-pass}
use Rattle.read_fields.specs.Gathers.{JudgedAs, GatheredAs}
use Rattle.read_fields.specs.declared.Field.{Field as FieldRecord}
use Rattle.read_fields.specs.declared.gather.Gathered.{Gathered}
use Rattle.read_fields.proofs.Stages.{stage_told}
use Rattle.read_bridges.specs.ReadBridges.{BridgesRead}

pub room : (count at : ℕ) (body : List ℕ) → first_of (bridge_tests count at body) ≡ passes → count < most_bridges
room count at body e = (bridge-pass count at body e).0

pub bridges_read : {file : List ℕ} {from : ℕ} {unused : BridgeRecord} {all : List BridgeRecord} {r : Gathered}
    {Keeps : FieldRecord → ℕ → BridgeRecord → Type 0} {Refuses : FieldRecord → ℕ → Refusal → Type 0}
    → GatheredAs file (is_kind bridge_tag) from Keeps Refuses (replicate most_bridges unused) all r
    → ((f : FieldRecord) (n : ℕ) (item : BridgeRecord) → Keeps f n item
    → JudgedAs (first_of (bridge_tests n f.at f.body.now)) (bridge_record (listed_in f.body.now)) (Ok item))
    → ((f : FieldRecord) (n : ℕ) (why : Refusal) → Refuses f n why
    → JudgedAs (first_of (bridge_tests n f.at f.body.now)) (bridge_record (listed_in f.body.now)) (Err why))
    → from ≤ length file → unused ≡ unused_bridge
    → BridgesRead file from (record { refusal = r.refusal; at = r.at; count = r.count; all = all })
bridges_read {file} {from} {unused} {all} {r} {Keeps} {Refuses} gathered keeps refuses h none =
    let told = stage_told bridge_tag most_bridges bridge_tests listed_in bridge_record unused_bridge listed_good file from Keeps Refuses
    (record { keeps = keeps; refuses = refuses; room = room; fits = λ n at body e. (bridge-pass n at body e).1.1 })
    h (rw none at gathered) in
    record {
      bridges = told.elements;
      stage = told.stage;
      place = told.place;
      within = told.within;
      count = told.count;
      all = told.all;
      ranges = told.ranges;
    }
