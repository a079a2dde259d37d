-- Arguments that meet the `requires` of each public function that has one, so that what is said of its outcome is said of something.
use Prim.Native.Nat.{ℕ, zero, suc, ◌<◌}
use mathlib.Core.Path.{◌≡◌, refl}
use mathlib.Core.Bool.{Bool, true, false}
use mathlib.Core.List.{List, [], ◌∷◌}
use native.Mathlib.Omega.{arith}
use Rattle.std.specs.Prelude.{Some}
use lib.Dec.{T}
use lib.ListN.{length, get_or, take, replicate}
use denote.Ref.{Bor, MutBor}
use Rattle.switch.specs.Modules.{in_range}
use Rattle.switch.specs.Records.{no_edge, edges_of, type_of, type_with, TypeGiven, EdgesGiven}
use Rattle.switch.specs.declared.ModuleType.{ModuleType}
use Rattle.circuit.specs.Answers.{Tells}
use Rattle.circuit.specs.Reading.{Reading, accepted, refusal, reading_of}
use Rattle.circuit.specs.Records.{circuit_record, empty_circuit, unused_reference, number_told}
use Rattle.circuit.specs.declared.Bridge.{Bridge}
use Rattle.circuit.specs.declared.Circuit.{Circuit as CircuitRecord}
use Rattle.circuit.specs.declared.Reading.{Reading as ReadingRecord}
use Rattle.circuit.specs.declared.Reference.{Reference}
use Rattle.circuit.specs.declared.Reference.TheVariants.{Input}
use Rattle.circuit.specs.declared.refusal.Refusal.TheVariants.{Unfinished}
use Rattle.circuit.proofs.CircuitLaws.{accepted-is-good}
use Rattle.circuit.proofs.Tested.{each_none}
use Rattle.read_bridges.specs.ListSums.{lists_of, ListedBridges}
use Rattle.read_instances.specs.ReadInstances.{HeldAt}
use Rattle.read_instances.specs.declared.Held.{Held}
use Rattle.read_instances.proofs.InstanceLaws.{named}
use Rattle.grading.specs.Codes.{CodesFit}
use Rattle.grading.specs.Given.{CircuitGiven, Read}
use Rattle.grade_rows.specs.Model.{instance_codes}
use Rattle.grade_inputs.specs.declared.Signals.{Signals}
use Rattle.grade_marks.specs.Model.{InstanceGiven}
use Rattle.demands.specs.Files.{inverter_fields, one_under}
use Rattle.demands.proofs.Computing.{computing}

-- a value lent, at some place
abbrev pub lent : {X : Type 0} → X → Bor X
lent x = record { ref_ptr = (0, 0); now = x }

-- a value lent to be written, under some name too
abbrev pub lent_mut : {X : Type 0} → X → MutBor X
lent_mut x = record { ref_ptr = (0, 0); ghost_name = 0; now = x }

-- a type with the inverter's numbers, and no edges
abbrev pub bare_type : ModuleType
bare_type = record { highest = 2; output = 2; labels = 1; count = 0; edges = replicate 256 no_edge }

pub edges-given : EdgesGiven 2 2 1 []
unfolding computing in_range type_with edges_of
edges-given = record { places = omega arith; ranges = tt }

pub type_given : TypeGiven bare_type
unfolding computing in_range type_of edges_of
type_given = record { places = omega arith; ranges = tt }

pub bridges-listed : ListedBridges []
unfolding computing
bridges-listed = record { bridges = []; within = omega arith; are = refl; ranges = tt }

-- no types, and the sums of no lists
abbrev pub held_none : Held
held_none = record { inputs = 0; types = lent []; lists = lent (lists_of []) }

pub held-at-none : HeldAt held_none
unfolding computing
held-at-none = record {
  types = [];
  bridges = [];
  told = record {
    counted = refl;
    nodes_of = λ n. (named [] [] refl n).highest;
    labels_by_number = λ n. (named [] [] refl n).labels;
    good = each_none _;
    few = omega arith;
    summed = refl;
  };
}

-- the codes of no rows
pub codes_fit : (rows : List ℕ) → CodesFit rows 0 0
unfolding CodesFit
codes_fit rows r low high = absurd (omega arith)

pub codes_of_none : (h k : ℕ) (bridges : List Bridge) → length (instance_codes 0 0 h k bridges) ≡ 0
unfolding instance_codes
codes_of_none h k bridges = refl

-- signals of which none is 0 or 1
abbrev pub no_signals : Signals
no_signals = record { ones = replicate 768 0; zeros = replicate 768 0 }

-- references to the first input
abbrev pub first_input : List Reference
first_input = replicate 12 (Input 1)

first-is-one : (l : ℕ) → l < length (take bare_type.labels first_input)
    → number_told (get_or (take bare_type.labels first_input) l unused_reference) ≡ 1
first-is-one zero h = refl
first-is-one (suc l) h = absurd (omega arith)

pub instance-given : InstanceGiven bare_type first_input 0 [] []
instance-given = record {
  sound = type_given;
  tied = record {
    few = omega arith;
    some = λ l h. omega (arith, first-is-one l h);
    most = λ l h. omega (arith, first-is-one l h);
  };
  placed = omega arith;
  room = omega arith;
  codes = codes_fit [];
}

-- a reading of the empty file, which ends too early
abbrev pub reading_of_none : ReadingRecord
reading_of_none = record { refusal = Some (Unfinished 0); circuit = circuit_record empty_circuit }

pub none_read : Read reading_of_none
unfolding computing Tells
none_read = record { file = []; tells = refl }

-- an inverter under one vector is read as a circuit
inverter : List ℕ
inverter = one_under 1 inverter_fields ("1" ∷ [])

is_accepted : Reading → Bool
is_accepted (accepted c) = true
is_accepted (refusal number place) = false

accepts-one : T (is_accepted (reading_of inverter))
unfolding computing is_accepted inverter
accepts-one = tt

taken : (r : Reading) → reading_of inverter ≡ r → T (is_accepted r) → (c : CircuitRecord) × CircuitGiven c
unfolding is_accepted
taken (accepted c) e so = (circuit_record c, record { circuit = c; is = refl; good = accepted-is-good true inverter c e })
taken (refusal number place) e so = absurd so

pub circuit-given : (c : CircuitRecord) × CircuitGiven c
circuit-given = taken (reading_of inverter) refl accepts-one
