-- `print_circuit::circuit_line` meets its contract. Assumes nothing.
use Prim.Native.Nat.{ℕ, ◌+◌}
use mathlib.Core.Path.{◌≡◌, refl}
use mathlib.Core.List.{List, ◌++◌, map}
use native.Mathlib.Omega.{arith}
use lib.ListN.{take}
use Rattle.switch.specs.Records.{type_of}
use Rattle.circuit.specs.Limits.{most_bridges, most_instances, most_vectors}
use Rattle.circuit.specs.declared.Circuit.{Circuit as CircuitRecord}
use Rattle.print_circuit.specs.Lines.{bridge_line, instance_line, vector_line}
use Rattle.print_circuit.specs.Listing.{numbered_lines, grouped_lines, type_lines, inputs_lines, circuit_lines}
use Rattle.print_circuit.specs.Told.{listed_told, instance_told, vector_told, types_told, circuit_told}
use Rattle.print_circuit.specs.Sought.{most_of_types}
use Rattle.print_circuit.proofs.SoughtLaws.{found_here, found_behind, finds_behind}
use Rattle.print_circuit.proofs.circuit_line.Goals as goal

-- the lines of each part of a circuit's record, and those behind it
abbrev vectors_of : CircuitRecord → List (List ℕ)
vectors_of r = numbered_lines vector_line 1 (map (vector_told r.inputs) (take r.vector_count r.vectors))

abbrev instances_of : CircuitRecord → List (List ℕ)
instances_of r =
    numbered_lines instance_line 1 (map (instance_told (map type_of (take r.type_count r.types))) (take r.instance_count r.instances))

abbrev bridges_of : CircuitRecord → List (List ℕ)
bridges_of r = map bridge_line (map listed_told (take r.bridge_count r.bridges))

abbrev types_of : CircuitRecord → List (List ℕ)
types_of r = grouped_lines type_lines 1 (map type_of (take r.type_count r.types))

abbrev behind_bridges : CircuitRecord → List (List ℕ)
behind_bridges r = instances_of r ++ vectors_of r

abbrev behind_types : CircuitRecord → List (List ℕ)
behind_types r = bridges_of r ++ behind_bridges r

abbrev behind_inputs : CircuitRecord → List (List ℕ)
behind_inputs r = types_of r ++ behind_types r

lines_are : (r : CircuitRecord) → inputs_lines r.inputs ++ behind_inputs r ≡ circuit_lines (circuit_told r)
unfolding circuit_lines circuit_told types_told
lines_are r = refl

-- how many lines those behind a part are at most
abbrev most_behind_bridges : ℕ
most_behind_bridges = most_instances + most_vectors

abbrev most_behind_types : ℕ
most_behind_types = most_bridges + most_behind_bridges

abbrev most_behind_inputs : ℕ
most_behind_inputs = most_of_types + most_behind_types

pub returns-in_err-n : goal.returns-in_err-n
returns-in_err-n c =
    let r : CircuitRecord = c.args.c.now in
    rw (c.from_residual.ensures, ← (lines_are r)) (found_here (behind_inputs r) (1 + most_behind_inputs) c.in_err-n.ensures (omega arith))

pub returns-in_err-n-2 : goal.returns-in_err-n-2
returns-in_err-n-2 c =
    let r : CircuitRecord = c.args.c.now in
    let found = rw c.used-types.ensures.used at c.in_err-n-2.ensures in
    rw (c.from_residual-in_err-n-2.ensures, ← (lines_are r)) (found_behind (behind_inputs r) c.in_ok-n.ensures (found_here (behind_types r) most_behind_inputs found (omega arith)))

pub returns-in_err-n-3 : goal.returns-in_err-n-3
returns-in_err-n-3 c =
    let r : CircuitRecord = c.args.c.now in
    let types = rw c.used-types.ensures.used at c.in_ok-n-2.ensures in
    let found = rw c.used.ensures.used at c.in_err-n-3.ensures in
    rw (c.from_residual-in_err-n-3.ensures, ← (lines_are r)) (found_behind (behind_inputs r) c.in_ok-n.ensures
    (found_behind (behind_types r) types (found_here (behind_bridges r) most_behind_types found (omega arith))))

pub returns-in_err-n-4 : goal.returns-in_err-n-4
returns-in_err-n-4 c =
    let r : CircuitRecord = c.args.c.now in
    let types = rw c.used-types.ensures.used at c.in_ok-n-2.ensures in
    let bridges = rw c.used.ensures.used at c.in_ok-n-3.ensures in
    let found = rw (c.used-2.ensures.used, c.used-types.ensures.used) at c.in_err-n-4.ensures in
    rw (c.from_residual-in_err-n-4.ensures, ← (lines_are r)) (found_behind (behind_inputs r) c.in_ok-n.ensures
    (found_behind (behind_types r) types (found_behind (behind_bridges r) bridges (found_here (vectors_of r) most_behind_bridges found (omega arith)))))

pub returns : goal.returns
returns c =
    let r : CircuitRecord = c.args.c.now in
    let types = rw c.used-types.ensures.used at c.in_ok-n-2.ensures in
    let bridges = rw c.used.ensures.used at c.in_ok-n-3.ensures in
    let instances = rw (c.used-2.ensures.used, c.used-types.ensures.used) at c.in_ok-n-4.ensures in
    let vectors = rw c.used-3.ensures.used at c.vector_part.ensures in
    let found = c.vector_part.result in
    rw (← (lines_are r)) (finds_behind (behind_inputs r) c.in_ok-n.ensures most_behind_inputs found
    (finds_behind (behind_types r) types most_behind_types found
    (finds_behind (behind_bridges r) bridges most_behind_bridges found
    (finds_behind (vectors_of r) instances most_vectors found vectors))))
