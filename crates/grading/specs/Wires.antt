-- 02, "One wire, one short": an end of a bridge is a wire: ground, supply, a primary input, the output of an instance, or an inner node
-- of an instance. What a wire carries under a vector, and when a bridge between two wires leaks.
use Rattle.std.specs.Prelude.{ℕ, Bool, true, false, cond, List, eqb, get_or}
use Rattle.switch.specs.Conduction.{Value, at0, at1, at_x, ground, supply}
use Rattle.switch.specs.Modules.{links_of}
use Rattle.switch.specs.Bridges.{Bridge, nodes, input}
use Rattle.switch.specs.Deciding.{level_in}
use Rattle.circuit.specs.Circuit.{Circuit, Reference, primary, output_of, Instance, numbered, type_of_instance}
use Rattle.grading.specs.Values.{label_values, outputs_of}
use Rattle.grading.specs.Rows.{Row, no_instance}

-- ---- wires

-- inputs and instances by their numbers, from 1; an inner node by its instance and its own number
pub data Wire : Type 0 where
  ground_wire : Wire
  supply_wire : Wire
  input_wire : ℕ → Wire
  output_wire : ℕ → Wire
  inner_wire : ℕ → ℕ → Wire

-- node m of instance n, whose type has the output node o: nodes 0 and 1 of every instance are the one ground and the one supply, node o is
-- the output of the instance, and every other node is an inner node of it
unfoldable pub node_wire : ℕ → ℕ → ℕ → Wire
node_wire n o m = cond (eqb m ground) ground_wire (cond (eqb m supply) supply_wire (cond (eqb m o) (output_wire n) (inner_wire n m)))

-- a label is the wire of its reference. Past the last reference there is no label; input 0, which no circuit has, stands there
unfoldable pub reference_wire : Reference → Wire
reference_wire (primary n) = input_wire n
reference_wire (output_of i) = output_wire i

unfoldable pub label_wire : Instance → ℕ → Wire
label_wire i l = reference_wire (get_or i.references l (primary 0))

-- the ends of a bridge, as it is written
pub data End : Type 0 where
  one_end : End
  other_end : End

unfoldable pub wire_at : Row → Bridge → End → Wire
wire_at row (nodes a b) one_end = node_wire row.number row.type.output a
wire_at row (nodes a b) other_end = node_wire row.number row.type.output b
wire_at row (input m l) one_end = node_wire row.number row.type.output m
wire_at row (input m l) other_end = label_wire row.instance l

abbrev pub wire_of : Row → End → Wire
wire_of row end = wire_at row row.bridge end

-- ---- what a wire carries

-- a wire under a vector, whichever instance looks at it
unfoldable pub carried : Circuit → List Value → Wire → Value
carried c vector ground_wire = at0
carried c vector supply_wire = at1
carried c vector (input_wire n) = numbered vector n at_x
carried c vector (output_wire n) = numbered (outputs_of c.types vector c.instances) n at_x
carried c vector (inner_wire n m) =
    let i = numbered c.instances n no_instance in
    level_in (links_of (type_of_instance c.types i) (label_values vector (outputs_of c.types vector c.instances) i)) m

-- a bridge between two levels leaks when one is 1 and the other is 0
unfoldable pub leaks : Value → Value → Bool
leaks at0 at0 = false
leaks at0 at1 = true
leaks at0 at_x = false
leaks at1 at0 = true
leaks at1 at1 = false
leaks at1 at_x = false
leaks at_x b = false
