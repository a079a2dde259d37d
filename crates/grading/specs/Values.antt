-- 01, "Conduction": a label has the value of its reference. Instances are taken in file order; an instance's output is 1 if joined to node
-- 1, 0 if joined to node 0, and otherwise X.
use Rattle.std.specs.Prelude.{ℕ, List, [], ◌∷◌, ◌++◌, map, get_or}
use Rattle.switch.specs.Conduction.{Value, at_x}
use Rattle.switch.specs.Modules.{ModuleType}
use Rattle.switch.specs.Deciding as deciding
use Rattle.circuit.specs.Circuit.{Reference, primary, output_of, Instance, numbered, type_of_instance}

-- the value of a reference under a vector, given the outputs of the instances before
unfoldable pub value_at : List Value → List Value → Reference → Value
value_at vector outputs (primary n) = numbered vector n at_x
value_at vector outputs (output_of i) = numbered outputs i at_x

-- the values of an instance's labels; past its last reference there is no label, and X stands there
unfoldable pub label_values : List Value → List Value → Instance → ℕ → Value
label_values vector outputs i l = get_or (map (value_at vector outputs) i.references) l at_x

-- the outputs of the instances, after those of the instances before them
unfoldable pub outputs_after : List ModuleType → List Value → List Value → List Instance → List Value
outputs_after types vector outputs [] = outputs
outputs_after types vector outputs (i ∷ is) =
    outputs_after types vector (outputs ++ (deciding.output_value (type_of_instance types i) (label_values vector outputs i) ∷ [])) is

unfoldable pub outputs_of : List ModuleType → List Value → List Instance → List Value
outputs_of types vector instances = outputs_after types vector [] instances
