-- For each case of the code's kind of field, which fields of 01 and 02 are of it.
use Rattle.std.specs.Prelude.{Bool}
use Rattle.circuit.specs.Order.{Tag, inputs_tag, type_tag, edge_tag, bridge_tag, instance_tag, vector_tag, no_tag}
use Rattle.circuit.specs.Order.{is_kind, is_edge, is_unknown}
use Rattle.circuit.specs.declared.order.Kind.{Kind}
use Rattle.circuit.specs.declared.order.Kind.TheVariants.{Inputs, Module, Edge, Bridge, Instance, Vector, Unknown}

abbrev pub of_kind : Kind → Tag → Bool
of_kind Inputs = is_kind inputs_tag
of_kind Module = is_kind type_tag
of_kind Edge = is_edge
of_kind Bridge = is_kind bridge_tag
of_kind Instance = is_kind instance_tag
of_kind Vector = is_kind vector_tag
of_kind Unknown = is_unknown

-- and of which kind a field is
abbrev pub kind_of : Tag → Kind
kind_of inputs_tag = Inputs
kind_of type_tag = Module
kind_of (edge_tag e) = Edge
kind_of bridge_tag = Bridge
kind_of instance_tag = Instance
kind_of vector_tag = Vector
kind_of no_tag = Unknown
