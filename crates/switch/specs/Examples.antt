-- The NAND of 01, an edge for each transistor, as a type and as a record of the code: the theorems speak of some type, and the code's
-- promises of some record. 01's known results are in the crate `demands`. The proof is in proofs/Examples.
use Rattle.std.specs.Prelude.{ℕ, ◌-◌, ◌≡◌, [], ◌∷◌, ◌++◌, map, replicate}
use Rattle.switch.specs.Conduction.{Edge, Channel, channel_p, channel_n, by_position}
use Rattle.switch.specs.Modules.{ModuleType, most_edges}
use Rattle.switch.specs.Records.{no_edge, edge_record, type_of, TypeGiven}
use Rattle.switch.specs.Statements.{Accepted}
use Rattle.switch.specs.declared.ModuleType.{ModuleType as TypeRecord}

unfoldable pub edge : ℕ → ℕ → Channel → ℕ → Edge
edge a b c l = record { first = a; second = b; channel = c; label = l; tag = by_position }

unfoldable pub nand : ModuleType
nand = record {
  highest = 3;
  output = 2;
  labels = 2;
  edges = edge 1 2 channel_p 0 ∷ edge 1 2 channel_p 1 ∷ edge 2 3 channel_n 0 ∷ edge 3 0 channel_n 1 ∷ [];
}

-- in the code's places for edges
unfoldable pub nand_record : TypeRecord
nand_record = record {
  highest = 3;
  output = 2;
  labels = 2;
  count = 4;
  edges = map edge_record nand.edges ++ replicate (most_edges - 4) no_edge;
}

-- so there is a type that is accepted, and a record of it that the code takes
pub record NandGiven : Type 0 where
  pub accepted : Accepted nand
  pub given : TypeGiven nand_record
  pub its_type : type_of nand_record ≡ nand
