-- What the functions that read types and edges promise: the types that were read, how they stand in the records, and that the stage
-- ended there.
use Rattle.std.specs.Prelude.{ℕ, ◌<◌, ◌≤◌, ◌≡◌, true, false, List, [], ◌∷◌, ◌++◌, map, T, length, get_or, Some, Result, Ok, Err}
use Rattle.switch.specs.Modules.{ModuleType, most_edges, in_range}
use Rattle.switch.specs.Deciding.{is_complementary}
use Rattle.switch.specs.declared.ModuleType.{ModuleType as TypeRecord}
use Rattle.circuit.specs.Limits.{most_types}
use Rattle.circuit.specs.Fields.{Field, Cut, clean, field, cut_from}
use Rattle.circuit.specs.Order.{tag_of, is_edge}
use Rattle.circuit.specs.Table.{first_of, type_tests}
use Rattle.circuit.specs.Records.{padded, unused_type, type_record}
use Rattle.circuit.specs.Refusals.{verdict_of}
use Rattle.circuit.specs.Known.{type_in}
use Rattle.circuit.specs.Stages.{Stage, stopped, stage_of, if_passes, edge_stage, field_place, type_stage}
use Rattle.circuit.specs.declared.refusal.Refusal.{Refusal}
use Rattle.read_fields.specs.Steps.{end_of, FieldAt}
use Rattle.read_fields.specs.declared.cursor.Reader.{Reader}
use Rattle.read_fields.specs.declared.Field.{Field as FieldRecord}
use Rattle.read_types.specs.declared.edges.Shape.{Shape}
use Rattle.read_types.specs.declared.types.Types.{Types}

-- the shape that a type's field says
abbrev pub shape_of : List ℕ → Shape
shape_of body = record { highest = get_or body 0 0; output = get_or body 1 0; labels = get_or body 2 0 }

-- a type of this shape, with no edge yet
abbrev pub bare_of : Shape → ModuleType
bare_of s = record { highest = s.highest; output = s.output; labels = s.labels; edges = [] }

-- no edge field stands next
abbrev pub NoEdge : Cut → Type 0
NoEdge cut = (f : Field) (rest : Cut) → cut ≡ field f rest → is_edge (tag_of f.tag) ≡ false

-- ---- a type with its edges, which stand from an offset on

-- up to another offset: all in range, and no more than there are places
pub record EdgesDone (file : List ℕ) (from at : ℕ) (bare : ModuleType) (t : TypeRecord) : Type 0 where
  pub type : ModuleType
  pub stage : edge_stage bare (cut_from file from) ≡ stopped type (cut_from file at)
  pub place : at ≤ length file
  pub ranges : T (in_range type)
  pub within : length type.edges ≤ most_edges
  pub next : NoEdge (cut_from file at)
  pub is : t ≡ type_record type

-- or one of them is refused, behind those of some type, which are in range; and another offset is behind that field
pub record EdgesRefused (file : List ℕ) (from behind : ℕ) (bare : ModuleType) (why : Refusal) : Type 0 where
  pub type : ModuleType
  pub at : ℕ
  pub stage : edge_stage bare (cut_from file from) ≡ stage_of (verdict_of (Some why)) type (cut_from file at)
  pub place : at ≤ length file
  pub ranges : T (in_range type)
  pub within : length type.edges ≤ most_edges
  pub edge : FieldRecord
  pub here : FieldAt file at edge
  pub own : is_edge (tag_of edge.tag) ≡ true
  pub moved : behind ≡ end_of edge

abbrev pub EdgesRead : Reader → Reader → Shape → Result TypeRecord Refusal → Type 0
EdgesRead before after shape (Ok t) =
    EdgesDone before.file.now before.at after.at (bare_of shape) t × (after.file ≡ before.file)
EdgesRead before after shape (Err why) =
    EdgesRefused before.file.now before.at after.at (bare_of shape) why × (after.file ≡ before.file)

-- ---- a type at its field, with the edges behind it, judged

-- the stage at a type's field, after `count` types: `here` is the file from the field on, `rest` from behind it
abbrev pub at_type : FieldRecord → ℕ → List ModuleType → Cut → Cut → Stage (List ModuleType)
at_type f count types here rest =
    if_passes (first_of (type_tests count f.at f.body.now)) types here (type_stage (types ++ (type_in f.body.now ∷ [])) here rest)

-- it passes, and its edges end at an offset
pub record TypeDone (file : List ℕ) (f : FieldRecord) (count from at : ℕ) (t : TypeRecord) : Type 0 where
  pub type : ModuleType
  pub stage : (types : List ModuleType) (here : Cut) → field_place here ≡ f.at
      → at_type f count types here (cut_from file from) ≡ type_stage (types ++ (type ∷ [])) here (cut_from file at)
  pub room : count < most_types
  pub place : at ≤ length file
  pub complementary : T (is_complementary type)
  pub next : NoEdge (cut_from file at)
  pub is : t ≡ type_record type

-- or it is refused, and what was read of it ends at an offset
pub record TypeRefused (file : List ℕ) (f : FieldRecord) (count from at : ℕ) (why : Refusal) : Type 0 where
  pub stage : (types : List ModuleType) (here : Cut) → field_place here ≡ f.at
      → at_type f count types here (cut_from file from) ≡ stage_of (verdict_of (Some why)) types here
  pub place : at ≤ length file

abbrev pub TypeRead : Reader → Reader → FieldRecord → ℕ → Result TypeRecord Refusal → Type 0
TypeRead before after f count (Ok t) = TypeDone before.file.now f count before.at after.at t × (after.file ≡ before.file)
TypeRead before after f count (Err why) =
    TypeRefused before.file.now f count before.at after.at why × (after.file ≡ before.file)

-- ---- the types from an offset on

pub record TypesRead (file : List ℕ) (from : ℕ) (r : Types) : Type 0 where
  pub types : List ModuleType
  pub stage : type_stage [] clean (cut_from file from) ≡ stage_of (verdict_of r.refusal) types (cut_from file r.at)
  pub place : r.at ≤ length file
  pub within : length types ≤ most_types
  pub count : r.count ≡ length types
  pub all : r.all ≡ padded most_types unused_type (map type_record types)
