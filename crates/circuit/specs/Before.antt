-- What was read of a file before the field by which it is refused: what is known there, the latest type only where it is finished. Of a
-- file that is refused at its end, or accepted, all of it.
use Rattle.std.specs.Prelude.{ℕ, ◌-◌, Bool, false, cond, ◌&&◌, ◌||◌, List, ltb, length, take}
use Rattle.switch.specs.Modules.{ModuleType}
use Rattle.circuit.specs.Limits.{most_bytes}
use Rattle.circuit.specs.Fields.{Cut, clean, broken, field, cut_from}
use Rattle.circuit.specs.Circuit.{Circuit}
use Rattle.circuit.specs.Order.{tag_of, is_edge}
use Rattle.circuit.specs.Known.{Known, start, known_after}
use Rattle.circuit.specs.Table.{first_of, unjudged, not_complementary, field_tests}
use Rattle.circuit.specs.Records.{empty_circuit}
use Rattle.circuit.specs.Verdicts.{is_refused}

unfoldable pub types_before : List ModuleType → List ModuleType
types_before types = take (length types - 1) types

abbrev pub without_latest : Circuit → Circuit
without_latest c =
    record {
      inputs = c.inputs;
      types = types_before c.types;
      bridges = c.bridges;
      instances = c.instances;
      vectors = c.vectors;
    }

-- a type that was not judged yet is finished where it is complementary and what stands next is no edge
unfoldable pub finished : Known → Bool → Circuit
finished known edge =
    cond (unjudged known.previous && (edge || not_complementary known.circuit.types)) (without_latest known.circuit)
    known.circuit

unfoldable pub before_from : Known → Cut → Circuit
before_from known clean = finished known false
before_from known (broken at) = finished known false
before_from known (field f rest) =
    let later = before_from (known_after known f) rest in
    cond (is_refused (first_of (field_tests known f))) (finished known (is_edge (tag_of f.tag))) later

-- nothing, where the file is too long
unfoldable pub read_before : List ℕ → Circuit
read_before file = let short = before_from start (cut_from file 0) in cond (ltb most_bytes (length file)) empty_circuit short
