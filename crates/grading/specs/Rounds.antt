-- 02, "How many rounds joining takes": the greatest distance, in on edges along a shortest path, of any joined node from its rail, over all
-- instances and vectors. Both rails count, and instances with choice 0; under a vector with X's, what is on then.
use Rattle.std.specs.Prelude.{ℕ, ◌+◌, ◌*◌, ◌<◌, List, [], length, get_or}
use Rattle.words.specs.Bits.{greatest_to}
use Rattle.words.specs.Each.{word_of_each}
use Rattle.switch.specs.Conduction.{Value, Link}
use Rattle.switch.specs.Modules.{ModuleType, most_labels, links_of}
use Rattle.switch.specs.Distances.{IsRail, DistanceFrom}
use Rattle.switch.specs.Depth.{deepest}
use Rattle.switch.specs.Promises.{PlanesHold}
use Rattle.circuit.specs.Circuit.{Circuit, type_of_instance}
use Rattle.grading.specs.Values.{label_values, outputs_of}
use Rattle.grading.specs.Rows.{no_instance}

-- the type of the instance at a place, from 0; the values of its labels under the vector at a place; and the links of its edges that are on
-- then
unfoldable pub type_at : Circuit → ℕ → ModuleType
type_at c i = type_of_instance c.types (get_or c.instances i no_instance)

unfoldable pub values_at : Circuit → ℕ → ℕ → ℕ → Value
values_at c i v =
    let vector = get_or c.vectors v [] in
    label_values vector (outputs_of c.types vector c.instances) (get_or c.instances i no_instance)

unfoldable pub links_at : Circuit → ℕ → ℕ → List Link
links_at c i v = links_of (type_at c i) (values_at c i v)

-- d is the distance of some joined node from its rail, in some instance under some vector
pub record DistanceIn (c : Circuit) (d : ℕ) : Type 0 where
  pub instance : ℕ
  pub vector : ℕ
  pub rail : ℕ
  pub is_instance : instance < length c.instances
  pub is_vector : vector < length c.vectors
  pub is_rail : IsRail rail
  pub from : DistanceFrom (links_at c instance vector) rail d

-- the greatest of them, worked out (`RoundsTell`, Statements): that of one instance, and of all
unfoldable pub instance_rounds : Circuit → ℕ → ℕ
instance_rounds c i = greatest_to (length c.vectors) (λ (v : ℕ). deepest (links_at c i v))

unfoldable pub rounds_of : Circuit → ℕ
rounds_of c = greatest_to (length c.instances) (instance_rounds c)

-- ---- what the joining step is given of an instance

-- four words of each label in each plane hold the labels' values at each of 256 places, whether or not a vector stands there
pub record PlanesAt (c : Circuit) (i : ℕ) (ones zeros : List ℕ) : Type 0 where
  pub hold : (w v : ℕ) → w < 4 → v < 64
      → PlanesHold (word_of_each 4 w most_labels ones) (word_of_each 4 w most_labels zeros) v (values_at c i (64 * w + v))
