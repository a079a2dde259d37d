-- What a wire carries does not depend on the fault lists: circuits that are alike but for them have the same outputs, so that each wire carries the
-- same in both. Assumes nothing.
use Prim.Native.Nat.{ℕ, suc}
use mathlib.Core.Path.{◌≡◌, refl, ap, ap₂, ◌∙◌}
use mathlib.Core.List.{List, [], ◌∷◌, ◌++◌, map}
use native.Mathlib.Omega.{arith}
use lib.ListN.{length, get_or}
use Rattle.switch.specs.Conduction.{Value, at_x}
use Rattle.switch.specs.Modules.{ModuleType, links_of}
use Rattle.switch.specs.Deciding.{level_in, output_value}
use Rattle.circuit.specs.Circuit.{Circuit, Instance, Reference, numbered, no_type, type_of_instance}
use Rattle.grading.specs.Values.{value_at, label_values, outputs_after, outputs_of}
use Rattle.grading.specs.Rows.{no_instance}
use Rattle.grading.specs.Wires.{Wire, ground_wire, supply_wire, input_wire, output_wire, inner_wire, carried}
use Rattle.demands.specs.OneWire.{AlikeButLists}

-- instances with equal types and references
record AlikeModules (is js : List Instance) : Type 0 where
  as_many : length is ≡ length js
  types : (k : ℕ) → (get_or is k no_instance).type ≡ (get_or js k no_instance).type
  references : (k : ℕ) → (get_or is k no_instance).references ≡ (get_or js k no_instance).references

module _ (types : List ModuleType) (vector : List Value) where
  -- the level of a node of an instance, by its type and its references
  level_alike : (outputs : List Value) (i j : Instance) (m : ModuleType → ℕ) → i.type ≡ j.type → i.references ≡ j.references
      → level_in (links_of (type_of_instance types i) (label_values vector outputs i)) (m (type_of_instance types i))
      ≡ level_in (links_of (type_of_instance types j) (label_values vector outputs j)) (m (type_of_instance types j))
  unfolding label_values
  level_alike outputs i j m t r =
      ap₂ (λ (n : ℕ) (rs : List Reference). level_in (links_of (numbered types n no_type) (λ (l : ℕ). get_or (map (value_at vector outputs) rs) l at_x))
      (m (numbered types n no_type))) t r

  outputs_alike : (outputs : List Value) (is js : List Instance) → AlikeModules is js
      → outputs_after types vector outputs is ≡ outputs_after types vector outputs js
  unfolding outputs_after
  outputs_alike outputs [] [] alike = refl
  outputs_alike outputs [] (j ∷ js) alike = absurd (omega (arith, alike.as_many))
  outputs_alike outputs (i ∷ is) [] alike = absurd (omega (arith, alike.as_many))
  outputs_alike outputs (i ∷ is) (j ∷ js) alike =
      rw (level_alike outputs i j (λ (t : ModuleType). t.output) (alike.types 0) (alike.references 0))
      (outputs_alike (outputs ++ (output_value (type_of_instance types j) (label_values vector outputs j) ∷ [])) is js record {
        as_many = omega (arith, alike.as_many);
        types = λ k. alike.types (suc k);
        references = λ k. alike.references (suc k);
      })

module _ (c d : Circuit) (alike : AlikeButLists c d) where
  modules : AlikeModules c.instances d.instances
  unfolding numbered
  modules = record {
    as_many = alike.as_many;
    types = λ k. alike.modules (suc k);
    references = λ k. alike.references (suc k);
  }

  outputs_are : (vector : List Value) → outputs_of c.types vector c.instances ≡ outputs_of d.types vector d.instances
  unfolding outputs_of
  outputs_are vector =
      outputs_alike c.types vector [] c.instances d.instances modules
      ∙ ap (λ (ts : List ModuleType). outputs_after ts vector [] d.instances) alike.types

  pub carried_alike : (vector : List Value) (w : Wire) → carried c vector w ≡ carried d vector w
  unfolding carried
  carried_alike vector ground_wire = refl
  carried_alike vector supply_wire = refl
  carried_alike vector (input_wire n) = refl
  carried_alike vector (output_wire n) = ap (λ (os : List Value). numbered os n at_x) (outputs_are vector)
  carried_alike vector (inner_wire n m) =
      let i : Instance = numbered c.instances n no_instance in
      let j : Instance = numbered d.instances n no_instance in
      level_alike c.types vector (outputs_of c.types vector c.instances) i j (λ (t : ModuleType). m) (alike.modules n) (alike.references n)
      ∙ ap₂ (λ (ts : List ModuleType) (os : List Value). level_in (links_of (type_of_instance ts j) (label_values vector os j)) m)
      alike.types (outputs_are vector)
