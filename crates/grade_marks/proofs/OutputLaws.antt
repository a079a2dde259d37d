-- The outputs of the instances. Outputs of earlier instances stay as later ones are added, and a good instance refers to earlier ones only, so its
-- labels have the same values whether the outputs before it are given or all. Assumes nothing.
use Prim.Native.Nat.{ℕ, zero, suc, ◌+◌, ◌<◌, ◌≤◌}
use mathlib.Core.Path.{◌≡◌, refl, sym, ap, ◌∙◌}
use mathlib.Core.List.{List, [], ◌∷◌, ◌++◌}
use native.Mathlib.Decide.{dec_lt}
use native.Mathlib.Omega.{arith}
use lib.Dec.{T}
use lib.ListN.{length, get_or, take, drop, length-append, take-append-drop, get_or-append}
use lib.Seq.{take-suc, length-take-le}
use Rattle.switch.specs.Conduction.{Value, at_x}
use Rattle.switch.specs.Modules.{ModuleType}
use Rattle.switch.specs.Deciding as deciding
use Rattle.switch.proofs.Channels.{in_between}
use Rattle.switch.proofs.Deciding.{all_of_lem}
use Rattle.circuit.specs.Circuit.{Circuit, Reference, primary, output_of, Instance, numbered, type_of_instance}
use Rattle.circuit.specs.Numbers.{reference_good}
use Rattle.grading.specs.Values.{value_at, label_values, outputs_after, outputs_of}
use Rattle.grading.proofs.ValueLaws.{InstanceAt, good_at, label_value, label_past}
use Rattle.grade_marks.specs.Model.{vector_at, outputs_at}

module _ (types : List ModuleType) (vector : List Value) where
  outputs_append : (outputs : List Value) (is js : List Instance)
      → outputs_after types vector outputs (is ++ js) ≡ outputs_after types vector (outputs_after types vector outputs is) js
  unfolding outputs_after
  outputs_append outputs [] js = refl
  outputs_append outputs (i ∷ is) js =
      outputs_append (outputs ++ (deciding.output_value (type_of_instance types i) (label_values vector outputs i) ∷ [])) is js

  length_outputs : (outputs : List Value) (is : List Instance) → length (outputs_after types vector outputs is) ≡ length outputs + length is
  unfolding outputs_after
  length_outputs outputs [] = omega arith
  length_outputs outputs (i ∷ is) =
      let new = deciding.output_value (type_of_instance types i) (label_values vector outputs i) ∷ [] in
      omega (arith, length_outputs (outputs ++ new) is, length-append outputs new)

  -- outputs stay
  outputs_front : (outputs : List Value) (is : List Instance) (n : ℕ) (d : Value) → n < length outputs
      → get_or (outputs_after types vector outputs is) n d ≡ get_or outputs n d
  unfolding outputs_after
  outputs_front outputs [] n d h = refl
  outputs_front outputs (i ∷ is) n d h =
      let new = deciding.output_value (type_of_instance types i) (label_values vector outputs i) ∷ [] in
      outputs_front (outputs ++ new) is n d (omega (arith, length-append outputs new)) ∙ get_or-append outputs new d n h

pub length-outputs_at : (c : Circuit) (i u : ℕ) → i ≤ length c.instances → length (outputs_at c i u) ≡ i
unfolding outputs_at outputs_of
length-outputs_at c i u h =
    length_outputs c.types (vector_at c u) [] (take i c.instances) ∙ omega (arith, length-take-le i c.instances h)

-- the output of the instance at a place, under the vector at a place
abbrev pub new_output : Circuit → ℕ → Instance → ℕ → Value
new_output c i inst u = deciding.output_value (type_of_instance c.types inst) (label_values (vector_at c u) (outputs_at c i u) inst)

module _ (c : Circuit) (i : ℕ) (inst : Instance) (at : InstanceAt c i inst) (u : ℕ) where
  pub outputs_more : outputs_at c (suc i) u ≡ outputs_at c i u ++ (new_output c i inst u ∷ [])
  unfolding outputs_at outputs_of outputs_after
  outputs_more =
      rw (take-suc c.instances i at.none at.within, at.is)
      (outputs_append c.types (vector_at c u) [] (take i c.instances) (inst ∷ []))

  -- of the outputs before it and of all outputs the instance sees the same
  all_outputs : List Value
  all_outputs = outputs_of c.types (vector_at c u) c.instances

  sees : (r : Reference) → T (reference_good c.inputs i r) → value_at (vector_at c u) all_outputs r ≡ value_at (vector_at c u) (outputs_at c i u) r
  unfolding reference_good value_at numbered all_outputs outputs_at outputs_of
  sees (primary n) t = refl
  sees (output_of zero) t = refl
  sees (output_of (suc j)) t =
      let vector = vector_at c u in
      let front = take i c.instances in
      let rest = drop i c.instances in
      let before = outputs_after c.types vector [] front in
      let split : outputs_after c.types vector [] c.instances ≡ outputs_after c.types vector before rest
      = ap (outputs_after c.types vector []) (sym (take-append-drop i c.instances)) ∙ outputs_append c.types vector [] front rest in
      let long : length before ≡ i = length-outputs_at c i u (omega (arith, at.within)) in
      ap (λ (os : List Value). get_or os j at_x) split
      ∙ outputs_front c.types vector before rest j at_x (omega (arith, in_between 1 i (suc j) t))

  pub label_sees : (l : ℕ)
      → label_values (vector_at c u) (outputs_of c.types (vector_at c u) c.instances) inst l ≡ label_values (vector_at c u) (outputs_at c i u) inst l
  unfolding all_outputs
  label_sees l = go (dec_lt l (length inst.references))
    where
      before : List Value
      before = outputs_at c i u

      go : Dec (l < length inst.references) → label_values (vector_at c u) all_outputs inst l ≡ label_values (vector_at c u) before inst l
      go (yes h) =
          let tied = (all_of_lem (reference_good c.inputs i) (primary 0) inst.references).0 (good_at c i inst at).references l h in
          label_value (vector_at c u) all_outputs inst l
          ∙ sees (get_or inst.references l (primary 0)) tied
          ∙ sym (label_value (vector_at c u) before inst l)
      go (no h) = label_past (vector_at c u) all_outputs inst l (omega arith) ∙ sym (label_past (vector_at c u) before inst l (omega arith))
