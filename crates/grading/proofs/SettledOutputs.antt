-- The outputs of a good circuit are settled: each instance's is what its type gives under the values of its labels, read from all outputs. An
-- instance refers to earlier ones only, so its labels have the same values in any two lists of outputs that agree before it.
use Prim.Native.Nat.{ℕ, zero, suc, ◌+◌, ◌<◌}
use mathlib.Core.Path.{◌≡◌, refl, sym, ap, subst, ◌∙◌}
use mathlib.Core.List.{List, [], ◌∷◌, ◌++◌, map}
use native.Mathlib.Nat.{zero-add, add-zero, not-suc-le-zero}
use native.Mathlib.Omega.{arith}
use lib.Dec.{T}
use lib.ListN.{length, get_or, get_or-append}
use lib.Seq.{get_or-append_seam}
use Rattle.switch.specs.Conduction.{Value, at_x}
use Rattle.switch.specs.Modules.{ModuleType, all_of}
use Rattle.switch.specs.Deciding as deciding
use Rattle.switch.proofs.Channels.{in_between}
use Rattle.switch.proofs.Paths.{both}
use Rattle.circuit.specs.Circuit.{Circuit, Reference, primary, output_of, Instance, numbered, type_of_instance}
use Rattle.circuit.specs.Numbers.{reference_good}
use Rattle.circuit.specs.Laws.{CircuitGood}
use Rattle.circuit.proofs.Tested.{length_snoc}
use Rattle.grading.specs.Values.{value_at, label_values, outputs_after, outputs_of}

-- ---- labels

-- two lists of outputs that agree at the first n places
abbrev pub Agree : ℕ → List Value → List Value → Type 0
Agree n outputs others = (j : ℕ) → j < n → get_or outputs j at_x ≡ get_or others j at_x

module _ (P n : ℕ) (vector outputs others : List Value) (agree : Agree n outputs others) where
  same_value : (r : Reference) → T (reference_good P n r) → value_at vector outputs r ≡ value_at vector others r
  unfolding reference_good value_at numbered
  same_value (primary m) t = refl
  same_value (output_of zero) t = refl
  same_value (output_of (suc j)) t = agree j (omega (arith, in_between 1 n (suc j) t))

  same_values : (rs : List Reference) → T (all_of (reference_good P n) rs) → map (value_at vector outputs) rs ≡ map (value_at vector others) rs
  unfolding all_of
  same_values [] t = refl
  same_values (r ∷ rs) t =
      let parts = both (reference_good P n r) (all_of (reference_good P n) rs) t in
      rw (same_value r parts.0, same_values rs parts.1)

  pub same_labels : (i : Instance) → T (all_of (reference_good P n) i.references) → label_values vector outputs i ≡ label_values vector others i
  unfolding label_values
  same_labels i t = ap {B = ℕ → Value} (λ values l. get_or values l at_x) (same_values i.references t)

-- ---- the outputs that rows are read from

module _ (P : ℕ) (types : List ModuleType) (vector : List Value) where
  -- the output that an instance has where the outputs are these
  abbrev pub output_in : List Value → Instance → Value
  output_in outputs i = deciding.output_value (type_of_instance types i) (label_values vector outputs i)

  -- all outputs: those before are kept, and each instance has added its own
  record Added (outputs : List Value) (is : List Instance) (all : List Value) : Type 0 where
    one_each : length all ≡ length outputs + length is
    kept : Agree (length outputs) all outputs
    added : (none : Instance) (k : ℕ) → k < length is → get_or all (length outputs + k) at_x ≡ output_in all (get_or is k none)

  -- each instance refers to those before it, of which there are n before the first
  abbrev Earlier : ℕ → List Instance → Type 0
  Earlier n is = (none : Instance) (k : ℕ) → k < length is → T (all_of (reference_good P (n + k)) (get_or is k none).references)

  -- one output more
  module _ (outputs : List Value) (i : Instance) (is : List Instance) (earlier : Earlier (length outputs) (i ∷ is)) where
    more : List Value
    more = outputs ++ (output_in outputs i ∷ [])

    longer : length more ≡ suc (length outputs)
    unfolding more
    longer = length_snoc outputs (output_in outputs i)

    front : Agree (length outputs) more outputs
    unfolding more
    front j h = get_or-append outputs (output_in outputs i ∷ []) at_x j h

    seam : get_or more (length outputs) at_x ≡ output_in outputs i
    unfolding more
    seam = get_or-append_seam outputs (output_in outputs i) [] at_x

    rest_earlier : Earlier (length more) is
    rest_earlier none k h =
        subst (λ (n : ℕ). T (all_of (reference_good P n) (get_or is k none).references)) (omega (arith, longer)) (earlier none (suc k) (omega arith))

    added_more : (all : List Value) → Added more is all → Added outputs (i ∷ is) all
    added_more all rest =
        record {
          one_each = omega (arith, rest.one_each, longer);
          kept = stays;
          added = new;
        }
      where
        stays : Agree (length outputs) all outputs
        stays j h = rest.kept j (omega (arith, longer)) ∙ front j h

        new : (none : Instance) (k : ℕ) → k < suc (length is) → get_or all (length outputs + k) at_x ≡ output_in all (get_or (i ∷ is) k none)
        new none zero h =
            simp add-zero
            (rest.kept (length outputs) (omega (arith, longer))
            ∙ seam
            ∙ ap (deciding.output_value (type_of_instance types i))
            (sym (same_labels P (length outputs) vector all outputs stays i (simp add-zero at (earlier i 0 (omega arith))))))
        new none (suc k) h =
            let place : length outputs + suc k ≡ length more + k = omega (arith, longer) in
            ap (λ (n : ℕ). get_or all n at_x) place ∙ rest.added none k (omega arith)

  outputs_added : (outputs : List Value) (is : List Instance) → Earlier (length outputs) is → Added outputs is (outputs_after types vector outputs is)
  unfolding outputs_after more
  outputs_added outputs [] earlier = record { one_each = omega arith; kept = λ j h. refl; added = λ none k h. absurd (not-suc-le-zero h) }
  outputs_added outputs (i ∷ is) earlier =
      added_more outputs i is earlier (outputs_after types vector (more outputs i is earlier) is)
      (outputs_added (more outputs i is earlier) is (rest_earlier outputs i is earlier))

-- ---- a good circuit

module _ (c : Circuit) (good : CircuitGood c) (vector : List Value) where
  abbrev pub outputs : List Value
  outputs = outputs_of c.types vector c.instances

  pub earlier : (none : Instance) (k : ℕ) → k < length c.instances → T (all_of (reference_good c.inputs k) (get_or c.instances k none).references)
  earlier none k h = (good.instances k none h).references

  whole : Added c.inputs c.types vector [] c.instances outputs
  unfolding outputs_of
  whole =
      outputs_added c.inputs c.types vector [] c.instances
      (λ none k h. subst (λ (n : ℕ). T (all_of (reference_good c.inputs n) (get_or c.instances k none).references)) (sym (zero-add k)) (earlier none k h))

  pub one_each : length outputs ≡ length c.instances
  one_each = omega (arith, whole.one_each)

  pub output_at : (none : Instance) (k : ℕ) → k < length c.instances
      → get_or outputs k at_x ≡ output_in c.inputs c.types vector outputs (get_or c.instances k none)
  output_at none k h = ap (λ (n : ℕ). get_or outputs n at_x) (sym (zero-add k)) ∙ whole.added none k h
