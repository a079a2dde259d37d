-- Demand 2, values: the outputs that rows are read from are settled by paths, instance by instance, and no others are.
use Prim.Native.Nat.{ℕ, zero, suc, ◌≤◌, ◌<◌}
use mathlib.Core.Path.{◌≡◌, refl, sym, ap, subst, ◌∙◌}
use mathlib.Core.Bool.{true}
use mathlib.Core.List.{List}
use native.Mathlib.Nat.{not-suc-le-zero}
use native.Mathlib.Decide.{dec_lt}
use native.Mathlib.Omega.{arith}
use lib.ListN.{length, get_or}
use lib.Seq.{ext_get_or}
use Rattle.switch.specs.Conduction.{Value, at_x}
use Rattle.switch.specs.Modules.{links_of, OutputIs}
use Rattle.switch.specs.Deciding as deciding
use Rattle.switch.specs.Statements.{Accepted}
use Rattle.switch.proofs.Refinement.{level-is-one}
use Rattle.circuit.specs.Circuit.{Circuit, Instance, type_of_instance}
use Rattle.circuit.specs.Laws.{CircuitGood}
use Rattle.circuit.proofs.CircuitLaws.{accepted-is-good}
use Rattle.grading.specs.Values.{label_values, outputs_of}
use Rattle.grading.specs.Rows.{no_instance}
use Rattle.grading.proofs.ValueLaws.{type_good, type-accepted}
use Rattle.grading.proofs.SettledOutputs.{Agree, same_labels, earlier, one_each, output_at}
use Rattle.demands.specs.Two.{Settled, ValuesArePaths}

-- ---- a good circuit

module _ (c : Circuit) (good : CircuitGood c) (vector : List Value) where
  accepted : (none : Instance) (k : ℕ) → k < length c.instances → Accepted (type_of_instance c.types (get_or c.instances k none))
  accepted none k h = type-accepted _ (type_good c good k h none (get_or c.instances k none) refl)

  abbrev theirs : List Value
  theirs = outputs_of c.types vector c.instances

  settled : Settled c vector theirs
  settled = record {
    one_each = one_each c good vector;
    by_paths = λ none k h.
        let inst = get_or c.instances k none in
        let values = label_values vector theirs inst in
        subst (OutputIs (type_of_instance c.types inst) values) (sym (output_at c good vector none k h))
        (level-is-one.given (links_of (type_of_instance c.types inst) values) (type_of_instance c.types inst).output);
  }

  -- settled lists agree, place by place
  module _ (outputs others : List Value) (one : Settled c vector outputs) (other : Settled c vector others) (none : Instance) where
    agree_next : (n : ℕ) → n < length c.instances → Agree n outputs others → get_or outputs n at_x ≡ get_or others n at_x
    agree_next n h before =
        let inst = get_or c.instances n none in
        let type = type_of_instance c.types inst in
        level-is-one.only type (accepted none n h) (label_values vector outputs inst) type.output (get_or outputs n at_x) (one.by_paths none n h)
        ∙ ap (deciding.output_value type) (same_labels c.inputs n vector outputs others before inst (earlier c good vector none n h))
        ∙ sym (level-is-one.only type (accepted none n h) (label_values vector others inst) type.output (get_or others n at_x) (other.by_paths none n h))

    agree : (n : ℕ) → n ≤ length c.instances → Agree n outputs others
    agree zero h j k = absurd (not-suc-le-zero k)
    agree (suc n) h j k = go (dec_lt j n) (agree n (omega arith))
      where
        go : Dec (j < n) → Agree n outputs others → get_or outputs j at_x ≡ get_or others j at_x
        go (yes q) before = before j q
        go (no q) before = let last : j ≡ n = omega arith in rw last (agree_next n h before)

  same_outputs : (outputs others : List Value) → Settled c vector outputs → Settled c vector others → outputs ≡ others
  same_outputs outputs others one other =
      ext_get_or at_x outputs others (one.one_each ∙ sym other.one_each)
      (λ i h. agree outputs others one other no_instance (length c.instances) (omega arith) i (omega (arith, one.one_each)))

pub values_are_paths : ValuesArePaths
values_are_paths file c accepts vector =
    let good = accepted-is-good true file c accepts in
    record {
      settled = settled c good vector;
      only = λ outputs is. same_outputs c good vector outputs (theirs c good vector) is (settled c good vector);
    }
