-- What the rounds of an instance mean: the planes of its labels hold their values at each of 256 places, so the rounds that joining tells over four words
-- of each are the instance's, as the circuit gives them. Assumes nothing.
use Prim.Native.Nat.{ℕ, ◌+◌, ◌*◌, ◌<◌}
use mathlib.Core.Path.{◌≡◌, refl, fun_ext}
use lib.ListN.{length, get_or}
use Rattle.switch.specs.Modules.{ModuleType}
use Rattle.switch.specs.Promises.{is_at0, is_at1}
use Rattle.circuit.specs.Circuit.{Circuit, Instance, type_of_instance}
use Rattle.circuit.specs.Laws.{CircuitGood}
use Rattle.grading.specs.Rows.{no_instance}
use Rattle.grading.specs.Rounds.{type_at, values_at, instance_rounds, PlanesAt}
use Rattle.grading.proofs.ValueLaws.{InstanceAt}
use Rattle.grading.proofs.RoundLaws.{step_counts}
use Rattle.grade_marks.specs.Model.{vector_at}
use Rattle.grade_marks.proofs.OutputLaws.{label_sees}
use Rattle.grade_marks.proofs.SignalMeaning.{words_of, labels_again, labels_hold}

module _ (c : Circuit) (good : CircuitGood c) (i : ℕ) (here : i < length c.instances) where
  abbrev inst : Instance
  inst = get_or c.instances i no_instance

  abbrev t : ModuleType
  t = type_of_instance c.types inst

  at : InstanceAt c i inst
  at = record { good = good; within = here; none = no_instance; is = refl }

  planes_at : PlanesAt c i (words_of c i inst).labels.ones (words_of c i inst).labels.zeros
  unfolding values_at vector_at
  planes_at = record {
    hold = λ w v hw hv.
        rw (labels_again c i inst is_at1 w hw, labels_again c i inst is_at0 w hw, fun_ext (label_sees c i inst at (64 * w + v)))
        (labels_hold c i inst at w v hw hv);
  }

  pub rounds_meant : (words_of c i inst).rails.rounds ≡ instance_rounds c i
  unfolding type_at
  rounds_meant = step_counts c good i here (words_of c i inst).labels.ones (words_of c i inst).labels.zeros planes_at
