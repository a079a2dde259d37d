-- Wrong ways to count rounds (specs/WrongRounds). Each is refuted by a small file, on which it gives another number than the circuit's rounds:
-- both are computed, and a circuit has one greatest distance. A grader that keeps the promise counts right; and whatever a grader gives for
-- rounds, it refuses by the table, and its cells, its classes and what it leaves in the buffers are the right grader's. Assumes nothing.
use Prim.Native.Nat.{ℕ, suc}
use mathlib.Core.Path.{◌≡◌, refl, sym, ◌∙◌}
use mathlib.Core.Bool.{true}
use mathlib.Core.List.{List, [], ◌∷◌, ◌++◌}
use lib.Dec.{T}
use lib.ListN.{replicate}
use Rattle.switch.proofs.Depths.{one_greatest}
use Rattle.circuit.specs.Circuit.{Circuit, no_faults}
use Rattle.circuit.proofs.CircuitLaws.{accepted-is-good}
use Rattle.grading.specs.Buffers.{Buffers, room_of}
use Rattle.grading.specs.Rounds.{DistanceIn, rounds_of}
use Rattle.grading.specs.Grading.{Grading, graded, refused, grading_of}
use Rattle.grading.specs.Promise.{is_graded}
use Rattle.grading.proofs.RoundLaws.{rounds_tell}
use Rattle.demands.specs.Calls.{Call, Accepts}
use Rattle.demands.specs.Two.{Found, ClassesTell}
use Rattle.demands.specs.Rounds.{rounds_given}
use Rattle.demands.specs.Files.{inverter_under, inverter_choosing, nand_under, nor_under, inverter_then_nand, nand_then_inverter}
use Rattle.demands.specs.Graders.{Grader, MeetsPromise, called, Work, outcome_of, grades_by, right_work, rightly}
use Rattle.demands.specs.Breaks.{MeetsRest, MeetsCells, MeetsClasses, MeetsRounds}
use Rattle.demands.specs.WrongRounds.{with_rounds, counts_rounds, greatest_at, greatest_by, sweep_in_place, sweeps_from, output_distance, is_x}
use Rattle.demands.specs.WrongRounds.{counts_sweeps, counts_the_last_round, first_instance_only, last_instance_only, counts_nodes, instances_with_faults}
use Rattle.demands.specs.WrongRounds.{from_supply_only, from_ground_only, sum_of_both_rails}
use Rattle.demands.specs.WrongRounds.{first_vectors_only, last_vector_only, outputs_only, under_every_setting, skips_x, WrongRoundsAreWrong}
use Rattle.demands.proofs.Computing.{grader_computing, told_by, circuit_of, blank}
use Rattle.demands.proofs.Gave.{gave, rounds_given_lem}
use Rattle.demands.proofs.MeetsProof.{rightly_meets_all, meet_demand_one, graded_too, by_right_words}
use Rattle.demands.proofs.WrongProof.{Differ, apart}

-- ---- the promise

promise_asks : (grader : Grader) → MeetsPromise grader → MeetsRounds grader
promise_asks grader meets file before c accepts is_graded_lem =
    rounds_given_lem (called grader file before) c
    (gave _ c (record { kept = meets file before; accepts = accepts; graded = is_graded_lem }))

-- ---- any rounds

module _ (rounds : Circuit → ℕ) where
  cells_right : MeetsCells (counts_rounds rounds)
  unfolding with_rounds
  cells_right = by_right_words (with_rounds rounds) (λ c. refl)

  module _ (file : List ℕ) (before : Buffers) (c : Circuit) where
    -- a call of a grader by this work, given how its file is to be graded
    abbrev called_by : (Circuit → Work) → Grading → Call
    called_by work g =
        let outcome = outcome_of work g before in
        record { file = file; before = before; answer = outcome.answer; after = outcome.after }

    -- the clause on classes says nothing of rounds
    classes_carried : (g : Grading) → ClassesTell (called_by right_work g) c → ClassesTell (called_by (with_rounds rounds) g) c
    unfolding outcome_of with_rounds
    classes_carried (refused number place) tells = tells
    classes_carried (graded d) tells = record {
      same = tells.same;
      low = tells.low;
      high = tells.high;
      each = tells.each;
      at_its_first_row = tells.at_its_first_row;
      found = (tells.found.0, tells.found.1, λ n. (λ e. there n ((tells.found.2 n).0 e), λ f. (tells.found.2 n).1 (back n f)), tells.found.3);
      vectors = tells.vectors;
      faults = tells.faults;
    }
      where
        there : (n : ℕ) → Found (called_by right_work (graded d)) c (suc n) → Found (called_by (with_rounds rounds) (graded d)) c (suc n)
        there n f = record { cell = f.cell; of_class = f.of_class; mark = f.mark }

        back : (n : ℕ) → Found (called_by (with_rounds rounds) (graded d)) c (suc n) → Found (called_by right_work (graded d)) c (suc n)
        back n f = record { cell = f.cell; of_class = f.of_class; mark = f.mark }

  classes_right : MeetsClasses (counts_rounds rounds)
  unfolding grades_by rightly with_rounds
  classes_right file before c accepts is_graded_lem =
      let g = grading_of file (room_of before) in
      classes_carried file before c g
      (rightly_meets_all.classes file before c accepts (graded_too (with_rounds rounds) (λ d. refl) g before is_graded_lem))

  -- the buffers hold nothing of rounds
  same_buffers : (g : Grading) (before : Buffers) → (outcome_of (with_rounds rounds) g before).after ≡ (outcome_of right_work g before).after
  unfolding outcome_of with_rounds
  same_buffers (refused number place) before = refl
  same_buffers (graded d) before = refl

  rest_right : MeetsRest (counts_rounds rounds)
  unfolding grades_by rightly with_rounds
  rest_right file before c accepts is_graded_lem =
      let g = grading_of file (room_of before) in
      let kept = rightly_meets_all.rest file before c accepts (graded_too (with_rounds rounds) (λ d. refl) g before is_graded_lem) in
      rw (same_buffers g before) (record { words = kept.words; entries = kept.entries; as_long = kept.as_long })

-- ---- a file with other rounds than a grader gives

record RoundsWrong (grader : Grader) (file : List ℕ) (right given : ℕ) : Type 0 where
  accepts : Accepts file (circuit_of file)
  grades : T (is_graded (grader file blank).answer)
  are : rounds_of (circuit_of file) ≡ right
  gives : rounds_given (called grader file blank) ≡ given

by-rounds : (grader : Grader) (file : List ℕ) (right given : ℕ) → RoundsWrong grader file right given → Differ given right
    → MeetsRounds grader → ⊥
by-rounds grader file right given w differ meets =
    let c = circuit_of file in
    let told = meets file blank c w.accepts w.grades in
    let greatest = rounds_tell.greatest c (accepted-is-good true file c w.accepts) in
    apart given right differ (sym w.gives ∙ one_greatest (DistanceIn c) _ _ told greatest ∙ w.are)

-- ---- what is computed

record Computed : Type 0 where
  -- the output of the NOR is two edges from supply; the first sweep in place meets them in order
  sweeps : RoundsWrong counts_sweeps (nor_under ("00" ∷ [])) 2 1
  last_round : RoundsWrong counts_the_last_round (inverter_under ("0" ∷ [])) 1 2
  -- the NAND stands second, then first
  first_instance : RoundsWrong first_instance_only (inverter_then_nand ("1" ∷ [])) 2 1
  last_instance : RoundsWrong last_instance_only (nand_then_inverter ("11" ∷ [])) 2 1
  nodes : RoundsWrong counts_nodes (inverter_under ("0" ∷ [])) 1 2
  with_faults : RoundsWrong instances_with_faults (inverter_choosing no_faults) 1 0
  -- under 1 the output hangs on ground, under 0 on supply
  supply_only : RoundsWrong from_supply_only (inverter_under ("1" ∷ [])) 1 0
  ground_only : RoundsWrong from_ground_only (inverter_under ("0" ∷ [])) 1 0
  -- the output hangs on supply, the inner node on ground
  both_rails : RoundsWrong sum_of_both_rails (nand_under ("01" ∷ [])) 1 2
  -- under X nothing is on
  first_vectors : RoundsWrong first_vectors_only (inverter_under (replicate 64 "X" ++ ("0" ∷ []))) 1 0
  last_vector : RoundsWrong last_vector_only (inverter_under ("0" ∷ "X" ∷ [])) 1 0
  -- the inner node of the NAND is behind its output
  outputs : RoundsWrong outputs_only (nand_under ("10" ∷ [])) 2 1
  -- under 11 its output would be two edges from ground
  every_setting : RoundsWrong under_every_setting (nand_under ("00" ∷ [])) 1 2
  -- the 0 is enough to join the output
  without_x : RoundsWrong skips_x (nand_under ("0X" ∷ [])) 1 0

computed : Computed
unfolding grader_computing told_by with_rounds greatest_at greatest_by sweep_in_place sweeps_from output_distance is_x
    counts_sweeps counts_the_last_round first_instance_only last_instance_only counts_nodes instances_with_faults from_supply_only from_ground_only
    sum_of_both_rails first_vectors_only last_vector_only outputs_only under_every_setting skips_x
computed = record {
  sweeps = record { accepts = refl; grades = tt; are = refl; gives = refl };
  last_round = record { accepts = refl; grades = tt; are = refl; gives = refl };
  first_instance = record { accepts = refl; grades = tt; are = refl; gives = refl };
  last_instance = record { accepts = refl; grades = tt; are = refl; gives = refl };
  nodes = record { accepts = refl; grades = tt; are = refl; gives = refl };
  with_faults = record { accepts = refl; grades = tt; are = refl; gives = refl };
  supply_only = record { accepts = refl; grades = tt; are = refl; gives = refl };
  ground_only = record { accepts = refl; grades = tt; are = refl; gives = refl };
  both_rails = record { accepts = refl; grades = tt; are = refl; gives = refl };
  first_vectors = record { accepts = refl; grades = tt; are = refl; gives = refl };
  last_vector = record { accepts = refl; grades = tt; are = refl; gives = refl };
  outputs = record { accepts = refl; grades = tt; are = refl; gives = refl };
  every_setting = record { accepts = refl; grades = tt; are = refl; gives = refl };
  without_x = record { accepts = refl; grades = tt; are = refl; gives = refl };
}

pub wrong_rounds_are_wrong : WrongRoundsAreWrong
wrong_rounds_are_wrong = record {
  promise_asks = promise_asks;
  one = λ rounds. meet_demand_one.by_any_work (with_rounds rounds);
  rest = rest_right;
  cells = cells_right;
  classes = classes_right;
  counts_sweeps_lem = by-rounds _ _ _ _ computed.sweeps refl;
  counts_the_last_round_lem = by-rounds _ _ _ _ computed.last_round refl;
  first_instance_only_lem = by-rounds _ _ _ _ computed.first_instance refl;
  last_instance_only_lem = by-rounds _ _ _ _ computed.last_instance refl;
  counts_nodes_lem = by-rounds _ _ _ _ computed.nodes refl;
  instances_with_faults_lem = by-rounds _ _ _ _ computed.with_faults refl;
  from_supply_only_lem = by-rounds _ _ _ _ computed.supply_only refl;
  from_ground_only_lem = by-rounds _ _ _ _ computed.ground_only refl;
  sum_of_both_rails_lem = by-rounds _ _ _ _ computed.both_rails refl;
  first_vectors_only_lem = by-rounds _ _ _ _ computed.first_vectors refl;
  last_vector_only_lem = by-rounds _ _ _ _ computed.last_vector refl;
  outputs_only_lem = by-rounds _ _ _ _ computed.outputs refl;
  under_every_setting_lem = by-rounds _ _ _ _ computed.every_setting refl;
  skips_x_lem = by-rounds _ _ _ _ computed.without_x refl;
}
