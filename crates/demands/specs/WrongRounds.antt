-- Wrong ways to count rounds: graders that are right in all else. None of them meets what 02, "How many rounds joining takes", asks, and so
-- none meets the promise. The proofs are in proofs/WrongRoundsProof.
use Rattle.std.specs.Prelude.{ℕ, zero, suc, ◌+◌, ◌-◌, ◌^◌, min, max, Bool, true, false, cond, List, [], ◌∷◌, ◌++◌, eqb, length, get_or}
use Rattle.words.specs.Bits.{greatest_to}
use Rattle.switch.specs.Conduction.{Value, at0, at1, at_x, Link, ground, supply}
use Rattle.switch.specs.Modules.{most_nodes, any_of, links_of, setting_of}
use Rattle.switch.specs.Deciding.{joins}
use Rattle.switch.specs.Depth.{is_among, handed_over, nodes_within, least_from, depth, deepest}
use Rattle.circuit.specs.Circuit.{Circuit, faults_of}
use Rattle.grading.specs.Rows.{no_instance}
use Rattle.grading.specs.Rounds.{type_at, links_at, instance_rounds, rounds_of}
use Rattle.demands.specs.Graders.{Grader, MeetsPromise, Work, right_work, grades_by}
use Rattle.demands.specs.Breaks.{MeetsOne, MeetsRest, MeetsCells, MeetsClasses, MeetsRounds}

unfoldable pub with_rounds : (Circuit → ℕ) → Circuit → Work
with_rounds rounds c =
    let w = right_work c in
    record { words = w.words; classes = w.classes; count_of_classes = w.count_of_classes; found = w.found; rounds = rounds c }

abbrev pub counts_rounds : (Circuit → ℕ) → Grader
counts_rounds rounds = grades_by (with_rounds rounds)

-- the greatest over instances and vectors of a number that is worked out for both, by their places; or from the links that are on
unfoldable pub greatest_at : (Circuit → ℕ → ℕ → ℕ) → Circuit → ℕ
greatest_at measure c = greatest_to (length c.instances) λ (i : ℕ). greatest_to (length c.vectors) (measure c i)

unfoldable pub greatest_by : (List Link → ℕ) → Circuit → ℕ
greatest_by measure = greatest_at λ c i v. measure (links_at c i v)

-- sweeps in place, over the on edges in file order: an edge hands on at once what it was handed in the same sweep. As many sweeps as add a
-- node
unfoldable pub sweep_in_place : List ℕ → List Link → List ℕ
sweep_in_place nodes [] = nodes
sweep_in_place nodes (w ∷ ws) = sweep_in_place (nodes ++ handed_over nodes w.0 w.1 ++ handed_over nodes w.1 w.0) ws

unfoldable pub sweeps_from : ℕ → List ℕ → List Link → ℕ
sweeps_from zero nodes ws = 0
sweeps_from (suc tries) nodes ws =
    let after = sweep_in_place nodes ws in
    let later = suc (sweeps_from tries after ws) in
    cond (eqb (length after) (length nodes)) 0 later

unfoldable pub counts_sweeps : Grader
counts_sweeps = counts_rounds (greatest_by λ ws. max (sweeps_from most_nodes (supply ∷ []) ws) (sweeps_from most_nodes (ground ∷ []) ws))

-- one round too many: the one that added nothing
unfoldable pub counts_the_last_round : Grader
counts_the_last_round = counts_rounds λ c. suc (rounds_of c)

-- the first instance only; the last only
unfoldable pub first_instance_only : Grader
first_instance_only = counts_rounds λ c. instance_rounds c 0

unfoldable pub last_instance_only : Grader
last_instance_only = counts_rounds λ c. instance_rounds c (length c.instances - 1)

-- the nodes along a path in place of its edges: one more than these, and 0 where nothing but the rails is joined to a rail
unfoldable pub counts_nodes : Grader
counts_nodes = counts_rounds (greatest_by λ ws. cond (eqb (deepest ws) 0) 0 (suc (deepest ws)))

-- instances with faults only
unfoldable pub instances_with_faults : Grader
instances_with_faults = counts_rounds λ c. greatest_to (length c.instances) λ (i : ℕ).
    cond (eqb (length (faults_of c.types c.bridges (get_or c.instances i no_instance))) 0) 0 (instance_rounds c i)

-- from one rail only
unfoldable pub from_supply_only : Grader
from_supply_only = counts_rounds (greatest_by λ ws. depth ws supply)

unfoldable pub from_ground_only : Grader
from_ground_only = counts_rounds (greatest_by λ ws. depth ws ground)

-- the sum of both rails' depths in place of the greater
unfoldable pub sum_of_both_rails : Grader
sum_of_both_rails = counts_rounds (greatest_by λ ws. depth ws supply + depth ws ground)

-- the vectors of the first word only; the last vector only
unfoldable pub first_vectors_only : Grader
first_vectors_only = counts_rounds λ c.
    greatest_to (length c.instances) λ (i : ℕ). greatest_to (min 64 (length c.vectors)) λ (v : ℕ). deepest (links_at c i v)

unfoldable pub last_vector_only : Grader
last_vector_only = counts_rounds λ c. greatest_to (length c.instances) λ (i : ℕ). deepest (links_at c i (length c.vectors - 1))

-- the output's distance only
unfoldable pub output_distance : List Link → ℕ → ℕ → ℕ
output_distance ws rail m =
    let distance = least_from (λ (n : ℕ). is_among m (nodes_within ws n rail)) most_nodes 0 in cond (joins ws m rail) distance 0

unfoldable pub outputs_only : Grader
outputs_only = counts_rounds (greatest_at λ c i v.
    let o = (type_at c i).output in max (output_distance (links_at c i v) supply o) (output_distance (links_at c i v) ground o))

-- every setting of the labels in place of the vectors
unfoldable pub under_every_setting : Grader
under_every_setting = counts_rounds λ c. greatest_to (length c.instances) λ (i : ℕ).
    greatest_to (2 ^ (type_at c i).labels) λ (s : ℕ). deepest (links_of (type_at c i) (setting_of s))

-- vectors without X only
unfoldable pub is_x : Value → Bool
is_x at0 = false
is_x at1 = false
is_x at_x = true

unfoldable pub skips_x : Grader
skips_x = counts_rounds (greatest_at λ c i v. cond (any_of is_x (get_or c.vectors v [])) 0 (deepest (links_at c i v)))

pub record WrongRoundsAreWrong : Type 0 where
  -- a grader that meets the promise meets what is asked of rounds; and whatever a grader gives for rounds, it is right in all else
  pub promise_asks : (grader : Grader) → MeetsPromise grader → MeetsRounds grader
  pub one : (rounds : Circuit → ℕ) → MeetsOne (counts_rounds rounds)
  pub rest : (rounds : Circuit → ℕ) → MeetsRest (counts_rounds rounds)
  pub cells : (rounds : Circuit → ℕ) → MeetsCells (counts_rounds rounds)
  pub classes : (rounds : Circuit → ℕ) → MeetsClasses (counts_rounds rounds)
  pub counts_sweeps_lem : MeetsRounds counts_sweeps → ⊥
  pub counts_the_last_round_lem : MeetsRounds counts_the_last_round → ⊥
  pub last_instance_only_lem : MeetsRounds last_instance_only → ⊥
  pub first_instance_only_lem : MeetsRounds first_instance_only → ⊥
  pub counts_nodes_lem : MeetsRounds counts_nodes → ⊥
  pub instances_with_faults_lem : MeetsRounds instances_with_faults → ⊥
  pub from_supply_only_lem : MeetsRounds from_supply_only → ⊥
  pub from_ground_only_lem : MeetsRounds from_ground_only → ⊥
  pub sum_of_both_rails_lem : MeetsRounds sum_of_both_rails → ⊥
  pub first_vectors_only_lem : MeetsRounds first_vectors_only → ⊥
  pub last_vector_only_lem : MeetsRounds last_vector_only → ⊥
  pub outputs_only_lem : MeetsRounds outputs_only → ⊥
  pub under_every_setting_lem : MeetsRounds under_every_setting → ⊥
  pub skips_x_lem : MeetsRounds skips_x → ⊥
