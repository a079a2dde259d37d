-- 02, "How many rounds joining takes" (specs/Rounds): the rounds of a call that graded are its circuit's, and so the greatest distance; they
-- hang on types, wiring and vectors only. By computing: filling an X lowers them.
use Prim.Native.Nat.{ℕ, zero, suc, ◌-◌, ◌≤◌, ◌<◌}
use Prim.Native.String.{String}
use mathlib.Core.Path.{◌≡◌, refl, sym, ap, subst, ◌∙◌}
use mathlib.Core.Bool.{true}
use mathlib.Core.Logic.{◌⊎◌, inl, inr}
use mathlib.Core.List.{List, [], ◌∷◌, ◌++◌, map}
use native.Mathlib.Omega.{arith}
use lib.Dec.{T}
use lib.ListN.{length, get_or, replicate, length-map, length-append, get_or-append, get_or-map}
use Rattle.words.specs.Bits.{greatest_to}
use Rattle.words.proofs.Greatest.{greatest_cong}
use Rattle.switch.specs.Conduction.{Value, at0, at_x, Link}
use Rattle.switch.specs.Modules.{ModuleType}
use Rattle.switch.specs.Distances.{DistanceFrom, GreatestIs}
use Rattle.switch.specs.Deciding.{output_value}
use Rattle.switch.specs.Depth.{deepest}
use Rattle.switch.specs.Promises.{four_rounds}
use Rattle.switch.specs.Records.{type_of}
use Rattle.switch.specs.Statements.{Accepted, DistanceUnder}
use Rattle.switch.specs.declared.Rails.{Rails}
use Rattle.switch.proofs.DepthBounds.{rounds_are_distances, at_most_below_highest}
use Rattle.circuit.specs.Circuit.{Circuit, Instance, Reference, no_faults, type_of_instance}
use Rattle.circuit.specs.Reading.{accepted, reading_of}
use Rattle.circuit.specs.Laws.{CircuitGood}
use Rattle.circuit.proofs.CircuitLaws.{accepted-is-good}
use Rattle.grading.specs.Buffers.{Buffers, buffers_of}
use Rattle.grading.specs.Values.{label_values, outputs_after, outputs_of}
use Rattle.grading.specs.Rows.{no_instance}
use Rattle.grading.specs.Rounds.{type_at, values_at, links_at, DistanceIn, instance_rounds, rounds_of}
use Rattle.grading.specs.Promise.{is_graded}
use Rattle.grading.proofs.ValueLaws.{type_good, type-accepted}
use Rattle.grading.proofs.RoundLaws.{rounds_tell, greatest_here, rounds_cong}
use Rattle.demands.specs.Calls.{Call, GradedAs}
use Rattle.demands.specs.Two.{AlikeButVectors}
use Rattle.demands.specs.Three.{given, Refined}
use Rattle.demands.specs.Files.{one_under, detour_fields}
use Rattle.demands.specs.Graders.{called, rightly}
use Rattle.demands.specs.Rounds.{rounds_given, RoundsAreTheGreatestDistance, StepsCountTheRounds, JoiningCountsDistances, RoundsAreFew}
use Rattle.demands.specs.Rounds.{wiring, RoundsAskForNoFaults, MoreVectorsNoFewerRounds, FillingMayLowerRounds}
use Rattle.demands.proofs.Gave.{gave, rounds_counted, rounds_given_lem}
use Rattle.demands.proofs.Computing.{grader_computing, told_by, circuit_of}
use Rattle.demands.proofs.RightProof.{rightly_is_right}

-- ---- the rounds of an answer

pub rounds_are_the_greatest_distance : RoundsAreTheGreatestDistance
rounds_are_the_greatest_distance call c graded = rounds_given_lem call c (gave call c graded)

-- ---- the joining step

pub steps_count_the_rounds : StepsCountTheRounds
unfolding rounds_of
steps_count_the_rounds call c graded ones zeros planes =
    let here = gave call c graded in
    rounds_counted call c here
    ∙ greatest_cong (length c.instances) (instance_rounds c) (λ (i : ℕ). four_rounds (type_at c i) (ones i) (zeros i))
    (λ i h. sym (rounds_tell.step_counts c here.good i h (ones i) (zeros i) (planes i h)))

pub joining_counts_distances : JoiningCountsDistances
joining_counts_distances κs a r e asked learnt =
    let ones = a.1.0.now in
    let zeros = a.1.1.0.now in
    subst (GreatestIs (DistanceUnder (type_of a.0) ones zeros)) (sym (ap (λ (rails : Rails). rails.rounds) learnt))
    (rounds_are_distances (type_of a.0) asked.ranges ones zeros)

-- ---- how many they can be

-- what every number of P is at most, the greatest of them is
within : (P : ℕ → Type 0) (d b : ℕ) → GreatestIs P d → ((e : ℕ) → P e → e ≤ b) → d ≤ b
within P d b greatest each = go greatest.attained
  where
    go : (d ≡ 0) ⊎ P d → d ≤ b
    go (inl z) = omega arith
    go (inr p) = each d p

accepted-at : (c : Circuit) → CircuitGood c → (i : ℕ) → i < length c.instances → Accepted (type_at c i)
unfolding type_at
accepted-at c good i h = type-accepted (type_at c i) (type_good c good i h no_instance (get_or c.instances i no_instance) refl)

below_highest : (c : Circuit) → CircuitGood c → (d : ℕ) (at : DistanceIn c d) → d ≤ (type_at c at.instance).highest - 1
unfolding links_at
below_highest c good d at =
    at_most_below_highest (type_at c at.instance) (accepted-at c good at.instance at.is_instance)
    (values_at c at.instance at.vector) at.rail at.is_rail d at.from

-- so are the rounds of an instance, which are 0 or a distance in it
instance-below : (c : Circuit) → CircuitGood c → (i : ℕ) → i < length c.instances → instance_rounds c i ≤ (type_at c i).highest - 1
instance-below c good i h =
    within _ (instance_rounds c i) ((type_at c i).highest - 1) (greatest_here c good i h) (λ d far.
    below_highest c good d (record {
      instance = i;
      vector = far.0;
      rail = far.2.0;
      is_instance = h;
      is_vector = far.1;
      is_rail = far.2.1;
      from = far.2.2;
    }))

pub rounds_are_few : RoundsAreFew
rounds_are_few = record {
  below_highest = λ file c accepts. below_highest c (accepted-is-good true file c accepts);
  at_most = λ call c graded h high.
      let here = gave call c graded in
      within (DistanceIn c) (rounds_given call) (h - 1) (rounds_given_lem call c here) (λ d at.
      omega (arith, below_highest c here.good d at, high at.instance at.is_instance));
  step = λ call c graded i h ones zeros planes.
      let good = (gave call c graded).good in
      omega (arith, rounds_tell.step_counts c good i h ones zeros planes, instance-below c good i h);
}

-- ---- no faults are asked for

-- an instance with a wiring, without faults
unfoldable wired_by : ℕ × List Reference → Instance
wired_by wires = record { type = wires.0; choice = no_faults; references = wires.1 }

abbrev without_choices : List Instance → List Instance
without_choices is = map wired_by (map wiring is)

-- its inputs are not asked for either
abbrev without_faults : Circuit → Circuit
without_faults c = record { inputs = 0; types = c.types; bridges = []; instances = without_choices c.instances; vectors = c.vectors }

same_outputs : (types : List ModuleType) (vector outputs : List Value) (is : List Instance)
    → outputs_after types vector outputs is ≡ outputs_after types vector outputs (without_choices is)
unfolding outputs_after label_values wired_by wiring
same_outputs types vector outputs [] = refl
same_outputs types vector outputs (i ∷ is) =
    same_outputs types vector (outputs ++ (output_value (type_of_instance types i) (label_values vector outputs i) ∷ [])) is

instance-without : (is : List Instance) (i : ℕ) → get_or (without_choices is) i no_instance ≡ wired_by (wiring (get_or is i no_instance))
unfolding wired_by wiring
instance-without is i = get_or-map wired_by (map wiring is) i (wiring no_instance) ∙ ap wired_by (get_or-map wiring is i no_instance)

links-without : (c : Circuit) (i v : ℕ) → links_at c i v ≡ links_at (without_faults c) i v
unfolding links_at type_at values_at outputs_of label_values wired_by wiring
links-without c i v =
    rw (instance-without c.instances i, same_outputs c.types (get_or c.vectors v []) [] c.instances)

rounds-without : (c : Circuit) → rounds_of c ≡ rounds_of (without_faults c)
unfolding rounds_of instance_rounds
rounds-without c =
    rounds_cong (length c.instances) (length c.vectors) (links_at c) (links_at (without_faults c)) (λ i v. ap deepest (links-without c i v))
    ∙ ap (λ (n : ℕ). greatest_to n (instance_rounds (without_faults c))) (sym several)
  where
    several : length (without_choices c.instances) ≡ length c.instances
    several = length-map (map wiring c.instances) wired_by ∙ length-map c.instances wiring

pub rounds_ask_for_no_faults : RoundsAskForNoFaults
rounds_ask_for_no_faults one other c d graded graded' alike =
    rounds_counted one c (gave one c graded) ∙ rounds-without c ∙ ap rounds_of same ∙ sym (rounds-without d)
    ∙ sym (rounds_counted other d (gave other d graded'))
  where
    same : without_faults c ≡ without_faults d
    same = rw (alike.types, alike.wired, alike.vectors)

-- ---- more vectors

module _ (c d : Circuit) (alike : AlikeButVectors c d) (more : List (List Value)) (longer : d.vectors ≡ c.vectors ++ more) where
  same_links : (i v : ℕ) → v < length c.vectors → links_at c i v ≡ links_at d i v
  unfolding links_at type_at values_at
  same_links i v h = rw (← alike.types, ← alike.instances, longer, get_or-append c.vectors more [] v h)

  -- a distance in the first circuit is one in the second
  distance_stays : (e : ℕ) → DistanceIn c e → DistanceIn d e
  distance_stays e at = record {
    instance = at.instance;
    vector = at.vector;
    rail = at.rail;
    is_instance = omega (arith, at.is_instance, ap length alike.instances);
    is_vector = omega (arith, at.is_vector, ap length longer, length-append c.vectors more);
    is_rail = at.is_rail;
    from = subst (λ (ws : List Link). DistanceFrom ws at.rail e) (same_links at.instance at.vector at.is_vector) at.from;
  }

pub more_vectors_no_fewer_rounds : MoreVectorsNoFewerRounds
more_vectors_no_fewer_rounds one other c d graded graded' alike more longer =
    within (DistanceIn c) (rounds_given one) (rounds_given other) (rounds_are_the_greatest_distance one c graded)
    (λ e at. (rounds_are_the_greatest_distance other d graded').most e (distance_stays c d alike more longer e at))

-- ---- an X filled

abbrev detour_under : String → List ℕ
detour_under vector = one_under 2 detour_fields (vector ∷ [])

-- buffers that have room for its 20 faults
abbrev room : Buffers
room = buffers_of (replicate 80 0) (replicate 20 0)

-- with an X the output is two edges from supply; filled, one
abbrev with_x : Call
with_x = called rightly (detour_under "X0") room

abbrev filled : Call
filled = called rightly (detour_under "00") room

abbrev circuit_x : Circuit
circuit_x = circuit_of (detour_under "X0")

abbrev circuit_filled : Circuit
circuit_filled = circuit_of (detour_under "00")

record Computed : Type 0 where
  accepts : reading_of with_x.file ≡ accepted circuit_x
  accepts' : reading_of filled.file ≡ accepted circuit_filled
  graded : T (is_graded with_x.answer)
  graded' : T (is_graded filled.answer)
  alike : AlikeButVectors circuit_x circuit_filled
  vectors : circuit_x.vectors ≡ (at_x ∷ at0 ∷ []) ∷ []
  vectors' : circuit_filled.vectors ≡ (at0 ∷ at0 ∷ []) ∷ []
  rounds : rounds_given with_x ≡ 2
  rounds' : rounds_given filled ≡ 1

computed : Computed
unfolding grader_computing told_by
computed = record {
  accepts = refl;
  accepts' = refl;
  graded = tt;
  graded' = tt;
  alike = record { inputs = refl; types = refl; bridges = refl; instances = refl };
  vectors = refl;
  vectors' = refl;
  rounds = refl;
  rounds' = refl;
}

fills : Refined ((at_x ∷ at0 ∷ []) ∷ []) ((at0 ∷ at0 ∷ []) ∷ [])
unfolding given
fills = record { no_fewer = omega arith; agree = agree }
  where
    agree : (v i : ℕ) → v < 1
        → (given ((at_x ∷ at0 ∷ []) ∷ []) v i ≡ at_x) ⊎ (given ((at0 ∷ at0 ∷ []) ∷ []) v i ≡ given ((at_x ∷ at0 ∷ []) ∷ []) v i)
    agree (suc v) i h = absurd (omega arith)
    agree zero zero h = inl refl
    agree zero (suc zero) h = inr refl
    agree zero (suc (suc i)) h = inl refl

pub filling_may_lower_rounds : FillingMayLowerRounds
filling_may_lower_rounds keeps =
    let whole : GradedAs with_x circuit_x = record { kept = rightly_is_right _ _; accepts = computed.accepts; graded = computed.graded } in
    let whole' : GradedAs filled circuit_filled = record { kept = rightly_is_right _ _; accepts = computed.accepts'; graded = computed.graded' } in
    let refined : Refined circuit_x.vectors circuit_filled.vectors = rw (computed.vectors, computed.vectors') fills in
    omega (
      arith,
      keeps with_x filled circuit_x circuit_filled whole whole' computed.alike refined,
      computed.rounds,
      computed.rounds',
    )
