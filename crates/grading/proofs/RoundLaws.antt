-- The rounds of a good circuit are its greatest distance. Past the last vector no vector stands: there every input is X, so nothing is on and
-- every output is X too. So the rounds over whole words of vectors are those over the vectors, and the joining step counts them. Assumes nothing.
use Prim.Native.Nat.{ℕ, zero, suc, ◌+◌, ◌*◌, ◌<◌, ◌≤◌}
use mathlib.Core.Path.{◌≡◌, refl, ap, ◌∙◌}
use mathlib.Core.Bool.{false}
use mathlib.Core.List.{List, [], ◌∷◌, ◌++◌}
use native.Mathlib.Omega.{arith}
use borrow.Author.Tests.{ne_eqb}
use lib.ListN.{length, get_or, get_or-eq_default}
use Rattle.words.specs.Bits.{greatest_to}
use Rattle.words.specs.Each.{word_of_each}
use Rattle.words.proofs.Greatest.{greatest_cong, greatest-by-words}
use Rattle.switch.specs.Conduction.{Value, at_x, Channel, channel_p, channel_n, Edge, transistor_on, Switching, by_values, edge_on, Link, links, ground, supply}
use Rattle.switch.specs.Modules.{ModuleType, links_of}
use Rattle.switch.specs.Deciding.{part_of_node, renamings, joins, level_in, output_value}
use Rattle.switch.specs.Distances.{IsRail, DistanceFrom, GreatestIs}
use Rattle.switch.specs.Depth.{deepest}
use Rattle.switch.specs.Promises.{rounds_under, four_rounds}
use Rattle.switch.proofs.Outputs.{planes_switch}
use Rattle.switch.proofs.Ranges.{TypeRanges}
use Rattle.switch.proofs.Depths.{deepest-none, deepest-greatest}
use Rattle.switch.proofs.DepthBounds.{links-below-all, greatest_of, greatest-alike}
use Rattle.circuit.specs.Circuit.{Circuit, Reference, primary, output_of, Instance, numbered, type_of_instance}
use Rattle.circuit.specs.Laws.{TypeSound, CircuitGood}
use Rattle.grading.specs.Values.{value_at, label_values, outputs_after, outputs_of}
use Rattle.grading.specs.Rows.{no_instance}
use Rattle.grading.specs.Rounds.{type_at, values_at, links_at, DistanceIn, instance_rounds, rounds_of, PlanesAt}
use Rattle.grading.specs.Statements.{RoundsTell}
use Rattle.grading.proofs.ValueLaws.{type-ranges, type_good, label_value}

-- ---- where no vector stands

-- every label is X, and every output
abbrev AllX : (ℕ → Value) → Type 0
AllX values = (l : ℕ) → values l ≡ at_x

abbrev NoneKnown : List Value → Type 0
NoneKnown outputs = AllX (λ (j : ℕ). get_or outputs j at_x)

off : (ch : Channel) → transistor_on ch at_x ≡ false
unfolding transistor_on
off channel_p = refl
off channel_n = refl

no_links : (values : ℕ → Value) → AllX values → (es : List Edge) → links (by_values values) es ≡ []
unfolding links edge_on
no_links values unknown [] = refl
no_links values unknown (e ∷ es) = rw (unknown e.label, off e.channel) (no_links values unknown es)

-- with nothing on, a node that is no rail is X
no_level : (o : ℕ) → 2 ≤ o → level_in [] o ≡ at_x
unfolding level_in joins renamings part_of_node
no_level o h = rw (ne_eqb o supply (λ e. omega arith), ne_eqb o ground (λ e. omega arith))

-- the labels of an instance where the outputs before it are X
module _ (outputs : List Value) (unknown : NoneKnown outputs) (inst : Instance) where
  value_x : (r : Reference) → value_at [] outputs r ≡ at_x
  unfolding value_at numbered
  value_x (primary zero) = refl
  value_x (primary (suc n)) = refl
  value_x (output_of zero) = refl
  value_x (output_of (suc j)) = unknown j

  labels_x : AllX (label_values [] outputs inst)
  labels_x l = label_value [] outputs inst l ∙ value_x (get_or inst.references l (primary 0))

one-more-X : (outputs : List Value) → NoneKnown outputs → NoneKnown (outputs ++ (at_x ∷ []))
one-more-X [] unknown zero = refl
one-more-X [] unknown (suc j) = refl
one-more-X (x ∷ xs) unknown zero = unknown zero
one-more-X (x ∷ xs) unknown (suc j) = one-more-X xs (λ k. unknown (suc k)) j

module _ (types : List ModuleType) where
  nothing : (outputs : List Value) → NoneKnown outputs → (inst : Instance)
      → links_of (type_of_instance types inst) (label_values [] outputs inst) ≡ []
  unfolding links_of
  nothing outputs unknown inst = no_links (label_values [] outputs inst) (labels_x outputs unknown inst) (type_of_instance types inst).edges

  -- outputs are nodes other than the rails
  outputs_x : (outputs : List Value) (is : List Instance) → NoneKnown outputs
      → ((k : ℕ) → k < length is → 2 ≤ (type_of_instance types (get_or is k no_instance)).output)
      → NoneKnown (outputs_after types [] outputs is)
  unfolding outputs_after
  outputs_x outputs [] unknown inner = unknown
  outputs_x outputs (i ∷ is) unknown inner =
      outputs_x (outputs ++ (output_value (type_of_instance types i) (label_values [] outputs i) ∷ [])) is
      (rw (nothing outputs unknown i, no_level (type_of_instance types i).output (inner 0 (omega arith))) (one-more-X outputs unknown))
      (λ k h. inner (suc k) (omega arith))

-- ---- a good circuit

-- d is a distance in an instance under a vector
abbrev Far : Circuit → ℕ → ℕ → ℕ → Type 0
Far c i v d = (rail : ℕ) × IsRail rail × DistanceFrom (links_at c i v) rail d

module _ (c : Circuit) (good : CircuitGood c) where
  pub sound_at : (i : ℕ) → i < length c.instances → TypeSound (type_at c i)
  unfolding type_at
  sound_at i h = (type_good c good i h no_instance (get_or c.instances i no_instance) refl).sound

  ranges_at : (i : ℕ) → i < length c.instances → TypeRanges (type_at c i).highest (type_at c i).output (type_at c i).labels
  ranges_at i h = type-ranges (type_at c i) (sound_at i h)

  module _ (i : ℕ) (here : i < length c.instances) where
    nothing_on : (v : ℕ) → length c.vectors ≤ v → links_at c i v ≡ []
    unfolding links_at type_at values_at outputs_of
    nothing_on v past =
        let unknown = outputs_x c.types [] c.instances (λ j. refl) (λ k h. (ranges_at k h).output_low) in
        rw (get_or-eq_default c.vectors [] past)
        (nothing c.types (outputs_after c.types [] [] c.instances) unknown (get_or c.instances i no_instance))

    -- over four words of vectors
    rounds_by_words : greatest_to 4 (λ (w : ℕ). greatest_to 64 (λ (v : ℕ). deepest (links_at c i (64 * w + v)))) ≡ instance_rounds c i
    unfolding instance_rounds
    rounds_by_words =
        greatest-by-words 4 (length c.vectors) (λ (v : ℕ). deepest (links_at c i v)) (omega (arith, good.few_vectors))
        (λ v past. ap deepest (nothing_on v past) ∙ deepest-none)

    -- planes that hold the labels' values switch on what these do
    pub step_counts : (ones zeros : List ℕ) → PlanesAt c i ones zeros → four_rounds (type_at c i) ones zeros ≡ instance_rounds c i
    unfolding four_rounds rounds_under links_at links_of
    step_counts ones zeros planes =
        greatest_cong 4 (λ (w : ℕ). rounds_under (type_at c i) (word_of_each 4 w 12 ones) (word_of_each 4 w 12 zeros))
        (λ (w : ℕ). greatest_to 64 (λ (v : ℕ). deepest (links_at c i (64 * w + v))))
        (λ w hw. greatest_cong 64 _ (λ (v : ℕ). deepest (links_at c i (64 * w + v))) (λ v hv.
        ap (λ (on : Switching). deepest (links on (type_at c i).edges))
        (planes_switch (word_of_each 4 w 12 ones) (word_of_each 4 w 12 zeros) v (values_at c i (64 * w + v)) (planes.hold w v hw hv))))
        ∙ rounds_by_words

    -- the greatest distance in an instance
    pub greatest_here : GreatestIs (λ (d : ℕ). (v : ℕ) × (v < length c.vectors) × Far c i v d) (instance_rounds c i)
    unfolding instance_rounds links_at links_of
    greatest_here =
        greatest_of (length c.vectors) (λ (v : ℕ). deepest (links_at c i v)) (Far c i) (λ v h.
        deepest-greatest (links_at c i v) (links-below-all (type_at c i) (sound_at i here).ranges (by_values (values_at c i v))))

  greatest : GreatestIs (DistanceIn c) (rounds_of c)
  unfolding rounds_of
  greatest =
      greatest-alike _ (DistanceIn c) (rounds_of c)
      (λ d p. record {
        instance = p.0;
        vector = p.2.0;
        rail = p.2.2.0;
        is_instance = p.1;
        is_vector = p.2.1;
        is_rail = p.2.2.1;
        from = p.2.2.2;
      })
      (λ d at. (at.instance, at.is_instance, (at.vector, at.is_vector, (at.rail, at.is_rail, at.from))))
      (greatest_of (length c.instances) (instance_rounds c)
      (λ (i d : ℕ). (v : ℕ) × (v < length c.vectors) × Far c i v d)
      greatest_here)

pub rounds_tell : RoundsTell
rounds_tell = record {
  greatest = greatest;
  nothing_on = λ c good i v h past. nothing_on c good i h v past;
  step_counts = step_counts;
}

-- ---- links of other circuits

-- rounds over links by instance and vector are those over links that are as deep
pub rounds_cong : (n m : ℕ) (ws us : ℕ → ℕ → List Link) → ((i v : ℕ) → deepest (ws i v) ≡ deepest (us i v))
    → greatest_to n (λ (i : ℕ). greatest_to m (λ (v : ℕ). deepest (ws i v))) ≡ greatest_to n (λ (i : ℕ). greatest_to m (λ (v : ℕ). deepest (us i v)))
rounds_cong n m ws us same = greatest_cong n _ _ (λ i h. greatest_cong m _ _ (λ v k. same i v))
