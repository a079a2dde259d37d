-- What a field that has passed its tests gives: a type, an edge, a bridge, an instance or a vector of which specs/Laws says that it is sound or good.
-- And what the tests of a field can refuse with: a number of the table, and the field's place.
use Prim.Native.Nat.{ℕ, zero, suc, ◌+◌, ◌-◌, ◌*◌, ◌≤◌, ◌<◌}
use mathlib.Core.Path.{◌≡◌, refl, sym, subst, ◌∙◌}
use mathlib.Core.Bool.{Bool, true, false, cond, ◌&&◌}
use mathlib.Core.List.{List, [], ◌∷◌, ◌++◌}
use native.Mathlib.Nat.{not-suc-le-zero, le_of_suc-le-suc}
use native.Mathlib.Decide.{dec_lt}
use native.Mathlib.Omega.{arith}
use borrow.Author.Tests.{ltb-true, ltb-false, leb-false}
use lib.Dec.{T, eqb, leb, ltb, leb→le, le→leb, eqb→eq}
use lib.ListN.{length, get_or, length-append, length-map, get_or-append}
use lib.Seq.{get_or-append_seam}
use Rattle.switch.specs.Conduction.{EdgeTag, by_position, stated, between}
use Rattle.switch.specs.Modules.{ModuleType, all_of, type_in_range, in_range}
use Rattle.switch.proofs.Paths.{both}
use Rattle.switch.proofs.Deciding.{and_both}
use Rattle.circuit.specs.Limits.{most_types, most_bridges, most_instances, most_vectors, most_faults}
use Rattle.circuit.specs.Fields.{two_bytes}
use Rattle.circuit.specs.Circuit.{Circuit, Instance, Listed, type_of_instance, chosen_size, fault_count}
use Rattle.circuit.specs.Numbers.{plus, minus, signed, choice_of, choice_in_range, reference_good}
use Rattle.circuit.specs.Known.{type_in, edges_in, listed_in, instance_in, letter_of, vector_in, with_edges}
use Rattle.circuit.specs.Table.{Test, Verdict, passes, refused_at, first_of, is_empty, listed_good, bridge_in_range, inputs_tests, type_tests, edge_tests, edge_tests_of, bridge_tests, instance_tests, instance_tests_of, vector_tests}
use Rattle.circuit.specs.Laws.{Each, ends_good, TypeSound, choice_good, InstanceGood, RefusalGood}
use Rattle.switch.proofs.Channels.{in_between}
use Rattle.circuit.proofs.TypeLaws.{accepts, all_append, EdgesPass, edges-pass, with_edges_ranges}
use Rattle.circuit.proofs.Verdicts.{first_passes}

-- ---- tests and lists

pub holds : (b : Bool) → b ≡ true → T b
holds b e = subst T (sym e) tt

pub length_snoc : {A : Type 0} (as' : List A) (a : A) → length (as' ++ (a ∷ [])) ≡ suc (length as')
length_snoc as' a = omega (arith, length-append as' (a ∷ []))

pub each_none : {A : Type 0} (Holds : ℕ → A → Type 0) → Each Holds []
each_none Holds i none h = absurd (not-suc-le-zero h)

pub each_snoc : {A : Type 0} (Holds : ℕ → A → Type 0) (as' : List A) (a : A) → Each Holds as' → Holds (length as') a → Each Holds (as' ++ (a ∷ []))
each_snoc {A} Holds as' a each last i none h = go (dec_lt i (length as'))
  where
    go : Dec (i < length as') → Holds i (get_or (as' ++ (a ∷ [])) i none)
    go (yes q) = rw (get_or-append as' (a ∷ []) none i q) (each i none q)
    go (no q) =
        let e : i ≡ length as' = omega (arith, length_snoc as' a) in
        rw (e, get_or-append_seam as' a [] none) last

pub get_or-any : {A : Type 0} (as' : List A) (i : ℕ) (d e : A) → i < length as' → get_or as' i d ≡ get_or as' i e
get_or-any [] i d e h = absurd (not-suc-le-zero h)
get_or-any (a ∷ as') zero d e h = refl
get_or-any (a ∷ as') (suc i) d e h = get_or-any as' i d e (le_of_suc-le-suc h)

pub some-length : {A : Type 0} (as' : List A) → is_empty as' ≡ false → 1 ≤ length as'
unfolding is_empty
some-length [] e = let z : ◌≡◌ {A = ℕ} 0 1 = cc in omega arith
some-length (a ∷ as') e = omega arith

pub no_length : {A : Type 0} (as' : List A) → is_empty as' ≡ true → length as' ≡ 0
unfolding is_empty
no_length [] e = refl
no_length (a ∷ as') e = cc

-- ---- what tests can refuse with

pub never-passes : {number place : ℕ} → refused_at number place ≡ passes → ⊥
never-passes e = let z : ◌≡◌ {A = ℕ} 0 1 = cc in omega arith

abbrev pub VerdictGood : ℕ → Verdict → Type 0
VerdictGood size passes = Unit {0}
VerdictGood size (refused_at number place) = RefusalGood size number place

abbrev pub TestsGood : ℕ → List Test → Type 0
TestsGood size [] = Unit {0}
TestsGood size (t ∷ ts) = RefusalGood size t.number t.place × TestsGood size ts

pub first_good : (size : ℕ) (ts : List Test) → TestsGood size ts → VerdictGood size (first_of ts)
unfolding first_of
first_good size [] g = tt
first_good size (t ∷ ts) g = go t.refuses (first_good size ts g.1)
  where
    go : (b : Bool) → VerdictGood size (first_of ts) → VerdictGood size (cond b (refused_at t.number t.place) (first_of ts))
    go true later = g.0
    go false later = later

module _ (size at : ℕ) (inside : at ≤ size) (body : List ℕ) where
  pub inputs_refuse : TestsGood size (inputs_tests at body)
  unfolding inputs_tests
  inputs_refuse = omega arith

  pub types_refuse : (count : ℕ) → TestsGood size (type_tests count at body)
  unfolding type_tests
  types_refuse count = omega arith

  pub edges_refuse : (tag : EdgeTag) (t : ModuleType) → TestsGood size (edge_tests tag t at body)
  unfolding edge_tests edge_tests_of
  edges_refuse by_position t = omega arith
  edges_refuse stated t = omega arith

  pub bridges_refuse : (count : ℕ) → TestsGood size (bridge_tests count at body)
  unfolding bridge_tests
  bridges_refuse count = omega arith

  pub instances_refuse : (c : Circuit) → TestsGood size (instance_tests c at body)
  unfolding instance_tests instance_tests_of
  instances_refuse c = omega arith

  pub vectors_refuse : (P count : ℕ) → TestsGood size (vector_tests P count at body)
  unfolding vector_tests
  vectors_refuse P count = omega arith

-- ---- what a field that was not refused gives

pub inputs-pass : (at : ℕ) (body : List ℕ) → first_of (inputs_tests at body) ≡ passes → (1 ≤ two_bytes body 0) × (two_bytes body 0 ≤ 64)
unfolding inputs_tests
inputs-pass at body e =
    let five = first_passes _ _ e in
    let seven = first_passes _ _ five.1 in
    in_between 1 64 (two_bytes body 0) (accepts (between 1 64 (two_bytes body 0)) seven.0)

pub type-pass : (count at : ℕ) (body : List ℕ) → first_of (type_tests count at body) ≡ passes → (count < most_types) × TypeSound (type_in body)
unfolding type_tests type_in in_range all_of
type-pass count at body e =
    let five = first_passes _ _ e in
    let six = first_passes _ _ five.1 in
    let seven = first_passes _ _ six.1 in
    let ranges = type_in_range (get_or body 0 0) (get_or body 1 0) (get_or body 2 0) in
    (leb-false most_types count six.0, record { ranges = and_both ranges true (accepts ranges seven.0) tt; few = omega arith; ends = tt })

pub edges-sound : (tag : EdgeTag) (t : ModuleType) (at : ℕ) (body : List ℕ) → first_of (edge_tests tag t at body) ≡ passes → TypeSound t
    → TypeSound (with_edges t (edges_in tag t.output body))
unfolding with_edges
edges-sound tag t at body e sound =
    let p : EdgesPass tag t body = edges-pass tag t at body e in
    let es = edges_in tag t.output body in
    record {
      ranges = with_edges_ranges t es sound.ranges p.ranges;
      few = omega (arith, length-append t.edges es, p.few);
      ends = all_append (ends_good t.highest t.output) t.edges es sound.ends p.ends;
    }

pub bridge-pass : (count at : ℕ) (body : List ℕ) → first_of (bridge_tests count at body) ≡ passes
    → (count < most_bridges) × ((get_or body 1 0 ≤ 1) × T (listed_good (listed_in body)))
unfolding bridge_tests bridge_in_range listed_in
bridge-pass count at body e =
    let five = first_passes _ _ e in
    let six = first_passes _ _ five.1 in
    let seven = first_passes _ _ six.1 in
    let kinds = leb (get_or body 1 0) 1 in
    let good = listed_good (listed_in body) in
    let parts = both kinds good (accepts (kinds && good) seven.0) in
    (leb-false most_bridges count six.0, (leb→le (get_or body 1 0) 1 parts.0, parts.1))

choice-good : (byte : ℕ) → T (choice_good (choice_of (signed 128 byte)))
unfolding choice_good choice_of signed between
choice-good byte = go (ltb byte 128) refl
  where
    listed : (n : ℕ) → n < 128 → T (choice_good (choice_of (plus n)))
    listed zero h = tt
    listed (suc n) h = and_both (leb 1 (suc n)) (leb (suc n) 127) (le→leb 1 (suc n) (omega arith)) (le→leb (suc n) 127 (omega arith))

    go : (b : Bool) → ltb byte 128 ≡ b → T (choice_good (choice_of (cond b (plus byte) (minus (2 * 128 - byte)))))
    go true e = listed byte (ltb-true byte 128 e)
    go false e = tt

pub faults_snoc : (types : List ModuleType) (bridges : List Listed) (is : List Instance) (i : Instance)
    → fault_count types bridges (is ++ (i ∷ [])) ≡ fault_count types bridges is + chosen_size (type_of_instance types i) bridges i.choice
unfolding fault_count
faults_snoc types bridges [] i = omega arith
faults_snoc types bridges (j ∷ is) i = omega (arith, faults_snoc types bridges is i)

module _ (c : Circuit) where
  pub instance_pass : (at : ℕ) (body : List ℕ) → first_of (instance_tests c at body) ≡ passes
      → (length c.instances < most_instances) × InstanceGood c.inputs c.types c.bridges (length c.instances) (instance_in body)
      × (fault_count c.types c.bridges c.instances + chosen_size (type_of_instance c.types (instance_in body)) c.bridges (instance_in body).choice ≤ most_faults)
  unfolding instance_tests instance_tests_of instance_in
  instance_pass at body e =
      let i = instance_in body in
      let t = type_of_instance c.types i in
      let count = length c.instances in
      let faults = fault_count c.types c.bridges c.instances in
      let five = first_passes _ _ e in
      let six = first_passes _ _ five.1 in
      let seven = first_passes _ _ six.1 in
      let ten = first_passes _ _ seven.1 in
      let eleven = first_passes _ _ ten.1 in
      let twelve = first_passes _ _ eleven.1 in
      let thirteen = first_passes _ _ twelve.1 in
      let typed = between 1 (length c.types) i.type in
      let chosen = choice_in_range (signed 128 (get_or body 1 0)) in
      let counted = eqb (length i.references) t.labels in
      let tied = all_of (reference_good c.inputs count) i.references in
      let refs = both counted tied (accepts (counted && tied) ten.0) in (
        leb-false most_instances count six.0,
        record {
          type = (both typed chosen (accepts (typed && chosen) seven.0)).0;
          choice = choice-good (get_or body 1 0);
          count = eqb→eq (length i.references) t.labels refs.0;
          references = refs.1;
          suited = eleven.0;
          filled = twelve.0;
        },
        ltb-false most_faults (faults + chosen_size t c.bridges i.choice) thirteen.0,
      )

pub vector-pass : (P count at : ℕ) (body : List ℕ) → first_of (vector_tests P count at body) ≡ passes → (count < most_vectors) × (length (vector_in body) ≡ P)
unfolding vector_tests vector_in
vector-pass P count at body e =
    let five = first_passes _ _ e in
    let six = first_passes _ _ five.1 in
    (leb-false most_vectors count six.0, length-map body letter_of ∙ eqb→eq (length body) P (accepts (eqb (length body) P) five.0))
