-- What holds of every reading, field by field: a refusal has a number of the table and a place in the file, and an accepted circuit is whole. It keeps the rules,
-- as what was read of any file does (BeforeLaws).
use Prim.Native.Nat.{ℕ, zero, suc, ◌+◌, ◌-◌, ◌≤◌}
use mathlib.Core.Path.{◌≡◌, refl, sym, subst, ◌∙◌}
use mathlib.Core.Bool.{Bool, true, false, cond}
use mathlib.Core.List.{List}
use native.Mathlib.Omega.{arith}
use borrow.Author.Tests.{ltb-false, eqb-true, not-false}
use lib.Dec.{T, eqb, ltb}
use lib.ListN.{length, get_or, take, drop}
use Rattle.switch.specs.Conduction.{between}
use Rattle.switch.proofs.Channels.{in_between}
use Rattle.circuit.specs.Limits.{most_bytes}
use Rattle.circuit.specs.Fields.{Field, Cut, clean, broken, field, cut_in, cut_from, two_bytes}
use Rattle.circuit.specs.Circuit.{Circuit, Instance, numbered, no_type, type_of_instance}
use Rattle.circuit.specs.Order.{Tag, inputs_tag, type_tag, edge_tag, bridge_tag, instance_tag, vector_tag, no_tag, tag_of, is_kind, is_unknown, reached, at_start, may_follow}
use Rattle.circuit.specs.Known.{Known, start, latest, taken, type_at_after, known_after}
use Rattle.circuit.specs.Table.{Verdict, passes, refused_at, first_of, body_tests, field_tests, end_tests}
use Rattle.circuit.specs.Reading.{Reading, accepted, refusal, unless, read_from, reading_with}
use Rattle.circuit.specs.Laws.{TypeGood, CircuitGood, Whole, RefusalGood, AcceptedIsGood, AcceptedIsWhole, RefusalIsGood}
use Rattle.circuit.proofs.BeforeLaws.{before-is-good}
use Rattle.circuit.proofs.GatheredLaws.{before_is_circuit}
use Rattle.circuit.proofs.OrderLaws.{edge_no_inputs, first-place}
use Rattle.circuit.proofs.Tested.{VerdictGood, TestsGood, first_good, inputs_refuse, types_refuse, edges_refuse, bridges_refuse, instances_refuse, vectors_refuse, inputs-pass, some-length}
use Rattle.circuit.proofs.Verdicts.{first_passes}

-- ---- offsets

-- every offset of a cut is inside the file, or its end
abbrev Placed : ℕ → Cut → Type 0
Placed size clean = Unit {0}
Placed size (broken at) = at ≤ size
Placed size (field f rest) = (f.at ≤ size) × Placed size rest

cut-placed : (most : ℕ) (file : List ℕ) (at : ℕ) → at ≤ length file → Placed (length file) (cut_in most file at)
unfolding cut_in
cut-placed zero file at h = tt
cut-placed (suc most) file at h =
    go (eqb at (length file)) (ltb (length file) (at + 3)) (ltb (length file) next) refl (λ q. cut-placed most file next q)
  where
    next : ℕ
    next = at + 3 + two_bytes file (at + 1)

    go : (a b c : Bool) → ltb (length file) next ≡ c → (next ≤ length file → Placed (length file) (cut_in most file next))
        → Placed (length file) (cond a clean (cond b (broken at) (cond c (broken at)
        (field (record { at = at; tag = get_or file at 0; body = take (two_bytes file (at + 1)) (drop (at + 3) file) }) (cut_in most file next)))))
    go true b c e more = tt
    go false true c e more = h
    go false false true e more = h
    go false false false e more = (h, more (ltb-false (length file) next e))

-- ---- what the tests can refuse with

body-good : (size at : ℕ) (body : List ℕ) → at ≤ size → (tag : Tag) (c : Circuit) → TestsGood size (body_tests tag c at body)
unfolding body_tests
body-good size at body h inputs_tag c = inputs_refuse size at h body
body-good size at body h type_tag c = types_refuse size at h body (length c.types)
body-good size at body h (edge_tag e) c = edges_refuse size at h body e (latest c.types)
body-good size at body h bridge_tag c = bridges_refuse size at h body (length c.bridges)
body-good size at body h instance_tag c = instances_refuse size at h body c
body-good size at body h vector_tag c = vectors_refuse size at h body c.inputs (length c.vectors)
body-good size at body h no_tag c = tt

field-good : (size : ℕ) (known : Known) (f : Field) → known.type_at ≤ size → f.at ≤ size → TestsGood size (field_tests known f)
unfolding field_tests
field-good size known f h at = (omega arith, (omega arith, (omega arith, body-good size f.at f.body at (tag_of f.tag) known.circuit)))

end-good : (wanted : Bool) (size : ℕ) (known : Known) → known.type_at ≤ size → TestsGood size (end_tests wanted known size)
unfolding end_tests
end-good wanted size known h = omega arith

-- ---- what is known

-- the latest type stands in the file, and after the first field there is an input
record KnownGood (size : ℕ) (known : Known) : Type 0 where
  inside : known.type_at ≤ size
  input : at_start known.previous ≡ false → 1 ≤ known.circuit.inputs

type_place : (size : ℕ) (known : Known) (f : Field) → known.type_at ≤ size → f.at ≤ size → type_at_after known f ≤ size
unfolding type_at_after
type_place size known f h at = go (is_kind type_tag (tag_of f.tag))
  where
    go : (b : Bool) → cond b f.at known.type_at ≤ size
    go true = at
    go false = h

module _ (size : ℕ) (known : Known) (good : KnownGood size known) where
  -- a kind other than the first finds an input
  later : (tag : Tag) → is_kind inputs_tag tag ≡ false → is_unknown tag ≡ false → may_follow known.previous tag ≡ true → 1 ≤ known.circuit.inputs
  later tag other u m = go (at_start known.previous) refl
    where
      go : (b : Bool) → at_start known.previous ≡ b → 1 ≤ known.circuit.inputs
      go false e = good.input e
      go true e =
          let z : true ≡ false = sym m ∙ first-place known.previous tag (eqb-true (reached known.previous) 0 e) other u in
          let y : ◌≡◌ {A = ℕ} 0 1 = cc in absurd (omega arith)

  some_input : (f : Field) (tag : Tag) → is_unknown tag ≡ false → may_follow known.previous tag ≡ true
      → first_of (body_tests tag known.circuit f.at f.body) ≡ passes → 1 ≤ (taken tag known.circuit f.body).inputs
  unfolding body_tests taken is_kind
  some_input f inputs_tag u m e = (inputs-pass f.at f.body e).0
  some_input f type_tag u m e = later type_tag refl u m
  some_input f (edge_tag t) u m e = later (edge_tag t) (edge_no_inputs t) u m
  some_input f bridge_tag u m e = later bridge_tag refl u m
  some_input f instance_tag u m e = later instance_tag refl u m
  some_input f vector_tag u m e = later vector_tag refl u m
  some_input f no_tag u m e = let y : ◌≡◌ {A = ℕ} 0 1 = cc in absurd (omega arith)

  known_good : (f : Field) → f.at ≤ size → first_of (field_tests known f) ≡ passes → KnownGood size (known_after known f)
  unfolding field_tests known_after
  known_good f at e =
      let three = first_passes _ _ e in
      let four = first_passes _ _ three.1 in
      let nine = first_passes _ _ four.1 in
      let tag = tag_of f.tag in
      record {
        inside = type_place size known f good.inside at;
        input = λ begun. some_input f tag three.0 (not-false (may_follow known.previous tag) four.0) nine.1;
      }

  whole : (wanted : Bool) → first_of (end_tests wanted known size) ≡ passes → Whole wanted known.circuit
  unfolding end_tests
  whole wanted e =
      let nine = first_passes _ _ e in
      let begun = first_passes _ _ nine.1 in
      let instances = first_passes _ _ begun.1 in
      let vectors = first_passes _ _ instances.1 in
      record {
        some_input = good.input begun.0;
        some_instance = some-length known.circuit.instances instances.0;
        some_vector = λ w. some-length known.circuit.vectors (rw w at vectors.0);
      }

-- ---- readings

abbrev ReadingGood : Bool → ℕ → Reading → Type 0
ReadingGood wanted size (accepted c) = Whole wanted c
ReadingGood wanted size (refusal number place) = RefusalGood size number place

unless-good : (wanted : Bool) (size : ℕ) (v : Verdict) (r : Reading) → VerdictGood size v → (v ≡ passes → ReadingGood wanted size r) → ReadingGood wanted size (unless v r)
unfolding unless
unless-good wanted size passes r g later = later refl
unless-good wanted size (refused_at n p) r g later = g

read-good : (wanted : Bool) (size : ℕ) (known : Known) (cut : Cut) → KnownGood size known → Placed size cut → ReadingGood wanted size (read_from wanted size known cut)
unfolding read_from
read-good wanted size known clean g p =
    unless-good wanted size (first_of (end_tests wanted known size)) (accepted known.circuit)
    (first_good size (end_tests wanted known size) (end-good wanted size known g.inside)) (whole size known g wanted)
read-good wanted size known (broken at) g p = omega arith
read-good wanted size known (field f rest) g p =
    unless-good wanted size (first_of (field_tests known f)) (read_from wanted size (known_after known f) rest)
    (first_good size (field_tests known f) (field-good size known f g.inside p.0))
    (λ e. read-good wanted size (known_after known f) rest (known_good size known g f p.0 e) p.1)

start-good : (size : ℕ) → KnownGood size start
start-good size = record { inside = omega arith; input = λ e. let y : ◌≡◌ {A = ℕ} 0 1 = cc in absurd (omega arith) }

reading_good : (wanted : Bool) (file : List ℕ) → ReadingGood wanted (length file) (reading_with wanted file)
unfolding reading_with cut_from
reading_good wanted file = go (ltb most_bytes (length file))
  where
    go : (long : Bool) → ReadingGood wanted (length file) (cond long (refusal 1 0) (read_from wanted (length file) start (cut_from file 0)))
    go true = omega arith
    go false = read-good wanted (length file) start (cut_from file 0) (start-good (length file)) (cut-placed (suc (length file) - 0) file 0 (omega arith))

pub accepted-is-good : AcceptedIsGood
accepted-is-good wanted file c e = subst CircuitGood (before_is_circuit wanted file c e) (before-is-good file)

pub accepted-is-whole : AcceptedIsWhole
accepted-is-whole wanted file c e = subst (ReadingGood wanted (length file)) e (reading_good wanted file)

pub refusal-is-good : RefusalIsGood
refusal-is-good wanted file number place e = subst (ReadingGood wanted (length file)) e (reading_good wanted file)

-- ---- the type of an instance of a good circuit

pub instance-type : (c : Circuit) → CircuitGood c → (i : Instance) → T (between 1 (length c.types) i.type) → TypeGood (type_of_instance c.types i)
unfolding numbered
instance-type c good i t = go i.type (in_between 1 (length c.types) i.type t)
  where
    go : (n : ℕ) → (1 ≤ n) × (n ≤ length c.types) → TypeGood (numbered c.types n no_type)
    go zero h = absurd (omega arith)
    go (suc n) h = good.types n no_type (omega arith)
