-- Behind the head of an accepted file any good vectors are accepted: its fields pass the tests that they passed, and so does each vector.
use Prim.Native.Nat.{ℕ, suc, ◌+◌, ◌≤◌, ◌<◌}
use mathlib.Core.Path.{◌≡◌, refl, sym, ap, subst, ◌∙◌}
use mathlib.Core.Bool.{true, false, cond, and-true}
use mathlib.Core.List.{List, [], ◌∷◌, ◌++◌, map}
use native.Mathlib.Omega.{arith}
use borrow.Author.Tests.{le-ltb, lt-leb, eq-eqb, ne_eqb, not-false}
use lib.Dec.{T}
use lib.Ieee.Bits.{is_true}
use lib.ListN.{length, get_or, length-append, length-map}
use Rattle.switch.specs.Conduction.{between}
use Rattle.switch.specs.Modules.{all_of}
use Rattle.circuit.specs.Limits.{most_bytes, most_vectors}
use Rattle.circuit.specs.Fields.{cut_from}
use Rattle.circuit.specs.Circuit.{Circuit}
use Rattle.circuit.specs.Order.{vector_tag, tag_of, is_kind, is_edge, Previous, reached, at_start, may_follow}
use Rattle.circuit.specs.Known.{Known, start, vector_in, taken, known_after}
use Rattle.circuit.specs.Table.{passes, first_of, unjudged, not_complementary, is_empty, is_letter, vector_tests, body_tests, field_tests, end_tests}
use Rattle.circuit.specs.Reading.{accepted, unless, read_from, reading_with}
use Rattle.switch.proofs.Channels.{in_between}
use Rattle.circuit.proofs.CircuitLaws.{accepted-is-whole}
use Rattle.circuit.proofs.Tested.{length_snoc}
use Rattle.circuit.proofs.Verdicts.{first_passes}
use Rattle.demands.specs.Calls.{Accepts}
use Rattle.demands.specs.AlikeFiles.{TagAndBody, Split, GoodBodies}
use Rattle.demands.specs.SplitFiles.{OtherVectorsAreAccepted}
use Rattle.demands.proofs.WholeFields.{field_at, cut_of, cut-whole, after-verdict, read_whole, read-from-start}
use Rattle.demands.proofs.AlikeFilesProof.{vector_field, whole-file, vectors-add, split-tells}
use Rattle.demands.proofs.FileSplits.{passed-verdict}

-- ---- the head

unfoldable pub known_behind : Known → ℕ → List TagAndBody → Known
known_behind known at [] = known
known_behind known at (f ∷ fs) = known_behind (known_after known (field_at at f)) (at + 3 + length f.body) fs

unfoldable pub place_behind : ℕ → List TagAndBody → ℕ
place_behind at [] = at
place_behind at (f ∷ fs) = place_behind (at + 3 + length f.body) fs

-- fields that were accepted before some others pass before any others
head-passes : (size : ℕ) (known : Known) (at : ℕ) (head gs : List TagAndBody) (c : Circuit)
    → read_from true size known (cut_of at (head ++ gs)) ≡ accepted c → (size' : ℕ) (hs : List TagAndBody)
    → read_from true size' known (cut_of at (head ++ hs)) ≡ read_from true size' (known_behind known at head) (cut_of (place_behind at head) hs)
unfolding read_from cut_of known_behind place_behind unless
head-passes size known at [] gs c e size' hs = refl
head-passes size known at (f ∷ fs) gs c e size' hs =
    rw (passed-verdict (first_of (field_tests known (field_at at f))) _ c e)
    (head-passes size (known_after known (field_at at f)) (at + 3 + length f.body) fs gs c
    (after-verdict (first_of (field_tests known (field_at at f))) _ c e) size' hs)

-- ---- vectors

-- before the first field no vector may stand
not-at-start : (previous : Previous) → may_follow previous vector_tag ≡ true → at_start previous ≡ false
unfolding may_follow
not-at-start previous e =
    let low = (in_between 1 5 (reached previous) (subst T (sym e) tt)).0 in ne_eqb (reached previous) 0 (omega arith)

-- what is known where a vector of P primary inputs may stand next
record Ready (P : ℕ) (known : Known) : Type 0 where
  in_place : may_follow known.previous vector_tag ≡ true
  judged : cond (unjudged known.previous) (not_complementary known.circuit.types) false ≡ false
  inputs : known.circuit.inputs ≡ P
  instance : is_empty known.circuit.instances ≡ false

some_is : {A : Type 0} (as' : List A) → 1 ≤ length as' → is_empty as' ≡ false
unfolding is_empty
some_is [] h = absurd (omega arith)
some_is (a ∷ as') h = refl

module _ (P : ℕ) (known : Known) (ready : Ready P known) (at : ℕ) (body : List ℕ) where
  vector_passes : length body ≡ P → T (all_of is_letter body) → length known.circuit.vectors < most_vectors
      → first_of (field_tests known (field_at at (vector_field body))) ≡ passes
  unfolding first_of field_tests tag_of is_kind is_edge body_tests vector_tests
  vector_passes long letters few =
      rw (
        ready.in_place,
        and-true (unjudged known.previous),
        ready.judged,
        ready.inputs,
        eq-eqb (length body) P long,
        lt-leb most_vectors (length known.circuit.vectors) few,
        is_true (all_of is_letter body) letters,
      )

  ready_again : Ready P (known_after known (field_at at (vector_field body)))
  unfolding known_after taken tag_of unjudged may_follow between
  ready_again = record { in_place = refl; judged = refl; inputs = ready.inputs; instance = ready.instance }

vectors_read : (size P : ℕ) (bodies : List (List ℕ)) (known : Known) (at : ℕ) → Ready P known
    → ((v : ℕ) → v < length bodies → (length (get_or bodies v []) ≡ P) × T (all_of is_letter (get_or bodies v [])))
    → length known.circuit.vectors + length bodies ≤ most_vectors → 1 ≤ length known.circuit.vectors + length bodies
    → (d : Circuit) × (read_from true size known (cut_of at (map vector_field bodies)) ≡ accepted d)
unfolding read_from cut_of unless end_tests first_of known_after taken tag_of
vectors_read size P [] known at ready each few some =
    (known.circuit, rw (ready.judged, not-at-start known.previous ready.in_place, ready.instance, some_is known.circuit.vectors (omega arith)))
vectors_read size P (body ∷ bodies) known at ready each few some =
    let first = each 0 (omega arith) in
    let one_more_lem = length_snoc known.circuit.vectors (vector_in body) in
    let later = vectors_read size P bodies (known_after known (field_at at (vector_field body))) (at + 3 + length body)
    (ready_again P known ready at body) (λ v h. each (suc v) (omega arith)) (omega arith) (omega arith) in
    (later.0, rw (vector_passes P known ready at body first.0 first.1 (omega arith)) later.1)

-- ---- the file

-- where a vector was accepted, with what stood behind it
ready-there : (size : ℕ) (known : Known) (at : ℕ) (bodies : List (List ℕ)) (c : Circuit)
    → read_from true size known (cut_of at (map vector_field bodies)) ≡ accepted c → 1 ≤ length bodies → 1 ≤ length c.instances
    → Ready c.inputs known
unfolding read_from cut_of field_tests tag_of is_kind is_edge
ready-there size known at [] c e some instances = absurd (omega arith)
ready-there size known at (body ∷ bodies) c e some instances =
    let three = first_passes _ _ (passed-verdict (first_of (field_tests known (field_at at (vector_field body)))) _ c e) in
    let four = first_passes _ _ three.1 in
    let nine = first_passes _ _ four.1 in
    let is = sym (vectors-add known.circuit (body ∷ bodies)) ∙ read_whole size known at (map vector_field (body ∷ bodies)) c e in
    record {
      in_place = not-false (may_follow known.previous vector_tag) four.0;
      judged = rw and-true at nine.0;
      inputs = ap (λ (x : Circuit). x.inputs) is;
      instance = rw (ap (λ (x : Circuit). x.instances) is) (some_is c.instances instances);
    }

split-cut : (file : List ℕ) (head : List TagAndBody) (bodies : List (List ℕ)) → Split file head bodies
    → cut_from file 0 ≡ cut_of 0 (head ++ map vector_field bodies)
split-cut file head bodies split =
    ap (λ (bytes : List ℕ). cut_from bytes 0) (split.is ∙ whole-file head bodies) ∙ cut-whole [] (head ++ map vector_field bodies)

-- what an accepted file tells of the place behind its head
module _ (file : List ℕ) (head : List TagAndBody) (bodies : List (List ℕ)) (split : Split file head bodies)
    (c : Circuit) (accepts : Accepts file c) where
  abbrev pub known : Known
  known = known_behind start 0 head

  abbrev pub place : ℕ
  place = place_behind 0 head

  read : read_from true (length file) start (cut_of 0 (head ++ map vector_field bodies)) ≡ accepted c
  read = ap (read_from true (length file) start) (sym (split-cut file head bodies split)) ∙ read-from-start file c accepts

  passes_on : (size : ℕ) (hs : List TagAndBody) → read_from true size start (cut_of 0 (head ++ hs)) ≡ read_from true size known (cut_of place hs)
  passes_on = head-passes (length file) start 0 head (map vector_field bodies) c read

  pub vectors_accepted : read_from true (length file) known (cut_of place (map vector_field bodies)) ≡ accepted c
  vectors_accepted = sym (passes_on (length file) (map vector_field bodies)) ∙ read

  pub as_many : length c.vectors ≡ length bodies
  as_many = omega (arith, ap (λ (x : Circuit). length x.vectors) (split-tells file head bodies split c accepts), length-map bodies vector_in)

  no_vector_yet : length known.circuit.vectors ≡ 0
  no_vector_yet =
      let is = sym (vectors-add known.circuit bodies) ∙ read_whole (length file) known place (map vector_field bodies) c vectors_accepted in
      omega (
        arith,
        as_many,
        ap (λ (x : Circuit). length x.vectors) is,
        length-append known.circuit.vectors (map vector_in bodies),
        length-map bodies vector_in,
      )

  ready : Ready c.inputs known
  ready =
      let whole = accepted-is-whole true file c accepts in
      ready-there (length file) known place bodies c vectors_accepted (omega (arith, as_many, whole.some_vector refl)) whole.some_instance

  pub accepts_others : (other : List ℕ) (other_bodies : List (List ℕ)) → Split other head other_bodies
      → GoodBodies c.inputs other_bodies → length other ≤ most_bytes → (d : Circuit) × Accepts other d
  unfolding reading_with
  accepts_others other other_bodies split' good short =
      let some = good.some in
      let few = good.few in
      let later = vectors_read (length other) c.inputs other_bodies known place ready (λ v h. (good.long v h, good.letters v h))
      (omega (arith, no_vector_yet)) (omega (arith, no_vector_yet)) in (
        later.0,
        rw (le-ltb most_bytes (length other) short, split-cut other head other_bodies split')
            (passes_on (length other) (map vector_field other_bodies) ∙ later.1),
      )

pub other_vectors_are_accepted : OtherVectorsAreAccepted
other_vectors_are_accepted one other bodies other_bodies files c accepts =
    accepts_others one files.head bodies files.one_split c accepts other other_bodies files.other_split
