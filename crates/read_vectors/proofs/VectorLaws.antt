-- The laws of vectors: letters looked at one by one, the planes of a vector set bit by bit, and what is told of the vectors that were read.
use Prim.Native.Nat.{ℕ, zero, suc, ◌+◌, ◌*◌, ◌%◌, ◌^◌, ◌<◌, ◌≤◌}
use mathlib.Core.Path.{◌≡◌, refl, sym, ap, ◌∙◌}
use mathlib.Core.Bool.{true, not, ◌&&◌, and-true}
use mathlib.Core.List.{List, [], ◌∷◌, ◌++◌}
use native.Mathlib.Nat.{pow-suc}
use native.Mathlib.Omega.{arith}
use borrow.Author.Tests.{leb-false, eqb-true, not-false}
use lib.Bits.{bit_or, or_shifted_r}
use Rattle.std.proofs.lemmas.Bool.Decides.{nat_tests}
use lib.Dec.{eqb, leb}
use lib.Pow.{shl_exact}
use lib.ListN.{length, get_or, take, replicate, length-map, get_or-map}
use lib.Seq.{take-suc}
use native.Mathlib.Numerals.{add-one}
use Rattle.words.specs.Bits.{pack}
use Rattle.words.proofs.Laws.{pack_lt, pack_cong}
use Rattle.switch.specs.Conduction.{Value, at_x}
use Rattle.switch.specs.Modules.{all_of}
use Rattle.switch.specs.Promises.{is_at0, is_at1}
use Rattle.circuit.specs.Limits.{most_vectors}
use Rattle.circuit.specs.Order.{vector_tag, is_kind}
use Rattle.circuit.specs.Known.{letter_of, vector_in}
use Rattle.circuit.specs.Table.{Test, test, passes, first_of, is_letter, vector_tests}
use Rattle.circuit.specs.Records.{unused_vector, vector_record}
use Rattle.circuit.specs.declared.Vector.{Vector as VectorRecord}
use Rattle.read_fields.specs.declared.Field.{Field as FieldRecord}
use Rattle.std.specs.Prelude.{Ok, Err}
use Rattle.circuit.specs.declared.refusal.Refusal.{Refusal}
use Rattle.read_fields.specs.Gathers.{JudgedAs, GatheredAs}
use Rattle.read_fields.specs.declared.gather.Gathered.{Gathered}
use Rattle.read_fields.proofs.Stages.{stage_told}
use Rattle.read_vectors.specs.ReadVectors.{VectorsRead}
use Rattle.circuit.proofs.Verdicts.{first_passes}

-- ---- letters

letters-snoc : (bs : List ℕ) (b : ℕ) → all_of is_letter (bs ++ (b ∷ [])) ≡ (all_of is_letter bs && is_letter b)
unfolding all_of
letters-snoc [] b = and-true (is_letter b)
letters-snoc (a ∷ bs) b = grind (arith, letters-snoc bs b)

pub letters-more : (body : List ℕ) (i : ℕ) → i < length body
    → all_of is_letter (take (i + 1) body) ≡ (all_of is_letter (take i body) && is_letter (get_or body i 0))
letters-more body i h = rw (add-one i, take-suc body i 0 h) (letters-snoc (take i body) (get_or body i 0))

pub ruleset letters = (letters-more)

-- ---- the value of a letter

pub letter_1 : (b : ℕ) → b ≡ 49 → is_at1 (letter_of b) ≡ 1
unfolding letter_of is_at1
letter_1 b e = rw e

pub letter_0 : (b : ℕ) → b ≡ 48 → is_at0 (letter_of b) ≡ 1
unfolding letter_of is_at0
letter_0 b e = rw e

pub letter_not_1 : (b : ℕ) → (b ≡ 49 → ⊥) → is_at1 (letter_of b) ≡ 0
unfolding letter_of is_at1
letter_not_1 b e = grind (arith, nat_tests)

pub letter_not_0 : (b : ℕ) → (b ≡ 48 → ⊥) → is_at0 (letter_of b) ≡ 0
unfolding letter_of is_at0
letter_not_0 b e = grind (arith, nat_tests)

-- ---- a plane of a vector, bit by bit

-- a packed number with one place more
pack-set : (n : ℕ) (f : ℕ → ℕ) → f n ≡ 1 → pack (suc n) f ≡ 2 ^ n + pack n f
unfolding pack
pack-set zero f e = omega (arith, e)
pack-set (suc n) f e = omega (arith, pow-suc 2 n, pack-set n (λ (u : ℕ). f (suc u)) e)

pack_unset : (n : ℕ) (f : ℕ → ℕ) → f n ≡ 0 → pack (suc n) f ≡ pack n f
unfolding pack
pack_unset zero f e = omega (arith, e)
pack_unset (suc n) f e = omega (arith, pack_unset n (λ (u : ℕ). f (suc u)) e)

vector-length : (body : List ℕ) → length (vector_in body) ≡ length body
unfolding vector_in
vector-length body = length-map body letter_of

letter_at_lem : (body : List ℕ) (i : ℕ) → get_or (vector_in body) i at_x ≡ letter_of (get_or body i 0)
unfolding vector_in letter_of
letter_at_lem body i = get_or-map letter_of body i 0

-- the inputs below n that have a value, where the letters are a field's body: `is` tells the value
unfoldable pub plane_to : (Value → ℕ) → List ℕ → ℕ → ℕ
plane_to is body n = pack n (λ (i : ℕ). is (letter_of (get_or body i 0)))

module _ (is : Value → ℕ) (body : List ℕ) where
  pub plane_none : 0 ≡ plane_to is body 0
  unfolding plane_to pack
  plane_none = refl

  -- the code's 1 << n put into the plane
  pub plane_set : ((v : Value) → is v ≤ 1) → (n : ℕ) → n < 64 → is (letter_of (get_or body n 0)) ≡ 1
      → bit_or (plane_to is body n) (1 * 2 ^ n % 2 ^ 64) ≡ plane_to is body (suc n)
  unfolding plane_to
  plane_set small n h e =
      let f : ℕ → ℕ = λ (i : ℕ). is (letter_of (get_or body i 0)) in
      ap (bit_or (pack n f)) (shl_exact 1 n 64 (omega arith) (omega arith))
      ∙ or_shifted_r 1 n (pack n f) (pack_lt n f (λ v l. small (letter_of (get_or body v 0))))
      ∙ omega (arith, pack-set n f e)

  pub plane_kept : (n : ℕ) → is (letter_of (get_or body n 0)) ≡ 0 → plane_to is body n ≡ plane_to is body (suc n)
  unfolding plane_to
  plane_kept n e = sym (pack_unset n (λ (i : ℕ). is (letter_of (get_or body i 0))) e)

  plane_whole : pack (length (vector_in body)) (λ (i : ℕ). is (get_or (vector_in body) i at_x)) ≡ plane_to is body (length body)
  unfolding plane_to
  plane_whole =
      ap (λ (n : ℕ). pack n (λ (i : ℕ). is (get_or (vector_in body) i at_x))) (vector-length body)
      ∙ pack_cong (length body) (λ (i : ℕ). is (get_or (vector_in body) i at_x)) (λ (i : ℕ). is (letter_of (get_or body i 0)))
      (λ i h. ap is (letter_at_lem body i))

-- once each letter is in the planes, they are the vector's
pub planes-whole : (body : List ℕ) (n : ℕ) → n ≡ length body
    → vector_record (vector_in body) ≡ record { ones = plane_to is_at1 body n; zeros = plane_to is_at0 body n }
unfolding vector_record
planes-whole body n e = rw (e, plane_whole is_at1 body, plane_whole is_at0 body)

pub ruleset planes = (plane_none, planes-whole)

-- ---- a vector that passed its tests

pub record VectorFits (P count : ℕ) (body : List ℕ) : Type 0 where
  pub letters : length body ≡ P
  pub room : count < most_vectors

pub vector-fits : (P count at : ℕ) (body : List ℕ) → first_of (vector_tests P count at body) ≡ passes → VectorFits P count body
unfolding vector_tests
vector-fits P count at body e =
    let third : Test = test 7 (not (all_of is_letter body)) at in
    let second : Test = test 6 (leb most_vectors count) at in
    let after-5 = first_passes (test 5 (not (eqb (length body) P)) at) (second ∷ third ∷ []) e in
    let after-6 = first_passes second (third ∷ []) after-5.1 in
    record {
      letters = eqb-true (length body) P (not-false (eqb (length body) P) after-5.0);
      room = leb-false most_vectors count after-6.0;
    }

-- ---- the vectors that were read

pub room : (P count at : ℕ) (body : List ℕ) → first_of (vector_tests P count at body) ≡ passes → count < most_vectors
room P count at body e = (vector-fits P count at body e).room

pub vectors_read : {file : List ℕ} {from : ℕ} (P : ℕ) {unused : VectorRecord} {all : List VectorRecord} {r : Gathered}
    {Keeps : FieldRecord → ℕ → VectorRecord → Type 0} {Refuses : FieldRecord → ℕ → Refusal → Type 0}
    → GatheredAs file (is_kind vector_tag) from Keeps Refuses (replicate most_vectors unused) all r
    → ((f : FieldRecord) (n : ℕ) (item : VectorRecord) → Keeps f n item
    → JudgedAs (first_of (vector_tests P n f.at f.body.now)) (vector_record (vector_in f.body.now)) (Ok item))
    → ((f : FieldRecord) (n : ℕ) (why : Refusal) → Refuses f n why
    → JudgedAs (first_of (vector_tests P n f.at f.body.now)) (vector_record (vector_in f.body.now)) (Err why))
    → from ≤ length file → unused ≡ unused_vector
    → VectorsRead file from P (record { refusal = r.refusal; at = r.at; count = r.count; all = all })
vectors_read {file} {from} P {unused} {all} {r} {Keeps} {Refuses} gathered keeps refuses h none =
    let told = stage_told vector_tag most_vectors (vector_tests P) vector_in vector_record unused_vector (λ v. true) file from Keeps Refuses
    (record { keeps = keeps; refuses = refuses; room = room P; fits = λ n at body e. tt }) h (rw none at gathered) in
    record {
      vectors = told.elements;
      stage = told.stage;
      place = told.place;
      within = told.within;
      count = told.count;
      all = told.all;
    }
