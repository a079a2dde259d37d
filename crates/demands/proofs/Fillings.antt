-- An accepted file is accepted with its X's filled or its vectors refined, so that it is graded in buffers that are no smaller.
use Prim.Native.Nat.{ℕ, zero, suc, ◌+◌, ◌≤◌, ◌<◌}
use mathlib.Core.Path.{◌≡◌, refl, sym, ap, ◌∙◌}
use mathlib.Core.Bool.{Bool, true, false, cond}
use mathlib.Core.Logic.{◌⊎◌, inl, inr}
use mathlib.Core.List.{List, [], ◌∷◌, map}
use native.Mathlib.Decide.{dec_lt}
use native.Mathlib.Omega.{arith}
use borrow.Author.Tests.{ltb-false, not-false}
use lib.Dec.{T, ltb}
use lib.ListN.{length, get_or, length-append, length-map, get_or-map, get_or-eq_default}
use Rattle.switch.specs.Conduction.{Value}
use Rattle.switch.specs.Modules.{all_of}
use Rattle.switch.proofs.Paths.{both}
use Rattle.circuit.specs.Limits.{most_bytes}
use Rattle.circuit.specs.Circuit.{Circuit, join_lists}
use Rattle.circuit.specs.Order.{tag_of}
use Rattle.circuit.specs.Known.{Known, start, letter_of, vector_in, known_after}
use Rattle.circuit.specs.Table.{first_of, is_letter, vector_tests, body_tests, field_tests}
use Rattle.circuit.specs.Reading.{Reading, accepted, refusal, read_from, reading_with}
use Rattle.circuit.proofs.CircuitLaws.{accepted-is-good, accepted-is-whole}
use Rattle.switch.proofs.Deciding.{and_both}
use Rattle.circuit.proofs.Tested.{holds}
use Rattle.circuit.proofs.Verdicts.{first_passes}
use Rattle.demands.specs.Calls.{Call, Accepts}
use Rattle.demands.specs.AlikeFiles.{TagAndBody, fields_of, vector_fields_of, Split, KeepsLetters, FinerBodies, FilledByte, FilledBody, FilledBodies, GradedAlike, GradedToo, CalledAlike, FillingsAreGraded, RefinementsAreGraded}
use Rattle.demands.specs.SplitFiles.{FillingsAreAccepted}
use Rattle.demands.proofs.Gave.{gave}
use Rattle.demands.proofs.OneProof.{one_holds}
use Rattle.demands.proofs.Columns.{same_rows}
use Rattle.demands.proofs.WholeFields.{field_at, cut_of, after-verdict}
use Rattle.demands.proofs.AlikeFilesProof.{vector_field, split-tells, alike_files_read_alike, graded_as, three_holds_of_files}
use Rattle.demands.proofs.FileSplits.{passed-verdict}
use Rattle.demands.proofs.OtherVectors.{known_behind, place_behind, vectors_accepted, as_many, accepts_others}

-- a vector that was accepted has letters only
letters-there : (size : ℕ) (known : Known) (at : ℕ) (bodies : List (List ℕ)) (c : Circuit)
    → read_from true size known (cut_of at (map vector_field bodies)) ≡ accepted c
    → (v : ℕ) → v < length bodies → T (all_of is_letter (get_or bodies v []))
unfolding read_from cut_of field_tests tag_of body_tests vector_tests
letters-there size known at [] c e v h = absurd (omega arith)
letters-there size known at (body ∷ bodies) c e zero h =
    let three = first_passes _ _ (passed-verdict (first_of (field_tests known (field_at at (vector_field body)))) _ c e) in
    let four = first_passes _ _ three.1 in
    let nine = first_passes _ _ four.1 in
    let five = first_passes _ _ nine.1 in
    let six = first_passes _ _ five.1 in
    let seven = first_passes _ _ six.1 in
    holds (all_of is_letter body) (not-false (all_of is_letter body) seven.0)
letters-there size known at (body ∷ bodies) c e (suc v) h =
    letters-there size (known_after known (field_at at (vector_field body))) (at + 3 + length body) bodies c
    (after-verdict (first_of (field_tests known (field_at at (vector_field body)))) _ c e) v (omega arith)

-- ---- fillings

filled_letter : (a b : ℕ) → FilledByte a b → T (is_letter a) → T (is_letter b)
unfolding is_letter
filled_letter a b (inl same) t = rw same t
filled_letter a b (inr (x, inl e)) t = rw e tt
filled_letter a b (inr (x, inr e)) t = rw e tt

filled-letters : (body filled : List ℕ) → length filled ≡ length body
    → ((i : ℕ) → i < length body → FilledByte (get_or body i 0) (get_or filled i 0))
    → T (all_of is_letter body) → T (all_of is_letter filled)
unfolding all_of
filled-letters [] [] long each t = tt
filled-letters [] (b ∷ bs) long each t = absurd (omega arith)
filled-letters (a ∷ as') [] long each t = absurd (omega arith)
filled-letters (a ∷ as') (b ∷ bs) long each t =
    let parts = both (is_letter a) (all_of is_letter as') t in
    and_both (is_letter b) (all_of is_letter bs) (filled_letter a b (each 0 (omega arith)) parts.0)
    (filled-letters as' bs (omega arith) (λ i h. each (suc i) (omega arith)) parts.1)

same_size : (bodies filled : List (List ℕ)) → length filled ≡ length bodies
    → ((v : ℕ) → v < length bodies → length (get_or filled v []) ≡ length (get_or bodies v []))
    → length (vector_fields_of filled) ≡ length (vector_fields_of bodies)
unfolding join_lists
same_size [] [] many long = refl
same_size [] (b ∷ bs) many long = absurd (omega arith)
same_size (a ∷ as') [] many long = absurd (omega arith)
same_size (a ∷ as') (b ∷ bs) many long =
    omega (
      arith,
      long 0 (omega arith),
      same_size as' bs (omega arith) (λ v h. long (suc v) (omega arith)),
      length-append a (vector_fields_of as'),
      length-append b (vector_fields_of bs),
    )

pub filled-is-finer : (bodies filled : List (List ℕ)) → FilledBodies bodies filled → FinerBodies bodies filled
filled-is-finer bodies filled f = record { no_fewer = omega (arith, f.as_many); keeps = keeps }
  where
    byte : (a b : ℕ) → FilledByte a b → (a ≡ 48) ⊎ (a ≡ 49) → b ≡ a
    byte a b (inl same) letter = same
    byte a b (inr (x, either)) (inl e) = absurd (omega arith)
    byte a b (inr (x, either)) (inr e) = absurd (omega arith)

    at : (body full : List ℕ) → FilledBody body full → (i : ℕ) → Dec (i < length body)
        → (get_or body i 0 ≡ 48) ⊎ (get_or body i 0 ≡ 49) → get_or full i 0 ≡ get_or body i 0
    at body full g i (yes h) letter = byte (get_or body i 0) (get_or full i 0) (g.each i h) letter
    at body full g i (no h) letter =
        get_or-eq_default full 0 (omega (arith, g.as_long)) ∙ sym (get_or-eq_default body 0 (omega arith))

    keeps : (v : ℕ) → v < length bodies → KeepsLetters (get_or bodies v []) (get_or filled v [])
    keeps v h i letter = at (get_or bodies v []) (get_or filled v []) (f.each v h) i (dec_lt i (length (get_or bodies v []))) letter

-- ---- the file

not_too_long : (file : List ℕ) (c : Circuit) → Accepts file c → length file ≤ most_bytes
unfolding reading_with
not_too_long file c e = go (ltb most_bytes (length file)) refl _ e
  where
    go : (long : Bool) → ltb most_bytes (length file) ≡ long → (whole : Reading) → cond long (refusal 1 0) whole ≡ accepted c
        → length file ≤ most_bytes
    go true p whole q = let z : ◌≡◌ {A = ℕ} 0 1 = cc in absurd (omega arith)
    go false p whole q = ltb-false most_bytes (length file) p

module _ (file : List ℕ) (head : List TagAndBody) (bodies : List (List ℕ)) (split : Split file head bodies)
    (c : Circuit) (accepts : Accepts file c) where
  as_long : (v : ℕ) → v < length bodies → length (get_or bodies v []) ≡ c.inputs
  unfolding vector_in
  as_long v h =
      let e = ap (λ (x : Circuit). x.vectors) (split-tells file head bodies split c accepts) in
      sym (length-map (get_or bodies v []) letter_of)
      ∙ ap length (sym (get_or-map vector_in bodies v []) ∙ ap (λ (vectors : List (List Value)). get_or vectors v []) e)
      ∙ (accepted-is-good true file c accepts).vectors v [] (omega (arith, as_many file head bodies split c accepts))

  accepts_fillings : (other : List ℕ) (filled : List (List ℕ)) → Split other head filled → FilledBodies bodies filled
      → (d : Circuit) × Accepts other d
  accepts_fillings other filled split' f =
      let good = accepted-is-good true file c accepts in
      let some = (accepted-is-whole true file c accepts).some_vector refl in
      let many = as_many file head bodies split c accepts in
      let size = same_size bodies filled f.as_many (λ v h. (f.each v h).as_long) in
      accepts_others file head bodies split c accepts other filled split'
      (record {
        some = omega (arith, f.as_many, some);
        few = omega (arith, f.as_many, good.few_vectors);
        long = λ v h. (f.each v (omega (arith, f.as_many))).as_long ∙ as_long v (omega (arith, f.as_many));
        letters = λ v h.
            let g = f.each v (omega (arith, f.as_many)) in
            filled-letters (get_or bodies v []) (get_or filled v []) g.as_long g.each
            (letters-there (length file) (known_behind start 0 head) (place_behind 0 head) bodies c
            (vectors_accepted file head bodies split c accepts) v (omega (arith, f.as_many)));
      })
      (omega (
        arith,
        size,
        not_too_long file c accepts,
        ap length split.is,
        ap length split'.is,
        length-append (fields_of head) (vector_fields_of bodies),
        length-append (fields_of head) (vector_fields_of filled),
      ))

pub fillings_are_accepted : FillingsAreAccepted
fillings_are_accepted one other bodies filled files f c accepts =
    accepts_fillings one files.head bodies files.one_split c accepts other filled files.other_split f

-- ---- two calls

-- a call whose file is accepted if the first's is has graded it
graded_too : (one other : Call) (bodies finer : List (List ℕ)) → CalledAlike one other bodies finer → FinerBodies bodies finer
    → ((c : Circuit) → Accepts one.file c → (d : Circuit) × Accepts other.file d) → GradedToo one other bodies
graded_too one other bodies finer calls more accepts-too =
    let here = graded_as one calls.first in
    let c = here.0 in
    let too = accepts-too c here.1.accepts in
    let d = too.0 in
    let read = alike_files_read_alike one.file other.file bodies finer calls.files c d here.1.accepts too.1 in
    let rows = ap length (same_rows c d read.alike) in
    let room = (gave one c here.1).room in
    let graded = (one_holds other calls.second).accepted_is_graded d too.1
    (record { words = omega (arith, rows, room.words, calls.room.words); entries = omega (arith, rows, room.entries, calls.room.entries) }) in
    let both_graded : GradedAlike one other bodies finer =
    record { first = calls.first; second = record { kept = calls.second; graded = graded }; files = calls.files } in
    record { graded = graded; three = three_holds_of_files one other bodies finer both_graded more }

pub fillings_are_graded : FillingsAreGraded
fillings_are_graded one other bodies filled calls f =
    graded_too one other bodies filled calls (filled-is-finer bodies filled f)
    (fillings_are_accepted one.file other.file bodies filled calls.files f)

pub refinements_are_graded : RefinementsAreGraded
refinements_are_graded one other bodies finer calls more good short =
    graded_too one other bodies finer calls more (λ c accepts.
    let split = calls.files.one_split in
    let head = calls.files.head in
    let vectors = (accepted-is-whole true one.file c accepts).some_vector refl in
    let some : 0 < length bodies = omega (arith, as_many one.file head bodies split c accepts) in
    let long = as_long one.file head bodies split c accepts 0 some in
    accepts_others one.file head bodies split c accepts other.file finer calls.files.other_split
    (record { some = good.some; few = good.few; long = λ v h. good.long v h ∙ long; letters = good.letters }) short)
