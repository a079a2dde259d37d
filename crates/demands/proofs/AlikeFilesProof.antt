-- Files alike but for their vector fields are read as circuits alike but for their vectors;
-- so what holds of such circuits holds of such files.
use Prim.Native.Nat.{ℕ, ◌<◌}
use mathlib.Core.Path.{◌≡◌, refl, sym, ap, ◌∙◌}
use mathlib.Core.Bool.{Bool, true, false, not}
use mathlib.Core.Logic.{◌⊎◌, inl, inr}
use mathlib.Core.List.{List, [], ◌∷◌, ◌++◌, map, append_assoc, append-nil}
use native.Mathlib.Omega.{arith}
use borrow.Author.Tests.{eqb-true}
use lib.Dec.{T, eqb}
use lib.ListN.{length, get_or, length-map, get_or-map}
use Rattle.switch.specs.Conduction.{Value, at_x}
use Rattle.switch.specs.Modules.{all_of}
use Rattle.switch.proofs.Paths.{both}
use Rattle.circuit.specs.Circuit.{Circuit, join_lists}
use Rattle.circuit.specs.Order.{Tag, inputs_tag, type_tag, edge_tag, bridge_tag, instance_tag, vector_tag, no_tag, tag_of, is_kind}
use Rattle.circuit.specs.Known.{start, letter_of, vector_in, taken}
use Rattle.circuit.specs.Reading.{reading_of}
use Rattle.grading.specs.Rows.{Row, rows_of, CellMarked}
use Rattle.grading.specs.Classes.{largest, classes_of}
use Rattle.grading.specs.Grading as grading
use Rattle.grading.specs.Promise.{counts_of}
use Rattle.demands.specs.Calls.{Call, Accepts, GradedAs, cell_at}
use Rattle.demands.specs.Two.{vector_of, row_at, MatrixCell}
use Rattle.demands.specs.Three.{given, Refined}
use Rattle.demands.specs.Files.{field_bytes}
use Rattle.demands.specs.AlikeFiles.{TagAndBody, fields_of, not_vector, vector_fields_of, Split, KeepsLetters, FinerBodies, ReadAlike, AlikeFilesReadAlike, FinerFilesReadRefined, GradedItsFile, GradedAlike, SameRows, RowsAreOfTheHead, ColumnIsOfItsField, ThreeOfFiles, ThreeHoldsOfFiles, MarksHoldInEveryFilledFile}
use Rattle.demands.proofs.Gave.{gave, classes_counted, class_is}
use Rattle.demands.proofs.OneProof.{one_holds}
use Rattle.demands.proofs.Cells.{cell_decides, cell_marked}
use Rattle.demands.proofs.Columns.{same_rows, same_cell, column_is_of_its_vector}
use Rattle.demands.proofs.Refining.{three_holds, marks_hold_under_every_filling}
use Rattle.demands.proofs.WholeFields.{taken_all, taken-append, accepted-adds-up}

-- ---- vector fields as fields like the others

abbrev pub vector_field : List ℕ → TagAndBody
vector_field body = record { tag = 6; body = body }

vector-fields : (bodies : List (List ℕ)) → vector_fields_of bodies ≡ fields_of (map vector_field bodies)
unfolding join_lists
vector-fields [] = refl
vector-fields (body ∷ bodies) = ap (λ (bytes : List ℕ). field_bytes 6 body ++ bytes) (vector-fields bodies)

pub whole-file : (head : List TagAndBody) (bodies : List (List ℕ))
    → fields_of head ++ vector_fields_of bodies ≡ fields_of (head ++ map vector_field bodies)
unfolding join_lists
whole-file [] bodies = vector-fields bodies
whole-file (f ∷ head) bodies =
    append_assoc (field_bytes f.tag f.body) (fields_of head) (vector_fields_of bodies)
    ∙ ap (λ (bytes : List ℕ). field_bytes f.tag f.body ++ bytes) (whole-file head bodies)

-- ---- what they add

abbrev pub with_vectors : Circuit → List (List Value) → Circuit
with_vectors c vectors = record { inputs = c.inputs; types = c.types; bridges = c.bridges; instances = c.instances; vectors = vectors }

-- fields of vectors add their vectors, and nothing else
pub vectors-add : (c : Circuit) (bodies : List (List ℕ)) → taken_all c (map vector_field bodies) ≡ with_vectors c (c.vectors ++ map vector_in bodies)
unfolding taken_all taken tag_of
vectors-add c [] = ap (with_vectors c) (sym (append-nil c.vectors))
vectors-add c (body ∷ bodies) =
    vectors-add (taken vector_tag c body) bodies ∙ ap (with_vectors c) (append_assoc c.vectors (vector_in body ∷ []) (map vector_in bodies))

-- a field that is no vector's adds no vector
no_vector_added : (tag : Tag) (c : Circuit) (body : List ℕ) → T (not (is_kind vector_tag tag)) → (taken tag c body).vectors ≡ c.vectors
unfolding is_kind taken
no_vector_added inputs_tag c body other = refl
no_vector_added type_tag c body other = refl
no_vector_added (edge_tag t) c body other = refl
no_vector_added bridge_tag c body other = refl
no_vector_added instance_tag c body other = refl
no_vector_added vector_tag c body other = absurd other
no_vector_added no_tag c body other = refl

head_adds_no_vector : (c : Circuit) (head : List TagAndBody) → T (all_of not_vector head) → (taken_all c head).vectors ≡ c.vectors
unfolding taken_all all_of
head_adds_no_vector c [] t = refl
head_adds_no_vector c (f ∷ head) t =
    let parts = both (not_vector f) (all_of not_vector head) t in
    head_adds_no_vector (taken (tag_of f.tag) c f.body) head parts.1 ∙ no_vector_added (tag_of f.tag) c f.body parts.0

abbrev head_circuit : List TagAndBody → Circuit
head_circuit head = taken_all start.circuit head

pub split-tells : (file : List ℕ) (head : List TagAndBody) (bodies : List (List ℕ)) → Split file head bodies
    → (c : Circuit) → Accepts file c → with_vectors (head_circuit head) (map vector_in bodies) ≡ c
split-tells file head bodies split c accepts =
    ap (λ (before : List (List Value)). with_vectors (head_circuit head) (before ++ map vector_in bodies))
    (sym (head_adds_no_vector start.circuit head split.no_vector))
    ∙ sym (vectors-add (head_circuit head) bodies)
    ∙ sym (taken-append start.circuit head (map vector_field bodies))
    ∙ accepted-adds-up (head ++ map vector_field bodies) c (ap reading_of (sym (whole-file head bodies) ∙ sym split.is) ∙ accepts)

pub alike_files_read_alike : AlikeFilesReadAlike
alike_files_read_alike one other bodies other_bodies files c d accepts accepts' =
    let e = split-tells one files.head bodies files.one_split c accepts in
    let e' = split-tells other files.head other_bodies files.other_split d accepts' in
    record {
      alike = record {
        inputs = sym (ap (λ (x : Circuit). x.inputs) e) ∙ ap (λ (x : Circuit). x.inputs) e';
        types = sym (ap (λ (x : Circuit). x.types) e) ∙ ap (λ (x : Circuit). x.types) e';
        bridges = sym (ap (λ (x : Circuit). x.bridges) e) ∙ ap (λ (x : Circuit). x.bridges) e';
        instances = sym (ap (λ (x : Circuit). x.instances) e) ∙ ap (λ (x : Circuit). x.instances) e';
      };
      vectors = sym (ap (λ (x : Circuit). x.vectors) e);
      other_vectors = sym (ap (λ (x : Circuit). x.vectors) e');
    }

-- ---- letters

-- past the end of a body, and of the bodies, stands X
letter_at_lem : (bodies : List (List ℕ)) (v i : ℕ) → given (map vector_in bodies) v i ≡ letter_of (get_or (get_or bodies v []) i 0)
unfolding given vector_in letter_of
letter_at_lem bodies v i =
    ap (λ (vector : List Value). get_or vector i at_x) (get_or-map vector_in bodies v [])
    ∙ get_or-map letter_of (get_or bodies v []) i 0

no_letter : (a : ℕ) → eqb a 48 ≡ false → eqb a 49 ≡ false → letter_of a ≡ at_x
unfolding letter_of
no_letter a p q = rw (p, q)

letter_kept : (a b : ℕ) → ((a ≡ 48) ⊎ (a ≡ 49) → b ≡ a) → (letter_of a ≡ at_x) ⊎ (letter_of b ≡ letter_of a)
letter_kept a b keeps = go (eqb a 48) (eqb a 49) refl refl
  where
    go : (zero one : Bool) → eqb a 48 ≡ zero → eqb a 49 ≡ one → (letter_of a ≡ at_x) ⊎ (letter_of b ≡ letter_of a)
    go true one p q = inr (ap letter_of (keeps (inl (eqb-true a 48 p))))
    go false true p q = inr (ap letter_of (keeps (inr (eqb-true a 49 q))))
    go false false p q = inl (no_letter a p q)

-- a vector whose field keeps the letters of another's
letters_refine : (bodies other_bodies : List (List ℕ)) (v w : ℕ) → KeepsLetters (get_or bodies v []) (get_or other_bodies w []) → (i : ℕ)
    → (given (map vector_in bodies) v i ≡ at_x) ⊎ (given (map vector_in other_bodies) w i ≡ given (map vector_in bodies) v i)
letters_refine bodies other_bodies v w keeps i =
    rw (letter_at_lem bodies v i, letter_at_lem other_bodies w i)
    (letter_kept (get_or (get_or bodies v []) i 0) (get_or (get_or other_bodies w []) i 0) (keeps i))

bodies_refine : (bodies finer : List (List ℕ)) → FinerBodies bodies finer → Refined (map vector_in bodies) (map vector_in finer)
bodies_refine bodies finer more =
    let few = more.no_fewer in
    record {
      no_fewer = omega (arith, length-map bodies vector_in, length-map finer vector_in);
      agree = λ v i h. letters_refine bodies finer v v (more.keeps v (omega (arith, length-map bodies vector_in))) i;
    }

pub finer_files_read_refined : FinerFilesReadRefined
finer_files_read_refined one finer bodies finer_bodies files more c d accepts accepts' =
    let read = alike_files_read_alike one finer bodies finer_bodies files c d accepts accepts' in
    rw (read.vectors, read.other_vectors) (bodies_refine bodies finer_bodies more)

-- ---- two calls that graded such files

-- a call that graded its file graded it as the circuit that it is read as
pub graded_as : (call : Call) → GradedItsFile call → (c : Circuit) × GradedAs call c
graded_as call g =
    let taken_as = (one_holds call g.kept).graded_is_accepted g.graded in
    (taken_as.0, record { kept = g.kept; accepts = taken_as.1; graded = g.graded })

rows-counted : (call : Call) (c : Circuit) → GradedAs call c → (counts_of call.answer).faults ≡ length (rows_of c)
unfolding grading.counts_of_circuit
rows-counted call c g = ap (λ (counts : grading.Counts). counts.faults) (gave call c g).counts_are

module _ (one other : Call) (bodies other_bodies : List (List ℕ)) (graded : GradedAlike one other bodies other_bodies) where
  abbrev c : Circuit
  c = (graded_as one graded.first).0

  abbrev d : Circuit
  d = (graded_as other graded.second).0

  as_c : GradedAs one c
  as_c = (graded_as one graded.first).1

  as_d : GradedAs other d
  as_d = (graded_as other graded.second).1

  read : ReadAlike c d bodies other_bodies
  read = alike_files_read_alike one.file other.file bodies other_bodies graded.files c d as_c.accepts as_d.accepts

  is_row : (r : ℕ) → r < (counts_of one.answer).faults → r < length (rows_of c)
  is_row r h = rw (rows-counted one c as_c) at h

  is_vector : (v : ℕ) → v < length bodies → v < length c.vectors
  is_vector v h = rw read.vectors (omega (arith, length-map bodies vector_in))

  is_other_vector : (w : ℕ) → w < length other_bodies → w < length d.vectors
  is_other_vector w h = rw read.other_vectors (omega (arith, length-map other_bodies vector_in))

  abbrev cell_of : (r v : ℕ) → r < (counts_of one.answer).faults → v < length bodies → MatrixCell c
  cell_of r v h k = record { row = r; vector = v; is_row = is_row r h; is_vector = is_vector v k }

  abbrev other_cell : (r w : ℕ) → r < (counts_of one.answer).faults → w < length other_bodies → MatrixCell d
  other_cell r w h k =
      record { row = r; vector = w; is_row = rw (same_rows c d read.alike) at (is_row r h); is_vector = is_other_vector w k }

  -- what is marked in the first circuit under a vector is marked in the second
  marked_alike : (vector : List Value) (r : ℕ) → CellMarked c vector (row_at c r) → CellMarked d vector (row_at d r)
  marked_alike vector r m =
      let row = row_at c r in
      let t = (rw (same_cell c d read.alike vector row) at ((cell_decides c vector row).0 m)) in
      rw (← same_rows c d read.alike) ((cell_decides d vector row).1 t)

  column : (v w : ℕ) → v < length bodies → w < length other_bodies → get_or bodies v [] ≡ get_or other_bodies w []
      → (r : ℕ) → r < (counts_of one.answer).faults → cell_at one.after.matrix r v ≡ cell_at other.after.matrix r w
  unfolding vector_in
  column v w h k same r l =
      let vector = get_or-map vector_in bodies v [] in
      let other-vector = get_or-map vector_in other_bodies w [] in
      column_is_of_its_vector one other c d as_c as_d read.alike (cell_of r v l h) (other_cell r w l k) refl
      (rw (read.vectors, read.other_vectors) (vector ∙ ap vector_in same ∙ sym other-vector))

  three : FinerBodies bodies other_bodies → ThreeOfFiles one other bodies
  three more =
      let refined = finer_files_read_refined one.file other.file bodies other_bodies graded.files more c d as_c.accepts as_d.accepts in
      let stands = three_holds one other c d as_c as_d read.alike refined in
      record { marks = λ r v h k. stands.marks (cell_of r v h k); found = stands.found }

  filled : (v w : ℕ) → v < length bodies → w < length other_bodies → KeepsLetters (get_or bodies v []) (get_or other_bodies w [])
      → (r : ℕ) → r < (counts_of one.answer).faults → cell_at one.after.matrix r v ≡ 1 → cell_at other.after.matrix r w ≡ 1
  unfolding given
  filled v w h k keeps r l mark =
      let refines : (i : ℕ) → (get_or (vector_of c v) i at_x ≡ at_x) ⊎ (get_or (vector_of d w) i at_x ≡ get_or (vector_of c v) i at_x) =
      rw (read.vectors, read.other_vectors) (letters_refine bodies other_bodies v w keeps) in
      let long = (gave other d as_d).good.vectors w [] (is_other_vector w k) ∙ sym read.alike.inputs in
      let marked = marks_hold_under_every_filling one c as_c (cell_of r v l h) mark (vector_of d w) long refines in
      (cell_marked other d (gave other d as_d) (other_cell r w l k)).1 (marked_alike (vector_of d w) r marked)

  rows : SameRows one other
  rows =
      let same = same_rows c d read.alike in
      record {
        faults = rows-counted one c as_c ∙ ap length same ∙ sym (rows-counted other d as_d);
        classes = classes_counted one c (gave one c as_c) ∙ ap (λ (rs : List Row). largest (classes_of rs)) same ∙ sym (classes_counted other d (gave other d as_d));
        class = λ r h.
            class_is one c (gave one c as_c) r (is_row r h)
            ∙ ap (λ (rs : List Row). get_or (classes_of rs) r 0) same
            ∙ sym (class_is other d (gave other d as_d) r (rw same at (is_row r h)));
      }

pub rows_are_of_the_head : RowsAreOfTheHead
rows_are_of_the_head = rows

pub column_is_of_its_field : ColumnIsOfItsField
column_is_of_its_field = column

pub three_holds_of_files : ThreeHoldsOfFiles
three_holds_of_files = three

pub marks_hold_in_every_filled_file : MarksHoldInEveryFilledFile
marks_hold_in_every_filled_file = filled
