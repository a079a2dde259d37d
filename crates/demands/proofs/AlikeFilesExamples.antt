-- Two files of a NAND that are alike but for their vectors, the second finer; and two accepted files that differ in an instance behind
-- the same bytes, since bytes inside the instance's field look like a vector's (specs/AlikeFiles, specs/SplitFiles).
use Prim.Native.Nat.{ℕ, zero, suc, ◌<◌}
use mathlib.Core.Path.{◌≡◌, refl, ap}
use mathlib.Core.Logic.{inl, inr}
use mathlib.Core.List.{List, [], ◌∷◌, ◌++◌}
use native.Mathlib.Omega.{arith}
use lib.Dec.{T}
use lib.ListN.{get_or}
use Rattle.print_lines.specs.Ascii.{bytes_of}
use Rattle.circuit.specs.Circuit.{Circuit, Instance, Reference, primary, output_of, no_faults}
use Rattle.circuit.specs.Reading.{Reading, accepted, refusal, reading_of}
use Rattle.circuit.specs.Records.{empty_circuit}
use Rattle.grading.specs.Promise.{is_graded}
use Rattle.demands.specs.Calls.{Call, cell_at}
use Rattle.demands.specs.Files.{inputs_field, nand3_fields, instance_field, vector_field, nand_under}
use Rattle.demands.specs.Graders.{called, rightly}
use Rattle.demands.specs.AlikeFiles.{TagAndBody, AlikeFiles, KeepsLetters, FinerBodies, NandRefined}
use Rattle.demands.specs.SplitFiles.{AlikeAfterBytes, NotAnyHead}
use Rattle.demands.proofs.Computing.{grader_computing, blank}
use Rattle.demands.proofs.RightProof.{rightly_is_right}

-- ---- a NAND under 0X, and under 01 and 11

abbrev under0_x : Call
under0_x = called rightly (nand_under ("0X" ∷ [])) blank

abbrev under01 : Call
under01 = called rightly (nand_under ("01" ∷ "11" ∷ [])) blank

abbrev tagged : ℕ → List ℕ → TagAndBody
tagged tag body = record { tag = tag; body = body }

abbrev nand_head : List TagAndBody
nand_head =
    tagged 1 (0 ∷ 2 ∷ []) ∷ tagged 2 (3 ∷ 2 ∷ 2 ∷ [])
    ∷ tagged 3 (1 ∷ 2 ∷ 0 ∷ 1 ∷ []) ∷ tagged 3 (2 ∷ 3 ∷ 0 ∷ []) ∷ tagged 3 (3 ∷ 0 ∷ 1 ∷ [])
    ∷ tagged 5 (1 ∷ 255 ∷ 0 ∷ 1 ∷ 0 ∷ 2 ∷ []) ∷ []

nand-files : AlikeFiles under0_x.file under01.file (bytes_of "0X" ∷ []) (bytes_of "01" ∷ bytes_of "11" ∷ [])
unfolding grader_computing
nand-files = record { head = nand_head; one_split = record { no_vector = tt; is = refl }; other_split = record { no_vector = tt; is = refl } }

record Computed : Type 0 where
  graded : T (is_graded under0_x.answer)
  graded' : T (is_graded under01.answer)
  mark : cell_at under0_x.after.matrix 1 0 ≡ 1

computed : Computed
unfolding grader_computing cell_at
computed = record { graded = tt; graded' = tt; mark = refl }

fills : KeepsLetters (bytes_of "0X") (bytes_of "01")
fills zero letter = refl
fills (suc zero) (inl e) = absurd (omega arith)
fills (suc zero) (inr e) = absurd (omega arith)
fills (suc (suc i)) letter = refl

more_bodies : FinerBodies (bytes_of "0X" ∷ []) (bytes_of "01" ∷ bytes_of "11" ∷ [])
more_bodies = record { no_fewer = omega arith; keeps = at }
  where
    at : (v : ℕ) → v < 1 → KeepsLetters (get_or (bytes_of "0X" ∷ []) v []) (get_or (bytes_of "01" ∷ bytes_of "11" ∷ []) v [])
    at zero h = fills
    at (suc v) h = absurd (omega arith)

pub nand_refined : NandRefined
nand_refined = record {
  one = under0_x;
  finer = under01;
  one_file = refl;
  finer_file = refl;
  graded = record {
    first = record { kept = rightly_is_right _ _; graded = computed.graded };
    second = record { kept = rightly_is_right _ _; graded = computed.graded' };
    files = nand-files;
  };
  more = more_bodies;
  mark = computed.mark;
}

-- ---- a head that ends inside a field

-- a NAND of three on inputs 6, 2 and one more: the instance's last bytes are 6, 0, 2, 0 and that input, like a vector's field of two bytes
abbrev on_input : ℕ → List ℕ
on_input n = inputs_field 6 ++ nand3_fields ++ instance_field 1 no_faults (primary 6 ∷ primary 2 ∷ primary n ∷ []) ++ vector_field "000000"

abbrev circuit_of : Reading → Circuit
circuit_of (accepted c) = c
circuit_of (refusal number place) = empty_circuit

input_of : Reference → ℕ
input_of (primary n) = n
input_of (output_of i) = 0

abbrev third_input : List Instance → ℕ
third_input instances =
    input_of (get_or (get_or instances 0 (record { type = 0; choice = no_faults; references = [] })).references 2 (primary 0))

record Behind : Type 0 where
  split : AlikeAfterBytes (on_input 1) (on_input 3) ((0 ∷ 1 ∷ []) ∷ bytes_of "000000" ∷ []) ((0 ∷ 3 ∷ []) ∷ bytes_of "000000" ∷ [])
  accepts : reading_of (on_input 1) ≡ accepted (circuit_of (reading_of (on_input 1)))
  accepts' : reading_of (on_input 3) ≡ accepted (circuit_of (reading_of (on_input 3)))
  third : third_input (circuit_of (reading_of (on_input 1))).instances ≡ 1
  third' : third_input (circuit_of (reading_of (on_input 3))).instances ≡ 3

inside-a-field : Behind
unfolding grader_computing input_of
inside-a-field = record {
  split = record {
    head = inputs_field 6 ++ nand3_fields ++ (5 ∷ 0 ∷ 8 ∷ 1 ∷ 0 ∷ 0 ∷ []);
    one_is = refl;
    other_is = refl;
  };
  accepts = refl;
  accepts' = refl;
  third = refl;
  third' = refl;
}

pub not_any_head : NotAnyHead
not_any_head reads-alike =
    let alike = reads-alike _ _ _ _ inside-a-field.split _ _ inside-a-field.accepts inside-a-field.accepts' in
    omega (arith, ap third_input alike.instances, inside-a-field.third, inside-a-field.third')
