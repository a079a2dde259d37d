-- The rows of the circuit that was read: those of each file of which the reading tells; a refusal tells of no circuit.
use Prim.Native.Nat.{ℕ}
use mathlib.Core.Path.{◌≡◌, ap, subst, ◌∙◌}
use mathlib.Core.Bool.{true}
use mathlib.Core.List.{List}
use lib.ListN.{length, get_or}
use Rattle.std.specs.Prelude.{Some}
use Rattle.words.proofs.Tables.{length-table}
use Rattle.circuit.specs.Circuit.{Circuit}
use Rattle.circuit.specs.Records.{padded, circuit_record}
use Rattle.circuit.specs.Reading.{Reading, accepted, reading_of}
use Rattle.circuit.specs.Answers.{Tells}
use Rattle.circuit.specs.Refusals.{verdict_of}
use Rattle.circuit.specs.declared.refusal.Refusal.{Refusal}
use Rattle.circuit.specs.Laws.{CircuitGood}
use Rattle.circuit.specs.declared.Reading.{Reading as ReadingRecord}
use Rattle.circuit.proofs.CircuitLaws.{accepted-is-good}
use Rattle.grading.specs.Given.{CircuitGiven}
use Rattle.grading.specs.Rows.{rows_of}
use Rattle.grading.specs.Codes.{codes_of}
use Rattle.program_grade.specs.Handing.{RowsRead}

module _ (reading : ReadingRecord) where
  told : (file : List ℕ) (c : Circuit) → Tells (reading_of file) reading → reading_of file ≡ accepted c → Tells (accepted c) reading
  told file c tells reads = subst (λ (read : Reading). Tells read reading) reads tells

  pub none_read : (codes : List ℕ) → length codes ≡ 2048 → (why : Refusal) → reading.refusal ≡ Some why → RowsRead reading codes
  unfolding Tells
  none_read codes many why refused = record {
    many = many;
    listed = λ file c tells reads. let passed = (told file c tells reads).0 in let fails = ap verdict_of refused in cc;
  }

  pub all_read : (codes : List ℕ) → CircuitGiven reading.circuit
      → ((c : Circuit) → reading.circuit ≡ circuit_record c → CircuitGood c → codes ≡ padded 2048 0 (codes_of (rows_of c)))
      → RowsRead reading codes
  unfolding Tells padded
  all_read codes given are = record {
    many = ap length (are given.circuit given.is given.good) ∙ length-table 2048 (λ (i : ℕ). get_or (codes_of (rows_of given.circuit)) i 0);
    listed = λ file c tells reads. are c (told file c tells reads).1 (accepted-is-good true file c reads);
  }
