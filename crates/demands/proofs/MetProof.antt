-- What reading and grading give of any file meets what the functions on it ask (specs/Met).
use mathlib.Core.Path.{refl}
use Rattle.circuit.proofs.CircuitLaws.{accepted-is-good}
use Rattle.print_report.proofs.HeldIsReport.{rows_are_held}
use Rattle.demands.specs.Met.{MetByEveryFile}

pub met_by_every_file : MetByEveryFile
met_by_every_file = record {
  grade_read = λ κs a file tells. record { file = file; tells = tells };
  grade_circuit = λ κs a wanted file c accepts is. record { circuit = c; is = is; good = accepted-is-good wanted file c accepts };
  rows_of = λ κs a wanted file c accepts is. record { circuit = c; is = is; good = accepted-is-good wanted file c accepts };
  report_piece = λ answer codes matrix classes file before outcome. (
    record { answer = answer; codes = codes; matrix = matrix; classes = classes; rows_held = rows_are_held _ _ _ _ _ _ outcome },
    refl,
    refl,
    refl,
    refl,
  );
}
