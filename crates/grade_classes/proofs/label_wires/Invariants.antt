-- `grade_classes::label_wires` meets its contract. The loop's invariant: the labels so far have their wires. Assumes nothing.
use Rattle.std.proofs.Common.{◌≡◌, ℕ, get_or}
use Rattle.words.specs.Tables.{table, up_to}
use Rattle.circuit.specs.Records.{unused_reference}
use Rattle.grade_classes.specs.Model.{reference_number}
use Rattle.grade_classes.proofs.label_wires.Given as goal

abbrev pub invariant-loop-l : goal.invariant-loop-l
invariant-loop-l l = l.wires ≡ table 12 (up_to l.l (λ (k : ℕ). reference_number (get_or l.reference-items k unused_reference)))
