-- The keys of a circuit's rows, instance by instance, and that they give the class numbers meant. Assumes nothing.
use Prim.Native.Nat.{ℕ, ◌+◌, ◌-◌, ◌<◌}
use mathlib.Core.Path.{◌≡◌, sym, ap, ◌∙◌}
use mathlib.Core.List.{List, map}
use lib.Dec.{eqb}
use lib.ListN.{length, get_or, length-map}
use native.Mathlib.Omega.{arith}
use Rattle.words.proofs.Tables.{is-table}
use Rattle.switch.specs.Bridges.{Bridge}
use Rattle.circuit.specs.Circuit.{Circuit, Instance, type_of_instance, faults_of}
use Rattle.circuit.specs.Laws.{CircuitGood}
use Rattle.grading.specs.Rows.{Row, row_with, rows_of_instance, rows_of}
use Rattle.grading.specs.Classes.{same_class, classes_by, classes_of}
use Rattle.grading.specs.Codes.{code_of}
use Rattle.grading.proofs.Lists.{get_or-map_any}
use Rattle.grading.proofs.FaultRanges.{BridgeFits}
use Rattle.grading.proofs.RecordReads.{references_of}
use Rattle.grading.proofs.Everywhere.{Every, every_at}
use Rattle.grading.proofs.ClassLists.{classes_keyed}
use Rattle.grade_classes.specs.Model.{label_numbers, key_of, keys_of}
use Rattle.grade_classes.proofs.KeyMeaning.{row_key, key-is, same_key}

-- the numbers by key are the class numbers
pub classes-by-key : (c : Circuit) → CircuitGood c → classes_of (rows_of c) ≡ classes_by eqb (map row_key (rows_of c))
classes-by-key c good =
    classes_keyed same_class eqb row_key (rows_of c)
    (λ row m r k. same_key c good r row k m)

-- the keys of an instance's codes, from a place on, are those of its rows
pub keys_are : (c : Circuit) (n : ℕ) (inst : Instance) (codes : List ℕ) (from to : ℕ) (d : Bridge)
    → let faults = faults_of c.types c.bridges inst in
    Every BridgeFits faults → to - from ≡ length faults → ((j : ℕ) → j < to - from → get_or codes (from + j) 0 ≡ code_of n (get_or faults j d))
    → keys_of codes n (type_of_instance c.types inst).output (label_numbers (references_of inst)) from to
    ≡ map row_key (rows_of_instance c.types c.bridges n inst)
unfolding keys_of rows_of_instance
keys_are c n inst codes from to d fit long are =
    let faults : List Bridge = faults_of c.types c.bridges inst in
    let row : Bridge → Row = row_with c.types n inst in
    let rows : List Row = map row faults in
    let key : ℕ → ℕ = key_of n (type_of_instance c.types inst).output (label_numbers (references_of inst)) in
    let many : length rows ≡ length faults = length-map faults row in
    sym (is-table 0 (to - from) (λ (j : ℕ). key (get_or codes (from + j) 0)) (map row_key rows)
    (length-map rows row_key ∙ many ∙ sym long)
    (λ j h.
    get_or-map_any row_key rows j (row d) 0 (omega (arith, many, long))
    ∙ ap row_key (get_or-map_any row faults j d (row d) (omega (arith, long)))
    ∙ sym (key-is (row (get_or faults j d)) (every_at BridgeFits faults fit j d (omega (arith, long))))
    ∙ ap key (sym (are j h))))
