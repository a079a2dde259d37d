-- `read_vectors::letters_only` meets its contract. The loop's invariant: whether the bytes so far are letters. Assumes nothing.
use mathlib.Core.Path.{◌≡◌}
use lib.ListN.{take}
use Rattle.switch.specs.Modules.{all_of}
use Rattle.circuit.specs.Table.{is_letter}
use Rattle.read_vectors.proofs.letters_only.Given as goal

abbrev pub invariant-loop-b : goal.invariant-loop-b
invariant-loop-b l = l.only ≡ all_of is_letter (take l.b-index l.body)
