-- `print_lines::put_number` meets its contract. The loop's invariant: the digits from i on stand in the buffer at their place and all else
-- there is as it was, and the digits before i are the last i digits of what is left of the number. Assumes nothing.
use mathlib.Core.Path.{◌≡◌}
use mathlib.Core.List.{◌++◌}
use Prim.Native.Nat.{◌+◌, ◌≤◌}
use lib.ListN.{drop}
use Rattle.words.specs.Written.{written}
use Rattle.print_lines.specs.Decimal.{digits_of}
use Rattle.print_lines.proofs.put_number.Given as goal

abbrev pub invariant-loop-i : goal.invariant-loop-i
invariant-loop-i l =
    let text = digits_of l.count l.n in
    (l.count ≤ 20)
    × (l.out ≡ written l.initial.out (l.at + l.i) (drop l.i text))
    × (digits_of l.i l.left ++ drop l.i text ≡ text)
