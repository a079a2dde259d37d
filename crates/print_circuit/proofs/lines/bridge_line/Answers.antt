-- `print_circuit::lines::bridge_line` meets its contract. Assumes nothing.
use mathlib.Core.Path.{◌≡◌}
use mathlib.Core.List.{List, [], ◌++◌, append-nil, append_assoc}
use Prim.Native.Nat.{ℕ}
use Rattle.circuit.specs.Circuit.{join_lists}
use Rattle.print_lines.specs.Ascii.{bytes_of}
use Rattle.print_lines.specs.Lines.{newline}
use Rattle.print_circuit.specs.Lines.{spaced, kind_text, bridge_line}
use Rattle.print_circuit.specs.Told.{listed_told}
use Rattle.print_circuit.proofs.TextLaws.{ends-are}
use Rattle.print_circuit.proofs.lines.bridge_line.Goals as goal

grouped : (word number kind a b end : List ℕ)
    → word ++ (number ++ []) ++ kind ++ (a ++ (b ++ [])) ++ end ≡ word ++ number ++ (kind ++ a ++ b) ++ end
grouped word number kind a b end = simp (append-nil, append_assoc)

pub returns : goal.returns
unfolding bridge_line listed_told join_lists
returns c =
    let b = c.args.b.now in
    rw (
      c.push.ensures,
      c.push_fields.ensures.text,
      c.push_bytes.ensures,
      c.kind_text.ensures.text,
      c.begin-line.ensures.text,
      ← ends-are b.kind b.first b.second,
    ) (grouped (bytes_of "bridge") (spaced b.list) (kind_text b.kind) (spaced b.first) (spaced b.second) newline)
