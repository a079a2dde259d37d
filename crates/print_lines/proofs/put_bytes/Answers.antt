-- `print_lines::put_bytes` meets its contract. Assumes nothing.
use mathlib.Core.Path.{◌≡◌, refl, sym, ap, ◌∙◌}
use mathlib.Core.List.{List, ◌++◌, append_assoc}
use Prim.Native.Nat.{ℕ, ◌+◌, ◌-◌}
use native.Mathlib.Omega.{arith}
use lib.ListN.{length, take, drop}
use lib.Seq.{drop-drop}
use borrow.Rule.Slice.PartMut.{put_mid}
use Rattle.words.specs.Written.{written}
use Rattle.print_lines.proofs.put_bytes.Goals as goal

part_written : (at : ℕ) (out bytes : List ℕ) → put_mid at (at + length bytes - at) out bytes ≡ written out at bytes
unfolding written
part_written at out bytes =
    let size : at + length bytes - at ≡ length bytes = omega arith in
    ap (λ (n : ℕ). put_mid at n out bytes) size ∙ ap (λ (l : List ℕ). take at out ++ (bytes ++ l)) (drop-drop (length bytes) at out)
    ∙ sym (append_assoc (take at out) bytes (drop (at + length bytes) out))

pub returns : goal.returns
returns c = (refl, rw c.copy_from_slice.ensures.after (part_written c.args.at c.args.out.now c.args.bytes.now))
