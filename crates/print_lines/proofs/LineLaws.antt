-- A line that is made piece by piece: how long it is, and that what is put behind its bytes is added to them. Assumes nothing.
use mathlib.Core.Path.{◌≡◌, sym, ap, ◌∙◌}
use mathlib.Core.List.{List, ◌++◌}
use Prim.Native.Nat.{ℕ, ◌+◌, ◌≤◌}
use native.Mathlib.Omega.{arith}
use lib.ListN.{length, take}
use lib.Seq.{length-take-le}
use Rattle.words.specs.Written.{written}
use Rattle.words.proofs.WrittenLaws.{take_written}

module _ (bytes : List ℕ) (count : ℕ) {line : List ℕ} (seen : take count bytes ≡ line) (inside : count ≤ length bytes) where
  pub line_length : length line ≡ count
  line_length = ap length (sym seen) ∙ length-take-le count bytes inside

  pub line_grows : (text : List ℕ) {after : List ℕ} {next : ℕ} → length line + length text ≤ length bytes
      → (next ≡ count + length text) × (after ≡ written bytes count text) → take next after ≡ line ++ text
  line_grows text room put = rw (put.0, put.1, take_written bytes count text (omega (arith, line_length)), seen)
