-- The number of a row tells its instance, its kind and its ends, and fits where its nodes and labels are there; rows have a number each. Assumes nothing.
use Prim.Native.Nat.{ℕ, ◌<◌}
use mathlib.Core.Path.{◌≡◌, refl}
use mathlib.Core.Bool.{false}
use mathlib.Core.List.{List}
use native.Mathlib.Omega.{arith}
use borrow.Author.Tests.{eqb-false}
use lib.Dec.{eqb}
use lib.ListN.{length, length-map}
use Rattle.switch.specs.Bridges.{Bridge, nodes, input}
use Rattle.grading.specs.Rows.{Row}
use Rattle.grading.specs.Codes.{kind_of, first_end, second_end, instance_in, kind_in, first_in, second_in, code_of, codes_of, CodeFits}
use Rattle.grading.proofs.FaultRanges.{BridgeFits}

-- ---- a bridge's

record Parts (b : Bridge) : Type 0 where
  kind : kind_of b < 256
  first : first_end b < 32
  second : second_end b < 32

parts : (b : Bridge) → BridgeFits b → Parts b
unfolding kind_of first_end second_end
parts (nodes a b) fits = record { kind = omega arith; first = fits.0; second = fits.1 }
parts (input m l) fits = record { kind = omega arith; first = fits.0; second = omega (arith, fits.1) }

label_fits : (b : Bridge) → BridgeFits b → eqb (kind_of b) 0 ≡ false → second_end b < 12
unfolding kind_of second_end
label_fits (nodes x y) fits e = absurd (eqb-false 0 0 e refl)
label_fits (input m l) fits e = fits.1

module _ (n : ℕ) (b : Bridge) (fits : BridgeFits b) where
  pub code_instance : instance_in (code_of n b) ≡ n
  unfolding code_of
  code_instance = omega (arith, parts b fits)

  pub code_kind : kind_in (code_of n b) ≡ kind_of b
  unfolding code_of
  code_kind = omega (arith, parts b fits)

  pub code_first : first_in (code_of n b) ≡ first_end b
  unfolding code_of
  code_first = omega (arith, parts b fits)

  pub code_second : second_in (code_of n b) ≡ second_end b
  unfolding code_of
  code_second = omega (arith, parts b fits)

  -- every code has its nodes and its label
  pub code_fits : CodeFits (code_of n b)
  unfolding CodeFits
  code_fits = rw (code_first, code_second, code_kind) ((parts b fits).first, (parts b fits).second, label_fits b fits)

-- ---- the codes of rows

pub length-codes : (rows : List Row) → length (codes_of rows) ≡ length rows
unfolding codes_of
length-codes rows = length-map rows _
