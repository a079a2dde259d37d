-- A square of 64 by 64 bits turned over, and the steps of which that is made.
use Rattle.std.specs.Prelude.{ℕ, ◌+◌, ◌-◌, ◌*◌, ◌/◌, ◌%◌, ◌^◌, ◌<◌, List, ◌≡◌, get_or}
use Rattle.words.specs.Bits.{bit, word}
use Rattle.words.specs.Tables.{table}

-- a square of bits turned over: bit v of word i is bit i of word v
unfoldable pub transposed : List ℕ → List ℕ
transposed block = table 64 (λ (i : ℕ). word (λ (v : ℕ). bit (get_or block v 0) i))

-- r with its bit of value `by` taken from v
unfoldable pub with_bit_of : ℕ → ℕ → ℕ → ℕ
with_bit_of by r v = r - r / by % 2 * by + v / by % 2 * by

-- one step of turning over: a bit's word and its position exchange their bits of value `by`
unfoldable pub stepped : ℕ → List ℕ → List ℕ
stepped by block = table 64 (λ (r : ℕ). word (λ (v : ℕ). bit (get_or block (with_bit_of by r v) 0) (with_bit_of by v r)))

-- a step's value, and its mask: the positions that do not have the bit of that value
pub record Step (by low : ℕ) : Type 0 where
  pub place : ℕ
  pub few : place < 6
  pub value : by ≡ 2 ^ place
  pub mask : low ≡ word (λ (v : ℕ). 1 - v / by % 2)
