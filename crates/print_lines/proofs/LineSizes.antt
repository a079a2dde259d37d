-- How long a line is at most, by its parts: no line of a report is empty, and each has room in 512 bytes. Assumes nothing.
use Prim.Native.Nat.{ℕ, ◌+◌, ◌≤◌, ◌<◌}
use mathlib.Core.List.{List, ◌++◌}
use native.Mathlib.Omega.{arith}
use lib.ListN.{length, length-append}
use Rattle.print_lines.specs.Decimal.{decimal}
use Rattle.print_lines.specs.Lines.{space, newline, refused_word, at_word, refusal_line}
use Rattle.print_lines.proofs.DecimalLaws.{at_most_21}

pub record AtMost (most : ℕ) (line : List ℕ) : Type 0 where
  pub few : length line ≤ most

pub number : (n : ℕ) → AtMost 21 (decimal n)
number n = record { few = at_most_21 n }

pub bytes : (b : List ℕ) → AtMost (length b) b
bytes b = record { few = omega arith }

infixl 40 ◌then◌
pub ◌then◌ : {m n : ℕ} {a b : List ℕ} → AtMost m a → AtMost n b → AtMost (m + n) (a ++ b)
◌then◌ {m} {n} {a} {b} l r = record { few = omega (arith, l.few, r.few, length-append a b) }

abbrev pub Sized : List ℕ → Type 0
Sized line = (0 < length line) × (length line ≤ 512)

-- a line that ends with a newline
pub sized : {most : ℕ} (line : List ℕ) → AtMost most line → most + 1 ≤ 512 → Sized (line ++ newline)
sized line short h = (omega (arith, length-append line newline), omega (arith, length-append line newline, short.few, h))

pub refusal_sized : (n place : ℕ) → Sized (refusal_line n place)
unfolding refusal_line
refusal_sized n place =
    sized (refused_word ++ decimal n ++ space ++ at_word ++ decimal place)
    (bytes refused_word then number n then bytes space then bytes at_word then number place)
    (omega arith)
