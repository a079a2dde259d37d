-- A list written into a buffer at a place; all else there is as it was.
use Rattle.std.specs.Prelude.{ℕ, ◌+◌, List, ◌++◌, length, take, drop}

unfoldable pub written : List ℕ → ℕ → List ℕ → List ℕ
written buffer at text = take at buffer ++ text ++ drop (at + length text) buffer
