-- Things that have some words each, side by side in one list.
use Rattle.std.specs.Prelude.{ℕ, ◌+◌, ◌*◌, ◌/◌, ◌%◌, List, get_or}
use Rattle.words.specs.Tables.{table}

-- word w of each of n things that have `width` words each
unfoldable pub word_of_each : ℕ → ℕ → ℕ → List ℕ → List ℕ
word_of_each width w n words = table n (λ (m : ℕ). get_or words (width * m + w) 0)

-- four words for each of n things, where `f w` has word w of each
unfoldable pub four_each : ℕ → (ℕ → List ℕ) → List ℕ
four_each n f = table (4 * n) (λ (j : ℕ). get_or (f (j % 4)) (j / 4) 0)
